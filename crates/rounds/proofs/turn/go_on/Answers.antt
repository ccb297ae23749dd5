-- `rounds::turn::go_on` meets its contract: the parts of the routine are lent to `resume`.
use Rattle.rounds.specs.TurnLaws.{may-raw, gone-raw}
use Rattle.rounds.proofs.turn.go_on.Goals as goal

pub resume-requires-clause-laid : goal.resume-requires-clause-laid
resume-requires-clause-laid c = (may-raw c.requires.may_go_on).0

pub resume-requires-clause-made_le_limit : goal.resume-requires-clause-made_le_limit
resume-requires-clause-made_le_limit c = (may-raw c.requires.may_go_on).1.0

pub resume-requires-clause-safe_run : goal.resume-requires-clause-safe_run
resume-requires-clause-safe_run c = (may-raw c.requires.may_go_on).1.1

pub returns : goal.returns
returns c = gone-raw c.requires.in_place c.resume.auto.ends
    c.resume.auto.values
    c.resume.ensures
