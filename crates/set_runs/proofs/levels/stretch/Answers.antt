-- `set_runs::levels::stretch` meets its contract: the parts of the routine are lent to `resume`.
use Rattle.set_runs.specs.PartLaws.{may-raw, ran-raw}
use Rattle.set_runs.proofs.levels.stretch.Goals as goal

pub resume-requires-clause-laid : goal.resume-requires-clause-laid
resume-requires-clause-laid c = (may-raw _ _ _ c.part_of-part.ensures.value
    c.requires).0

pub resume-requires-clause-made_le_limit : goal.resume-requires-clause-made_le_limit
resume-requires-clause-made_le_limit c = (may-raw _ _ _ c.part_of-part.ensures.value
    c.requires).1.0

pub resume-requires-clause-safe_run : goal.resume-requires-clause-safe_run
resume-requires-clause-safe_run c = (may-raw _ _ _ c.part_of-part.ensures.value
    c.requires).1.1

pub returns : goal.returns
returns c = ran-raw _ _ _ c.part_of-part.ensures.value
    c.requires c.resume.auto.ends
    c.resume.ensures
