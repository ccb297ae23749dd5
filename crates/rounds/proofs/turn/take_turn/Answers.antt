-- `rounds::turn::take_turn` meets its contract.
use Rattle.rounds.specs.TurnLaws.{may-spent, turned-spent}
use Rattle.rounds.proofs.turn.take_turn.Goals as goal

pub go_on-requires-clause-in_place : goal.go_on-requires-clause-in_place
go_on-requires-clause-in_place c = c.requires.in_place

pub go_on-requires-clause-may_go_on : goal.go_on-requires-clause-may_go_on
go_on-requires-clause-may_go_on c = may-spent _
    c.in-Spent.is
    c.requires.may_turn

pub returns-in-Spent : goal.returns-in-Spent
returns-in-Spent c = turned-spent _ c.in-Spent.is
    c.go_on.ensures
