-- `declared::declares_of` meets its contract.
use Rattle.declared.proofs.Variants.{no_row}
use Rattle.declared.proofs.declares_of.Goals as goal

pub returns-in-Declare : goal.returns-in-Declare
returns-in-Declare c = simp c.in-Declare.is

pub returns-in_default : goal.returns-in_default
returns-in_default c = no_row c.args.simple c.in_default.not-Declare
