-- `declared::access_of` meets its contract.
use Rattle.declared.proofs.Variants.{no_access}
use Rattle.declared.proofs.access_of.Goals as goal

pub returns-in-Load : goal.returns-in-Load
returns-in-Load c = simp c.in-Load.is

pub returns-in-Store : goal.returns-in-Store
returns-in-Store c = simp c.in-Store.is

pub returns-in_default : goal.returns-in_default
returns-in_default c = no_access c.args.simple c.in_default.not-Load c.in_default.not-Store
