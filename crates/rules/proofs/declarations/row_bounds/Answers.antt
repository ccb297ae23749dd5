-- `rules::declarations::row_bounds` meets its contract.
use Rattle.rules.proofs.declarations.row_bounds.Goals as goal

pub returns-in_default : goal.returns-in_default
returns-in_default c = simp c.in_default.is

pub returns : goal.returns
returns c = simp c.in-Some.is
