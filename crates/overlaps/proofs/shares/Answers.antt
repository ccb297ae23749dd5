-- `overlaps::shares` meets its contract.
use Rattle.overlaps.proofs.shares.Goals as goal

pub returns : goal.returns
returns c = rw (c.max.ensures, c.min.ensures, c.value_at-other.ensures.value, c.value_at.ensures.value)
