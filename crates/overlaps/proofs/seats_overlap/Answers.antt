-- `overlaps::seats_overlap` meets its contract.
use Rattle.overlaps.specs.OverlapLaws.{is-overlap}
use Rattle.overlaps.proofs.seats_overlap.Goals as goal

pub returns : goal.returns
returns c = is-overlap _ _ _ c.lowest_overlap-lowest.ensures
