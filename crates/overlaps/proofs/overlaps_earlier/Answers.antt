-- `overlaps::overlaps_earlier` meets its contract.
use Rattle.overlaps.specs.OverlapLaws.{is-earlier}
use Rattle.overlaps.proofs.overlaps_earlier.Goals as goal

pub returns : goal.returns
returns c = is-earlier _ _ _ c.lowest_earlier-lowest.ensures
