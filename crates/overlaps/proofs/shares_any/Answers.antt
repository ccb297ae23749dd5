-- `overlaps::shares_any` meets its contract.
use Rattle.overlaps.specs.OverlapLaws.{is_shared}
use Rattle.overlaps.proofs.shares_any.Goals as goal

pub returns : goal.returns
returns c = is_shared c.args.directory.now c.args.other.now
    c.args.o c.args.count _ _ _
    c.value_at-start.ensures.value c.value_at.ensures.value c.lowest_shared-lowest.ensures
