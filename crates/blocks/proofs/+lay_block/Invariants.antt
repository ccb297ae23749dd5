use Rattle.blocks.specs.Layout.{block_layout}
use Rattle.blocks.specs.LayoutLaws.{Kept}
use Rattle.blocks.proofs.+lay_block.Given as goal

abbrev pub invariant-loop-left : goal.invariant-loop-left
invariant-loop-left l = Kept l.table l.sections l.depth l.end l.allowed
    (block_layout l.allowed l.table l.sections l.depth l.first l.end) l.at l.left

abbrev pub decreases-loop-left : goal.decreases-loop-left
decreases-loop-left l = l.left

abbrev pub decreases-lay_block : goal.decreases-lay_block
decreases-lay_block l = l.allowed
