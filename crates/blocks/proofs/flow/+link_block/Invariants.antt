use lib.ListN.{length}
use Rattle.blocks.specs.Tree.{parse}
use Rattle.blocks.specs.Flow.{flow}
use Rattle.blocks.specs.Written.{written}
use Rattle.blocks.specs.FlowLaws.{Kept}
use Rattle.blocks.proofs.flow.+link_block.Given as goal

abbrev pub invariant-loop-left : goal.invariant-loop-left
invariant-loop-left l = Kept l.table l.sections l.end l.allowed l.after
    (written (flow (parse l.allowed l.table l.sections l.first l.end) l.after) l.initial.entries) (length l.initial.entries) l.at l.left l.entries

abbrev pub decreases-loop-left : goal.decreases-loop-left
decreases-loop-left l = l.left

abbrev pub decreases-link_block : goal.decreases-link_block
decreases-link_block l = l.allowed
