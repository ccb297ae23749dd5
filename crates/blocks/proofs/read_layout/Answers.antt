use Rattle.blocks.specs.Layout.{layout}
use Rattle.blocks.proofs.read_layout.Goals as goal

pub returns : goal.returns
unfolding layout
returns c = c.lay_block.ensures
