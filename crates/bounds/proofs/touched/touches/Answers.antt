-- `bounds::touched::touches` meets its contract.
use Rattle.bounds.specs.Touched.{touches}
use Rattle.bounds.proofs.touched.touches.Goals as goal

pub returns : goal.returns
unfolding touches
returns c = simp (
  c.is_pointer.ensures,
  c.replaced_by.ensures,
  c.element_or.ensures,
  c.changed_by.ensures,
)
