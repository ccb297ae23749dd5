use Rattle.places.specs.StoreLaws.{kept-first, kept-none}
use Rattle.places.proofs.keep_first.Goals as goal

pub returns-then-store-gt0 : goal.returns-then-store-gt0
returns-then-store-gt0 c = kept-first _ _ c.requires c.if-store-gt0.true

pub returns-else-store-gt0 : goal.returns-else-store-gt0
returns-else-store-gt0 c = kept-none _ _ c.requires c.if-store-gt0.false
