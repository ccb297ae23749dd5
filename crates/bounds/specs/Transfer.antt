-- An effect on the bounds of one pointer, in terms of the rules.
use Rattle.std.specs.Prelude.{cond, ℕ, eqb}
use Rattle.rules.specs.BoundsRules.{forget_bounds, object_bounds}
use Rattle.rules.specs.Stored.{shift_bounds}
use Rattle.rules.specs.declared.Bounds.{Bounds}
use Rattle.rules.specs.declared.Effect.{Effect}
use Rattle.rules.specs.declared.Effect.TheVariants.{Keep, Forget, Shift, Copy, Object}

-- The pointer whose bounds are copied; where none are, any.
abbrev pub source_of : Effect → ℕ
source_of Keep = 0
source_of (Forget v) = 0
source_of (Shift v k) = 0
source_of (Copy v q) = q
source_of (Object v z n) = 0

-- As `effect_on`, given the pointer's own bounds and those of the source.
abbrev pub effect_on_one : Effect → ℕ → Bounds → Bounds → Bounds
effect_on_one Keep p own source = own
effect_on_one (Forget v) p own source = forget_bounds v own
effect_on_one (Shift v k) p own source = shift_bounds v k own
effect_on_one (Copy v q) p own source = forget_bounds v (cond (eqb p v) source own)
effect_on_one (Object v z n) p own source = cond (eqb p v) (object_bounds v z n) (forget_bounds v own)
