use Rattle.std.specs.Prelude.{Bool, true, false, ◌≡◌, refl}
use Rattle.std.proofs.Math.Bool.{beq}
use Rattle.rules.specs.Calls.{alike, kind_fits}
use Rattle.declared.proofs.calls.kind_fits.Goals as goal

equal : (a b : Bool) → beq a b ≡ alike a b
equal true true = refl
equal true false = refl
equal false true = refl
equal false false = refl

pub returns : goal.returns
unfolding kind_fits
returns c = simp (
  c.is_string-2.ensures,
  c.is_string.ensures,
  c.is_pointer-2.ensures,
  c.is_pointer.ensures,
  equal,
)
