use mathlib.Core.Path.{sym, ap, subst}
use native.Mathlib.Omega.{arith}
use lib.Dec.{T}
use lib.IntN.{ℤ, nat_abs}
use lib.Signed.{non_neg}
use mir.Syntax.{w64}
use mir.Val.{SFits, Fits}
use Rattle.words.proofs.Laws.{biased-small, fits-raised, sum, whole}
use Rattle.words.proofs.biased.Goals as goal

pub overflow_add-result : goal.overflow_add-result
overflow_add-result c = rw c.from.ensures (subst (λ (y : ℤ). SFits w64 y) (sym (sum c.args.w c.ranges.w)) (fits-raised c.args.w c.ranges.w))

pub overflow_cast-result : goal.overflow_cast-result
overflow_cast-result c = rw c.from.ensures (subst (λ (y : ℤ). T (non_neg y) × Fits w64 (nat_abs y)) (sym (whole c.args.w c.ranges.w))
    (tt, record { fits = omega (arith, biased-small c.args.w c.ranges.w) }))

pub returns : goal.returns
returns c = rw c.from.ensures (ap nat_abs (whole c.args.w c.ranges.w))
