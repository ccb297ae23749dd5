-- A signed word of 32 bits, widened and raised by 2^33, is its biased number.
use Prim.Native.Nat.{suc, ◌+◌, ◌^◌, ◌<◌}
use mathlib.Core.Path.{◌≡◌, refl, ap, ◌∙◌}
use native.Mathlib.Omega.{arith}
use borrow.Author.Tests.{le-ltb}
use lib.IntN.{ℤ, pos, negsuc, ◌+ℤ◌}
use mir.Syntax.{w32, w64}
use mir.Val.{SFits, to_z, of_z}
use mir.Facts.{to_z-of_z, sfits_widen}
use Rattle.words.specs.Words.{biased}

pub biased-small : (z : ℤ) → SFits w32 z → biased z < 2 ^ 34
unfolding biased
biased-small (pos n) f = omega (arith, f.sfits)
biased-small (negsuc n) f = omega arith

raised : (z : ℤ) → SFits w32 z → z +ℤ pos 8589934592 ≡ pos (biased z)
unfolding biased
raised (pos n) f = refl
raised (negsuc n) f = rw (le-ltb 8589934592 (suc n) (omega (arith, f.sfits))) (ap pos (omega arith))

pub wide : {z : ℤ} → SFits w32 z → SFits w64 z
wide f = sfits_widen tt f

pub fits-raised : (z : ℤ) → SFits w32 z → SFits w64 (pos (biased z))
fits-raised z f = record { sfits = omega (arith, biased-small z f) }

-- The word as the machine has it: read from its bits, widened to its bits, and read again.
read : (z : ℤ) → SFits w32 z → to_z w64 (of_z w64 (to_z w32 (of_z w32 z))) ≡ z
read z f = ap (λ (y : ℤ). to_z w64 (of_z w64 y)) (to_z-of_z f) ∙ to_z-of_z (wide f)

pub sum : (z : ℤ) → SFits w32 z → to_z w64 (of_z w64 (to_z w32 (of_z w32 z))) +ℤ pos 8589934592 ≡ pos (biased z)
sum z f = ap (λ (y : ℤ). y +ℤ pos 8589934592) (read z f) ∙ raised z f

pub whole : (z : ℤ) → SFits w32 z → to_z w64 (of_z w64 (to_z w64 (of_z w64 (to_z w32 (of_z w32 z))) +ℤ pos 8589934592)) ≡ pos (biased z)
whole z f = ap (λ (y : ℤ). to_z w64 (of_z w64 y)) (sum z f) ∙ to_z-of_z (fits-raised z f)
