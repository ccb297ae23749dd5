-- Numbers multiplied by an element size (point 10): omega takes a product of two variables as one number, these laws relate such numbers.
use Rattle.std.specs.Prelude.{ℕ, ◌+◌, ◌*◌, ◌≤◌, ◌≡◌}
use Rattle.std.proofs.Common.{sym, ap, ◌∙◌, arith, mul-add, mul-le-mul_left, mul-le-mul_right}

pub scale : (s : ℕ) {a b : ℕ} → a ≤ b → s * a ≤ s * b
scale s l = mul-le-mul_left s l

pub scale-sums : (s a b c d : ℕ) → a + b ≤ c + d → s * a + s * b ≤ s * c + s * d
scale-sums s a b c d l = omega (arith, scale s l, mul-add s a b, mul-add s c d)

pub scale-equal : (s a b c d : ℕ) → a + b ≡ c + d → s * a + s * b ≡ s * c + s * d
scale-equal s a b c d e = sym (mul-add s a b) ∙ (ap (λ (x : ℕ). s * x) e ∙ mul-add s c d)

-- A size of at most 8: a number up to t is at most 8 times t.
pub scale_small : (s a t : ℕ) → s ≤ 8 → a ≤ t → s * a ≤ 8 * t
scale_small s a t l m = omega (arith, mul-le-mul_right a l)
