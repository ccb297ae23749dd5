-- Laws of sums and products, in the words of the code.
use Rattle.std.specs.Prelude.{ℕ, zero, suc, ◌*◌, ◌%◌, ◌^◌, ◌<◌, ◌≤◌, ◌≡◌, refl}
use Rattle.std.proofs.Common.{mul-le-mul, arith}
use Rattle.machine.specs.Machine.{combined}

-- A product of two values fits 64 bits.
pub product_small : (a b : ℕ) → a < 2 ^ 32 → b < 2 ^ 32 → a * b < 2 ^ 64
product_small a b p q = let h : a * b ≤ 4294967295 * 4294967295 = mul-le-mul {n₂ = 4294967295} {m₂ = 4294967295} (omega arith) (omega arith) in omega arith

pub combined-else : (op a b : ℕ) → (op ≡ 0 → ⊥) → (op ≡ 1 → ⊥) → a * b % 2 ^ 32 ≡ combined op a b
unfolding combined
combined-else zero a b p q = absurd (p refl)
combined-else (suc zero) a b p q = absurd (q refl)
combined-else (suc (suc n)) a b p q = refl
