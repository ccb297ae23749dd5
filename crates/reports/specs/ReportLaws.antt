-- A mark sets its statement's bit, and no other.
use Rattle.std.specs.Prelude.{ℕ, zero, suc, ◌+◌, ◌*◌, ◌/◌, ◌%◌, ◌^◌, ◌<◌, ◌≤◌, max, ◌≡◌, refl, ◌≢◌, Bool, true, false, List, eqb, length, get_or, set}
use Rattle.std.specs.Prelude.{replicate}
use Rattle.std.proofs.Common.{sym, ap, ap₂, ◌∙◌, arith, pow-suc, one-mul, mul-div_cancel, mod-eq_of_lt, eqb-true, eq-eqb, pow_pos, get_or-set_same}
use Rattle.std.proofs.Common.{get_or-set_other}
use Rattle.std.proofs.Math.Nat.{pow-succ', div_self, div-eq_of_lt, div-div-eq-div-mul, mul-mod_left, zero-div}
use Rattle.std.proofs.lemmas.Bool.{eqb-false}
use Rattle.std.proofs.Math.Arith.{digits_div, digits_mod}
use Rattle.std.proofs.Math.Pow.{pow-lt}
use Rattle.std.specs.Int.Bits.{bit_or, or_step}
use Rattle.reports.specs.Reports.{no_words, bit_at, marked, reported}

-- A power of two fits a word.
pub power-fits : (k : ℕ) → k < 32 → 1 * 2 ^ k % 4294967296 ≡ 2 ^ k
power-fits k l = ap (λ (n : ℕ). n % 4294967296) (one-mul (2 ^ k)) ∙ mod-eq_of_lt (pow-lt {i = k} {j = 32} l)

-- Bit k + 1 of a number is bit k of its half.
half : (a k : ℕ) → a / 2 ^ suc k ≡ a / 2 / 2 ^ k
half a k = ap (λ (n : ℕ). a / n) (pow-succ' 2 k) ∙ sym (div-div-eq-div-mul a 2 (2 ^ k))

small-max : (a b : ℕ) → max (a % 2) (b % 2) < 2
small-max a b = omega arith

or-half : (a b : ℕ) → bit_or a b / 2 ≡ bit_or (a / 2) (b / 2)
or-half a b = ap (λ (n : ℕ). n / 2) (or_step a b) ∙ digits_div (bit_or (a / 2) (b / 2)) (small-max a b)

or-odd : (a b : ℕ) → bit_or a b % 2 ≡ max (a % 2) (b % 2)
or-odd a b = ap (λ (n : ℕ). n % 2) (or_step a b) ∙ digits_mod (bit_or (a / 2) (b / 2)) (small-max a b)

one-over : (n : ℕ) → n / 2 ^ 0 ≡ n
one-over n = omega arith

or-bit : (k a b : ℕ) → bit_or a b / 2 ^ k % 2 ≡ max (a / 2 ^ k % 2) (b / 2 ^ k % 2)
or-bit zero a b = ap (λ (n : ℕ). n % 2) (one-over (bit_or a b)) ∙ (or-odd a b ∙ sym (ap₂ (λ (x y : ℕ). max (x % 2) (y % 2)) (one-over a) (one-over b)))
or-bit (suc k) a b =
    ap (λ (n : ℕ). n % 2) (half (bit_or a b) k ∙ ap (λ (n : ℕ). n / 2 ^ k) (or-half a b))
    ∙ (or-bit k (a / 2) (b / 2) ∙ sym (ap₂ (λ (x y : ℕ). max (x % 2) (y % 2)) (half a k) (half b k)))

-- The bits of a power of two.
power-same : (k : ℕ) → 2 ^ k / 2 ^ k % 2 ≡ 1
power-same k = ap (λ (n : ℕ). n % 2) (div_self (pow_pos k))

power-half : (j : ℕ) → 2 ^ suc j / 2 ≡ 2 ^ j
power-half j = ap (λ (n : ℕ). n / 2) (pow-suc 2 j) ∙ mul-div_cancel (2 ^ j) (omega arith)

power-other : (j k : ℕ) → j ≢ k → 2 ^ j / 2 ^ k % 2 ≡ 0
power-other zero zero e = absurd (e refl)
power-other (suc j) zero e = ap (λ (n : ℕ). n % 2) (one-over (2 ^ suc j) ∙ pow-suc 2 j) ∙ mul-mod_left (2 ^ j) 2
power-other zero (suc k) e = ap (λ (n : ℕ). n % 2) (div-eq_of_lt (pow-lt {i = 0} {j = suc k} (omega arith)))
power-other (suc j) (suc k) e =
    ap (λ (n : ℕ). n % 2) (half (2 ^ suc j) k ∙ ap (λ (n : ℕ). n / 2 ^ k) (power-half j)) ∙ power-other j k (λ q. e (ap suc q))

-- ---- a mark

pub mark-same : (ws : List ℕ) (a : ℕ) → a / 32 < length ws → reported (marked ws a) a ≡ true
unfolding reported marked bit_at
mark-same ws a l =
    rw (get_or-set_same ws (a / 32) (bit_or (get_or ws (a / 32) 0) (2 ^ (a % 32))) 0 l)
    (eq-eqb _ 1 (or-bit (a % 32) (get_or ws (a / 32) 0) (2 ^ (a % 32)) ∙ one _ _ (power-same (a % 32))))
  where
    one : (x y : ℕ) → y ≡ 1 → max (x % 2) y ≡ 1
    one x y e = omega arith

pub mark-other : (ws : List ℕ) (a d : ℕ) → a / 32 < length ws → d ≢ a → reported (marked ws a) d ≡ reported ws d
unfolding reported marked bit_at
mark-other ws a d l e = go (eqb (d / 32) (a / 32)) refl
  where
    w : ℕ
    w = bit_or (get_or ws (a / 32) 0) (2 ^ (a % 32))

    apart : d / 32 ≡ a / 32 → a % 32 ≢ d % 32
    apart q p = e (omega arith)

    kept : (x y : ℕ) → y ≡ 0 → max (x % 2) y ≡ x % 2
    kept x y z = omega arith

    go : (b : Bool) → eqb (d / 32) (a / 32) ≡ b
        → eqb (get_or (set ws (a / 32) w) (d / 32) 0 / 2 ^ (d % 32) % 2) 1 ≡ eqb (get_or ws (d / 32) 0 / 2 ^ (d % 32) % 2) 1
    go true q =
        let i : d / 32 ≡ a / 32 = eqb-true (d / 32) (a / 32) q in
        ap (λ (n : ℕ). eqb n 1)
        (ap (λ (n : ℕ). get_or (set ws (a / 32) w) n 0 / 2 ^ (d % 32) % 2) i
        ∙ (ap (λ (n : ℕ). n / 2 ^ (d % 32) % 2) (get_or-set_same ws (a / 32) w 0 l)
        ∙ (or-bit (d % 32) (get_or ws (a / 32) 0) (2 ^ (a % 32))
        ∙ (kept (get_or ws (a / 32) 0 / 2 ^ (d % 32)) _ (power-other (a % 32) (d % 32) (apart i))
        ∙ sym (ap (λ (n : ℕ). get_or ws n 0 / 2 ^ (d % 32) % 2) i)))))
    go false q = ap (λ (n : ℕ). eqb (n / 2 ^ (d % 32) % 2) 1) (get_or-set_other ws (a / 32) (d / 32) w 0 (eqb-false (d / 32) (a / 32) q))

-- Nothing is reported at first.
zeros : (n i : ℕ) → get_or {A = ℕ} (replicate n 0) i 0 ≡ 0
zeros zero i = refl
zeros (suc n) zero = refl
zeros (suc n) (suc i) = zeros n i

pub none-reported : (d : ℕ) → reported no_words d ≡ false
unfolding reported bit_at
none-reported d = ap (λ (n : ℕ). eqb (n / 2 ^ (d % 32) % 2) 1) (zeros 32 (d / 32)) ∙ ap (λ (n : ℕ). eqb (n % 2) 1) (zero-div (2 ^ (d % 32)))
