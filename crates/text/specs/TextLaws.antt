-- Laws of decimal numbers and of growing text.
use Rattle.std.specs.Prelude.{ℕ, zero, suc, ◌+◌, ◌-◌, ◌/◌, ◌%◌, ◌≤◌, ◌<◌, ◌≡◌, refl, Bool, true, false, cond, List, [], ◌∷◌, ◌++◌, ltb, length, take, get_or}
use Rattle.std.proofs.Common.{sym, ap, ◌∙◌, append_assoc, append-nil, arith, lt-ltb, le-ltb, length-append, take-suc, take_all, add-one}
use Rattle.text.specs.Text.{text_of, decimal, Grown}
use Rattle.text.specs.declared.Text.{Text}

decimal-small : (f n : ℕ) → n < 10 → decimal (suc f) n ≡ (48 + n) ∷ []
unfolding decimal
decimal-small f n h = rw (lt-ltb n 10 h)

decimal-large : (f n : ℕ) → 10 ≤ n → decimal (suc f) n ≡ decimal f (n / 10) ++ ((48 + n % 10) ∷ [])
unfolding decimal
decimal-large f n h = rw (le-ltb n 10 h)

-- At most so many digits.
pub length-decimal : (f n : ℕ) → length (decimal f n) ≤ f
unfolding decimal
length-decimal zero n = omega arith
length-decimal (suc f) n = go (ltb n 10) (length-decimal f (n / 10))
  where
    go : (b : Bool) → length (decimal f (n / 10)) ≤ f → length (cond b ((48 + n) ∷ []) (decimal f (n / 10) ++ ((48 + n % 10) ∷ []))) ≤ suc f
    go true h = omega arith
    go false h = omega (arith, length-append (decimal f (n / 10)) ((48 + n % 10) ∷ []))

some : (d : ℕ) → (d ≡ 0 → ⊥) → d ≡ suc (d - 1)
some zero h = absurd (h refl)
some (suc d) h = omega arith

pub grown-none : (t : Text) (n : ℕ) {d : ℕ} → d ≡ 0 → Grown (text_of t) (decimal d n) t.len t
unfolding decimal
grown-none t n e = rw e (record { text = sym (append-nil (text_of t)); long = omega arith })

module _ {before : List ℕ} {len d n : ℕ} (h : d ≡ 0 → ⊥) where
  pub grown-digit : {r : Text} → n < 10 → Grown before ((48 + n) ∷ []) len r → Grown before (decimal d n) len r
  grown-digit l g = rw (some d h, decimal-small (d - 1) n l) g

  -- The digits before, and the last one.
  pub grown-digits : {u r : Text} → 10 ≤ n → Grown before (decimal (d - 1) (n / 10)) len u → Grown (text_of u) ((48 + n % 10) ∷ []) u.len r
      → Grown before (decimal d n) len r
  grown-digits l g k = rw (some d h, decimal-large (d - 1) n l) (record {
    text = k.text ∙ ap (λ (s : List ℕ). s ++ ((48 + n % 10) ∷ [])) g.text ∙ append_assoc before (decimal (d - 1) (n / 10)) ((48 + n % 10) ∷ []);
    long = omega (arith, k.long, g.long, length-append (decimal (d - 1) (n / 10)) ((48 + n % 10) ∷ []));
  })

pub room : {before : List ℕ} {len d : ℕ} (n : ℕ) {u : Text} → (d ≡ 0 → ⊥) → len + d ≤ 120 → Grown before (decimal (d - 1) n) len u → u.len < 120
room {d = d} n h l g = omega (arith, g.long, length-decimal (d - 1) n, some d h)

-- The bytes of a slice, one after the other.
pub grown-start : (t : Text) → Grown (text_of t) [] t.len t
grown-start t = record { text = sym (append-nil (text_of t)); long = omega arith }

pub grown-next : {before : List ℕ} {len : ℕ} (more : List ℕ) (i : ℕ) {u r : Text} → i < length more → Grown before (take i more) len u
    → Grown (text_of u) (get_or more i 0 ∷ []) u.len r
    → Grown before (take (i + 1) more) len r
grown-next {before} {len} more i h g k =
    let e : take (i + 1) more ≡ take i more ++ (get_or more i 0 ∷ []) = rw add-one (take-suc more i 0 h) in
    rw e (record {
      text = k.text ∙ ap (λ (s : List ℕ). s ++ (get_or more i 0 ∷ [])) g.text ∙ append_assoc before (take i more) (get_or more i 0 ∷ []);
      long = omega (arith, k.long, g.long, length-append (take i more) (get_or more i 0 ∷ []));
    })

pub grown-whole : {before : List ℕ} {len : ℕ} (more : List ℕ) (i : ℕ) {u : Text} → length more ≤ i → Grown before (take i more) len u → Grown before more len u
grown-whole more i h g = rw (take_all i more h) at g

-- First this text, then that.
pub grown-both : {a b c : List ℕ} {len : ℕ} {t u : Text} → Grown a b len t → Grown (text_of t) c t.len u → Grown a (b ++ c) len u
grown-both {a} {b} {c} g k = record {
  text = k.text ∙ ap (λ (s : List ℕ). s ++ c) g.text ∙ append_assoc a b c;
  long = omega (arith, k.long, g.long, length-append b c);
}

pub within : {before : List ℕ} {len : ℕ} (digits n : ℕ) {u : Text} → Grown before (decimal digits n) len u → u.len ≤ len + digits
within digits n g = omega (arith, g.long, length-decimal digits n)
