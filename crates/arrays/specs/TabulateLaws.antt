-- A loop that fills an array, `for i in 0..n { array[i] = f(i); }`, makes `tabulate n f`. Every such loop of the repository is proved by this file.
use Prim.Native.Nat.{ℕ, zero, suc, ◌+◌, ◌≤◌, ◌<◌}
use Rattle.std.specs.Prelude.{◌≡◌, take, get_or, set}
use Rattle.std.proofs.Math.Path.{refl, ap, sym}
use Rattle.std.proofs.Common.{ap₂, ◌∙◌, add-one, eq-or-lt_of_le, le_of_suc-le-suc, arith, take_all, get_or-drop}
use mathlib.Core.List.{List, [], ◌∷◌, ◌++◌, map}
use Rattle.std.proofs.Math.Logic.{⊎_elim}
use Rattle.std.proofs.Math.ListN.{length, drop, length-append, length-set, get_or-append}
use Rattle.std.proofs.lemmas.List.{length-map, set-get_or}
use Rattle.std.proofs.Math.Seq.{take-suc-set, get_or_at, drop-drop, drop-set-lt}
use Rattle.arrays.specs.Tabulate.{tabulate}

module _ {A : Type 0} where
  pub length-tabulate : (n : ℕ) (f : ℕ → A) → length (tabulate n f) ≡ n
  unfolding tabulate
  length-tabulate zero f = refl
  length-tabulate (suc n) f = let h = length-tabulate n f in omega (arith, length-append (tabulate n f) (f n ∷ []))

  pub get_d_tabulate : (n : ℕ) (f : ℕ → A) (i : ℕ) (d : A) → i < n → get_or (tabulate n f) i d ≡ f i
  unfolding tabulate
  get_d_tabulate zero f i d h = absurd (omega arith)
  get_d_tabulate (suc n) f i d h =
      ⊎_elim (λ (e : i ≡ n). get_or_at (tabulate n f) (f n) [] d i (length-tabulate n f ∙ sym e) ∙ ap f (sym e))
      (λ (l : i < n). get_or-append (tabulate n f) (f n ∷ []) d i (omega (arith, length-tabulate n f)) ∙ get_d_tabulate n f i d l)
      (eq-or-lt_of_le (le_of_suc-le-suc h))

-- The loop's invariant: of n elements the first i are filled, and the others are what they were (`old`).
pub record Filled {A : Type 0} (l old : List A) (n : ℕ) (f : ℕ → A) (i : ℕ) : Type 0 where
  pub long : length l ≡ n
  pub within : i ≤ n
  pub front : take i l ≡ tabulate i f
  pub rest : drop i l ≡ drop i old

module _ {A : Type 0} where
  -- Before the first turn.
  pub filled_none : (l : List A) (n : ℕ) (f : ℕ → A) → length l ≡ n → Filled l l n f 0
  unfolding tabulate
  filled_none l n f e = record { long = e; within = omega arith; front = refl; rest = refl }

  -- One more turn.
  pub filled_more : {l old : List A} {n i : ℕ} {f : ℕ → A} {a : A} → Filled l old n f i → i < n → a ≡ f i → Filled (set l i a) old n f (i + 1)
  unfolding tabulate
  filled_more {l} {old} {n} {i} {f} {a} p h e =
      let e₁ = p.front in
      let g : i < length l = omega (arith, p.long) in
      record {
        long = length-set l i a ∙ p.long;
        within = omega arith;
        front = rw (add-one, take-suc-set, e₁, e);
        rest = drop-set-lt (i + 1) l i a (omega arith) ∙ sym (drop-drop 1 i l) ∙ ap (λ (t : List A). drop 1 t) p.rest ∙ drop-drop 1 i old;
      }

  -- The element of this turn is still what it was.
  pub filled_next : {l old : List A} {n i : ℕ} {f : ℕ → A} (d : A) → Filled l old n f i → get_or l i d ≡ get_or old i d
  filled_next {l} {old} {n} {i} d p =
      let z : i + 0 ≡ i = omega arith in
      rw z at (sym (get_or-drop i l 0 d) ∙ ap (λ (t : List A). get_or t 0 d) p.rest ∙ get_or-drop i old 0 d)

  -- One more turn of a loop that replaces each element by a function of itself.
  pub filled-each : (g : A → A) (d : A) {l old : List A} {n i : ℕ} {a : A} → Filled l old n (λ m. g (get_or old m d)) i → i < n → a ≡ g (get_or l i d)
      → Filled (set l i a) old n (λ m. g (get_or old m d)) (i + 1)
  filled-each g d p h e = filled_more p h (e ∙ ap g (filled_next d p))

  -- One more turn that leaves the element as it is.
  pub filled-kept : (d : A) {l old : List A} {n i : ℕ} {f : ℕ → A} → Filled l old n f i → i < n → get_or l i d ≡ f i → Filled l old n f (i + 1)
  filled-kept d p h e = rw set-get_or at (filled_more p h e)

  -- After the last turn.
  pub filled-whole : {l old : List A} {n i : ℕ} {f : ℕ → A} → Filled l old n f i → n ≤ i → l ≡ tabulate n f
  filled-whole {l} {old} {n} {i} {f} p h =
      let q : i ≡ n = omega (arith, p.within) in
      sym (take_all i l (omega (arith, p.long))) ∙ p.front ∙ ap (λ (m : ℕ). tabulate m f) q

-- The last element alone, after a loop that stopped before it.
pub filled-last : {A : Type 0} {l old : List A} {n i : ℕ} {f : ℕ → A} {a : A} (m : ℕ) → Filled l old n f i → i ≡ m → m + 1 ≡ n → a ≡ f m
    → set l m a ≡ tabulate n f
filled-last {l} {old} {n} {i} {f} {a} m p e d q =
    let r : Filled l old n f m = rw e at p in
    filled-whole (filled_more r (omega arith) q) (omega arith)

-- Functions that agree below n make the same list.
pub tabulate-alike : {A : Type 0} (n : ℕ) {f g : ℕ → A} → ((i : ℕ) → i < n → f i ≡ g i) → tabulate n f ≡ tabulate n g
unfolding tabulate
tabulate-alike zero e = refl
tabulate-alike {A} (suc n) e = ap₂ (λ (l : List A) (a : A). l ++ (a ∷ [])) (tabulate-alike n (λ i h. e i (omega arith))) (e n (omega arith))

-- An element of a list has no need of a default.
pub any-default : {A : Type 0} (l : List A) (i : ℕ) (d e : A) → i < length l → get_or l i d ≡ get_or l i e
any-default [] i d e p = absurd (omega arith)
any-default (x ∷ l) zero d e p = refl
any-default (x ∷ l) (suc i) d e p = any-default l i d e (omega arith)

-- The length of an array of structs, from what is known of its parts.
pub length-under : {X Y : Type 0} (f : X → Y) (l : List X) (n : ℕ) → length (map f l) ≡ n → length l ≡ n
length-under f l n e = sym (length-map l f) ∙ e
