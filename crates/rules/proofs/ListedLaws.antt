-- Entries of a list without a fault of form compare variables of one kind, or one and zero; what is asked of them is asked by chains; and what is true where
-- they are shown.
use Prim.Native.Nat.{ℕ, zero, suc, ◌+◌, ◌-◌, ◌<◌, ◌≤◌}
use Rattle.std.specs.Prelude.{◌≡◌, ◌⊎◌, Bool, not, ◌&&◌, ◌||◌, leb, ℤ, length}
use Rattle.std.proofs.Math.Path.{refl, ap₂}
use Rattle.std.proofs.Common.{inl, inr, arith, leb-true, eqb-true, ne_eqb}
use Rattle.std.proofs.Math.Logic.{⊎_elim}
use Rattle.std.proofs.Math.Bool.{true, false}
use mathlib.Core.List.{List, [], ◌∷◌}
use Rattle.std.proofs.lemmas.Bool.{not-false}
use Rattle.std.proofs.Math.Dec.{eqb}
use Rattle.sums.specs.Numbers.{bias, zero_var}
use Rattle.facts.specs.Store.{shown, added}
use Rattle.facts.specs.declared.FactSet.{FactSet}
use Rattle.chains.specs.Facts.{Variables, Node, Comparable, from_zero, to-zero}
use Rattle.chains.proofs.Chains.{left-node, right-node}
use Rattle.chains.specs.History.{History}
use Rattle.chains.proofs.Sound.{InRange, True, Holds, added-holds}
use Rattle.answers.specs.declared.refusals.Refusal.{Refusal}
use Rattle.answers.specs.declared.refusals.Refusal.TheVariants.{LoopFact}
use Rattle.words.specs.Fields.{plain, index_of, is_constant}
use Rattle.words.specs.Sections.{Limits, integer_at, pointer_at, names_integer, names_pointer, names_array, names_string}
use Rattle.words.specs.SectionsLaws.{both}
use Rattle.words.specs.NameLaws.{either, integer-named, pointer-named, array-names, string-names}
use Rattle.words.specs.declared.sections.Sections.{Sections}
use Rattle.conditions.specs.Conditions.{same_kind}
use Rattle.blocks.specs.Layout.{also, when}
use Rattle.blocks.specs.LayoutLaws.{no-first, no-rest}
use Rattle.listed.specs.Entries.{left_word, right_word, offset_word, while_word, entry_count, entry_at, entry_if, belongs, entries_from, entries_of}
use Rattle.listed.specs.Entries.{EntriesHold}
use Rattle.listed.specs.ListForm.{names_variable, names_while, in_order, sides_right, entry_right, list_faults}
use Rattle.listed.specs.ListLaws.{each_right}
use Rattle.listed.specs.declared.Entry.{Entry}
use Rattle.rules.specs.FactRules.{entry_facts}
use Rattle.rules.specs.Rules.{entries_unshown}
use Rattle.rules.specs.Stored.{store}
use Rattle.rules.specs.ByChains.{Decider, Decides, by_chains, variables}
use Rattle.rules.specs.RuleLaws.{no-fault}
use Rattle.rules.proofs.Representation.{Represents, represents-add, shown-represented, two-integers, two-pointers}

-- ---- form

module _ (T : List ℤ) (h : Sections) (w : Limits h) where
  abbrev vars : Variables
  vars = variables T h w

  -- Each entry compares two variables of one kind, or one and zero.
  abbrev pub EntriesRight : List Entry → Type 0
  EntriesRight [] = Unit {0}
  EntriesRight (e ∷ es) = Comparable vars e.left e.right × EntriesRight es

  index-missing : (x : ℕ) → eqb x (bias - 1) ≡ true → index_of x ≡ zero_var
  unfolding index_of
  index-missing x e = rw e

  index-plain : (x : ℕ) → bias ≤ x → index_of x ≡ plain x
  unfolding index_of
  index-plain x l = rw (ne_eqb x (bias - 1) (λ e. omega arith))

  integer-plain : (x : ℕ) → names_integer T h x ≡ true → index_of x ≡ plain x
  unfolding names_integer
  integer-plain x e = index-plain x (leb-true bias x (both (leb bias x) (integer_at T h (plain x)) e).0)

  pointer-plain : (x : ℕ) → names_pointer T h x ≡ true → index_of x ≡ plain x
  unfolding names_pointer
  pointer-plain x e = index-plain x (leb-true bias x (both (leb bias x) (pointer_at T h (plain x)) e).0)

  named-below : (x : ℕ) → names_variable T h x ≡ true → index_of x < h.variables
  unfolding names_variable
  named-below x e =
      ⊎_elim (λ (i : names_integer T h x ≡ true). rw (integer-plain x i) (integer-named T h x i).below)
      (λ (p : names_pointer T h x ≡ true). rw (pointer-plain x p) (pointer-named T h x p).below)
      (either (names_integer T h x) (names_pointer T h x) e)

  integers-compared : (x y : ℕ) → (names_integer T h x && names_integer T h y) ≡ true → Comparable vars (index_of x) (index_of y)
  integers-compared x y e =
      let p = both (names_integer T h x) (names_integer T h y) e in
      rw (integer-plain x p.0, integer-plain y p.1) (two-integers T h w (integer-named T h x p.0) (integer-named T h y p.1))

  pointers-compared : (x y : ℕ) → names_pointer T h x ≡ true → names_pointer T h y ≡ true → Comparable vars (index_of x) (index_of y)
  pointers-compared x y p q = rw (pointer-plain x p, pointer-plain y q) (two-pointers T h w (pointer-named T h x p) (pointer-named T h y q))

  kinds-compared : (x y : ℕ) → same_kind T h x y ≡ true → Comparable vars (index_of x) (index_of y)
  unfolding same_kind
  kinds-compared x y e =
      ⊎_elim
      (λ (j : (names_integer T h x && names_integer T h y || names_array T h x && names_array T h y) ≡ true).
      ⊎_elim (λ (i : (names_integer T h x && names_integer T h y) ≡ true). integers-compared x y i)
      (λ (i : (names_array T h x && names_array T h y) ≡ true).
      let p = both (names_array T h x) (names_array T h y) i in pointers-compared x y (array-names T h x p.0) (array-names T h y p.1))
      (either (names_integer T h x && names_integer T h y) (names_array T h x && names_array T h y) j))
      (λ (i : (names_string T h x && names_string T h y) ≡ true).
      let p = both (names_string T h x) (names_string T h y) i in pointers-compared x y (string-names T h x p.0) (string-names T h y p.1))
      (either (names_integer T h x && names_integer T h y || names_array T h x && names_array T h y) (names_string T h x && names_string T h y) e)

  sides-compared : (x y : ℕ) → sides_right T h x y ≡ true → Comparable vars (index_of x) (index_of y)
  unfolding sides_right
  sides-compared x y e =
      ⊎_elim
      (λ (j : (same_kind T h x y || eqb x (bias - 1) && names_variable T h y) ≡ true).
      ⊎_elim (λ (i : same_kind T h x y ≡ true). kinds-compared x y i)
      (λ (i : (eqb x (bias - 1) && names_variable T h y) ≡ true).
      let p = both (eqb x (bias - 1)) (names_variable T h y) i in rw (index-missing x p.0) (from_zero (named-below y p.1)))
      (either (same_kind T h x y) (eqb x (bias - 1) && names_variable T h y) j))
      (λ (i : (eqb y (bias - 1) && names_variable T h x) ≡ true).
      let p = both (eqb y (bias - 1)) (names_variable T h x) i in rw (index-missing y p.0) (to-zero (named-below x p.1)))
      (either (same_kind T h x y || eqb x (bias - 1) && names_variable T h y) (eqb y (bias - 1) && names_variable T h x) e)

  first_of : (a b c d e : Bool) → (a && b && c && d && e) ≡ true → a ≡ true
  first_of a b c d e t = (both a b (both (a && b) c (both (a && b && c) d (both (a && b && c && d) e t).0).0).0).0

  right-compared : (L : List ℤ) (e : ℕ) → entry_right T h L e ≡ true → Comparable vars (entry_at L e).left (entry_at L e).right
  unfolding entry_right entry_at
  right-compared L e t = sides-compared (left_word L e) (right_word L e) (first_of (sides_right T h (left_word L e) (right_word L e)) _ _ _ _ t)

  from-right : (L : List ℤ) (a e n : ℕ) → ((k : ℕ) → e ≤ k → k < e + n → entry_right T h L k ≡ true) → EntriesRight (entries_from L a e n)
  unfolding entries_from
  from-right L a e zero t = tt
  from-right L a e (suc n) t = go (belongs L a e) (from-right L a (e + 1) n (λ k l u. t k (omega arith) (omega arith)))
    where
      go : (b : Bool) → EntriesRight (entries_from L a (e + 1) n) → EntriesRight (entry_if b (entry_at L e) (entries_from L a (e + 1) n))
      go true r = (right-compared L e (t e (omega arith) (omega arith)), r)
      go false r = r

  -- The entries of any loop.
  pub entries-right : (L : List ℤ) → list_faults T h L ≡ [] → (a : ℕ) → EntriesRight (entries_of L a)
  unfolding entries_of
  entries-right L e a = from-right L a 0 (entry_count L) (λ k l u. each_right T h L e k (omega arith))

  -- ---- by chains

  module _ (q : Decider) (right : Decides vars q) where
    pub entries-represented : (es : List Entry) → EntriesRight es → {H : History} {f : FactSet} → Represents vars H f
        → Represents vars (entry_facts (by_chains q) es H) (entry_facts store es f)
    unfolding entry_facts
    entries-represented [] r t = t
    entries-represented (e ∷ es) r t = entries-represented es r.1 (represents-add vars t e.left e.right e.offset r.0)

    pub entries-agree : (es : List Entry) → EntriesRight es → {H : History} {f : FactSet} → Represents vars H f
        → entries_unshown store es f ≡ entries_unshown (by_chains q) es H
    unfolding entries_unshown
    entries-agree [] r t = refl
    entries-agree (e ∷ es) r t =
        ap₂ (λ (b : Bool) (xs : List Refusal). also (when (not b) (LoopFact e.number)) xs)
        (shown-represented vars q right t e.left e.right e.offset (left-node vars r.0) (right-node vars r.0)) (entries-agree es r.1 t)

-- ---- of values

-- Each entry is true of the values.
abbrev pub EntriesTrue : List Entry → (ℕ → ℕ) → Type 0
EntriesTrue [] v = Unit {0}
EntriesTrue (e ∷ es) v = (e.left < 17 → e.right < 17 → True v e.left e.right e.offset) × EntriesTrue es v

-- Entries of a list without a fault of form name variables, or zero.
module _ (T : List ℤ) (h : Sections) (w : Limits h) where
  node-below : {x : ℕ} → Node (variables T h w) x → x < 17
  node-below (inl e) = omega arith
  node-below (inr l) = omega (arith, w.variables)

  pub entries-mean : (es : List Entry) (v : ℕ → ℕ) → EntriesRight T h w es → EntriesTrue es v → EntriesHold es v
  entries-mean [] v r t = tt
  entries-mean (e ∷ es) v r t =
      (t.0 (node-below (left-node (variables T h w) r.0)) (node-below (right-node (variables T h w) r.0)), entries-mean es v r.1 t.1)

-- Entries that are shown are true where the facts hold.
pub entries-true : (es : List Entry) (f : FactSet) (v : ℕ → ℕ) → Holds f v → entries_unshown store es f ≡ [] → EntriesTrue es v
unfolding entries_unshown
entries-true [] f v g e = tt
entries-true (x ∷ es) f v g e = (
  λ l r. g x.left x.right x.offset l r (not-false _ (no-fault _ _ (no-first _ _ e))),
  entries-true es f v g (no-rest _ _ e),
)

-- Entries that are true may be assumed.
pub entries-hold : (es : List Entry) (f : FactSet) (v : ℕ → ℕ) → InRange v → Holds f v → EntriesTrue es v → Holds (entry_facts store es f) v
unfolding entry_facts
entries-hold [] f v i g t = g
entries-hold (x ∷ es) f v i g t = entries-hold es (added f x.left x.right x.offset) v i
    (added-holds f v i g x.left x.right x.offset t.0) t.1
