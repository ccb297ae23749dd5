-- What a well-formed table declares: the kinds of its variables, and ends that name variables of the right kinds.
use Rattle.table.specs.declared.variables.BoundsRow.{BoundsRow}
use Rattle.std.specs.Prelude.{ℕ, ◌≤◌, ◌<◌, zero, suc, ◌≡◌, ◌≢◌, Bool, List, ℤ, None, Option, Some}
use Rattle.std.proofs.Math.Path.{refl, sym, ap}
use Rattle.std.proofs.Common.{◌∙◌, arith}
use Rattle.std.proofs.Math.Bool.{true, false}
use Rattle.std.proofs.lemmas.Bool.{false≢true}
use borrow.Author.Tests.{ltb-true, ltb-false}
use Rattle.std.proofs.Math.ListN.{length, get_or-eq_default, get_or}
use Rattle.std.proofs.Math.Dec.{ltb}
use Rattle.arrays.specs.Tabulate.{tabulate}
use Rattle.arrays.specs.TabulateLaws.{get_d_tabulate, length-tabulate}
use Rattle.words.specs.Sections.{pointer_at, string_at, object_terminated}
use Rattle.words.specs.Typed.{IsInteger, IsPointer, IsIndex, missing, given}
use Rattle.words.specs.NameLaws.{pointer-limits, integer-no-pointer}
use Rattle.words.specs.declared.sections.Sections.{Sections}
use Rattle.table.specs.Typed.{EndTyped, PointerTyped}
use Rattle.table.specs.Variables.{variable_at, row_at, object_at}
use Rattle.table.specs.VariableLaws.{variable-read-typed, row-read-typed}
use Rattle.table.specs.declared.variables.End.{End}
use Rattle.table.specs.declared.variables.Variable.{Variable}
use Rattle.table.specs.declared.variables.Variable.TheVariants.{Integer, Pointer}
use Rattle.table.specs.FormLaws.{Formed}
use Rattle.rules.specs.BoundsRules.{nothing_known, is_pointer, declared, row_bound, in_force, element_size}
use Rattle.rules.specs.BoundsRules.{sized, is_string, is_terminated, object_length, object_span, upper_limit}
use Rattle.rules.specs.BoundsTrue.{Proper, declared-in-force}
use Rattle.rules.specs.Verdict.{bounds_of, environment_of, row_bounds, variable_size}
use Rattle.rules.specs.declared.Bounds.{Bounds}
use Rattle.rules.specs.declared.Environment.{Environment}

-- Bounds of the element size s with both ends.
pub record Ends (s : ℕ) (b : Bounds) : Type 0 where
  pub low : End
  pub high : End
  pub bounds : b ≡ record { size = s; lower = Some low; upper = Some high }
  pub low-proper : Proper low
  pub high-proper : Proper high

-- The declared ends of a pointer.
abbrev pub DeclaredEnds : Environment → ℕ → Type 0
DeclaredEnds E p = Ends (element_size E p) (declared E p)

-- Each row in force is one of the table's.
abbrev pub Named : Sections → List ℕ → Type 0
Named h R = (p : ℕ) → get_or R p 0 ≤ h.rows

-- The environment is that of the table.
pub record Declares (T : List ℤ) (h : Sections) (E : Environment) : Type 0 where
  pub few : h.variables ≤ 16
  pub pointer : (p : ℕ) → IsPointer T h p → is_pointer E p ≡ true
  pub integer : (x : ℕ) → IsInteger T h x → is_pointer E x ≡ false
  pub below : (p : ℕ) → is_pointer E p ≡ true → p < h.variables
  -- Point 7: the pointers of kind 2, and the terminated objects.
  pub string : (p : ℕ) → p < h.variables → is_string E p ≡ string_at T h p
  pub ended : (o : ℕ) → o < h.objects → is_terminated E o ≡ object_terminated T h o
  pub long : (o : ℕ) → o < h.objects → 1 ≤ object_length E o
  pub span : (o : ℕ) → o < h.objects → object_span E o ≡ upper_limit (is_terminated E o) (object_length E o)
  pub ends : (R : List ℕ) → Named h R → (p : ℕ) → is_pointer E p ≡ true → DeclaredEnds (in_force E R) p

module _ (T : List ℤ) (h : Sections) where
  pointer-at : (p : ℕ) → p < 17 → is_pointer (environment_of T h) p ≡ pointer_at T h p
  unfolding environment_of
  pointer-at p l = get_d_tabulate 17 (pointer_at T h) p false l

  string-at : (p : ℕ) → p < 17 → is_string (environment_of T h) p ≡ string_at T h p
  unfolding environment_of
  string-at p l = get_d_tabulate 17 (string_at T h) p false l

  ended_at : (o : ℕ) → o < 16 → is_terminated (environment_of T h) o ≡ object_terminated T h o
  unfolding environment_of
  ended_at o l = get_d_tabulate 16 (object_terminated T h) o false l

  length-at : (o : ℕ) → o < 16 → object_length (environment_of T h) o ≡ object_at T h o
  unfolding environment_of
  length-at o l = get_d_tabulate 16 (object_at T h) o 0 l

  span-at : (o : ℕ) → o < 16 → object_span (environment_of T h) o ≡ upper_limit (is_terminated (environment_of T h) o) (object_length (environment_of T h) o)
  unfolding environment_of
  span-at o l = get_d_tabulate 16 (λ x. upper_limit (object_terminated T h x) (object_at T h x)) o 0 l
      ∙ rw (get_d_tabulate 16 (object_terminated T h) o false l, get_d_tabulate 16 (object_at T h) o 0 l)

  declared-at : (p : ℕ) → p < 16 → row_bound (environment_of T h) 0 p ≡ bounds_of (variable_at T h p)
  unfolding environment_of row_bound
  declared-at p l = get_d_tabulate 16 (λ v. bounds_of (variable_at T h v)) p nothing_known l

  row-at : (p r : ℕ) → r < 64 → row_bound (environment_of T h) (suc r) p ≡ sized (element_size (environment_of T h) p) (row_bounds (row_at T h r))
  unfolding environment_of row_bound
  row-at p r l =
      ap (λ (b : Bounds). sized (get_or (tabulate 16 (λ v. variable_size (variable_at T h v))) p 1) b)
      (get_d_tabulate 64 (λ v. row_bounds (row_at T h v)) r nothing_known l)

  size-at : (p : ℕ) → p < 16 → element_size (environment_of T h) p ≡ variable_size (variable_at T h p)
  unfolding environment_of
  size-at p l = get_d_tabulate 16 (λ v. variable_size (variable_at T h v)) p 1 l

  -- Sizes are at most 8.
  size-read : (p : ℕ) (r : Option Variable) → variable_at T h p ≡ r → variable_size r ≤ 8
  size-read p (Some (Pointer s l u)) e = (variable-read-typed T h p (Pointer s l u) e).few
  size-read p (Some Integer) e = omega arith
  size-read p None e = omega arith

  pub sizes-small : (p : ℕ) → element_size (environment_of T h) p ≤ 8
  unfolding environment_of
  sizes-small p = go (ltb p 16) refl
    where
      go : (b : Bool) → ltb p 16 ≡ b → get_or (tabulate 16 (λ v. variable_size (variable_at T h v))) p 1 ≤ 8
      go true q = rw (get_d_tabulate 16 (λ v. variable_size (variable_at T h v)) p 1 (ltb-true p 16 q)) (size-read p (variable_at T h p) refl)
      go false q =
          let long : length (tabulate 16 (λ v. variable_size (variable_at T h v))) ≤ p = omega
          (arith, length-tabulate 16 (λ v. variable_size (variable_at T h v)), ltb-false p 16 q) in
          rw (get_or-eq_default (tabulate 16 (λ v. variable_size (variable_at T h v))) 1 long) (omega arith)

  -- A number that the list of kinds does not have is no pointer.
  pointer-kind : (p : ℕ) → is_pointer (environment_of T h) p ≡ true → pointer_at T h p ≡ true
  unfolding environment_of
  pointer-kind p e = go (ltb p 17) refl
    where
      go : (b : Bool) → ltb p 17 ≡ b → pointer_at T h p ≡ true
      go true q = sym (pointer-at p (ltb-true p 17 q)) ∙ e
      go false q =
          let long : length (tabulate 17 (pointer_at T h)) ≤ p = omega (arith, length-tabulate 17 (pointer_at T h), ltb-false p 17 q) in
          absurd (false≢true (sym (get_or-eq_default (tabulate 17 (pointer_at T h)) false long) ∙ e))

  index_below : (x : ℕ) → h.variables ≤ 16 → IsIndex T h x → x < 17
  index_below x few (missing e) = omega arith
  index_below x few (given i) = omega (arith, i.below)

  apart : (p x : ℕ) → h.variables ≤ 16 → IsPointer T h p → IsIndex T h x → p ≢ x
  apart p x few i (missing e) q = omega (arith, i.below)
  apart p x few i (given j) q = false≢true (sym (integer-no-pointer T h x j.kind) ∙ (ap (pointer_at T h) (sym q) ∙ i.kind))

  end-proper : (e : End) → h.variables ≤ 16 → EndTyped T h e → Proper e
  end-proper e few t =
      record {
        pointer = omega (arith, t.pointer.below);
        integer = index_below e.integer few t.integer;
        distinct = apart e.pointer e.integer few t.pointer t.integer;
      }

  ends-of : h.variables ≤ 16 → (p : ℕ) → p < 16 → pointer_at T h p ≡ true → (x : Variable) → variable_at T h p ≡ Some x
      → Ends (element_size (environment_of T h) p) (row_bound (environment_of T h) 0 p)
  ends-of few p l k Integer e = absurd (false≢true (sym (integer-no-pointer T h p (variable-read-typed T h p Integer e)) ∙ k))
  ends-of few p l k (Pointer s low high) e =
      let t : PointerTyped T h p s low high = variable-read-typed T h p (Pointer s low high) e in
      let z : element_size (environment_of T h) p ≡ s = size-at p l ∙ ap (λ (r : Option Variable). variable_size r) e in
      record {
        low = low;
        high = high;
        bounds = rw z (declared-at p l ∙ ap (λ (r : Option Variable). bounds_of r) e);
        low-proper = end-proper low few t.lower;
        high-proper = end-proper high few t.upper;
      }

  -- A pointer's own bounds name variables of the right kinds.
  pub record OwnEnds (p : ℕ) : Type 0 where
    pub low : End
    pub high : End
    pub size : ℕ
    pub bounds : declared (environment_of T h) p ≡ record { size = size; lower = Some low; upper = Some high }
    pub low-typed : EndTyped T h low
    pub high-typed : EndTyped T h high

  own-ends-of : (p : ℕ) → p < 16 → pointer_at T h p ≡ true → (x : Variable) → variable_at T h p ≡ Some x → OwnEnds p
  unfolding row_bound
  own-ends-of p l k Integer e = absurd (false≢true (sym (integer-no-pointer T h p (variable-read-typed T h p Integer e)) ∙ k))
  own-ends-of p l k (Pointer s low high) e =
      let t : PointerTyped T h p s low high = variable-read-typed T h p (Pointer s low high) e in
      record {
        low = low;
        high = high;
        size = s;
        bounds = declared-at p l ∙ ap (λ (r : Option Variable). bounds_of r) e;
        low-typed = t.lower;
        high-typed = t.upper;
      }

  pub own-ends : Formed T h → (p : ℕ) → is_pointer (environment_of T h) p ≡ true → OwnEnds p
  own-ends f p e =
      let k = pointer-kind p e in
      let l : p < h.variables = (pointer-limits T h p k).1 in
      let r = f.variables p l in
      own-ends-of p (omega (arith, f.limits.variables)) k r.0 r.1

  row_ends : h.variables ≤ 16 → (p r : ℕ) → r < 64 → (l u : End) → row_at T h r ≡ Some (record { lower = l; upper = u })
      → Ends (element_size (environment_of T h) p) (row_bound (environment_of T h) (suc r) p)
  row_ends few p r b l u e =
      let t = row-read-typed T h r l u e in
      record {
        low = l;
        high = u;
        bounds = row-at p r b ∙ ap (λ (x : Option BoundsRow). sized (element_size (environment_of T h) p) (row_bounds x)) e;
        low-proper = end-proper l few t.lower;
        high-proper = end-proper u few t.upper;
      }

  -- The ends of a number in force.
  number-ends : Formed T h → (p : ℕ) → is_pointer (environment_of T h) p ≡ true → (n : ℕ) → n ≤ h.rows
      → Ends (element_size (environment_of T h) p) (row_bound (environment_of T h) n p)
  number-ends f p e zero s =
      let k = pointer-kind p e in
      let l : p < h.variables = (pointer-limits T h p k).1 in
      let r = f.variables p l in
      ends-of f.limits.variables p (omega (arith, f.limits.variables)) k r.0 r.1
  number-ends f p e (suc n) s =
      let r = f.rows n s in
      row_ends f.limits.variables p n (omega (arith, f.limits.rows)) r.0 r.1 r.2

pub environment-declares : (T : List ℤ) (h : Sections) → Formed T h → Declares T h (environment_of T h)
environment-declares T h f =
    let few : h.variables ≤ 16 = f.limits.variables in
    record {
      few = few;
      pointer = λ p i. pointer-at T h p (omega (arith, i.below)) ∙ i.kind;
      integer = λ x i. pointer-at T h x (omega (arith, i.below)) ∙ integer-no-pointer T h x i.kind;
      below = λ p e. (pointer-limits T h p (pointer-kind T h p e)).1;
      string = λ p l. string-at T h p (omega arith);
      ended = λ o l. ended_at T h o (omega (arith, f.limits.objects));
      long = λ o l. rw (length-at T h o (omega (arith, f.limits.objects))) (f.objects o l).0;
      span = λ o l. span-at T h o (omega (arith, f.limits.objects));
      ends = λ R n p e. rw (declared-in-force (environment_of T h) R p (omega (arith, few, (pointer-limits T h p (pointer-kind T h p e)).1)))
          (number-ends T h f p e (get_or R p 0) (n p));
    }
