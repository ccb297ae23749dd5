-- Laws of declared bounds that are shown, as the code meets them.
use Rattle.table.specs.declared.variables.End.{End}
use Rattle.std.specs.Prelude.{ℕ, zero, suc, ◌+◌, ◌-◌, ◌^◌, ◌≤◌, ◌<◌, ◌≡◌, Bool, not, ◌&&◌, ◌||◌, ◌⊎◌, eqb, length, Err, None, Ok, Option, Some, is_some}
use Rattle.std.proofs.Math.Path.{refl, sym, ap}
use Rattle.std.proofs.Common.{ap₂, ◌∙◌, inl, inr, sub-one, eqb-true, eq-eqb}
use Rattle.std.proofs.Math.Bool.{true, false, and_assoc}
use Rattle.std.proofs.lemmas.Bool.{false≢true}
use mathlib.Core.List.{List, []}
use native.Mathlib.Omega.{arith}
use Rattle.std.proofs.Math.ListN.{get_or-eq_default}
use Rattle.sums.specs.Numbers.{bias, zero_var}
use Rattle.facts.specs.Store.{shown, end_shown}
use Rattle.facts.specs.declared.FactSet.{FactSet}
use Rattle.answers.specs.declared.refusals.Refusal.TheVariants.{BoundsNotShown}
use Rattle.words.specs.SectionsLaws.{both}
use Rattle.statements.specs.declared.Simple.{Simple}
use Rattle.statements.specs.declared.Simple.TheVariants.{Literal, AddConstant, Arithmetic, Null, Address}
use Rattle.statements.specs.declared.Simple.TheVariants.{PointerOffset, PointerIndex, Load, Store, Check, Declare}
use Rattle.table.specs.declared.variables.End.{End}
use Rattle.rules.specs.BoundsRules.{nothing_known, is_pointer, declared, known, cons_if, row_bound, rows_after}
use Rattle.rules.specs.Stored.{same_end, known_at_most, bounds_shown, unshown_from, unshown, access_shown, row_unshown, address_safe, access_safe}
use Rattle.rules.specs.Ranges.{InRange}
use Rattle.rules.specs.Rules.{bounds_at}
use Rattle.rules.specs.Verdict.{verdict_of}
use Rattle.rules.specs.declared.Bounds.{Bounds}
use Rattle.rules.specs.declared.Environment.{Environment}
use Rattle.bounds.specs.StaysLaws.{stored, stored-known}
use Rattle.bounds.specs.Touched.{seen_as, seen_of}
use Rattle.declared.specs.Shown.{same_known, same_bounds, access_of, is_access, declares_of, access, declaration}
use Rattle.declared.specs.declared.Access.{Access}
use Rattle.declared.specs.declared.Declaration.{Declaration}
use Rattle.rules.specs.BoundsRules as bounds_rules

-- ---- when declared bounds are shown

-- What `==` of ends answers.
pub ends-equal : (e g : End) → (eqb e.pointer g.pointer && (eqb e.integer g.integer && eqb e.constant g.constant)) ≡ same_end e g
ends-equal e g = sym (and_assoc (eqb e.pointer g.pointer) (eqb e.integer g.integer) (eqb e.constant g.constant))

-- Declared bounds are shown by both ends, or by a null pointer.
module _ (f : FactSet) (p : ℕ) (k d : Bounds) where
  pub ends-shown : known_at_most f k.size k.lower d.size d.lower ≡ true → known_at_most f d.size d.upper k.size k.upper ≡ true
      → bounds_shown f p k d ≡ true
  unfolding bounds_rules.bounds_shown
  ends-shown s t = go (shown f p zero_var bias) s t
    where
      go : (a : Bool) {c d : Bool} → c ≡ true → d ≡ true → (a || c && d) ≡ true
      go true s t = refl
      go false s t = rw (s, t)

  pub null-shown : {r : Bool}
      → (known_at_most f k.size k.lower d.size d.lower ≡ false) ⊎ (known_at_most f d.size d.upper k.size k.upper ≡ false)
      → r ≡ shown f p zero_var bias → r ≡ bounds_shown f p k d
  unfolding bounds_rules.bounds_shown
  null-shown h e =
      e ∙ go (shown f p zero_var bias) (known_at_most f k.size k.lower d.size d.lower) (known_at_most f d.size d.upper k.size k.upper) h
    where
      go : (a b c : Bool) → (b ≡ false) ⊎ (c ≡ false) → a ≡ (a || b && c)
      go true b c h = refl
      go false false c h = refl
      go false true c (inl e) = absurd (false≢true (sym e))
      go false true c (inr e) = sym e

-- Bounds that are the same are shown, whatever the facts.
same-at-most : (f : FactSet) (s t : ℕ) (a b : Option End) → eqb s t ≡ true → same_known a b ≡ true → known_at_most f s a t b ≡ true
unfolding same_known bounds_rules.known_at_most bounds_rules.end_at_most
same-at-most f s t None b z h = absurd (false≢true h)
same-at-most f s t (Some e) None z h = absurd (false≢true h)
same-at-most f s t (Some e) (Some g) z h =
    ap₂ (λ (a b : Bool). (a || eqb e.integer zero_var && eqb g.integer zero_var)
    && (b || end_shown f s e.pointer e.integer e.constant g.pointer g.integer g.constant)) z h

pub same-shown : (f : FactSet) (p : ℕ) (k d : Bounds) → same_bounds k d ≡ true → bounds_shown f p k d ≡ true
unfolding same_bounds
same-shown f p k d h =
    let u = both (eqb k.size d.size) (same_known k.lower d.lower && same_known d.upper k.upper) h in
    let t = both (same_known k.lower d.lower) (same_known d.upper k.upper) u.1 in
    let z : d.size ≡ k.size = sym (eqb-true k.size d.size u.0) in
    ends-shown f p k d (same-at-most f k.size d.size k.lower d.lower u.0 t.0)
    (same-at-most f d.size k.size d.upper k.upper (eq-eqb d.size k.size z) t.1)

-- ---- the pointers that are not shown, one after the other

-- The pointer p is one whose declared bounds are not shown.
unfoldable pub missed : Environment → FactSet → List Bounds → ℕ → Bool
missed E f K p = is_pointer E p && not (bounds_shown f p (known K p) (declared E p))

unshown-some : (E : Environment) (f : FactSet) (K : List Bounds) (n p : ℕ) → 0 < n
    → unshown_from E f K n p ≡ cons_if (missed E f K p) p (unshown_from E f K (n - 1) (p + 1))
unfolding bounds_rules.unshown_from missed
unshown-some E f K zero p h = absurd (omega arith)
unshown-some E f K (suc n) p h = rw sub-one

-- The loop's invariant: the pointers that are not shown are those from p on.
pub record Passed (E : Environment) (f : FactSet) (K : List Bounds) (p : ℕ) : Type 0 where
  pub within : p ≤ 16
  pub same : unshown E f K ≡ unshown_from E f K (16 - p) p

pub passed_none : (E : Environment) (f : FactSet) (K : List Bounds) → Passed E f K 0
unfolding bounds_rules.unshown
passed_none E f K = record { within = omega arith; same = refl }

module _ {E : Environment} {f : FactSet} {K : List Bounds} {p : ℕ} (q : Passed E f K p) where
  pub passed-more : p < 16 → missed E f K p ≡ false → Passed E f K (p + 1)
  passed-more h e =
      let n : 16 - p - 1 ≡ 16 - (p + 1) = omega arith in
      record {
        within = omega arith;
        same = q.same ∙ (unshown-some E f K (16 - p) p (omega arith)
            ∙ (ap (λ (b : Bool). cons_if b p (unshown_from E f K (16 - p - 1) (p + 1))) e ∙ ap (λ (m : ℕ). unshown_from E f K m (p + 1)) n));
      }

  pub passed-missed : (a : ℕ) → p < 16 → missed E f K p ≡ true → Err (BoundsNotShown a p) ≡ verdict_of (bounds_at a (unshown E f K))
  unfolding verdict_of bounds_at
  passed-missed a h e = sym (ap (λ (ps : List ℕ). verdict_of (bounds_at a ps))
      (q.same ∙ (unshown-some E f K (16 - p) p (omega arith) ∙ ap (λ (b : Bool). cons_if b p (unshown_from E f K (16 - p - 1) (p + 1))) e)))

  pub passed-all : (a : ℕ) → 16 ≤ p → Ok tt ≡ verdict_of (bounds_at a (unshown E f K))
  unfolding verdict_of bounds_at bounds_rules.unshown_from
  passed-all a h =
      let n : 16 - p ≡ 0 = omega arith in
      sym (ap (λ (ps : List ℕ). verdict_of (bounds_at a ps)) (q.same ∙ ap (λ (m : ℕ). unshown_from E f K m p) n))

missed-shown : (a : Bool) {b c : Bool} → b ≡ c → not b ≡ false → (a && not c) ≡ false
missed-shown true e t = ap not (sym e) ∙ t
missed-shown false e t = refl

missed-not : {a b c : Bool} → a ≡ true → b ≡ c → not b ≡ true → (a && not c) ≡ true
missed-not {a} {b} {c} p e t = ap (λ (x : Bool). x && not c) p ∙ (ap not (sym e) ∙ t)

-- A pointer that is not asked, where its test says that it is shown.
pub missed-unasked : (a b c : Bool) → (a && not b) ≡ false → (b ≡ true → c ≡ true) → (a && not c) ≡ false
missed-unasked true true c t k = ap not (k refl)
missed-unasked true false c t k = absurd (false≢true (sym t))
missed-unasked false b c t k = refl

-- A pointer with the known bounds k: it is not asked where they are the declared ones.
module _ (E : Environment) (f : FactSet) (K : List Bounds) (p : ℕ) (d : p < length E.declared) {k : Bounds} (e : k ≡ known K p) where
  pub unasked : {same : Bool} → same ≡ same_bounds k (stored E.declared p) → (is_pointer E p && not same) ≡ false → missed E f K p ≡ false
  unfolding missed
  unasked {same} w t =
      missed-unasked (is_pointer E p) same (bounds_shown f p (known K p) (declared E p)) t
      (λ s. same-shown f p (known K p) (declared E p) (rw (e, stored-known E.declared p d) at (sym w ∙ s)))

  module _ {b : Bool} (s : b ≡ bounds_shown f p k (stored E.declared p)) where
    said : b ≡ bounds_shown f p (known K p) (declared E p)
    said = s ∙ (ap (λ (x : Bounds). bounds_shown f p x (stored E.declared p)) e ∙ ap (bounds_shown f p (known K p)) (stored-known E.declared p d))

    pub asked-shown : not b ≡ false → missed E f K p ≡ false
    unfolding missed
    asked-shown t = missed-shown (is_pointer E p) said t

    pub asked-missed : (same : Bool) → (is_pointer E p && not same) ≡ true → not b ≡ true → missed E f K p ≡ true
    unfolding missed
    asked-missed same a t = missed-not (both (is_pointer E p) (not same) a).0 said t

-- ---- accesses

-- What an access needs.
abbrev needed : Environment → FactSet → List Bounds → Option Access → Bool
needed E f K (Some a) = bounds_shown f a.pointer (known K a.pointer) (declared E a.pointer)
needed E f K None = true

access-needs : (E : Environment) (f : FactSet) (K : List Bounds) (s : Simple) → needed E f K (access_of s) ≡ access_shown E f K s
unfolding bounds_rules.access_shown
access-needs E f K (Literal x k) = refl
access-needs E f K (AddConstant x y k) = refl
access-needs E f K (Arithmetic x y z op) = refl
access-needs E f K (Null p) = refl
access-needs E f K (Address p o) = refl
access-needs E f K (PointerOffset p q k) = refl
access-needs E f K (PointerIndex p q i) = refl
access-needs E f K (Load x p i k) = refl
access-needs E f K (Store p i k x) = refl
access-needs E f K (Check c) = refl
access-needs E f K (Declare p r) = refl

module _ (E : Environment) (f : FactSet) (K : List Bounds) (s : Simple) {a : Option Access} (e : a ≡ access_of s) where
  pub nothing-needed : a ≡ None → true ≡ access_shown E f K s
  nothing-needed n = sym (ap (needed E f K) (sym e ∙ n)) ∙ access-needs E f K s

  pub pointer-needed : {p i k : ℕ} {n d : Bounds} {b : Bool} → a ≡ Some (access p i k) → n ≡ known K p → d ≡ declared E p → b ≡ bounds_shown f p n d
      → b ≡ access_shown E f K s
  pointer-needed t n d b = rw (n, d) at b ∙ (sym (ap (needed E f K) (sym e ∙ t)) ∙ access-needs E f K s)

-- ---- rows

-- A kind 14 is the one statement that names a row.
pub row_named : (s : Simple) (p r : ℕ) → declares_of s ≡ Some (declaration p r) → s ≡ Declare p r
row_named (Literal x k) p' r e = let o : ◌≡◌ {A = ℕ} 0 1 = cc in absurd (omega arith)
row_named (AddConstant x y k) p' r e = let o : ◌≡◌ {A = ℕ} 0 1 = cc in absurd (omega arith)
row_named (Arithmetic x y z op) p' r e = let o : ◌≡◌ {A = ℕ} 0 1 = cc in absurd (omega arith)
row_named (Null p) p' r e = let o : ◌≡◌ {A = ℕ} 0 1 = cc in absurd (omega arith)
row_named (Address p o) p' r e = let o : ◌≡◌ {A = ℕ} 0 1 = cc in absurd (omega arith)
row_named (PointerOffset p q k) p' r e = let o : ◌≡◌ {A = ℕ} 0 1 = cc in absurd (omega arith)
row_named (PointerIndex p q i) p' r e = let o : ◌≡◌ {A = ℕ} 0 1 = cc in absurd (omega arith)
row_named (Load x p i k) p' r e = let o : ◌≡◌ {A = ℕ} 0 1 = cc in absurd (omega arith)
row_named (Store p i k x) p' r e = let o : ◌≡◌ {A = ℕ} 0 1 = cc in absurd (omega arith)
row_named (Check c) p' r e = let o : ◌≡◌ {A = ℕ} 0 1 = cc in absurd (omega arith)
row_named (Declare q n) p r e =
    let d : declaration q n ≡ declaration p r = cc in
    let x : q ≡ p = ap (λ (a : Declaration). a.pointer) d in
    let y : n ≡ r = ap (λ (a : Declaration). a.row) d in rw (x, y)

-- Any other leaves the rows in force and asks for none.
pub rows_stay : (s : Simple) (R : List ℕ) → declares_of s ≡ None → rows_after s R ≡ R
unfolding rows_after
rows_stay (Literal x k) R e = refl
rows_stay (AddConstant x y k) R e = refl
rows_stay (Arithmetic x y z op) R e = refl
rows_stay (Null p) R e = refl
rows_stay (Address p o) R e = refl
rows_stay (PointerOffset p q k) R e = refl
rows_stay (PointerIndex p q i) R e = refl
rows_stay (Load x p i k) R e = refl
rows_stay (Store p i k x) R e = refl
rows_stay (Check c) R e = refl
rows_stay (Declare p r) R e = let o : ◌≡◌ {A = ℕ} 0 1 = cc in absurd (omega arith)

pub no-row-asked : (E : Environment) (f : FactSet) (K : List Bounds) (s : Simple) → declares_of s ≡ None → row_unshown E f K s ≡ []
unfolding bounds_rules.row_unshown
no-row-asked E f K (Literal x k) e = refl
no-row-asked E f K (AddConstant x y k) e = refl
no-row-asked E f K (Arithmetic x y z op) e = refl
no-row-asked E f K (Null p) e = refl
no-row-asked E f K (Address p o) e = refl
no-row-asked E f K (PointerOffset p q k) e = refl
no-row-asked E f K (PointerIndex p q i) e = refl
no-row-asked E f K (Load x p i k) e = refl
no-row-asked E f K (Store p i k x) e = refl
no-row-asked E f K (Check c) e = refl
no-row-asked E f K (Declare p r) e = let o : ◌≡◌ {A = ℕ} 0 1 = cc in absurd (omega arith)

module _ (E : Environment) (f : FactSet) (K : List Bounds) (p r a : ℕ) {n d : Bounds} {b : Bool} (i : n ≡ known K p) (j : d ≡ row_bound E (r + 1) p)
    (e : b ≡ bounds_shown f p n d) where
  row-asked : b ≡ bounds_shown f p (known K p) (row_bound E (r + 1) p)
  row-asked = rw (i, j) at e

  pub row-shown : b ≡ true → Ok tt ≡ verdict_of (bounds_at a (row_unshown E f K (Declare p r)))
  unfolding bounds_rules.row_unshown bounds_at verdict_of
  row-shown t = sym (ap (λ (x : Bool). verdict_of (bounds_at a (cons_if (not x) p []))) (sym row-asked ∙ t))

  pub row-missed : b ≡ false → Err (BoundsNotShown a p) ≡ verdict_of (bounds_at a (row_unshown E f K (Declare p r)))
  unfolding bounds_rules.row_unshown bounds_at verdict_of
  row-missed t = sym (ap (λ (x : Bool). verdict_of (bounds_at a (cons_if (not x) p []))) (sym row-asked ∙ t))

-- ---- what is asked needs no more of an environment than what is seen of it

seen-from : (E : Environment) (f : FactSet) (K : List Bounds) (n p : ℕ) → unshown_from (seen_as (seen_of E)) f K n p ≡ unshown_from E f K n p
unfolding bounds_rules.unshown_from
seen-from E f K zero p = refl
seen-from E f K (suc n) p = ap (cons_if (is_pointer E p && not (bounds_shown f p (known K p) (declared E p))) p) (seen-from E f K n (p + 1))

pub seen-unshown : (E : Environment) (f : FactSet) (K : List Bounds) → unshown (seen_as (seen_of E)) f K ≡ unshown E f K
unfolding bounds_rules.unshown
seen-unshown E f K = seen-from E f K 16 0

pub seen-access : (E : Environment) (f : FactSet) (K : List Bounds) (s : Simple) → access_shown (seen_as (seen_of E)) f K s ≡ access_shown E f K s
seen-access E f K s = sym (access-needs (seen_as (seen_of E)) f K s) ∙ (go (access_of s) ∙ access-needs E f K s)
  where
    go : (a : Option Access) → needed (seen_as (seen_of E)) f K a ≡ needed E f K a
    go None = refl
    go (Some a) = refl

-- ---- point 9: accesses that are shown safe

abbrev safe_by : Environment → FactSet → Option Access → Bool
safe_by E f (Some a) = address_safe f a.pointer a.index a.constant (declared E a.pointer)
safe_by E f None = false

access-safe : (E : Environment) (f : FactSet) (s : Simple) → safe_by E f (access_of s) ≡ access_safe E f s
unfolding bounds_rules.access_safe
access-safe E f (Literal x k) = refl
access-safe E f (AddConstant x y k) = refl
access-safe E f (Arithmetic x y z op) = refl
access-safe E f (Null p) = refl
access-safe E f (Address p o) = refl
access-safe E f (PointerOffset p q k) = refl
access-safe E f (PointerIndex p q i) = refl
access-safe E f (Load x p i k) = refl
access-safe E f (Store p i k x) = refl
access-safe E f (Check c) = refl
access-safe E f (Declare p r) = refl

module _ (s : Simple) {a : Option Access} (e : a ≡ access_of s) where
  pub through-told : {p i k : ℕ} → a ≡ Some (access p i k) → true ≡ is_access s
  unfolding is_access
  through-told t = sym (ap is_some (sym e ∙ t))

  pub nothing-told : a ≡ None → false ≡ is_access s
  unfolding is_access
  nothing-told t = sym (ap is_some (sym e ∙ t))

-- What is no access needs no bounds shown, and is not reported.
pub no_access : (a : Option Access) → is_some a ≡ false → a ≡ None
no_access None e = refl
no_access (Some a) e = absurd (false≢true (sym e))

pub unneeded : (E : Environment) (f : FactSet) (K : List Bounds) (s : Simple) → is_access s ≡ false → true ≡ access_shown E f K s
unfolding is_access
unneeded E f K s e = sym (ap (needed E f K) (no_access (access_of s) e)) ∙ access-needs E f K s

pub unreported : (E : Environment) (f : FactSet) (s : Simple) → is_access s ≡ false → false ≡ access_safe E f s
unfolding is_access
unreported E f s e = sym (ap (safe_by E f) (no_access (access_of s) e)) ∙ access-safe E f s

nowhere-safe : (f : FactSet) (p i k : ℕ) → address_safe f p i k nothing_known ≡ false
unfolding bounds_rules.address_safe bounds_rules.known_at_most
nowhere-safe f p i k = go (shown f zero_var p (bias - 1))
  where
    go : (b : Bool) → (b && false) ≡ false
    go true = refl
    go false = refl

-- An access in range has a constant in range.
pub access-short : (s : Simple) {p i k : ℕ} → InRange s → access_of s ≡ Some (access p i k) → k < 2 ^ 34
access-short (Literal x j) r e = let z : ◌≡◌ {A = ℕ} 0 1 = cc in absurd (omega arith)
access-short (AddConstant x y j) r e = let z : ◌≡◌ {A = ℕ} 0 1 = cc in absurd (omega arith)
access-short (Arithmetic x y z op) r e = let u : ◌≡◌ {A = ℕ} 0 1 = cc in absurd (omega arith)
access-short (Null q) r e = let z : ◌≡◌ {A = ℕ} 0 1 = cc in absurd (omega arith)
access-short (Address q o) r e = let z : ◌≡◌ {A = ℕ} 0 1 = cc in absurd (omega arith)
access-short (PointerOffset q o j) r e = let z : ◌≡◌ {A = ℕ} 0 1 = cc in absurd (omega arith)
access-short (PointerIndex q o j) r e = let z : ◌≡◌ {A = ℕ} 0 1 = cc in absurd (omega arith)
access-short (Load x q j l) {p} {i} {k} r e =
    let d : access q j l ≡ access p i k = cc in let z : l ≡ k = ap (λ (a : Access). a.constant) d in omega arith
access-short (Store q j l x) {p} {i} {k} r e =
    let d : access q j l ≡ access p i k = cc in let z : l ≡ k = ap (λ (a : Access). a.constant) d in omega arith
access-short (Check c) r e = let z : ◌≡◌ {A = ℕ} 0 1 = cc in absurd (omega arith)
access-short (Declare q j) r e = let z : ◌≡◌ {A = ℕ} 0 1 = cc in absurd (omega arith)

module _ (E : Environment) (f : FactSet) (s : Simple) {a : Option Access} (e : a ≡ access_of s) where
  pub nothing-safe : a ≡ None → false ≡ access_safe E f s
  nothing-safe n = sym (ap (safe_by E f) (sym e ∙ n)) ∙ access-safe E f s

  -- No variable has such a number, and no bounds are known of it.
  pub none-declared : {p i k : ℕ} → a ≡ Some (access p i k) → length E.declared ≡ 16 → 16 ≤ p → false ≡ access_safe E f s
  none-declared {p} {i} {k} t l m =
      let d : declared E p ≡ nothing_known = get_or-eq_default E.declared nothing_known (omega (arith, l)) in
      sym (ap (address_safe f p i k) d ∙ nowhere-safe f p i k) ∙ (sym (ap (safe_by E f) (sym e ∙ t)) ∙ access-safe E f s)

  pub address-asked : {p i k : ℕ} {b : Bool} → a ≡ Some (access p i k) → p < length E.declared → b ≡ address_safe f p i k (stored E.declared p)
      → b ≡ access_safe E f s
  address-asked {p} {i} {k} t l b =
      b ∙ (ap (address_safe f p i k) (stored-known E.declared p l) ∙ (sym (ap (safe_by E f) (sym e ∙ t)) ∙ access-safe E f s))

pub seen-safe : (E : Environment) (f : FactSet) (s : Simple) → access_safe (seen_as (seen_of E)) f s ≡ access_safe E f s
seen-safe E f s = sym (access-safe (seen_as (seen_of E)) f s) ∙ (go (access_of s) ∙ access-safe E f s)
  where
    go : (a : Option Access) → safe_by (seen_as (seen_of E)) f a ≡ safe_by E f a
    go None = refl
    go (Some a) = refl
