-- The rules over the store and the rules over the paper's facts find the same first fault in every table: so the verdict is that of the paper.
use Rattle.table.specs.declared.variables.End.{End}
use Prim.Native.Nat.{ℕ, zero, suc, ◌+◌, ◌-◌, ◌≤◌, ◌<◌}
use Rattle.std.specs.Prelude.{◌≡◌, Bool, ◌||◌, ◌&&◌, ℤ, ltb, Err, None, Ok, Option, Result, Some}
use Rattle.std.proofs.Math.Path.{refl, ap, ap₂}
use Rattle.std.proofs.Common.{sym, ◌∙◌, inl}
use Rattle.std.proofs.Math.Logic.{inr}
use Rattle.std.proofs.Math.Bool.{true, false, not, cond}
use mathlib.Core.List.{List, [], ◌∷◌}
use native.Mathlib.Omega.{arith}
use borrow.Author.Tests.{ltb-true, not-false}
use Rattle.std.proofs.Math.ListN.{length}
use Rattle.std.proofs.Math.Dec.{eqb}
use Rattle.sums.specs.Numbers.{bias, zero_var}
use Rattle.arrays.specs.TabulateLaws.{tabulate-alike}
use Rattle.facts.specs.declared.FactSet.{FactSet}
use Rattle.chains.specs.Facts.{Variables}
use Rattle.chains.specs.History.{History}
use Rattle.answers.specs.declared.refusals.Refusal.{Refusal}
use Rattle.answers.specs.declared.refusals.Refusal.TheVariants.{Callee, Arguments}
use Rattle.words.specs.Typed.{IsSmall, IsIndex}
use Rattle.words.specs.SectionsLaws.{both}
use Rattle.words.specs.declared.sections.Sections.{Sections}
use Rattle.conditions.specs.Conditions.{negated_of}
use Rattle.conditions.specs.Typed.{Sides}
use Rattle.conditions.specs.declared.Condition.{Condition}
use Rattle.statements.specs.StatementLaws.{read-typed}
use Rattle.statements.specs.Typed.{SimpleTyped, CallTyped}
use Rattle.statements.specs.declared.CallSite.{CallSite}
use Rattle.statements.specs.declared.Simple.{Simple}
use Rattle.statements.specs.declared.Simple.TheVariants.{Literal, AddConstant, Arithmetic, Null, Address}
use Rattle.statements.specs.declared.Simple.TheVariants.{PointerOffset, PointerIndex, Load, Store, Check, Declare}
use Rattle.statements.specs.declared.Statement.TheVariants.{Plain, If, While, Call}
use Rattle.table.specs.Form.{form_of}
use Rattle.table.specs.FormLaws.{Formed, well-formed}
use Rattle.blocks.specs.Layout.{also, when, layout}
use Rattle.listed.specs.Entries.{entries_of}
use Rattle.listed.specs.ListForm.{list_faults}
use Rattle.blocks.specs.Tree.{Block, nil, plain, branch, loop, bundle, call, unread, tree}
use Rattle.blocks.specs.Shape.{size, ReadsLine, Reads, Formed as Shaped}
use Rattle.blocks.specs.ShapeLaws.{table-laid}
use Rattle.rules.specs.FactSets.{State}
use Rattle.rules.specs.BoundsRules.{is_pointer, declared, known, names, weight, comparable_ends, cons_if, shift_end, shift_bounds, effect_on, bounds_after}
use Rattle.rules.specs.BoundsRules.{effect, end_at_most, known_at_most, bounds_shown, unshown_from, unshown, access_shown, row_bound, in_force, row_unshown}
use Rattle.rules.specs.BoundsRules.{address_safe, access_safe}
use Rattle.rules.specs.Rules.{access_at, bounds_at, bundle_bounds, bundle_faults, block_faults, rows_at, state_after, called_state}
use Rattle.rules.specs.Calls.{Routine, routine_at, argument, is_parameter, kind_fits, end_fits, argument_bounds, last_integer, in_order, result_effect}
use Rattle.rules.specs.Calls.{bounds_fit, argument_fits, arguments_fit, call_faults}
use Rattle.rules.specs.CallLaws.{RoutineFormed, AllFormed, argument-below, put-fair}
use Rattle.rules.specs.Rules.{assumed, unshown_in, access_in, safe_in, declared_in, bundle_after, block_after}
use Rattle.rules.specs.Verdict.{environment_of, section_faults, form_faults, faults, verdict_of}
use Rattle.blocks.specs.LayoutLaws.{no-first, no-rest, passed}
use Rattle.rules.specs.EnvironmentLaws.{environment-declares}
use Rattle.rules.specs.Stored.{store}
use Rattle.rules.specs.ByChains.{Decider, Decides, by_chains, variables, DecidesTable}
use Rattle.rules.proofs.Representation.{Represents, shown-represented, end-represented, range-represented}
use Rattle.rules.proofs.StateRepresentation.{StateRepresents, new-represented, meets, state-after, state-called, state-assumed, state-negated}
use Rattle.rules.proofs.StateRepresentation.{state-at-head}
use Rattle.rules.proofs.ListedLaws.{EntriesRight, entries-right, entries-agree}
use Rattle.rules.specs.Fair.{weight-small, FairEnd, index-node, FairKnown, FairBounds, FairAll, FairEffect, later}
use Rattle.rules.specs.Fair.{constant-moved, after-fair, declared-fair, statement-fair, number-fair}
use Rattle.rules.specs.declared.Bounds.{Bounds}
use Rattle.rules.specs.declared.Environment.{Environment}
use Rattle.rules.specs.declared.Effect.{Effect}
use Rattle.rules.specs.declared.Effect.TheVariants.{Keep, Forget, Shift, Copy, Object}

-- ---- the same first fault

abbrev pub SameFirst : List Refusal → List Refusal → Type 0
SameFirst [] [] = Unit {0}
SameFirst [] (y ∷ ys) = ⊥
SameFirst (x ∷ xs) [] = ⊥
SameFirst (x ∷ xs) (y ∷ ys) = x ≡ y

pub same_self : (xs : List Refusal) → SameFirst xs xs
same_self [] = tt
same_self (x ∷ xs) = refl

same_of : (xs ys : List Refusal) → xs ≡ ys → SameFirst xs ys
same_of xs ys e = rw e (same_self ys)

pub same-also : (xs zs ys ws : List Refusal) → SameFirst xs zs → (xs ≡ [] → SameFirst ys ws) → SameFirst (also xs ys) (also zs ws)
unfolding also
same-also [] [] ys ws s t = t refl
same-also [] (z ∷ zs) ys ws s t = absurd s
same-also (x ∷ xs) [] ys ws s t = absurd s
same-also (x ∷ xs) (z ∷ zs) ys ws s t = s

pub same-verdict : (xs ys : List Refusal) → SameFirst xs ys → verdict_of xs ≡ verdict_of ys
unfolding verdict_of
same-verdict [] [] s = refl
same-verdict [] (y ∷ ys) s = absurd s
same-verdict (x ∷ xs) [] s = absurd s
same-verdict (x ∷ xs) (y ∷ ys) s = ap Err s

-- Where the second has no fault the first has none.
pub none_first : (xs ys : List Refusal) → SameFirst xs ys → ys ≡ [] → xs ≡ []
none_first [] ys s e = refl
none_first (x ∷ xs) [] s e = absurd s
none_first (x ∷ xs) (y ∷ ys) s e = let o : ◌≡◌ {A = ℕ} 0 1 = cc in absurd (omega arith)

same-bounds : (s : ℕ) {a b c d : Option End} → a ≡ c → b ≡ d
    → ◌≡◌ {A = Bounds} (record { size = s; lower = a; upper = b }) (record { size = s; lower = c; upper = d })
same-bounds s p q = rw (p, q)

all_three : {a b c x y z : Bool} → a ≡ x → b ≡ y → c ≡ z → (a && (b && c)) ≡ (x && (y && z))
all_three p q r = rw (p, q, r)

three : {a b c x y z : Bool} → a ≡ x → b ≡ y → c ≡ z → (a || b && c) ≡ (x || y && z)
three p q r = rw (p, q, r)

-- Tests that matter only where others hold.
if-both : (a b c : Bool) → (a ≡ true → b ≡ c) → (a && b) ≡ (a && c)
if-both true b c k = k refl
if-both false b c k = refl

unless-first : (a b c : Bool) → (a ≡ true → b ≡ c) → (not a || b) ≡ (not a || c)
unless-first true b c k = k refl
unless-first false b c k = refl

four : (o : Bool) {a b c d x y z u : Bool} → a ≡ x → b ≡ y → c ≡ z → d ≡ u → (o && a && b && c && d) ≡ (o && x && y && z && u)
four o p q r s = rw (p, q, r, s)

-- ---- a well-formed table

module _ (T : List ℤ) (h : Sections) (w : Formed T h) (q : Decider) (right : Decides (variables T h w.limits) q) where
  abbrev vars : Variables
  vars = variables T h w.limits

  abbrev E : Environment
  E = environment_of T h

  -- ---- bounds

  -- The constants of ends in range are moved alike.
  shift-agrees : (n s v k : ℕ) (e : Option End) → n ≤ 16 → s ≤ 8 → IsSmall k → FairKnown vars n e → shift_end (by_chains q) s v k e ≡ shift_end store s v k e
  unfolding shift_end
  shift-agrees n s v k None l m i a = refl
  shift-agrees n s v k (Some e) l m i a =
      ap (λ (g : Option End). cond (names e v) g (Some e)) (sym (constant-moved vars n (weight s v e) k e l (weight-small s v e m) a i))

  on_agrees : (n : ℕ) (e : Effect) (K : List Bounds) → n ≤ 16 → FairEffect vars e → FairAll vars n K → (p : ℕ)
      → effect_on (by_chains q) e K p ≡ effect_on store e K p
  unfolding effect_on shift_bounds
  on_agrees n Keep K l g a p = refl
  on_agrees n (Forget v) K l g a p = refl
  on_agrees n (Shift v k) K l g a p =
      let b = known K p in
      same-bounds b.size (shift-agrees n b.size v k b.lower l (a p).size g (a p).lower)
      (shift-agrees n b.size v k b.upper l (a p).size g (a p).upper)
  on_agrees n (Copy v r) K l g a p = refl
  on_agrees n (Object v s m) K l g a p = refl

  result-fair : (c : CallSite) → FairEffect vars (result_effect c)
  unfolding result_effect
  result-fair c = go (eqb c.result zero_var)
    where
      go : (b : Bool) → FairEffect vars (cond b Keep (Forget c.result))
      go true = tt
      go false = tt

  moved-agree : (n : ℕ) (e : Effect) (K : List Bounds) → n ≤ 16 → FairEffect vars e → FairAll vars n K → bounds_after (by_chains q) e K ≡ bounds_after store e K
  unfolding bounds_after
  moved-agree n e K l g a = tabulate-alike 16 (λ p i. on_agrees n e K l g a p)

  module _ {H : History} {f : FactSet} (t : Represents vars H f) where
    known-agrees : (n s t : ℕ) (e g : Option End) → n ≤ 16 → s ≤ 8 → FairKnown vars n e → FairKnown vars n g
        → known_at_most store f s e t g ≡ known_at_most (by_chains q) H s e t g
    unfolding known_at_most end_at_most
    known-agrees n s z None g l m a b = refl
    known-agrees n s z (Some e) None l m a b = refl
    known-agrees n s z (Some e) (Some g) l m a b =
        ap (λ (x : Bool). comparable_ends s e z g && x)
        (end-represented vars q right t s e.pointer e.integer e.constant g.pointer g.integer g.constant m a.pointer a.integer
        b.pointer b.integer (omega (arith, a.high)) (omega (arith, b.high)))

    bounds-agree : (n p : ℕ) (k d : Bounds) → n ≤ 16 → p < h.variables → FairBounds vars n k → FairBounds vars n d
        → bounds_shown store f p k d ≡ bounds_shown (by_chains q) H p k d
    unfolding bounds_shown
    bounds-agree n p k d l i a b =
        three (shown-represented vars q right t p zero_var bias (inr i) (inl refl))
        (known-agrees n k.size d.size k.lower d.lower l a.size a.lower b.lower)
        (known-agrees n d.size k.size d.upper k.upper l b.size b.upper a.upper)

    -- The row of a kind 14.
    number-agrees : (n p m : ℕ) (K : List Bounds) → n ≤ 16 → p < h.variables → FairAll vars n K
        → bounds_shown store f p (known K p) (row_bound E m p) ≡ bounds_shown (by_chains q) H p (known K p) (row_bound E m p)
    number-agrees n p m K l i a =
        bounds-agree n p (known K p) (row_bound E m p) l i (a p) (later vars 0 n (row_bound E m p) (omega arith) (number-fair T h w m p))

    -- What is declared, with the rows R in force.
    declared-agree : (R : List ℕ) (n p : ℕ) (K : List Bounds) → n ≤ 16 → p < h.variables → FairAll vars n K
        → bounds_shown store f p (known K p) (declared (in_force E R) p) ≡ bounds_shown (by_chains q) H p (known K p) (declared (in_force E R) p)
    declared-agree R n p K l i a =
        bounds-agree n p (known K p) (declared (in_force E R) p) l i (a p) (later vars 0 n (declared (in_force E R) p) (omega arith) (declared-fair T h w R p))

    unshown-from : (R : List ℕ) (n m p : ℕ) (K : List Bounds) → n ≤ 16 → FairAll vars n K
        → unshown_from store (in_force E R) f K m p ≡ unshown_from (by_chains q) (in_force E R) H K m p
    unfolding unshown_from
    unshown-from R n zero p K l a = refl
    unshown-from R n (suc m) p K l a = go (is_pointer E p) refl (unshown-from R n m (p + 1) K l a)
      where
        go : (b : Bool) → is_pointer E p ≡ b → unshown_from store (in_force E R) f K m (p + 1) ≡ unshown_from (by_chains q) (in_force E R) H K m (p + 1)
            → cons_if (b && not (bounds_shown store f p (known K p) (declared (in_force E R) p))) p (unshown_from store (in_force E R) f K m (p + 1))
            ≡ cons_if (b && not (bounds_shown (by_chains q) H p (known K p) (declared (in_force E R) p))) p
            (unshown_from (by_chains q) (in_force E R) H K m (p + 1))
        go true e i = ap₂ (λ (x : Bool) (xs : List ℕ). cons_if (not x) p xs) (declared-agree R n p K l ((environment-declares T h w).below p e) a) i
        go false e i = i

    effect-agrees : (s : Simple) → SimpleTyped T h s → effect (by_chains q) E H s ≡ effect store E f s
    unfolding effect
    effect-agrees (Literal x k) s = refl
    effect-agrees (AddConstant x y k) s =
        ap (λ (b : Bool). cond (b && eqb x y) (Shift x k) (Forget x)) (sym (range-represented vars q right t y k (inr s.source.below)))
    effect-agrees (Arithmetic x y z op) s = refl
    effect-agrees (Null p) s = refl
    effect-agrees (Address p o) s = refl
    effect-agrees (PointerOffset p r k) s = refl
    effect-agrees (PointerIndex p r i) s = refl
    effect-agrees (Load x p i k) s = refl
    effect-agrees (Store p i k x) s = refl
    effect-agrees (Check c) s = refl
    effect-agrees (Declare p r) s = refl

    after-agrees : (n : ℕ) (K : List Bounds) (s : Simple) → n ≤ 16 → FairAll vars n K → SimpleTyped T h s
        → bounds_after (by_chains q) (effect (by_chains q) E H s) K ≡ bounds_after store (effect store E f s) K
    after-agrees n K s l g y = ap (λ (e : Effect). bounds_after (by_chains q) e K) (effect-agrees s y)
        ∙ moved-agree n (effect store E f s) K l (statement-fair T h w f s y) g

    access-same : (R : List ℕ) (n : ℕ) (K : List Bounds) (s : Simple) → n ≤ 16 → FairAll vars n K → SimpleTyped T h s
        → access_shown store (in_force E R) f K s ≡ access_shown (by_chains q) (in_force E R) H K s
    unfolding access_shown
    access-same R n K (Literal x k) l a s = refl
    access-same R n K (AddConstant x y k) l a s = refl
    access-same R n K (Arithmetic x y z op) l a s = refl
    access-same R n K (Null p) l a s = refl
    access-same R n K (Address p o) l a s = refl
    access-same R n K (PointerOffset p r k) l a s = refl
    access-same R n K (PointerIndex p r i) l a s = refl
    access-same R n K (Load x p i k) l a s = declared-agree R n p K l s.pointer.below a
    access-same R n K (Store p i k x) l a s = declared-agree R n p K l s.pointer.below a
    access-same R n K (Check c) l a s = refl
    access-same R n K (Declare p r) l a s = refl

    -- Point 9: an address, as an end, is compared alike.
    address_same : (R : List ℕ) (p i k : ℕ) → p < h.variables → IsIndex T h i → IsSmall k
        → address_safe store f p i k (declared (in_force E R) p) ≡ address_safe (by_chains q) H p i k (declared (in_force E R) p)
    unfolding address_safe
    address_same R p i k l x s =
        let d : Bounds = declared (in_force E R) p in
        let b = declared-fair T h w R p in
        let a : FairEnd vars 0 (record { pointer = p; integer = i; constant = k }) =
        record { pointer = inr l; integer = index-node T h w x; low = omega (arith, s.low); high = omega (arith, s.high) } in
        let c : FairEnd vars 0 (record { pointer = p; integer = i; constant = k + 1 }) =
        record { pointer = inr l; integer = index-node T h w x; low = omega (arith, s.low); high = omega (arith, s.high) } in
        all_three (shown-represented vars q right t zero_var p (bias - 1) (inl refl) (inr l))
        (known-agrees 0 d.size d.size d.lower (Some (record { pointer = p; integer = i; constant = k })) (omega arith) b.size b.lower a)
        (known-agrees 0 d.size d.size (Some (record { pointer = p; integer = i; constant = k + 1 })) d.upper (omega arith) b.size c b.upper)

    safe-same : (R : List ℕ) (s : Simple) → SimpleTyped T h s → access_safe store (in_force E R) f s ≡ access_safe (by_chains q) (in_force E R) H s
    unfolding access_safe
    safe-same R (Literal x k) s = refl
    safe-same R (AddConstant x y k) s = refl
    safe-same R (Arithmetic x y z op) s = refl
    safe-same R (Null p) s = refl
    safe-same R (Address p o) s = refl
    safe-same R (PointerOffset p r k) s = refl
    safe-same R (PointerIndex p r i) s = refl
    safe-same R (Load x p i k) s = address_same R p i k s.pointer.below s.index s.constant
    safe-same R (Store p i k x) s = address_same R p i k s.pointer.below s.index s.constant
    safe-same R (Check c) s = refl
    safe-same R (Declare p r) s = refl

    row_same : (n : ℕ) (K : List Bounds) (s : Simple) → n ≤ 16 → FairAll vars n K → SimpleTyped T h s
        → row_unshown store E f K s ≡ row_unshown (by_chains q) E H K s
    unfolding row_unshown
    row_same n K (Literal x k) l a s = refl
    row_same n K (AddConstant x y k) l a s = refl
    row_same n K (Arithmetic x y z op) l a s = refl
    row_same n K (Null p) l a s = refl
    row_same n K (Address p o) l a s = refl
    row_same n K (PointerOffset p r k) l a s = refl
    row_same n K (PointerIndex p r i) l a s = refl
    row_same n K (Load x p i k) l a s = refl
    row_same n K (Store p i k x) l a s = refl
    row_same n K (Check c) l a s = refl
    row_same n K (Declare p r) l a s = ap (λ (x : Bool). cons_if (not x) p []) (number-agrees n p (r + 1) K l s.pointer.below a)

  -- ---- what is handed on: a history that tells the facts, and the same rows

  module _ {U : State History} {W : State FactSet} (t : StateRepresents vars U W) where
    unshown-agrees : (n : ℕ) (K : List Bounds) → n ≤ 16 → FairAll vars n K → unshown_in store E W K ≡ unshown_in (by_chains q) E U K
    unfolding unshown
    unshown-agrees n K l a = unshown-from t.represents W.rows n 16 0 K l a
        ∙ ap (λ (R : List ℕ). unshown_from (by_chains q) (in_force E R) U.facts K 16 0) (sym t.rows)

    access-agrees : (n : ℕ) (K : List Bounds) (s : Simple) → n ≤ 16 → FairAll vars n K → SimpleTyped T h s
        → access_in store E W K s ≡ access_in (by_chains q) E U K s
    access-agrees n K s l a y = access-same t.represents W.rows n K s l a y
        ∙ ap (λ (R : List ℕ). access_shown (by_chains q) (in_force E R) U.facts K s) (sym t.rows)

    pub safe-agrees : (s : Simple) → SimpleTyped T h s → safe_in store E W s ≡ safe_in (by_chains q) E U s
    safe-agrees s y = safe-same t.represents W.rows s y
        ∙ ap (λ (R : List ℕ). access_safe (by_chains q) (in_force E R) U.facts s) (sym t.rows)

    row-agrees : (n : ℕ) (K : List Bounds) (s : Simple) → n ≤ 16 → FairAll vars n K → SimpleTyped T h s
        → row_unshown store E W.facts K s ≡ row_unshown (by_chains q) E U.facts K s
    row-agrees n K s l a y = row_same t.represents n K s l a y

  -- ---- a bundle, after n of its statements

  record LineAgrees (n a : ℕ) (ss : List Simple) (U : State History) (W : State FactSet) (K : List Bounds) : Type 0 where
    faults : SameFirst (bundle_faults store E a ss W K) (bundle_faults (by_chains q) E a ss U K)
    represents : bundle_faults store E a ss W K ≡ [] → StateRepresents vars (bundle_after (by_chains q) ss U) (bundle_after store ss W)
    bounds : bundle_faults store E a ss W K ≡ [] → bundle_bounds (by_chains q) E ss U K ≡ bundle_bounds store E ss W K
    fair : bundle_faults store E a ss W K ≡ [] → FairAll vars (n + length ss) (bundle_bounds store E ss W K)

  line_step : (n a : ℕ) (s : Simple) (ss : List Simple) {U : State History} {W : State FactSet} (K : List Bounds) → n ≤ 16 → SimpleTyped T h s
      → FairAll vars n K → StateRepresents vars U W
      → LineAgrees (n + 1) (a + 1) ss (state_after (by_chains q) s U) (state_after store s W) (bounds_after store (effect store E W.facts s) K)
      → LineAgrees n a (s ∷ ss) U W K
  unfolding bundle_faults bundle_after bundle_bounds
  line_step n a s ss {U} {W} K l y g t rest =
      let e : bounds_after (by_chains q) (effect (by_chains q) E U.facts s) K ≡ bounds_after store (effect store E W.facts s) K =
      after-agrees t.represents n K s l g y in
      let m : n + suc (length ss) ≡ n + 1 + length ss = omega arith in
      record {
        faults = same-also _ _ _ _ (same_of _ _ (ap (λ (b : Bool). access_at b a) (access-agrees t n K s l g y)))
            (λ u. same-also _ _ _ _ (same_of _ _ (ap (bounds_at a) (row-agrees t n K s l g y)))
            (λ o. rw e rest.faults));
        represents = λ z. rest.represents (no-rest _ _ (no-rest _ _ z));
        bounds = λ z. rw e (rest.bounds (no-rest _ _ (no-rest _ _ z)));
        fair = λ z. rw m (rest.fair (no-rest _ _ (no-rest _ _ z)));
      }

  line-agrees : (n a : ℕ) (ss : List Simple) {U : State History} {W : State FactSet} (K : List Bounds) → n + length ss ≤ 16 → ReadsLine T h a ss
      → FairAll vars n K → StateRepresents vars U W → LineAgrees n a ss U W K
  unfolding bundle_faults bundle_after bundle_bounds
  line-agrees n a [] K l r g t = let e : n + 0 ≡ n = omega arith in record { faults = tt; represents = λ z. t; bounds = λ z. refl; fair = λ z. rw e g }
  line-agrees n a (s ∷ ss) {U} {W} K l r g t =
      let y = read-typed T h a (Plain s) r.0 in
      line_step n a s ss K (omega arith) y g t
      (line-agrees (n + 1) (a + 1) ss (bounds_after store (effect store E W.facts s) K) (omega arith) r.1
      (after-fair vars n (effect store E W.facts s) K (omega arith) (statement-fair T h w W.facts s y) g) (state-after T h w.limits q right t s y))

  -- ---- a block, beside a list whose entries are right

  module _ (L : List ℤ) (listed : (a : ℕ) → EntriesRight T h w.limits (entries_of L a)) (callees : List Routine) (formed : AllFormed callees) where
    record BlockAgrees (b : Block) (U : State History) (W : State FactSet) : Type 0 where
      faults : SameFirst (block_faults store E L callees b W) (block_faults (by_chains q) E L callees b U)
      represents : block_faults store E L callees b W ≡ [] → StateRepresents vars (block_after (by_chains q) E L b U) (block_after store E L b W)

    bounds-fault : (a : ℕ) {ps qs : List ℕ} → ps ≡ qs → SameFirst (bounds_at a ps) (bounds_at a qs)
    bounds-fault a {ps} {qs} e = same_of _ _ (ap (bounds_at a) e)

    plain-agrees : (a : ℕ) (s : Simple) (r : Block) {U : State History} {W : State FactSet} → SimpleTyped T h s → StateRepresents vars U W
        → BlockAgrees r (state_after (by_chains q) s U) (state_after store s W) → BlockAgrees (plain a s r) U W
    unfolding block_faults block_after
    plain-agrees a s r {U} {W} y t rest =
        let k : declared_in (by_chains q) E U ≡ declared_in store E W = ap (λ (R : List ℕ). (in_force E R).declared) t.rows in
        let e : bounds_after (by_chains q) (effect (by_chains q) E U.facts s) (declared_in store E W) ≡ bounds_after store (effect store E W.facts s)
        (declared_in store E W) =
        after-agrees t.represents 0 (declared_in store E W) s (omega arith) (declared-fair T h w W.rows) y in
        record {
          faults = same-also _ _ _ _ (rw k (bounds-fault a (row-agrees t 0 _ s (omega arith) (declared-fair T h w W.rows) y)))
              (λ o. same-also _ _ _ _
              (rw (k, e) (bounds-fault a (unshown-agrees (state-after T h w.limits q right t s y) 1 _ (omega arith)
              (after-fair vars 0 (effect store E W.facts s) (declared_in store E W) (omega arith) (statement-fair T h w W.facts s y)
              (declared-fair T h w W.rows)))))
              (λ u. rest.faults));
          represents = λ z. rest.represents (no-rest _ _ (no-rest _ _ z));
        }

    bundle-agrees : (a : ℕ) (ss : List Simple) (r : Block) {U : State History} {W : State FactSet} → length ss ≤ 16
        → LineAgrees 0 (a + 1) ss U W (declared_in store E W) → StateRepresents vars U W
        → (StateRepresents vars (bundle_after (by_chains q) ss U) (bundle_after store ss W) → BlockAgrees r (bundle_after (by_chains q) ss U)
        (bundle_after store ss W))
        → BlockAgrees (bundle a ss r) U W
    unfolding block_faults block_after
    bundle-agrees a ss r {U} {W} l i t rest =
        let k : declared_in (by_chains q) E U ≡ declared_in store E W = ap (λ (R : List ℕ). (in_force E R).declared) t.rows in
        record {
          faults = same-also _ _ _ _ (rw k i.faults) (λ u.
              let b = i.bounds u in
              same-also _ _ _ _ (rw (k, b) (bounds-fault a (unshown-agrees (i.represents u) (0 + length ss) _ (omega arith) (i.fair u))))
              (λ v. (rest (i.represents u)).faults));
          represents = λ z. (rest (i.represents (no-first _ _ z))).represents (no-rest _ _ (no-rest _ _ z));
        }

    branch-agrees : (a : ℕ) (c : Condition) (x y u : Block) {U : State History} {W : State FactSet} → StateRepresents vars U W
        → BlockAgrees x (assumed (by_chains q) U c) (assumed store W c)
        → BlockAgrees y (assumed (by_chains q) U (negated_of c)) (assumed store W (negated_of c))
        → ((U : State History) (W : State FactSet) → StateRepresents vars U W → BlockAgrees u U W) → BlockAgrees (branch a c x y u) U W
    unfolding block_faults block_after
    branch-agrees a c x y u t i j rest =
        record {
          faults = same-also _ _ _ _ i.faults (λ z₁. same-also _ _ _ _ j.faults (λ z₂.
              same-also _ _ _ _ (same_of _ _ (ap₂ (rows_at a) (sym (i.represents z₁).rows) (sym (j.represents z₂).rows)))
              (λ z₃. (rest _ _ (meets T h w.limits q right (i.represents z₁) (j.represents z₂))).faults)));
          represents = λ z. let e = no-rest _ _ z in (rest _ _
              (meets T h w.limits q right (i.represents (no-first _ _ z)) (j.represents (no-first _ _ e)))).represents (no-rest _ _ (no-rest _ _ e));
        }

    loop-agrees : (a : ℕ) (c : Condition) (x u : Block) {U : State History} {W : State FactSet} → StateRepresents vars U W → Reads T h x
        → Sides T h c.left c.right c.offset
        → ((U : State History) (W : State FactSet) → StateRepresents vars U W → BlockAgrees x U W)
        → ((U : State History) (W : State FactSet) → StateRepresents vars U W → BlockAgrees u U W) → BlockAgrees (loop a c x u) U W
    unfolding block_faults block_after
    loop-agrees a c x u {U} {W} t r s body rest =
        let l = state-at-head T h w.limits q right t (entries_of L a) (listed a) x r in
        let i = body _ _ (state-assumed T h w.limits q right l c s) in
        record {
          faults = same-also _ _ _ _ (same_of _ _ (entries-agree T h w.limits q right (entries_of L a) (listed a) t.represents)) (λ z₀.
              same-also _ _ _ _ i.faults (λ z₁.
              same-also _ _ _ _ (same_of _ _ (entries-agree T h w.limits q right (entries_of L a) (listed a) (i.represents z₁).represents)) (λ z₂.
              same-also _ _ _ _ (same_of _ _ (ap₂ (rows_at a) (sym t.rows) (sym (i.represents z₁).rows)))
              (λ z₃. (rest _ _ (state-negated T h w.limits q right l c s)).faults))));
          represents = λ z. (rest _ _ (state-negated T h w.limits q right l c s)).represents (no-rest _ _ (no-rest _ _ (no-rest _ _ (no-rest _ _ z))));
        }

    -- The bounds of an argument are shown alike.
    fit-agrees : (r : Routine) (c : CallSite) (j : ℕ) {U : State History} {W : State FactSet} → RoutineFormed r → CallTyped T h c → StateRepresents vars U W
        → is_parameter c j ≡ true
        → bounds_fit store W.facts (declared_in store E W) r c j ≡ bounds_fit (by_chains q) U.facts (declared_in store E W) r c j
    unfolding bounds_fit
    fit-agrees r c j {U} {W} g y t p =
        let b = declared r.environment j in
        if-both (end_fits c b.lower && end_fits c b.upper) _ _
        (λ e. let k = both (end_fits c b.lower) (end_fits c b.upper) e in
        bounds-agree t.represents 0 (argument c j) (known (declared_in store E W) (argument c j)) (argument_bounds c b) (omega arith)
        (argument-below T h c y j p) (declared-fair T h w W.rows (argument c j)) (put-fair T h c y vars (omega arith) r g j k.0 k.1))

    argument-agrees : (r : Routine) (c : CallSite) (j : ℕ) {U : State History} {W : State FactSet} → RoutineFormed r → CallTyped T h c
        → StateRepresents vars U W
        → argument_fits store E W.facts (declared_in store E W) r c j ≡ argument_fits (by_chains q) E U.facts (declared_in store E W) r c j
    unfolding argument_fits
    argument-agrees r c j {U} {W} g y t =
        unless-first (is_parameter c j) _ _ (λ p. ap (λ (b : Bool). kind_fits E (argument c j) r j && (not (is_pointer r.environment j) || b))
        (fit-agrees r c j g y t p))

    arguments-agree : (r : Routine) (c : CallSite) {U : State History} {W : State FactSet} → RoutineFormed r → CallTyped T h c → StateRepresents vars U W
        → arguments_fit store E W.facts (declared_in store E W) r c ≡ arguments_fit (by_chains q) E U.facts (declared_in store E W) r c
    unfolding arguments_fit
    arguments-agree r c g y t =
        four (in_order c && last_integer r) (argument-agrees r c 0 g y t) (argument-agrees r c 1 g y t) (argument-agrees r c 2 g y t)
        (argument-agrees r c 3 g y t)

    call-faults-agree : (a : ℕ) (c : CallSite) {U : State History} {W : State FactSet} → CallTyped T h c → StateRepresents vars U W
        → SameFirst (call_faults store callees E a c W.facts (declared_in store E W)) (call_faults (by_chains q) callees E a c U.facts (declared_in store E W))
    unfolding call_faults
    call-faults-agree a c y t =
        same-also _ _ _ _ (same_self (when (not (ltb c.callee (length callees))) (Callee a)))
        (λ z. let l = ltb-true c.callee (length callees) (not-false _ (passed _ _ z)) in
        same_of _ _ (ap (λ (b : Bool). when (not b) (Arguments a)) (arguments-agree (routine_at callees c.callee) c (formed c.callee l) y t)))

    call-agrees : (a : ℕ) (c : CallSite) (r : Block) {U : State History} {W : State FactSet} → CallTyped T h c → StateRepresents vars U W
        → BlockAgrees r (called_state (by_chains q) c U) (called_state store c W) → BlockAgrees (call a c r) U W
    unfolding block_faults block_after
    call-agrees a c r {U} {W} y t rest =
        let k : declared_in (by_chains q) E U ≡ declared_in store E W = ap (λ (R : List ℕ). (in_force E R).declared) t.rows in
        let e : bounds_after (by_chains q) (result_effect c) (declared_in store E W) ≡ bounds_after store (result_effect c) (declared_in store E W) =
        moved-agree 0 (result_effect c) (declared_in store E W) (omega arith) (result-fair c) (declared-fair T h w W.rows) in
        record {
          faults = same-also _ _ _ _ (rw k (call-faults-agree a c y t))
              (λ o. same-also _ _ _ _
              (bounds-fault a (unshown-agrees (state-called T h w.limits q right t c y) 1 _ (omega arith)
              (after-fair vars 0 (result_effect c) (declared_in store E W) (omega arith) (result-fair c) (declared-fair T h w W.rows))
              ∙ ap (λ (B : List Bounds). unshown_in (by_chains q) E (called_state (by_chains q) c U) B)
              (sym (ap (λ (B : List Bounds). bounds_after (by_chains q) (result_effect c) B) k ∙ e))))
              (λ u. rest.faults));
          represents = λ z. rest.represents (no-rest _ _ (no-rest _ _ z));
        }

    block-agrees : (d : ℕ) (b : Block) {U : State History} {W : State FactSet} → Shaped d b → Reads T h b → StateRepresents vars U W → BlockAgrees b U W
    unfolding block_faults block_after
    block-agrees d nil o r t = record { faults = tt; represents = λ z. t }
    block-agrees d (plain a s u) o r t =
        let y = read-typed T h a (Plain s) r.0 in
        plain-agrees a s u y t (block-agrees d u o.1 r.1 (state-after T h w.limits q right t s y))
    block-agrees d (branch a c x y u) o r t =
        let s = (read-typed T h a (If c (size x) (size y)) r.0).condition.sides in
        branch-agrees a c x y u t (block-agrees (d + 1) x o.1 r.1 (state-assumed T h w.limits q right t c s))
        (block-agrees (d + 1) y o.2 r.2 (state-negated T h w.limits q right t c s)) (λ U W t'. block-agrees d u o.3 r.3 t')
    block-agrees d (loop a c x u) o r t =
        loop-agrees a c x u t r.1 (read-typed T h a (While c (size x)) r.0).condition.sides (λ U W t'. block-agrees (d + 1) x o.1 r.1 t')
        (λ U W t'. block-agrees d u o.2 r.2 t')
    block-agrees d (bundle a ss u) {U} {W} o r t =
        bundle-agrees a ss u o.2 (line-agrees 0 (a + 1) ss (declared_in store E W) (omega (arith, o.2)) r.1 (declared-fair T h w W.rows) t) t
        (λ t'. block-agrees d u o.3 r.2 t')
    block-agrees d (call a c u) o r t =
        let y = read-typed T h a (Call c) r.0 in
        call-agrees a c u y t (block-agrees d u o.1 r.1 (state-called T h w.limits q right t c y))
    block-agrees d (unread a) o r t = absurd o

-- ---- the whole table

section-agrees : (callees : List Routine) → AllFormed callees → (T : List ℤ) (h : Sections) (w : Formed T h) (L : List ℤ) (q : Decider)
    → Decides (variables T h w.limits) q
    → SameFirst (section_faults store callees T h L) (section_faults (by_chains q) callees T h L)
unfolding section_faults
section-agrees callees g T h w L q right =
    same-also _ _ _ _ (same_self (layout T h))
    (λ z. same-also _ _ _ _ (same_self (list_faults T h L)) (λ y.
    let l = table-laid T h z in
    (block-agrees T h w q right L (entries-right T h w.limits L y) callees g 0 (tree T h) l.formed l.reads
    (new-represented (variables T h w.limits) q)).faults))

pub faults-agree : (callees : List Routine) → AllFormed callees → (T L : List ℤ) (q : Decider) → DecidesTable T q
    → SameFirst (faults store callees T L) (faults (by_chains q) callees T L)
unfolding faults
faults-agree callees g T L q d = go (form_of T) refl
  where
    go : (f : Result Sections Refusal) → form_of T ≡ f → SameFirst (form_faults store callees T L f) (form_faults (by_chains q) callees T L f)
    go (Err r) e = refl
    go (Ok h) e = let w = well-formed T h e in section-agrees callees g T h w L q (d h w.limits e)

pub verdict-agrees : (callees : List Routine) → AllFormed callees → (T L : List ℤ) (q : Decider) → DecidesTable T q
    → verdict_of (faults store callees T L) ≡ verdict_of (faults (by_chains q) callees T L)
verdict-agrees callees g T L q d = same-verdict (faults store callees T L) (faults (by_chains q) callees T L) (faults-agree callees g T L q d)
