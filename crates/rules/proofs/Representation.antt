-- Each rule does to the store what it tells of the paper's facts: the fact set of the store is made by the history that the rule tells, and its operations are
-- legal.
use Prim.Native.Nat.{ℕ, zero, suc, ◌+◌, ◌-◌, ◌^◌, ◌≤◌, ◌<◌}
use Rattle.std.specs.Prelude.{◌≡◌, ◌↔◌, Bool, ◌||◌, ◌&&◌, cond, ℤ}
use Rattle.std.proofs.Math.Path.{refl}
use Rattle.std.proofs.Common.{sym, ap, ap₂, ◌∙◌, inl, inr, arith}
use Rattle.std.proofs.Math.Bool.{true, false}
use Rattle.std.proofs.lemmas.Bool.{false≢true}
use mathlib.Core.List.{List, [], ◌∷◌, ◌++◌}
use borrow.Author.Tests.{eqb-true, eqb-false}
use Rattle.std.proofs.Math.Dec.{eqb}
use Rattle.sums.specs.Numbers.{bias, max_value, zero_var}
use Rattle.sums.specs.Sums.{room_above}
use Rattle.arrays.specs.TabulateLaws.{get_d_tabulate}
use Rattle.facts.specs.Store.{shown, end_shown, new_set, added, dropped, ranged, shifted, joined}
use Rattle.chains.specs.Facts.{Variables, Node, Comparable, same_kind, from_zero, to-zero, Known, empty, EndShown}
use Rattle.chains.proofs.Chains.{left-node, right-node}
use Rattle.chains.proofs.Exact.{Exact, end-exact}
use Rattle.chains.specs.History.{History, new, add, drop, range, shift, join, known, Legal, Slight}
use Rattle.chains.proofs.HistoryLaws.{made, exact, shows-exactly}
use Rattle.facts.specs.declared.FactSet.{FactSet}
use Rattle.words.specs.Sections.{pointer_at, Limits}
use Rattle.words.specs.NameLaws.{integer-no-pointer}
use Rattle.words.specs.SectionsLaws.{both}
use Rattle.words.specs.Typed.{IsInteger, IsPointer, IsSmall, IsIndex, missing, given}
use Rattle.words.specs.declared.sections.Sections.{Sections}
use Rattle.conditions.specs.Conditions.{negated_of}
use Rattle.conditions.specs.Typed.{Sides, integers, pointers, literal, null}
use Rattle.conditions.specs.declared.Condition.{Condition}
use Rattle.statements.specs.StatementLaws.{read-typed}
use Rattle.statements.specs.Typed.{SimpleTyped, CallTyped}
use Rattle.statements.specs.declared.CallSite.{CallSite}
use Rattle.statements.specs.declared.Simple.{Simple}
use Rattle.statements.specs.declared.Simple.TheVariants.{Literal, AddConstant, Arithmetic, Null, Address}
use Rattle.statements.specs.declared.Simple.TheVariants.{PointerOffset, PointerIndex, Load, Store, Check, Declare}
use Rattle.statements.specs.declared.Statement.TheVariants.{Plain, Call}
use Rattle.blocks.specs.Tree.{Block, nil, plain, branch, loop, bundle, call, unread, target, targets, call_target, assigned}
use Rattle.blocks.specs.Shape.{ReadsLine, Reads}
use Rattle.rules.specs.FactRules.{among, in_range, equated, positive, differs, relation_facts, condition_facts}
use Rattle.rules.specs.FactRules.{sum_facts, offset_facts, facts_after, dropped_each, loop_facts}
use Rattle.rules.specs.Calls.{result_facts}
use Rattle.rules.specs.Stored.{store}
use Rattle.rules.specs.ByChains.{Decider, Decides, by_chains, variables}
use Rattle.rules.specs.Verdict.{environment_of}

-- Two tests of one sentence.
same_test : (a b : Bool) {X : Type 0} → (a ≡ true) ↔ X → (b ≡ true) ↔ X → a ≡ b
same_test true true p q = refl
same_test true false p q = sym (q.1 (p.0 refl))
same_test false true p q = p.1 (q.0 refl)
same_test false false p q = refl

-- The same end is at most itself, by two empty chains.
same-end : {K : Known} (z p n k r m j : ℕ) (b : Bool) → (b ≡ true) ↔ EndShown K z p n k r m j
    → ((eqb p r && eqb n m && eqb k j || b) ≡ true) ↔ EndShown K z p n k r m j
same-end {K} z p n k r m j b i = ((λ s. from (eqb p r && eqb n m && eqb k j) refl s), (λ s. back (eqb p r && eqb n m && eqb k j) (i.1 s)))
  where
    same : (eqb p r && eqb n m && eqb k j) ≡ true → EndShown K z p n k r m j
    same s =
        let a = both (eqb p r && eqb n m) (eqb k j) s in
        let c = both (eqb p r) (eqb n m) a.0 in
        let e₁ : p ≡ r = eqb-true p r c.0 in
        let e₂ : n ≡ m = eqb-true n m c.1 in
        let e₃ : k ≡ j = eqb-true k j a.1 in
        rw (e₁, e₂) (record { up₁ = 0; down₁ = 0; first = empty; up₂ = 0; down₂ = 0; second = empty; within = omega arith })

    from : (x : Bool) → (eqb p r && eqb n m && eqb k j) ≡ x → (x || b) ≡ true → EndShown K z p n k r m j
    from true e s = same e
    from false e s = i.0 s

    back : (x : Bool) → b ≡ true → (x || b) ≡ true
    back true s = refl
    back false s = s

-- The fact set f is what the operations of the history make, and these are legal.
pub record Represents (vars : Variables) (H : History) (f : FactSet) : Type 0 where
  pub legal : Legal vars H
  pub same : made vars.pointer H ≡ f

module _ (vars : Variables) where
  represents-exact : {H : History} {f : FactSet} → Represents vars H f → Exact vars f (known vars H)
  represents-exact {H} t = let e = t.same in rw e at (exact vars H t.legal)

  pub represents-new : Represents vars new new_set
  represents-new = record { legal = tt; same = refl }

  pub represents-cond : (b : Bool) {H G : History} {f g : FactSet} → Represents vars H f → Represents vars G g → Represents vars (cond b H G) (cond b f g)
  represents-cond true t u = t
  represents-cond false t u = u

  pub represents-join : {H G : History} {f g : FactSet} → Represents vars H f → Represents vars G g → Represents vars (join H G) (joined vars.pointer f g)
  represents-join {H} {G} {f} {g} t u = record { legal = (t.legal, u.legal); same = ap₂ (joined vars.pointer) t.same u.same }

  module _ {H : History} {f : FactSet} (t : Represents vars H f) where
    pub represents-add : (x y k : ℕ) → Comparable vars x y → Represents vars (add H x y k) (added f x y k)
    represents-add x y k r = record { legal = (t.legal, r); same = ap (λ (s : FactSet). added s x y k) t.same }

    represents-shift : (x k : ℕ) → x < vars.count → Slight k → Represents vars (shift H x k) (shifted f x k)
    represents-shift x k h s = record { legal = (t.legal, h, s); same = ap (λ (s : FactSet). shifted s x k) t.same }

    represents-drop : (x : ℕ) → x < vars.count → Represents vars (drop H x) (dropped f x)
    represents-drop x h = record { legal = (t.legal, h); same = ap (λ (s : FactSet). dropped s x) t.same }

    represents-range : (x bottom top : ℕ) → x < vars.count → bottom ≤ top → top ≤ max_value → Represents vars (range H x bottom top) (ranged f x bottom top)
    represents-range x bottom top h l m = record { legal = (t.legal, h, l, m); same = ap (λ (s : FactSet). ranged s x bottom top) t.same }

  -- ---- the rules over the paper's facts

  module _ (q : Decider) (right : Decides vars q) where
    -- What is asked.
    module _ {H : History} {f : FactSet} (t : Represents vars H f) where
      pub shown-represented : (x y k : ℕ) → Node vars x → Node vars y → shown f x y k ≡ q.shown H x y k
      shown-represented x y k hx hy =
          let e = t.same in
          rw e at (same_test (shown (made vars.pointer H) x y k) (q.shown H x y k) (shows-exactly vars H t.legal x y k hx hy)
          (right.shown H t.legal x y k hx hy))

      pub end-represented : (z p n k r m j : ℕ) → z ≤ 8 → Node vars p → Node vars n → Node vars r → Node vars m → k < 2 ^ 40 → j < 2 ^ 40
          → store.end_shown f z p n k r m j ≡ q.end_shown H z p n k r m j
      end-represented z p n k r m j hz hp hn hr hm l i =
          same_test (store.end_shown f z p n k r m j) (q.end_shown H z p n k r m j)
          (same-end z p n k r m j (end_shown f z p n k r m j) (end-exact vars f (known vars H) (represents-exact t) z p n k r m j hz hp hn hr hm l i))
          (right.end_shown H t.legal z p n k r m j hp hn hr hm)

      pub range-represented : (y k : ℕ) → Node vars y → in_range store f y k ≡ in_range (by_chains q) H y k
      range-represented y k h =
          ap₂ (λ (a b : Bool). eqb k bias || a && b) (shown-represented zero_var y k (inl refl) h) (shown-represented y zero_var (room_above k) h (inl refl))

    -- x = y + k
    represents-equated : {H : History} {f : FactSet} → Represents vars H f → (x y k : ℕ) → Comparable vars x y → Comparable vars y x
        → Represents vars (equated (by_chains q) H x y k) (equated store f x y k)
    unfolding equated
    represents-equated t x y k r s = represents-add (represents-add t x y k r) y x (bias + bias - k) s

    represents-positive : {H : History} {f : FactSet} → Represents vars H f → (x : ℕ) → x < vars.count
        → Represents vars (positive (by_chains q) H x) (positive store f x)
    unfolding positive
    represents-positive t x h = represents-add t zero_var x (bias - 1) (from_zero h)

    -- A condition between x and y.
    module _ {H : History} {f : FactSet} (t : Represents vars H f) (x y k : ℕ) (r : Comparable vars x y) (s : Comparable vars y x) where
      represents-differs : (below above : Bool) → Represents vars (differs (by_chains q) below above H x y k) (differs store below above f x y k)
      unfolding differs
      represents-differs below above =
          let lower = represents-cond below (represents-add t x y (bias + k - 1) r) t in
          represents-cond above (represents-add lower y x (bias - k - 1) s) lower

      represents-relation : (n : ℕ) → Represents vars (relation_facts (by_chains q) n H x y k) (relation_facts store n f x y k)
      unfolding relation_facts
      represents-relation zero = represents-add t x y (bias + k - 1) r
      represents-relation (suc zero) = represents-add t y x (bias - k) s
      represents-relation (suc (suc zero)) = represents-add t y x (bias - k - 1) s
      represents-relation (suc (suc (suc zero))) = represents-add t x y (bias + k) r
      represents-relation (suc (suc (suc (suc zero)))) = represents-equated t x y (bias + k) r s
      represents-relation (suc (suc (suc (suc (suc n))))) =
          let e₁ : shown f x y (bias + k) ≡ q.shown H x y (bias + k) = shown-represented t x y (bias + k) (left-node vars r) (right-node vars r) in
          let e₂ : shown f y x (bias - k) ≡ q.shown H y x (bias - k) = shown-represented t y x (bias - k) (left-node vars s) (right-node vars s) in
          rw (← e₁, ← e₂) (represents-differs (shown f x y (bias + k)) (shown f y x (bias - k)))

    -- Variables dropped before a loop.
    represents-dropped : (b : Bool) {H : History} {f : FactSet} (n : ℕ) → (b ≡ true → n < vars.count) → Represents vars H f
        → Represents vars (cond b (drop H n) H) (cond b (dropped f n) f)
    represents-dropped true n h t = represents-drop t n (h refl)
    represents-dropped false n h t = t

    represents-each : (n : ℕ) (lost : ℕ → Bool) {H : History} {f : FactSet} → ((v : ℕ) → lost v ≡ true → v < vars.count) → Represents vars H f
        → Represents vars (dropped_each (by_chains q) n lost H) (dropped_each store n lost f)
    unfolding dropped_each
    represents-each zero lost h t = t
    represents-each (suc n) lost h t = represents-dropped (lost n) n (h n) (represents-each n lost h t)

    represents-loop : {H : History} {f : FactSet} (xs : List ℕ) → ((v : ℕ) → among v xs ≡ true → v < vars.count) → Represents vars H f
        → Represents vars (loop_facts (by_chains q) xs H) (loop_facts store xs f)
    unfolding loop_facts
    represents-loop xs h t = represents-each 16 (λ v. among v xs) h t

-- ---- the variables of a table

module _ (T : List ℤ) (h : Sections) (w : Limits h) where
  abbrev vars : Variables
  vars = variables T h w

  kind-of : (v : ℕ) → v < h.variables → vars.pointer v ≡ pointer_at T h v
  unfolding environment_of
  kind-of v b = get_d_tabulate 17 (pointer_at T h) v false (omega (arith, w.variables))

  pointer-kind : {v : ℕ} → IsPointer T h v → vars.pointer v ≡ true
  pointer-kind {v} p = kind-of v p.below ∙ p.kind

  integer-kind : {v : ℕ} → IsInteger T h v → vars.pointer v ≡ false
  integer-kind {v} p = kind-of v p.below ∙ integer-no-pointer T h v p.kind

  pub two-integers : {x y : ℕ} → IsInteger T h x → IsInteger T h y → Comparable vars x y
  two-integers a b = same_kind a.below b.below (integer-kind a ∙ sym (integer-kind b))

  pub two-pointers : {x y : ℕ} → IsPointer T h x → IsPointer T h y → Comparable vars x y
  two-pointers a b = same_kind a.below b.below (pointer-kind a ∙ sym (pointer-kind b))

  slight : {k : ℕ} → IsSmall k → Slight k
  slight s = record { floor = omega (arith, s.low); ceiling = omega (arith, s.high) }

  -- ---- conditions and statements

  record Compared (x y : ℕ) : Type 0 where
    there : Comparable vars x y
    back : Comparable vars y x

  zero-compared : {x y : ℕ} → x < h.variables → y ≡ zero_var → Compared x y
  zero-compared l e = rw e (record { there = to-zero l; back = from_zero l })

  compared : {x y k : ℕ} → Sides T h x y k → Compared x y
  compared (integers a b e) = record { there = two-integers a b; back = two-integers b a }
  compared (pointers a b e) = record { there = two-pointers a b; back = two-pointers b a }
  compared (literal a b e) = zero-compared a.below b
  compared (null a b e) = zero-compared a.below b

  -- ---- the targets of a loop's body are variables

  both_below : {v : ℕ} (xs ys : List ℕ) → (among v xs ≡ true → v < h.variables) → (among v ys ≡ true → v < h.variables) → among v (xs ++ ys) ≡ true
      → v < h.variables
  unfolding among
  both_below [] ys p q e = q e
  both_below {v} (x ∷ xs) ys p q e = go (eqb v x) p e (λ k. both_below xs ys k q)
    where
      go : (b : Bool) → ((b || among v xs) ≡ true → v < h.variables) → (b || among v (xs ++ ys)) ≡ true
          → ((among v xs ≡ true → v < h.variables) → among v (xs ++ ys) ≡ true → v < h.variables) → v < h.variables
      go true p e ih = p refl
      go false p e ih = ih p e

  one : {v x : ℕ} → x < h.variables → among v (x ∷ []) ≡ true → v < h.variables
  unfolding among
  one {v} {x} l e = go (eqb v x) refl e
    where
      go : (b : Bool) → eqb v x ≡ b → (b || false) ≡ true → v < h.variables
      go true q e = omega (arith, eqb-true v x q)
      go false q e = absurd (false≢true e)

  none : {v : ℕ} → among v [] ≡ true → v < h.variables
  unfolding among
  none e = absurd (false≢true e)

  target_below : (v : ℕ) (s : Simple) → SimpleTyped T h s → among v (target s) ≡ true → v < h.variables
  target_below v (Literal x k) s e = one s.target.below e
  target_below v (AddConstant x y k) s e = one s.target.below e
  target_below v (Arithmetic x y z op) s e = one s.target.below e
  target_below v (Null p) s e = one s.below e
  target_below v (Address p o) s e = one s.target.below e
  target_below v (PointerOffset p q k) s e = one s.target.below e
  target_below v (PointerIndex p q i) s e = one s.target.below e
  target_below v (Load x p i k) s e = one s.value.below e
  target_below v (Store p i k x) s e = none e
  target_below v (Check c) s e = none e
  target_below v (Declare p r) s e = none e

  result-below : (v : ℕ) (c : CallSite) → CallTyped T h c → among v (call_target c) ≡ true → v < h.variables
  result-below v c t e = go (eqb c.result zero_var) refl e t.result
    where
      go : (b : Bool) → eqb c.result zero_var ≡ b → among v (cond b [] (c.result ∷ [])) ≡ true → IsIndex T h c.result → v < h.variables
      go true q e i = none e
      go false q e (missing m) = absurd (eqb-false _ _ q m)
      go false q e (given i) = one i.below e

  line-below : (v a : ℕ) (ss : List Simple) → ReadsLine T h a ss → among v (targets ss) ≡ true → v < h.variables
  unfolding targets
  line-below v a [] r e = none e
  line-below v a (s ∷ ss) r e =
      both_below (target s) (targets ss) (target_below v s (read-typed T h a (Plain s) r.0)) (line-below v (a + 1) ss r.1) e

  assigned-below : (v : ℕ) (b : Block) → Reads T h b → among v (assigned b) ≡ true → v < h.variables
  unfolding assigned
  assigned-below v nil r e = none e
  assigned-below v (plain a s u) r e =
      both_below (target s) (assigned u) (target_below v s (read-typed T h a (Plain s) r.0)) (assigned-below v u r.1) e
  assigned-below v (branch a c x y u) r e =
      both_below (assigned x) (assigned y ++ assigned u) (assigned-below v x r.1)
      (both_below (assigned y) (assigned u) (assigned-below v y r.2) (assigned-below v u r.3)) e
  assigned-below v (loop a c x u) r e = both_below (assigned x) (assigned u) (assigned-below v x r.1) (assigned-below v u r.2) e
  assigned-below v (bundle a ss u) r e = both_below (targets ss) (assigned u) (line-below v (a + 1) ss r.1) (assigned-below v u r.2) e
  assigned-below v (call a c u) r e =
      both_below (call_target c) (assigned u) (result-below v c (read-typed T h a (Call c) r.0)) (assigned-below v u r.1) e
  assigned-below v (unread a) r e = absurd r

  -- ---- conditions and statements

  module _ (q : Decider) (right : Decides vars q) where
    pub condition-represented : {H : History} {f : FactSet} → Represents vars H f → (c : Condition) → Sides T h c.left c.right c.offset
        → Represents vars (condition_facts (by_chains q) H c) (condition_facts store f c)
    unfolding condition_facts
    condition-represented t c s = let p = compared s in represents-relation vars q right t c.left c.right c.offset p.there p.back c.relation

    pub negated-represented : {H : History} {f : FactSet} → Represents vars H f → (c : Condition) → Sides T h c.left c.right c.offset
        → Represents vars (condition_facts (by_chains q) H (negated_of c)) (condition_facts store f (negated_of c))
    unfolding negated_of
    negated-represented t c s = condition-represented t (negated_of c) s

    pub after-represented : {H : History} {f : FactSet} → Represents vars H f → (s : Simple) → SimpleTyped T h s
        → Represents vars (facts_after (by_chains q) s H) (facts_after store s f)
    unfolding facts_after sum_facts offset_facts
    after-represented t (Literal x k) s = represents-range vars t x k k s.target.below (omega arith) (omega (arith, s.value))
    after-represented {H} {f} t (AddConstant x y k) s =
        let d = represents-drop vars t x s.target.below in
        let e : in_range store f y k ≡ in_range (by_chains q) H y k = range-represented vars q right t y k (inr s.source.below) in
        rw (← e) (represents-cond vars (in_range store f y k)
        (represents-cond vars (eqb x y) (represents-shift vars t x k s.target.below (slight s.constant))
        (represents-equated vars q right d x y k (two-integers s.target s.source) (two-integers s.source s.target)))
        d)
    after-represented t (Arithmetic x y z op) s = represents-drop vars t x s.target.below
    after-represented t (Null p) s = represents-range vars t p 0 0 s.below (omega arith) (omega arith)
    after-represented t (Address p o) s = represents-range vars t p 1 max_value s.target.below (omega arith) (omega arith)
    after-represented t (PointerOffset p r k) s =
        let moved = represents-cond vars (eqb p r) (represents-shift vars t p k s.target.below (slight s.constant))
        (represents-equated vars q right (represents-drop vars t p s.target.below) p r k (two-pointers s.target s.source)
        (two-pointers s.source s.target)) in
        represents-cond vars (eqb k bias) moved (represents-positive vars q right moved p s.target.below)
    after-represented t (PointerIndex p r i) s = represents-range vars t p 1 max_value s.target.below (omega arith) (omega arith)
    after-represented t (Load x p i k) s = represents-drop vars t x s.value.below
    after-represented t (Store p i k x) s = t
    after-represented t (Check d) s = condition-represented t d s.sides
    after-represented t (Declare p r) s = t

    pub result-represented : {H : History} {f : FactSet} → Represents vars H f → (c : CallSite) → CallTyped T h c
        → Represents vars (result_facts (by_chains q) c H) (result_facts store c f)
    unfolding result_facts
    result-represented {H} {f} t c y = go (eqb c.result zero_var) refl y.result
      where
        go : (b : Bool) → eqb c.result zero_var ≡ b → IsIndex T h c.result
            → Represents vars (cond b H (drop H c.result)) (cond b f (dropped f c.result))
        go true e i = t
        go false e (missing m) = absurd (eqb-false _ _ e m)
        go false e (given i) = represents-drop vars t c.result i.below

    pub body-represented : {H : History} {f : FactSet} → Represents vars H f → (b : Block) → Reads T h b
        → Represents vars (loop_facts (by_chains q) (assigned b) H) (loop_facts store (assigned b) f)
    body-represented t b r = represents-loop vars q right (assigned b) (λ v e. assigned-below v b r e) t
