-- Laws of the facts after conditions and statements, as the code meets them.
use Rattle.std.specs.Prelude.{ℕ, zero, suc, ◌+◌, ◌-◌, ◌%◌, ◌≡◌, Bool, true, false, not, ◌&&◌, ◌||◌, List, ◌≢◌, leb, eqb, ℤ, Some}
use Rattle.std.proofs.Math.Path.{refl, ap}
use Rattle.std.proofs.Common.{ap₂, ◌∙◌}
use Rattle.std.proofs.Math.Bool.{cond}
use native.Mathlib.Omega.{arith}
use borrow.Author.Tests.{leb-true, leb-false, le-leb, lt-leb, eqb-true, eqb-false, eq-eqb, ne_eqb}
use Rattle.sums.specs.Numbers.{bias, zero_var}
use Rattle.sums.specs.Sums.{room_above}
use Rattle.facts.specs.Store.{shown, in_range, no_answers, answered, added, added_fact, changed, dropped, shifted}
use Rattle.changes.specs.declared.Fact.{Fact}
use Rattle.changes.specs.declared.Answers.{Answers}
use Rattle.changes.specs.declared.Questions.{Questions}
use Rattle.facts.specs.declared.FactSet.{FactSet}
use Rattle.words.specs.declared.sections.Sections.{Sections}
use Rattle.words.specs.Sections.{Limits}
use Rattle.conditions.specs.ConditionLaws.{offset-small}
use Rattle.conditions.specs.Conditions.{negation, negated_of}
use Rattle.conditions.specs.declared.Condition.{Condition}
use Rattle.changes.specs.declared.Change.{Change}
use Rattle.statements.specs.declared.Simple.{Simple}
use Rattle.statements.specs.declared.Simple.TheVariants.{Literal, AddConstant, Arithmetic, Null, Address}
use Rattle.statements.specs.declared.Simple.TheVariants.{PointerOffset, PointerIndex, Load, Store, Check, Declare}
use Rattle.statements.specs.declared.Statement.TheVariants.{Plain}
use Rattle.statements.specs.Statements.{statement_at}
use Rattle.statements.specs.Typed.{SimpleTyped}
use Rattle.statements.specs.StatementLaws.{read-typed, read-limits}
use Rattle.rules.specs.Stored.{equated, positive, differs, relation_facts, condition_facts, sum_facts, offset_facts, facts_after, effect}
use Rattle.rules.specs.Ranges.{InRange}
use Rattle.effects.specs.declared.Plan.{Plan}
use Rattle.effects.specs.Asked.{sum_asked, condition_asked, statement_asked}
use Rattle.effects.specs.Applied.{Applied, with_spans, applied, condition_given, sum_fits, planned, Adds, Assumes, Plans}
use Rattle.rules.specs.declared.Effect.{Effect}
use Rattle.rules.specs.declared.Effect.TheVariants.{Keep, Forget, Shift, Copy}
use Rattle.rules.specs.declared.Environment.{Environment}
use Rattle.rules.specs.FactRules as fact_rules
use Rattle.rules.specs.BoundsRules as bounds_rules

-- ---- conditions

other-relation : (r : ℕ) → r ≢ 0 → r ≢ 1 → r ≢ 2 → r ≢ 3 → r ≢ 4 → leb 5 r ≡ true
other-relation zero a b c d e = absurd (a refl)
other-relation (suc zero) a b c d e = absurd (b refl)
other-relation (suc (suc zero)) a b c d e = absurd (c refl)
other-relation (suc (suc (suc zero))) a b c d e = absurd (d refl)
other-relation (suc (suc (suc (suc zero)))) a b c d e = absurd (e refl)
other-relation (suc (suc (suc (suc (suc r))))) a b c d e = le-leb 5 (suc (suc (suc (suc (suc r))))) (omega arith)

abbrev by : FactSet → Condition → ℕ → FactSet
by f c r = relation_facts r f c.left c.right c.offset

module _ (a : Answers) (f : FactSet) (c : Condition) {g : FactSet} where
  from : (r : ℕ) → leb 5 r ≡ false → c.relation ≡ r → g ≡ by f c r → g ≡ condition_given a f c
  unfolding condition_given fact_rules.condition_facts
  from r l p e = rw (p, l) e

  pub condition-less : c.relation ≡ 0 → g ≡ added f c.left c.right (bias + c.offset - 1) → g ≡ condition_given a f c
  unfolding fact_rules.relation_facts
  condition-less p e = from 0 refl p e

  pub condition-not-less : c.relation ≡ 1 → g ≡ added f c.right c.left (bias - c.offset) → g ≡ condition_given a f c
  unfolding fact_rules.relation_facts
  condition-not-less p e = from 1 refl p e

  pub condition-greater : c.relation ≡ 2 → g ≡ added f c.right c.left (bias - c.offset - 1) → g ≡ condition_given a f c
  unfolding fact_rules.relation_facts
  condition-greater p e = from 2 refl p e

  pub condition-not-greater : c.relation ≡ 3 → g ≡ added f c.left c.right (bias + c.offset) → g ≡ condition_given a f c
  unfolding fact_rules.relation_facts
  condition-not-greater p e = from 3 refl p e

  pub condition-equal : {h : FactSet} → c.relation ≡ 4 → h ≡ added f c.left c.right (bias + c.offset)
      → g ≡ added h c.right c.left (bias - c.offset)
      → g ≡ condition_given a f c
  unfolding fact_rules.relation_facts fact_rules.equated
  condition-equal {h} p d e =
      let q : bias - c.offset ≡ bias + bias - (bias + c.offset) = omega arith in
      from 4 refl p (e ∙ (ap (λ (i : FactSet). added i c.right c.left (bias - c.offset)) d
      ∙ ap (added (added f c.left c.right (bias + c.offset)) c.right c.left) q))

  module _ (n₀ : c.relation ≢ 0) (n₁ : c.relation ≢ 1) (n₂ : c.relation ≢ 2) (n₃ : c.relation ≢ 3) (n₄ : c.relation ≢ 4) where
    -- left != right + offset: each of the two facts is one more where the answer says so.
    pub condition-differs : (first second : Fact) → Adds first (λ i. cond a.there (added i c.left c.right (bias + c.offset - 1)) i)
        → Adds second (λ i. cond a.back (added i c.right c.left (bias - c.offset - 1)) i)
        → g ≡ added_fact (added_fact f first) second → g ≡ condition_given a f c
    unfolding condition_given fact_rules.differs
    condition-differs first second p q e =
        rw (other-relation c.relation n₀ n₁ n₂ n₃ n₄)
        (e ∙ (q (added_fact f first) ∙ ap (λ (i : FactSet). cond a.back (added i c.right c.left (bias - c.offset - 1)) i) (p f)))

-- A fact besides, where an answer says so.
module _ (f : FactSet) (x y k : ℕ) {b : Bool} where
  pub added-where : b ≡ true → added f x y k ≡ cond b (added f x y k) f
  added-where e = rw e

  pub left-where : b ≡ false → f ≡ cond b (added f x y k) f
  left-where e = rw e

-- ---- x := y + k and p := q + k

-- p := q + k gives p >= 1 unless k is 0.
module _ (f : FactSet) (p k : ℕ) where
  pub plain-kept : k ≡ bias → f ≡ cond (eqb k bias) f (positive f p)
  plain-kept e = rw (eq-eqb k bias e)

  pub positive-added : k ≢ bias → added f zero_var p (bias - 1) ≡ cond (eqb k bias) f (positive f p)
  unfolding fact_rules.positive
  positive-added n = rw (ne_eqb k bias n)

abbrev pub applied_of : FactSet → Effect → Applied
applied_of f e = record { facts = f; effect = e }

-- Whether the sum is in range, by the answers.
sum-answered : (f : FactSet) (y k : ℕ) {a : Answers} → a ≡ answered f (sum_asked y k) → sum_fits a k ≡ in_range f y k
sum-answered f y k {a} e = go (eqb k bias) (shown f zero_var y k) e
  where
    go : (b s : Bool) → a ≡ cond (not b) (record { there = s; back = cond (true && not s) false (shown f y zero_var (room_above k)) }) no_answers
        → (b || a.there && a.back) ≡ (b || s && shown f y zero_var (room_above k))
    go true s i = refl
    go false true i = ap₂ (λ (s t : Bool). s && t) (ap (λ (x : Answers). x.there) i) (ap (λ (x : Answers). x.back) i)
    go false false i = ap (λ (x : Answers). x.there && x.back) i

module _ (a : Answers) (sizes spans : List ℕ) (f : FactSet) (x y k : ℕ) {g : FactSet} where
  pub sum-dropped : sum_fits a k ≡ false → g ≡ dropped f x → applied_of g (Forget x) ≡ planned a sizes spans f (AddConstant x y k)
  unfolding planned fact_rules.sum_facts
  sum-dropped r e = rw (r, e)

  pub sum_shifted : sum_fits a k ≡ true → x ≡ y → g ≡ shifted f x k → applied_of g (Shift x k) ≡ planned a sizes spans f (AddConstant x y k)
  unfolding planned fact_rules.sum_facts
  sum_shifted r p e = rw (r, eq-eqb x y p, e)

  pub sum-equated : sum_fits a k ≡ true → x ≢ y → g ≡ equated (dropped f x) x y k → applied_of g (Forget x) ≡ planned a sizes spans f (AddConstant x y k)
  unfolding planned fact_rules.sum_facts
  sum-equated r n e = rw (r, ne_eqb x y n, e)

module _ (sizes spans : List ℕ) (f : FactSet) (p q k : ℕ) {g : FactSet} where
  pub offset-shifted : p ≡ q → g ≡ cond (eqb k bias) (shifted f p k) (positive (shifted f p k) p)
      → applied_of g (Shift p k) ≡ applied sizes spans f (PointerOffset p q k)
  unfolding applied fact_rules.facts_after fact_rules.offset_facts bounds_rules.effect
  offset-shifted s e = rw (eq-eqb p q s, e)

  pub offset-copied : p ≢ q → g ≡ cond (eqb k bias) (equated (dropped f p) p q k) (positive (equated (dropped f p) p q k) p)
      → applied_of g (Copy p q) ≡ applied sizes spans f (PointerOffset p q k)
  unfolding applied fact_rules.facts_after fact_rules.offset_facts bounds_rules.effect
  offset-copied n e = rw (ne_eqb p q n, e)

-- ---- a plan that is carried out

-- What a relation gives by the facts' own answers is what it gives.
given-relation : (r : ℕ) (f : FactSet) (x y k : ℕ) {a : Answers}
    → a ≡ answered f (record { asked = leb 4 r; chained = false; x = x; y = y; there = bias + k; back = bias - k })
    → cond (leb 5 r) (differs a.there a.back f x y k) (relation_facts r f x y k) ≡ relation_facts r f x y k
unfolding fact_rules.relation_facts
given-relation zero f x y k e = refl
given-relation (suc zero) f x y k e = refl
given-relation (suc (suc zero)) f x y k e = refl
given-relation (suc (suc (suc zero))) f x y k e = refl
given-relation (suc (suc (suc (suc zero)))) f x y k e = refl
given-relation (suc (suc (suc (suc (suc r))))) f x y k {a} e =
    let w : a ≡ record { there = shown f x y (bias + k); back = shown f y x (bias - k) } = rw (le-leb 4 (suc (suc (suc (suc (suc r))))) (omega arith)) at e in
    rw (le-leb 5 (suc (suc (suc (suc (suc r))))) (omega arith))
    (ap₂ (λ (s t : Bool). differs s t f x y k) (ap (λ (i : Answers). i.there) w) (ap (λ (i : Answers). i.back) w))

given-facts : (f : FactSet) (c : Condition) {a : Answers} → a ≡ answered f (condition_asked c) → condition_given a f c ≡ condition_facts f c
unfolding condition_given fact_rules.condition_facts
given-facts f c e = given-relation c.relation f c.left c.right c.offset e

-- What is planned for the facts' own answers is what is applied.
planned-applied : (sizes spans : List ℕ) (f : FactSet) (s : Simple) {a : Answers} → a ≡ answered f (statement_asked s)
    → planned a sizes spans f s ≡ applied sizes spans f s
unfolding planned applied fact_rules.facts_after bounds_rules.effect
planned-applied sizes spans f (Literal x k) e = refl
planned-applied sizes spans f (AddConstant x y k) e = rw (sum-answered f y k e)
planned-applied sizes spans f (Arithmetic x y z op) e = refl
planned-applied sizes spans f (Null p) e = refl
planned-applied sizes spans f (Address p o) e = refl
planned-applied sizes spans f (PointerOffset p q k) e = refl
planned-applied sizes spans f (PointerIndex p q i) e = refl
planned-applied sizes spans f (Load x p i k) e = refl
planned-applied sizes spans f (Store p i k x) e = refl
planned-applied sizes spans f (Check c) e = ap (λ (g : FactSet). applied_of g Keep) (given-facts f c e)
planned-applied sizes spans f (Declare p r) e = refl

-- Where the questions were asked, the plan made for the answers, and the change made, the facts and the effect are the statement's.
pub carried-out : (sizes spans : List ℕ) (f : FactSet) (s : Simple) (r : Plan) {g : FactSet} {q : Questions} {a : Answers} → q ≡ statement_asked s
    → a ≡ answered f q → Plans sizes spans s a r → g ≡ changed f r.change → applied_of g r.effect ≡ applied sizes spans f s
carried-out sizes spans f s r b w p e = ap (λ (i : FactSet). applied_of i r.effect) e ∙ (p f ∙ planned-applied sizes spans f s (w ∙ ap (answered f) b))

-- The same of a condition.
pub assumed : (f : FactSet) (c : Condition) (r : Change) {g : FactSet} {q : Questions} {a : Answers} → q ≡ condition_asked c → a ≡ answered f q → Assumes c a r
    → g ≡ changed f r
    → g ≡ condition_facts f c
assumed f c r b w p e = e ∙ (p f ∙ given-facts f c (w ∙ ap (answered f) b))

-- A negated condition asks the same.
negation-asks : (r : ℕ) → leb 4 (negation r) ≡ leb 4 r
unfolding negation
negation-asks r = go (eqb (r % 2) 0) refl (leb 4 r) refl
  where
    go : (e : Bool) → eqb (r % 2) 0 ≡ e → (b : Bool) → leb 4 r ≡ b → leb 4 (cond e (r + 1) (r - 1)) ≡ b
    go true e true b = le-leb 4 (r + 1) (omega (arith, leb-true 4 r b))
    go true e false b = lt-leb 4 (r + 1) (omega (arith, leb-false 4 r b, eqb-true (r % 2) 0 e))
    go false e true b = le-leb 4 (r - 1) (omega (arith, leb-true 4 r b, eqb-false (r % 2) 0 e))
    go false e false b = lt-leb 4 (r - 1) (omega (arith, leb-false 4 r b))

pub negated-asked : (c d : Condition) {q : Questions} → d ≡ negated_of c → q ≡ condition_asked c → q ≡ condition_asked d
unfolding negated_of
negated-asked c d e b = rw (e, negation-asks c.relation) b

-- ---- statements that were read

simple-ranged : (T : List ℤ) (h : Sections) → Limits h → (s : Simple) → SimpleTyped T h s → InRange s
simple-ranged T h l (Literal x k) t = omega (arith, t.value)
simple-ranged T h l (AddConstant x y k) t = (omega (arith, t.constant.high), omega (arith, t.source.below, l.variables))
simple-ranged T h l (Arithmetic x y z op) t = tt
simple-ranged T h l (Null p) t = tt
simple-ranged T h l (Address p o) t = tt
simple-ranged T h l (PointerOffset p q k) t = (omega (arith, t.constant.high), omega (arith, t.source.below, l.variables))
simple-ranged T h l (PointerIndex p q i) t = omega (arith, t.source.below, l.variables)
simple-ranged T h l (Load x p i k) t = omega (arith, t.constant.high)
simple-ranged T h l (Store p i k x) t = omega (arith, t.constant.high)
simple-ranged T h l (Check c) t = offset-small t
simple-ranged T h l (Declare p r) t = tt

module _ (T : List ℤ) (h : Sections) (a : ℕ) where
  pub read-ranged : (s : Simple) → statement_at T h a ≡ Some (Plain s) → InRange s
  read-ranged s e = simple-ranged T h (read-limits T h a (Plain s) e).0 s (read-typed T h a (Plain s) e)

-- An effect depends only on the sizes and spans of the environment.
pub effect-spans : (E : Environment) (f : FactSet) (s : Simple) → effect (with_spans E.sizes E.spans) f s ≡ effect E f s
unfolding bounds_rules.effect
effect-spans E f (Literal x k) = refl
effect-spans E f (AddConstant x y k) = refl
effect-spans E f (Arithmetic x y z op) = refl
effect-spans E f (Null p) = refl
effect-spans E f (Address p o) = refl
effect-spans E f (PointerOffset p q k) = refl
effect-spans E f (PointerIndex p q i) = refl
effect-spans E f (Load x p i k) = refl
effect-spans E f (Store p i k x) = refl
effect-spans E f (Check c) = refl
effect-spans E f (Declare p r) = refl
