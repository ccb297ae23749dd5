-- The walk over a block, one statement at a time, as the code meets it.
use Rattle.std.specs.Prelude.{ℕ, ◌+◌, ◌-◌, ◌^◌, ◌<◌, ◌≤◌, ◌≡◌, Bool, true, false, ℤ, length, set, get_or, Err, None, Ok, Result, Some}
use Rattle.std.proofs.Math.Path.{refl, sym, ap}
use Rattle.std.proofs.Common.{◌∙◌, ap₂, arith}
use mathlib.Core.List.{List, []}
use Rattle.facts.specs.Store.{joined, answered, changed}
use Rattle.facts.specs.declared.FactSet.{FactSet}
use Rattle.answers.specs.declared.refusals.Refusal.{Refusal}
use Rattle.answers.specs.declared.refusals.Refusal.TheVariants.{StatementRecord, RowsDiffer}
use Rattle.words.specs.declared.sections.Sections.{Sections}
use Rattle.conditions.specs.ConditionLaws.{offset-small}
use Rattle.conditions.specs.declared.Condition.{Condition}
use Rattle.conditions.specs.Conditions.{negated_of}
use Rattle.statements.specs.declared.Simple.{Simple}
use Rattle.statements.specs.declared.Simple.TheVariants.{Declare}
use Rattle.statements.specs.declared.Statement.{Statement}
use Rattle.statements.specs.declared.Statement.TheVariants.{Plain, If, While, Bundle, Call}
use Rattle.statements.specs.Statements.{statement_at}
use Rattle.statements.specs.StatementLaws.{read-typed, read-limits, read-counts-if, read-counts-while, read-counts-bundle}
use Rattle.blocks.specs.Tree.{Block, nil, unread, simples, node, parse, assigned}
use Rattle.blocks.specs.TreeLaws.{parse-none, parse-end, parse-some}
use Rattle.blocks.specs.Layout.{also, when}
use Rattle.rules.specs.FactSets.{State}
use Rattle.rules.specs.Stored.{store, facts_after, condition_facts, loop_facts, effect, unshown}
use Rattle.rules.specs.Stored.{bundle_bounds, bundle_faults, block_faults, bounds_after, called_state, call_faults}
use Rattle.rules.specs.Stored.{state_after, assumed, at_head, unshown_in, row_unshown, declared_in, bundle_after, sides_joined, block_after}
use Rattle.rules.specs.Stored.{entries_unshown, entry_facts, safe_in, access_safe}
use Rattle.listed.specs.Entries.{entries_from, entries_of, entry_count}
use Rattle.reports.specs.Reports.{marked_if}
use Rattle.rules.specs.BoundsRules.{in_force}
use Rattle.rules.specs.Rules.{bounds_at, same_rows, rows_at}
use Rattle.rules.specs.Verdict.{verdict_of}
use Rattle.rules.specs.Ranges.{InRange}
use Rattle.effects.specs.Applied.{Applied, applied, Plans}
use Rattle.effects.specs.Asked.{statement_asked}
use Rattle.effects.specs.declared.Plan.{Plan}
use Rattle.changes.specs.declared.Answers.{Answers}
use Rattle.changes.specs.declared.Questions.{Questions}
use Rattle.effects.specs.Marks.{targets_from}
use Rattle.bounds.specs.Touched.{touches, seen_as, seen_of}
use Rattle.bounds.specs.declared.touched.Seen.{Seen}
use Rattle.declared.specs.UntouchedLaws.{unnamed}
use Rattle.bundles.specs.Bundles.{line_marks, Passes, WalksBundle}
use Rattle.checker.specs.Walk.{InPlace, block_marks, Walks}
use Rattle.checker.specs.PlaceLaws.{after-plain, after_call, after-if, after-while, after-bundle, body-assigned}
use Rattle.effects.specs.FactRulesLaws.{read-ranged, applied_of, carried-out}
use Rattle.rules.specs.declared.Environment.{Environment}
use Rattle.rules.specs.declared.lookups.Rows.{Rows}
use Rattle.rules.specs.declared.Effect.{Effect}
use Rattle.rules.specs.declared.Effect.TheVariants.{Keep}
use Rattle.bundles.specs.declared.Walked.{Walked}
use Rattle.declared.specs.Shown.{declares_of, declaration}
use Rattle.declared.specs.ShownLaws.{row_named, rows_stay, seen-unshown, seen-safe}
use Rattle.declared.specs.Force.{state_of, Forced, DeclaresRow}
use Rattle.declared.specs.ForceLaws.{pass, none-refused}
use Rattle.declared.specs.declared.force.Force.{Force}
use Rattle.declared.specs.declared.force.Declared.{Declared}
use Rattle.bundles.specs.BundleLaws.{stops, ends, carry, also-assoc, applied-facts, applied-effect}
use Rattle.bundles.specs.BundleLaws.{line_faults, declare-after, declare-keeps, declare-unmarked, nothing-asked, row-limits}
use Rattle.rules.specs.Rules as walk_rules
use Rattle.rules.specs.FactRules as fact_rules
use Rattle.reports.specs.declared.Report.{Report}
use Rattle.rules.specs.RuleLaws.{same-rows}
use Rattle.rules.specs.Calls.{Routine, result_effect, result_facts}
use Rattle.declared.specs.Callee.{call_checked}
use Rattle.statements.specs.declared.CallSite.{CallSite}

-- A walk of the one block is a walk of the other.
pub record Same (E : Environment) (L : List ℤ) (rs : List Routine) (b : Block) (v : State FactSet) (M : List ℕ) (c : Block) (w : State FactSet)
    (N : List ℕ) : Type 0 where
  pub blamed : block_faults E L rs b v ≡ block_faults E L rs c w
  pub left : block_after E L b v ≡ block_after E L c w
  pub marks : block_marks E L b v M ≡ block_marks E L c w N

-- The loop's invariant: a walk of what is left, from the facts now and what is in force now, is a walk of the whole.
pub record Kept (T : List ℤ) (h : Sections) (E : Environment) (L : List ℤ) (rs : List Routine) (end allowed : ℕ) (b : Block) (w₀ : State FactSet) (M₀ : List ℕ)
    (at left : ℕ) (f : FactSet) (F : Force) (M : List ℕ) : Type 0 where
  pub same : Same E L rs b w₀ M₀ (parse left T h at end) (state_of f F.rows.each) M
  pub forced : Forced E F.rows.each F
  pub less : left ≤ allowed
  pub in_place : InPlace T h at (parse left T h at end)

pub kept-none : (T : List ℤ) (h : Sections) (E : Environment) (L : List ℤ) (rs : List Routine) (first end allowed : ℕ) (f : FactSet) (F : Force) (M : List ℕ)
    → Forced E
    F.rows.each F
    → InPlace T h first (parse allowed T h first end)
    → Kept T h E L rs end allowed (parse allowed T h first end) (state_of f F.rows.each) M first allowed f F M
kept-none T h E L rs first end allowed f F M o p = record {
  same = record
      { blamed = refl; left = refl; marks = refl };
  forced = o;
  less = omega arith;
  in_place = p;
}

nil-passes : (E : Environment) (L : List ℤ) (rs : List Routine) (b : Block) (v : State FactSet) (M : List ℕ) {w : Walked} → b ≡ nil → w.verdict ≡ Ok tt
    → state_of w.facts w.rows.each ≡ v → w.report.words ≡ M → Walks E L rs b v M w
unfolding walk_rules.block_faults walk_rules.block_after block_marks
nil-passes E L rs b v M e p q r = rw e (ends refl p q r)

-- An empty block leaves what it was given.
pub empty-walks : (E : Environment) (L : List ℤ) (rs : List Routine) (T : List ℤ) (h : Sections) (left a end : ℕ) (f : FactSet) (R : Rows) (M : Report)
    → end ≤ a
    → Walks E L rs (parse left T h a end) (state_of f R.each) M.words (record { verdict = Ok tt; facts = f; rows = R; report = M })
empty-walks E L rs T h left a end f R M z = nil-passes E L rs _ _ _ (parse-end left T h a end z) refl refl refl

-- What a walk leaves that refuses nothing.
abbrev pub settled : Walked → Walked
settled w = record { verdict = Ok tt; facts = w.facts; rows = w.rows; report = w.report }

pub settled-walks : {xs : List Refusal} {g : State FactSet} {M : List ℕ} {w : Walked} → Passes xs g M w → w.verdict ≡ Ok tt → Passes xs g M (settled w)
settled-walks p x = record { said = sym x ∙ p.said; kept = p.kept; marked = p.marked }

-- An empty list has no entries.
pub no-entries : (L : List ℤ) (a : ℕ) (f : FactSet) → length L ≤ 0 → f ≡ entry_facts (entries_of L a) f
unfolding entries_of entries_from fact_rules.entry_facts
no-entries L a f h =
    let n : entry_count L ≡ 0 = omega arith in
    ap (λ (k : ℕ). entry_facts (entries_from L a 0 k) f) (sym n)

unread-stops : (E : Environment) (L : List ℤ) (rs : List Routine) (b : Block) (v : State FactSet) (M : List ℕ) (a : ℕ) {w : Walked} → b ≡ unread a
    → w.verdict ≡ Err (StatementRecord a) → Walks E L rs b v M w
unfolding walk_rules.block_faults verdict_of
unread-stops E L rs b v M a e p = rw e (record {
  said = p;
  kept = λ q. let o : ◌≡◌ {A = ℕ} 0 1 = cc in absurd (omega arith);
  marked = λ q. let o : ◌≡◌ {A = ℕ} 0 1 = cc in absurd (omega arith);
})

module _ {T : List ℤ} {h : Sections} {E : Environment} {L : List ℤ} {rs : List Routine} {end allowed : ℕ} {b : Block} {w₀ : State FactSet} {M₀ : List ℕ}
    {at left : ℕ} {f : FactSet} {F : Force} {M : List ℕ} (k : Kept T h E L rs end allowed b w₀ M₀ at left f F M) where
  walks : {w : Walked} → Walks E L rs (parse left T h at end) (state_of f F.rows.each) M w → Walks E L rs b w₀ M₀ w
  walks p = carry k.same.blamed k.same.left k.same.marks p

  pub kept-done : {w : Walked} → left ≤ 0 → w.verdict ≡ Ok tt → w.facts ≡ f → w.rows ≡ F.rows → w.report.words ≡ M
      → Walks E L rs b w₀ M₀ w
  kept-done z p q r v = walks (nil-passes E L rs _ _ _ (parse-none left T h at end z) p (ap₂ (λ (g : FactSet) (x : Rows). state_of g x.each) q r) v)

  pub kept-end : {w : Walked} → end ≤ at → w.verdict ≡ Ok tt → w.facts ≡ f → w.rows ≡ F.rows → w.report.words ≡ M
      → Walks E L rs b w₀ M₀ w
  kept-end z p q r v = walks (nil-passes E L rs _ _ _ (parse-end left T h at end z) p (ap₂ (λ (g : FactSet) (x : Rows). state_of g x.each) q r) v)

  module _ (some : 0 < left) (within : at < end) where
    pub kept-unread : {w : Walked} → statement_at T h at ≡ None → w.verdict ≡ Err (StatementRecord at) → Walks E L rs b w₀ M₀ w
    kept-unread e p = walks (unread-stops E L rs _ _ _ at (parse-some left T h at end None some within e) p)

-- A turn of the loop, once its statement is read.
pub record Turn (T : List ℤ) (h : Sections) (E : Environment) (L : List ℤ) (rs : List Routine) (end allowed : ℕ) (b : Block) (w₀ : State FactSet) (M₀ : List ℕ)
    (at left : ℕ) (f : FactSet) (F : Force) (M : List ℕ) (s : Statement) : Type 0 where
  pub so_far : Kept T h E L rs end allowed b w₀ M₀ at left f F M
  pub some : 0 < left
  pub within : at < end
  pub read : statement_at T h at ≡ Some s

-- What a statement's faults are, by its kind.
abbrev rest : List ℤ → Sections → ℕ → ℕ → ℕ → Block
rest T h left x y = parse (left - 1) T h x y

module _ (T : List ℤ) (h : Sections) (E : Environment) (L : List ℤ) (rs : List Routine) (at left end : ℕ) (w : State FactSet) where
  abbrev at-statement : Statement → Block
  at-statement s = node true (Some s) (rest T h left) T h at end

  abbrev after_then : Condition → ℕ → State FactSet
  after_then c n = block_after E L (rest T h left (at + 1) (at + 1 + n)) (assumed w c)

  abbrev after-else : Condition → ℕ → ℕ → State FactSet
  after-else c n m = block_after E L (rest T h left (at + 1 + n) (at + 1 + n + m)) (assumed w (negated_of c))

  abbrev head-state : ℕ → State FactSet
  head-state n = at_head (entries_of L at) (assigned (rest T h left (at + 1) (at + 1 + n))) w

  abbrev kind_faults : Statement → List Refusal
  kind_faults (Plain s) =
      also (bounds_at at (row_unshown E w.facts (declared_in E w) s))
      (also (bounds_at at (unshown_in E (state_after s w) (bounds_after (effect E w.facts s) (declared_in E w))))
      (block_faults E L rs (rest T h left (at + 1) end) (state_after s w)))
  kind_faults (If c n m) =
      also (block_faults E L rs (rest T h left (at + 1) (at + 1 + n)) (assumed w c))
      (also (block_faults E L rs (rest T h left (at + 1 + n) (at + 1 + n + m)) (assumed w (negated_of c)))
      (also (rows_at at (after_then c n).rows (after-else c n m).rows)
      (block_faults E L rs (rest T h left (at + 1 + n + m) end) (sides_joined E (after_then c n) (after-else c n m)))))
  kind_faults (While c n) =
      also (entries_unshown (entries_of L at) w.facts)
      (also (block_faults E L rs (rest T h left (at + 1) (at + 1 + n)) (assumed (head-state n) c))
      (also (entries_unshown (entries_of L at) (block_after E L (rest T h left (at + 1) (at + 1 + n)) (assumed (head-state n) c)).facts)
      (also (rows_at at w.rows (block_after E L (rest T h left (at + 1) (at + 1 + n)) (assumed (head-state n) c)).rows)
      (block_faults E L rs (rest T h left (at + 1 + n) end) (assumed (head-state n) (negated_of c))))))
  kind_faults (Bundle n) =
      also (bundle_faults E (at + 1) (simples n T h (at + 1)) w (declared_in E w))
      (also (bounds_at at (unshown_in E (bundle_after (simples n T h (at + 1)) w) (bundle_bounds E (simples n T h (at + 1)) w (declared_in E w))))
      (block_faults E L rs (rest T h left (at + 1 + n) end) (bundle_after (simples n T h (at + 1)) w)))
  kind_faults (Call c) =
      also (call_faults rs E at c w.facts (declared_in E w))
      (also (bounds_at at (unshown_in E (called_state c w) (bounds_after (result_effect c) (declared_in E w))))
      (block_faults E L rs (rest T h left (at + 1) end) (called_state c w)))

  abbrev kind_after : Statement → State FactSet
  kind_after (Plain s) = block_after E L (rest T h left (at + 1) end) (state_after s w)
  kind_after (If c n m) = block_after E L (rest T h left (at + 1 + n + m) end) (sides_joined E (after_then c n) (after-else c n m))
  kind_after (While c n) = block_after E L (rest T h left (at + 1 + n) end) (assumed (head-state n) (negated_of c))
  kind_after (Bundle n) = block_after E L (rest T h left (at + 1 + n) end) (bundle_after (simples n T h (at + 1)) w)
  kind_after (Call c) = block_after E L (rest T h left (at + 1) end) (called_state c w)

  abbrev kind_marks : Statement → List ℕ → List ℕ
  kind_marks (Plain s) M = block_marks E L (rest T h left (at + 1) end) (state_after s w) (marked_if (safe_in E w s) M at)
  kind_marks (If c n m) M =
      block_marks E L (rest T h left (at + 1 + n + m) end) (sides_joined E (after_then c n) (after-else c n m))
      (block_marks E L (rest T h left (at + 1 + n) (at + 1 + n + m)) (assumed w (negated_of c))
      (block_marks E L (rest T h left (at + 1) (at + 1 + n)) (assumed w c) M))
  kind_marks (While c n) M =
      block_marks E L (rest T h left (at + 1 + n) end) (assumed (head-state n) (negated_of c))
      (block_marks E L (rest T h left (at + 1) (at + 1 + n)) (assumed (head-state n) c) M)
  kind_marks (Bundle n) M =
      block_marks E L (rest T h left (at + 1 + n) end) (bundle_after (simples n T h (at + 1)) w) (line_marks E (at + 1) (simples n T h (at + 1)) w M)
  kind_marks (Call c) M = block_marks E L (rest T h left (at + 1) end) (called_state c w) M

  marks-here : (s : Statement) (M : List ℕ) → block_marks E L (at-statement s) w M ≡ kind_marks s M
  unfolding block_marks
  marks-here (Plain s) M = refl
  marks-here (If c n m) M = refl
  marks-here (While c n) M = refl
  marks-here (Bundle n) M = refl
  marks-here (Call c) M = refl

  faults-here : (s : Statement) → block_faults E L rs (at-statement s) w ≡ kind_faults s
  unfolding walk_rules.block_faults
  faults-here (Plain s) = refl
  faults-here (If c n m) = refl
  faults-here (While c n) = refl
  faults-here (Bundle n) = refl
  faults-here (Call c) = refl

  after-here : (s : Statement) → block_after E L (at-statement s) w ≡ kind_after s
  unfolding walk_rules.block_after
  after-here (Plain s) = refl
  after-here (If c n m) = refl
  after-here (While c n) = refl
  after-here (Bundle n) = refl
  after-here (Call c) = refl

-- 13, where the rows are not the same, and nothing where they are.
rows-refused : (a : ℕ) (R Q : List ℕ) → same_rows R Q ≡ false → Err (RowsDiffer a) ≡ verdict_of (rows_at a R Q)
unfolding rows_at when verdict_of
rows-refused a R Q e = rw e refl

rows-clear : (a : ℕ) (R Q : List ℕ) → same_rows R Q ≡ true → rows_at a R Q ≡ []
unfolding rows_at when
rows-clear a R Q e = rw e refl

-- What is in force stays where the rows do; else it is made anew.
pub same-force : {E : Environment} {F : Force} {R : List ℕ} {b : Bool} → Forced E F.rows.each F → b ≡ same_rows F.rows.each R → b ≡ true → Forced E R F
same-force {E} {F} {R} o e t =
    let q : F.rows.each ≡ R = same-rows F.rows.each R (sym e ∙ t) in
    record { rows = q; seen = o.seen ∙ ap (λ (x : List ℕ). seen_of (in_force E x)) q; named = o.named }

pub forced-own : {E : Environment} {F : Force} {R : List ℕ} → Forced E R F → Forced E F.rows.each F
forced-own {E} {F} o = record { rows = refl; seen = o.seen ∙ ap (λ (x : List ℕ). seen_of (in_force E x)) (sym o.rows); named = o.named }

-- A statement carried out from facts that are those before it.
pub carried_from : {h f : FactSet} → h ≡ f → (sizes spans : List ℕ) (s : Simple) (r : Plan) {g : FactSet} {q : Questions} {a : Answers}
    → q ≡ statement_asked s → a ≡ answered h q → Plans sizes spans s a r → g ≡ changed h r.change → applied_of g r.effect ≡ applied sizes spans f s
carried_from {h} same sizes spans s r b w p e = carried-out sizes spans h s r b w p e ∙ ap (λ (x : FactSet). applied sizes spans x s) same

-- A negated condition has the same offset.
pub negated-offset : (c d : Condition) → d ≡ negated_of c → c.offset < 2 ^ 32 → d.offset < 2 ^ 32
unfolding negated_of
negated-offset c d e h = rw e h

module _ {T : List ℤ} {h : Sections} {E : Environment} {L : List ℤ} {rs : List Routine} {end allowed : ℕ} {b : Block} {w₀ : State FactSet} {M₀ : List ℕ}
    {at left : ℕ}
    {f : FactSet} {F : Force} {M : List ℕ} where
  pub arm : {s r : Statement} → Turn T h E L rs end allowed b w₀ M₀ at left f F M s → s ≡ r → Turn T h E L rs end allowed b w₀ M₀ at left f F M r
  arm u e = rw e at u

  pub falls : {s : Statement} {t : ℕ} → Turn T h E L rs end allowed b w₀ M₀ at left f F M s → allowed ≡ t → left - 1 < t
  falls u e = omega (arith, u.some, u.so_far.less)

  pub placed : {s : Statement} → Turn T h E L rs end allowed b w₀ M₀ at left f F M s → at < 1024
  placed u = let l = read-limits T h at _ u.read in omega (arith, l.0.statements, l.1)

  pub if-counts : {c : Condition} {n m : ℕ} → Turn T h E L rs end allowed b w₀ M₀ at left f F M (If c n m) → (n < 2 ^ 31) × (m < 2 ^ 31)
  if-counts {c} {n} {m} u = read-counts-if T h at c n m u.read

  pub while-count : {c : Condition} {n : ℕ} → Turn T h E L rs end allowed b w₀ M₀ at left f F M (While c n) → n < 2 ^ 31
  while-count {c} {n} u = read-counts-while T h at c n u.read

  pub bundle-count : {n : ℕ} → Turn T h E L rs end allowed b w₀ M₀ at left f F M (Bundle n) → n < 2 ^ 31
  bundle-count {n} u = read-counts-bundle T h at n u.read

  pub if-offset : {c : Condition} {n m : ℕ} → Turn T h E L rs end allowed b w₀ M₀ at left f F M (If c n m) → c.offset < 2 ^ 32
  if-offset {c} {n} {m} u = offset-small (read-typed T h at (If c n m) u.read).condition

  pub while-offset : {c : Condition} {n : ℕ} → Turn T h E L rs end allowed b w₀ M₀ at left f F M (While c n) → c.offset < 2 ^ 32
  while-offset {c} {n} u = offset-small (read-typed T h at (While c n) u.read).condition

  pub plain-ranged : {p : Simple} → Turn T h E L rs end allowed b w₀ M₀ at left f F M (Plain p) → InRange p
  plain-ranged {p} u = read-ranged T h at p u.read

  pub row-named-within : {p : Simple} {y r : ℕ} → Turn T h E L rs end allowed b w₀ M₀ at left f F M (Plain p) → declares_of p ≡ Some (declaration y r)
      → (y < 16) × (r < 64)
  row-named-within u n = row-limits T h at u.read refl n

  module _ (s : Statement) (u : Turn T h E L rs end allowed b w₀ M₀ at left f F M s) where
    here : block_faults E L rs b w₀ ≡ kind_faults T h E L rs at left end (state_of f F.rows.each) s
    here = u.so_far.same.blamed ∙ (ap (λ (x : Block). block_faults E L rs x (state_of f F.rows.each))
        (parse-some left T h at end _ u.some u.within u.read) ∙ faults-here T h E L rs at left end (state_of f F.rows.each) s)

    whole-after : block_after E L b w₀ ≡ kind_after T h E L rs at left end (state_of f F.rows.each) s
    whole-after = u.so_far.same.left ∙ (ap (λ (x : Block). block_after E L x (state_of f F.rows.each))
        (parse-some left T h at end _ u.some u.within u.read) ∙ after-here T h E L rs at left end (state_of f F.rows.each) s)

    whole-marks : block_marks E L b w₀ M₀ ≡ kind_marks T h E L rs at left end (state_of f F.rows.each) s M
    whole-marks = u.so_far.same.marks ∙ (ap (λ (x : Block). block_marks E L x (state_of f F.rows.each) M)
        (parse-some left T h at end _ u.some u.within u.read) ∙ marks-here T h E L rs at left end (state_of f F.rows.each) s M)

  pub at-node : {s : Statement} → Turn T h E L rs end allowed b w₀ M₀ at left f F M s → InPlace T h at (at-statement T h E L rs at left end (state_of f
      F.rows.each) s)
  at-node u = let e = parse-some left T h at end _ u.some u.within u.read in rw e at u.so_far.in_place

  -- The next turn.
  next : {s : Statement} {x : ℕ} {g : FactSet} {G : Force} {i : State FactSet} {N : List ℕ} → Turn T h E L rs end allowed b w₀ M₀ at left f F M s
      → block_faults E L rs b w₀ ≡ block_faults E L rs (rest T h left x end) i → block_after E L b w₀ ≡ block_after E L (rest T h left x end) i
      → block_marks E L b w₀ M₀ ≡ block_marks E L (rest T h left x end) i N
      → state_of g G.rows.each ≡ i → InPlace T h x (rest T h left x end)
      → Forced E G.rows.each G → Kept T h E L rs end allowed b w₀ M₀ x (left - 1) g G N
  next {s} {x} {N = N} u p q v e n o = record {
    same = record {
      blamed = p ∙ ap (block_faults E L rs (rest T h left x end)) (sym e);
      left = q ∙ ap (block_after E L (rest T h left x end)) (sym e);
      marks = v ∙ ap (λ (j : State FactSet). block_marks E L (rest T h left x end) j N) (sym e);
    };
    forced = o;
    less = omega (arith, u.so_far.less);
    in_place = n;
  }

  -- Any kind but 14.
  module _ {p : Simple} (u : Turn T h E L rs end allowed b w₀ M₀ at left f F M (Plain p)) (n : declares_of p ≡ None) {d : Applied}
      (e : d ≡ applied E.sizes E.spans f p)
      {v : Result (Unit {0}) Refusal} (z : v ≡ verdict_of (bounds_at at (unshown (seen_as F.seen) d.facts (bounds_after d.effect F.seen.declared)))) where
    still : state_after p (state_of f F.rows.each) ≡ state_of (facts_after p f) F.rows.each
    still = ap (state_of (facts_after p f)) (rows_stay p F.rows.each n)

    shown-here : v ≡ verdict_of
        (bounds_at at (unshown_in E (state_after p (state_of f F.rows.each)) (bounds_after (effect E f p) (declared_in E (state_of f F.rows.each)))))
    shown-here =
        z ∙ (ap (λ (x : Seen). verdict_of (bounds_at at (unshown (seen_as x) d.facts (bounds_after d.effect x.declared)))) u.so_far.forced.seen
        ∙ (ap (λ (ps : List ℕ). verdict_of (bounds_at at ps))
        (seen-unshown (in_force E F.rows.each) d.facts (bounds_after d.effect (declared_in E (state_of f F.rows.each))))
        ∙ (ap₂ (λ (g : FactSet) (x : Effect). verdict_of (bounds_at at (unshown (in_force E F.rows.each) g
        (bounds_after x (declared_in E (state_of f F.rows.each)))))) (applied-facts E f p e) (applied-effect E f p e)
        ∙ ap (λ (w : State FactSet).
        verdict_of (bounds_at at (unshown_in E w (bounds_after (effect E f p) (declared_in E (state_of f F.rows.each)))))) (sym still))))

    plain_here : block_faults E L rs b w₀
        ≡ also (bounds_at at (unshown_in E (state_after p (state_of f F.rows.each)) (bounds_after (effect E f p) (declared_in E (state_of f F.rows.each)))))
        (block_faults E L rs (rest T h left (at + 1) end) (state_after p (state_of f F.rows.each)))
    plain_here = here (Plain p) u ∙ pass _ _ (nothing-asked E f (declared_in E (state_of f F.rows.each)) p at n)

    pub plain-refused : {w : Walked} {r : Refusal} → w.verdict ≡ v → v ≡ Err r → Walks E L rs b w₀ M₀ w
    plain-refused q x = stops _ _ plain_here (q ∙ shown-here) (q ∙ x)

    -- The report: the access is shown safe before it.
    marked-here : {N : List ℕ} → N ≡ marked_if (access_safe (seen_as F.seen) f p) M at
        → block_marks E L b w₀ M₀ ≡ block_marks E L (rest T h left (at + 1) end) (state_after p (state_of f F.rows.each)) N
    marked-here t = whole-marks (Plain p) u ∙ ap (block_marks E L (rest T h left (at + 1) end) (state_after p (state_of f F.rows.each)))
        (sym (t ∙ ap (λ (z : Bool). marked_if z M at)
        (ap (λ (z : Seen). access_safe (seen_as z) f p) u.so_far.forced.seen ∙ seen-safe (in_force E F.rows.each) f p)))

    pub turn-plain : {N : List ℕ} → N ≡ marked_if (access_safe (seen_as F.seen) f p) M at → v ≡ Ok tt
        → Kept T h E L rs end allowed b w₀ M₀ (at + 1) (left - 1) d.facts F N
    turn-plain t x =
        next u (plain_here ∙ pass _ _ (none-refused _ shown-here x)) (whole-after (Plain p) u) (marked-here t)
        (ap (λ (g : FactSet). state_of g F.rows.each) (applied-facts E f p e) ∙ sym still) (after-plain (at-node u)) u.so_far.forced

  -- Nothing has to be shown again.
  pub turn-untouched : {p : Simple} → Turn T h E L rs end allowed b w₀ M₀ at left f F M (Plain p) → declares_of p ≡ None → {d : Applied}
      → d ≡ applied E.sizes E.spans f p
      → {N : List ℕ} → N ≡ marked_if (access_safe (seen_as F.seen) f p) M at
      → {P : List Bool} → P ≡ E.pointers → touches F.named.each P d.effect ≡ false
      → Kept T h E L rs end allowed b w₀ M₀ (at + 1) (left - 1) d.facts F N
  unfolding bounds_at verdict_of
  turn-untouched u n {d} e t y x =
      turn-plain u n e {v = (Ok tt)}
      (sym (ap (λ (ps : List ℕ). verdict_of (bounds_at at ps)) (unnamed (seen_as F.seen) d.effect u.so_far.forced.named (ap
      (λ (z : List Bool). touches F.named.each z d.effect) (ap (λ (s : Seen). s.pointers) u.so_far.forced.seen ∙ sym y) ∙ x) d.facts))) t refl

  -- Kind 14.
  module _ {p : Simple} (u : Turn T h E L rs end allowed b w₀ M₀ at left f F M (Plain p)) {y r : ℕ} (n : declares_of p ≡ Some (declaration y r))
      {d : Declared} (z : DeclaresRow E f F.rows.each y r at d) where
    row-after : state_after p (state_of f F.rows.each) ≡ state_of f (set F.rows.each y (r + 1))
    row-after = ap (λ (s : Simple). state_after s (state_of f F.rows.each)) (row_named p y r n) ∙ declare-after y r f F.rows.each

    row_here : block_faults E L rs b w₀ ≡ also (also (bounds_at at (row_unshown E f (declared_in E (state_of f F.rows.each)) (Declare y r)))
        (bounds_at at (unshown (in_force E (set F.rows.each y (r + 1))) f (bounds_after Keep (declared_in E (state_of f F.rows.each))))))
        (block_faults E L rs (rest T h left (at + 1) end) (state_of f (set F.rows.each y (r + 1))))
    row_here =
        here (Plain p) u ∙ (ap (λ (s : Simple). kind_faults T h E L rs at left end (state_of f F.rows.each) (Plain s)) (row_named p y r n)
        ∙ (ap₂ (λ (w : State FactSet) (x : Effect). also (bounds_at at (row_unshown E f (declared_in E (state_of f F.rows.each)) (Declare y r)))
        (also (bounds_at at (unshown_in E w (bounds_after x (declared_in E (state_of f F.rows.each))))) (block_faults E L rs (rest T h left (at + 1) end) w)))
        (declare-after y r f F.rows.each) (declare-keeps E f y r)
        ∙ sym (also-assoc _ _ _)))

    pub row-refused : {w : Walked} {x : Refusal} → w.verdict ≡ d.verdict → d.verdict ≡ Err x → Walks E L rs b w₀ M₀ w
    row-refused q x = stops _ _ row_here (q ∙ z.said) (q ∙ x)

    pub turn-row : d.verdict ≡ Ok tt → Kept T h E L rs end allowed b w₀ M₀ (at + 1) (left - 1) f d.force M
    turn-row x =
        let o = z.kept x in
        next u (row_here ∙ pass _ _ (none-refused _ z.said x)) (whole-after (Plain p) u ∙ ap (block_after E L (rest T h left (at + 1) end)) row-after)
        (whole-marks (Plain p) u ∙ ap₂ (block_marks E L (rest T h left (at + 1) end)) row-after
        (ap (λ (q : Simple). marked_if (safe_in E (state_of f F.rows.each) q) M at) (row_named p y r n) ∙ declare-unmarked E (state_of f
        F.rows.each) y r M at))
        (ap (state_of f) o.rows) (after-plain (at-node u)) (forced-own o)

  module _ {c : Condition} {n m : ℕ} (u : Turn T h E L rs end allowed b w₀ M₀ at left f F M (If c n m))
      {g : FactSet} (e : g ≡ condition_facts f c) {r : Walked} (w : Walks E L rs (rest T h left (at + 1) (at + 1 + n)) (state_of g F.rows.each) M r) where
    then-walk : Walks E L rs (rest T h left (at + 1) (at + 1 + n)) (assumed (state_of f F.rows.each) c) M r
    then-walk = rw e at w

    pub then-refused : {v : Refusal} → r.verdict ≡ Err v → Walks E L rs b w₀ M₀ r
    then-refused x = stops _ _ (here (If c n m) u) then-walk.said x

    module _ (q : r.verdict ≡ Ok tt) {i : FactSet} {d : Condition} (j : d ≡ negated_of c) (k : i ≡ condition_facts f d) {o : Walked}
        (z : Walks E L rs (rest T h left (at + 1 + n) (at + 1 + n + m)) (state_of i F.rows.each) r.report.words o) where
      else-walk : Walks E L rs (rest T h left (at + 1 + n) (at + 1 + n + m)) (assumed (state_of f F.rows.each) (negated_of c)) r.report.words o
      else-walk = rw (k, j) at z

      then-clear : block_faults E L rs (rest T h left (at + 1) (at + 1 + n)) (assumed (state_of f F.rows.each) c) ≡ []
      then-clear = none-refused _ then-walk.said q

      pub else-refused : {v : Refusal} → o.verdict ≡ Err v → Walks E L rs b w₀ M₀ o
      else-refused x = stops _ _ (here (If c n m) u ∙ pass _ _ then-clear) else-walk.said x

      module _ (x : o.verdict ≡ Ok tt) {s : Bool} (l : s ≡ same_rows r.rows.each o.rows.each) where
        else-clear : block_faults E L rs (rest T h left (at + 1 + n) (at + 1 + n + m)) (assumed (state_of f F.rows.each) (negated_of c)) ≡ []
        else-clear = none-refused _ else-walk.said x

        sides-here : block_faults E L rs b w₀ ≡ also (rows_at at r.rows.each o.rows.each) (block_faults E L rs (rest T h left (at + 1 + n + m) end)
            (sides_joined E (state_of r.facts r.rows.each) (state_of o.facts o.rows.each)))
        sides-here =
            here (If c n m) u ∙ (pass _ _ then-clear ∙ (pass _ _ else-clear
            ∙ ap₂ (λ (v w : State FactSet). also (rows_at at v.rows w.rows) (block_faults E L rs (rest T h left (at + 1 + n + m) end)
            (sides_joined E v w))) (sym (then-walk.kept then-clear)) (sym (else-walk.kept else-clear))))

        pub sides-differ : {w : Walked} → s ≡ false → w.verdict ≡ Err (RowsDiffer at) → Walks E L rs b w₀ M₀ w
        sides-differ t v = stops _ _ sides-here (v ∙ rows-refused at r.rows.each o.rows.each (sym l ∙ t)) v

        sides-marked : kind_marks T h E L rs at left end (state_of f F.rows.each) (If c n m) M ≡ block_marks E L (rest T h left (at + 1 + n + m) end)
            (sides_joined E (state_of r.facts r.rows.each) (state_of o.facts o.rows.each)) o.report.words
        sides-marked =
            ap₂ (block_marks E L (rest T h left (at + 1 + n + m) end))
            (ap₂ (λ (v w : State FactSet). sides_joined E v w) (sym (then-walk.kept then-clear)) (sym (else-walk.kept else-clear)))
            (sym (else-walk.marked else-clear ∙ ap (block_marks E L (rest T h left (at + 1 + n) (at + 1 + n + m)) (assumed (state_of f F.rows.each)
            (negated_of c)))
            (then-walk.marked then-clear)))

        pub turn-if : {y : FactSet} {G : Force} → s ≡ true → {P : List Bool} → P ≡ E.pointers → y ≡ joined (λ v. get_or P v false) r.facts o.facts
            → Forced E r.rows.each G
            → Kept T h E L rs end allowed b w₀ M₀ (at + 1 + n + m) (left - 1) y G o.report.words
        turn-if t {P} p y a =
            next u (sides-here ∙ pass _ _ (rows-clear at r.rows.each o.rows.each (sym l ∙ t)))
            (whole-after (If c n m) u ∙ ap₂ (λ (v w : State FactSet). block_after E L (rest T h left (at + 1 + n + m) end) (sides_joined E v w))
            (sym (then-walk.kept then-clear)) (sym (else-walk.kept else-clear)))
            (whole-marks (If c n m) u ∙ sides-marked)
            (ap₂ state_of (y ∙ ap (λ (Q : List Bool). joined (λ v. get_or Q v false) r.facts o.facts) p) a.rows) (after-if u.read (at-node u))
            (forced-own a)

  module _ {c : Condition} {n : ℕ} (u : Turn T h E L rs end allowed b w₀ M₀ at left f F M (While c n))
      {v : Result (Unit {0}) Refusal} (asked : v ≡ verdict_of (entries_unshown (entries_of L at) f)) where
    pub before-refused : {w : Walked} {x : Refusal} → w.verdict ≡ v → v ≡ Err x → Walks E L rs b w₀ M₀ w
    before-refused q x = stops _ _ (here (While c n) u) (q ∙ asked) (q ∙ x)

    module _ (shown : v ≡ Ok tt) {l : FactSet} (y : l ≡ loop_facts (targets_from T h (at + 1) n) f) {k : FactSet}
        (listed : k ≡ entry_facts (entries_of L at) l)
        {g : FactSet} (e : g ≡ condition_facts k c)
        {r : Walked} (w : Walks E L rs (rest T h left (at + 1) (at + 1 + n)) (state_of g F.rows.each) M r) where
      lost : k ≡ entry_facts (entries_of L at) (loop_facts (assigned (rest T h left (at + 1) (at + 1 + n))) f)
      lost = listed ∙ ap (entry_facts (entries_of L at)) (y ∙ ap (λ (xs : List ℕ). loop_facts xs f) (sym (body-assigned u.read (at-node u))))

      body-walk : Walks E L rs (rest T h left (at + 1) (at + 1 + n)) (assumed (head-state T h E L rs at left end (state_of f F.rows.each) n) c) M r
      body-walk = rw (e, lost) at w

      body-here : block_faults E L rs b w₀ ≡ also (block_faults E L rs (rest T h left (at + 1) (at + 1 + n))
          (assumed (head-state T h E L rs at left end (state_of f F.rows.each) n) c))
          (also (entries_unshown (entries_of L at) (block_after E L (rest T h left (at + 1) (at + 1 + n))
          (assumed (head-state T h E L rs at left end (state_of f F.rows.each) n) c)).facts)
          (also (rows_at at F.rows.each (block_after E L (rest T h left (at + 1) (at + 1 + n))
          (assumed (head-state T h E L rs at left end (state_of f F.rows.each) n) c)).rows)
          (block_faults E L rs (rest T h left (at + 1 + n) end) (assumed (head-state T h E L rs at left end (state_of f F.rows.each) n) (negated_of c)))))
      body-here = here (While c n) u ∙ pass _ _ (none-refused _ asked shown)

      pub body_refused : {x : Refusal} → r.verdict ≡ Err x → Walks E L rs b w₀ M₀ r
      body_refused x = stops _ _ body-here body-walk.said x

      module _ (x : r.verdict ≡ Ok tt) {a : Result (Unit {0}) Refusal} (again : a ≡ verdict_of (entries_unshown (entries_of L at) r.facts)) where
        body-clear : block_faults E L rs (rest T h left (at + 1) (at + 1 + n)) (assumed (head-state T h E L rs at left end (state_of f F.rows.each) n) c) ≡ []
        body-clear = none-refused _ body-walk.said x

        end-here : block_faults E L rs b w₀ ≡ also (entries_unshown (entries_of L at) r.facts) (also (rows_at at F.rows.each r.rows.each)
            (block_faults E L rs (rest T h left (at + 1 + n) end) (assumed (head-state T h E L rs at left end (state_of f F.rows.each) n) (negated_of c))))
        end-here =
            body-here ∙ (pass _ _ body-clear
            ∙ ap (λ (v : State FactSet). also (entries_unshown (entries_of L at) v.facts) (also (rows_at at F.rows.each v.rows)
            (block_faults E L rs (rest T h left (at + 1 + n) end) (assumed (head-state T h E L rs at left end (state_of f F.rows.each) n) (negated_of c)))))
            (sym (body-walk.kept body-clear)))

        pub again-refused : {w : Walked} {z : Refusal} → w.verdict ≡ a → a ≡ Err z → Walks E L rs b w₀ M₀ w
        again-refused q z = stops _ _ end-here (q ∙ again) (q ∙ z)

        module _ (held : a ≡ Ok tt) {s : Bool} (o : s ≡ same_rows F.rows.each r.rows.each) where
          loop-here : block_faults E L rs b w₀ ≡ also (rows_at at F.rows.each r.rows.each)
              (block_faults E L rs (rest T h left (at + 1 + n) end) (assumed (head-state T h E L rs at left end (state_of f F.rows.each) n) (negated_of c)))
          loop-here = end-here ∙ pass _ _ (none-refused _ again held)

          pub ends-differ : {w : Walked} → s ≡ false → w.verdict ≡ Err (RowsDiffer at) → Walks E L rs b w₀ M₀ w
          ends-differ t v = stops _ _ loop-here (v ∙ rows-refused at F.rows.each r.rows.each (sym o ∙ t)) v

          pub turn-while : {d : Condition} {i : FactSet} → s ≡ true → d ≡ negated_of c → i ≡ condition_facts k d
              → Kept T h E L rs end allowed b w₀ M₀ (at + 1 + n) (left - 1) i F r.report.words
          turn-while t j z =
              next u (loop-here ∙ pass _ _ (rows-clear at F.rows.each r.rows.each (sym o ∙ t))) (whole-after (While c n) u)
              (whole-marks (While c n) u ∙ ap (block_marks E L (rest T h left (at + 1 + n) end)
              (assumed (head-state T h E L rs at left end (state_of f F.rows.each) n) (negated_of c))) (sym (body-walk.marked body-clear)))
              (ap (λ (g : FactSet). state_of g F.rows.each) (z ∙ ap₂ condition_facts lost j)) (after-while u.read (at-node u)) u.so_far.forced

  module _ {n : ℕ} (u : Turn T h E L rs end allowed b w₀ M₀ at left f F M (Bundle n))
      {r : Walked} (w : WalksBundle E at (simples n T h (at + 1)) (state_of f F.rows.each) (declared_in E (state_of f F.rows.each)) M r) where
    bundle-here : block_faults E L rs b w₀ ≡ also (line_faults E at (at + 1) (simples n T h (at + 1)) (state_of f F.rows.each) (declared_in E
        (state_of f F.rows.each))) (block_faults E L rs (rest T h left (at + 1 + n) end) (bundle_after (simples n T h (at + 1)) (state_of f F.rows.each)))
    bundle-here = here (Bundle n) u ∙ sym (also-assoc _ _ _)

    pub bundle-refused : {v : Refusal} → r.verdict ≡ Err v → Walks E L rs b w₀ M₀ r
    bundle-refused x = stops _ _ bundle-here w.said x

    pub turn-bundle : {G : Force} → r.verdict ≡ Ok tt → Forced E r.rows.each G
        → Kept T h E L rs end allowed b w₀ M₀ (at + 1 + n) (left - 1) r.facts G
        r.report.words
    turn-bundle x a =
        let clear = none-refused _ w.said x in
        next u (bundle-here ∙ pass _ _ clear) (whole-after (Bundle n) u)
        (whole-marks (Bundle n) u ∙ ap (block_marks E L (rest T h left (at + 1 + n) end) (bundle_after (simples n T h (at + 1)) (state_of f F.rows.each)))
        (sym (w.marked clear))) (ap (state_of r.facts) a.rows ∙ w.kept clear)
        (after-bundle u.read (at-node u)) (forced-own a)

  -- Kind 15.
  module _ {c : CallSite} (u : Turn T h E L rs end allowed b w₀ M₀ at left f F M (Call c))
      {v : Result (Unit {0}) Refusal} (z : v ≡ verdict_of (call_checked rs E F.seen at c f)) where
    abbrev set_here : List Refusal
    set_here = bounds_at at (unshown_in E (called_state c (state_of f F.rows.each)) (bounds_after (result_effect c) (declared_in E (state_of f F.rows.each))))

    call-here : block_faults E L rs b w₀ ≡ also (also (call_faults rs E at c f (declared_in E (state_of f F.rows.each))) set_here)
        (block_faults E L rs (rest T h left (at + 1) end) (called_state c (state_of f F.rows.each)))
    call-here = here (Call c) u ∙ sym (also-assoc _ _ _)

    call-shown : v ≡ verdict_of (also (call_faults rs E at c f (declared_in E (state_of f F.rows.each))) set_here)
    unfolding call_checked
    call-shown =
        z ∙ (ap (λ (x : Seen). verdict_of (call_checked rs E x at c f)) u.so_far.forced.seen
        ∙ ap (λ (ps : List ℕ). verdict_of (also (call_faults rs E at c f (declared_in E (state_of f F.rows.each))) (bounds_at at ps)))
        (seen-unshown (in_force E F.rows.each) (called_state c (state_of f F.rows.each)).facts
        (bounds_after (result_effect c) (declared_in E (state_of f F.rows.each)))))

    pub call-refused : {w : Walked} {r : Refusal} → w.verdict ≡ v → v ≡ Err r → Walks E L rs b w₀ M₀ w
    call-refused q x = stops _ _ call-here (q ∙ call-shown) (q ∙ x)

    pub turn-call : v ≡ Ok tt → {g : FactSet} → g ≡ result_facts store c f → Kept T h E L rs end allowed b w₀ M₀ (at + 1) (left - 1) g F M
    turn-call x e =
        next u (call-here ∙ pass _ _ (none-refused _ call-shown x)) (whole-after (Call c) u) (whole-marks (Call c) u)
        (ap (λ (g : FactSet). state_of g F.rows.each) e) (after_call (at-node u)) u.so_far.forced
