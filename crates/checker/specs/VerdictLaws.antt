-- Laws of the verdict on a table.
use Rattle.statements.specs.declared.Statement.{Statement}
use Rattle.std.specs.Prelude.{ℕ, ◌^◌, ◌<◌, ◌≤◌, Bool, ◌&&◌, ◌≢◌, ℤ, length, get_or, Err, None, Ok, Option, Result, Some}
use Rattle.std.proofs.Math.Path.{◌≡◌, refl, sym, ap}
use Rattle.std.proofs.Common.{ap₂, ◌∙◌, ltb-true, ltb-false}
use Rattle.std.proofs.Math.Bool.{true, false, cond}
use mathlib.Core.List.{List, [], ◌∷◌}
use native.Mathlib.Omega.{arith}
use Rattle.std.proofs.Math.Dec.{ltb}
use Rattle.std.proofs.Math.ListN.{get_or-eq_default}
use Rattle.arrays.specs.Tabulate.{tabulate}
use Rattle.arrays.specs.TabulateLaws.{length-tabulate, get_d_tabulate}
use Rattle.facts.specs.Store.{new_set}
use Rattle.facts.specs.declared.FactSet.{FactSet}
use Rattle.answers.specs.declared.refusals.Refusal.{Refusal}
use Rattle.words.specs.Words.{word}
use Rattle.words.specs.Sections.{in_limits, object_start, object_terminated}
use Rattle.words.specs.SectionsLaws.{object-limits}
use Rattle.words.specs.declared.sections.Sections.{Sections}
use Rattle.table.specs.Variables.{object_cells, object_at}
use Rattle.table.specs.Form.{form_of, sections_of}
use Rattle.table.specs.FormLaws.{Formed, well-formed, formed-sections}
use Rattle.blocks.specs.Tree.{parse, tree}
use Rattle.blocks.specs.Layout.{also, layout}
use Rattle.blocks.specs.LayoutLaws.{none-refused}
use Rattle.blocks.specs.Parts.{verdict}
use Rattle.blocks.specs.ShapeLaws.{table-laid}
use Rattle.statements.specs.Statements.{statement_at}
use Rattle.statements.specs.StatementLaws.{read-within}
use Rattle.listed.specs.ListForm.{list_faults, list_form}
use Rattle.reports.specs.Reports.{no_words, reported}
use Rattle.reports.specs.ReportLaws.{none-reported}
use Rattle.rules.specs.Stored.{store, new_state, block_faults, section_faults, form_faults, faults}
use Rattle.rules.specs.StateBefore.{state_before}
use Rattle.rules.specs.Report.{read_safe, safe_at, reported_if, reported_at}
use Rattle.rules.proofs.ReportLaws.{reported-stored}
use Rattle.rules.specs.AcceptedLaws.{accepted-clear}
use Rattle.checker.specs.Checks.{ChecksSections, verdict_in, report_in}
use Rattle.checker.specs.MarkLaws.{over, block_inside, block-outside}
use Rattle.reports.specs.declared.Report.{Report}
use Rattle.rules.specs.Verdict.{environment_of, verdict_of}
use Rattle.rules.specs.Ranges.{Measured}
use Rattle.rules.specs.ByChains.{Judged, Reported}
use Rattle.rules.proofs.Decidable.{judged}
use Rattle.rules.specs.CallLaws.{none-formed}
use Rattle.rules.specs.Calls.{Routine}
use Rattle.rules.specs.BoundsRules.{own_rows, upper_limit}
use Rattle.checker.specs.Walk.{InPlace, block_marks, Walks}
use Rattle.bundles.specs.declared.Walked.{Walked}
use Rattle.rules.specs.Verdict as verdict_rules
use Rattle.declared.specs.Force.{state_of, Forced}
use Rattle.declared.specs.ForceLaws.{pass}
use Rattle.declared.specs.declared.force.Force.{Force}

-- The spans that a table declares are in range, where cause 3 does not refuse it.
module _ (T : List ℤ) (h : Sections) (lengths : (o : ℕ) → o < h.objects → (1 ≤ object_at T h o) × (object_at T h o ≤ 1000000)) where
  object-short : (o : ℕ) → object_at T h o < 2 ^ 40
  unfolding object_at
  object-short o = go (in_limits h && ltb o h.objects) refl
    where
      go : (b : Bool) → (in_limits h && ltb o h.objects) ≡ b → cond b (object_cells (word T (object_start h o))) 0 < 2 ^ 40
      go true e =
          let q : object_at T h o ≡ object_cells (word T (object_start h o)) = ap (λ (b : Bool). cond b (object_cells (word T (object_start h o))) 0) e in
          omega (arith, lengths o (object-limits h o e).1)
      go false e = omega arith

  abbrev span : ℕ → ℕ
  span o = upper_limit (object_terminated T h o) (object_at T h o)

  span-short : (o : ℕ) → span o < 2 ^ 40
  unfolding upper_limit
  span-short o = go (object_terminated T h o)
    where
      go : (b : Bool) → upper_limit b (object_at T h o) < 2 ^ 40
      go true = omega (arith, object-short o)
      go false = object-short o

  spans-short : (o : ℕ) → get_or (tabulate 16 span) o 0 < 2 ^ 40
  spans-short o = go (ltb o 16) refl
    where
      go : (b : Bool) → ltb o 16 ≡ b → get_or (tabulate 16 span) o 0 < 2 ^ 40
      go true e = rw (get_d_tabulate 16 span o 0 (ltb-true o 16 e)) (span-short o)
      go false e =
          let p : length (tabulate 16 span) ≤ o = omega (arith, length-tabulate 16 span, ltb-false o 16 e) in
          rw (get_or-eq_default (tabulate 16 span) 0 {n = o} p) (omega arith)

  pub measured : Measured (environment_of T h)
  unfolding environment_of
  measured o = spans-short o

-- ---- the bits of the report

none-if : (b : Bool) → reported_if [] b ≡ b
unfolding reported_if
none-if b = refl

none-accepts : verdict_of [] ≡ Ok tt
unfolding verdict_of
none-accepts = refl

module _ (T : List ℤ) (h : Sections) (L : List ℤ) (laid : layout T h ≡ []) (a : ℕ) where
  inside-safe : a < h.statements → h.statements ≤ 1024
      → reported (block_marks (environment_of T h) L (tree T h) new_state no_words) a ≡ safe_at store T h L a
  unfolding safe_at
  inside-safe l few =
      let t = table-laid T h laid in
      block_inside T h (environment_of T h) L (tree T h) 0 new_state no_words t.numbered t.reads refl (omega (arith, t.ends)) a (omega arith)
      (omega (arith, t.ends)) (none-reported a)

  unsafe : (r : Option Statement) → statement_at T h a ≡ r → h.statements ≤ a
      → read_safe store (environment_of T h) r (state_before store (environment_of T h) L (tree T h) new_state a) ≡ false
  unsafe (Some s) e l = absurd (omega (arith, read-within T h a s e))
  unsafe None e l = refl

  outside-safe : h.statements ≤ a → h.statements ≤ 1024
      → reported (block_marks (environment_of T h) L (tree T h) new_state no_words) a ≡ safe_at store T h L a
  unfolding safe_at
  outside-safe l few =
      let t = table-laid T h laid in
      block-outside T h (environment_of T h) L (tree T h) 0 new_state no_words t.numbered refl (omega (arith, t.ends)) a (over (omega (arith, t.ends)))
      ∙ (none-reported a ∙ sym (unsafe (statement_at T h a) refl l))

-- ---- cause 6, the list, then the walk

first-refused : (xs : List Refusal) (ys : List Refusal) {r : Refusal} → verdict xs ≡ Err r → (Err r ≡ verdict_of (also xs ys)) ×
    (also xs ys ≢ [])
unfolding verdict also verdict_of
first-refused [] ys e = let z : ◌≡◌ {A = ℕ} 0 1 = cc in absurd (omega arith)
first-refused (x ∷ xs) ys e = (ap Err (cc), λ q. let z : ◌≡◌ {A = ℕ} 0 1 = cc in omega arith)

-- Of a refused table nothing is reported.
refused_none : (fs : List Refusal) (b : Bool) → fs ≢ [] → reported_if fs b ≡ false
unfolding reported_if
refused_none [] b n = absurd (n refl)
refused_none (f ∷ fs) b n = refl

pub layout-clear : (T : List ℤ) (h : Sections) {l : Result (Unit {0}) Refusal} → l ≡ verdict (layout T h) → l ≡ Ok tt → layout T h ≡ []
layout-clear T h {l} e p = none-refused (layout T h) l e p

pub table-placed : (T : List ℤ) (h : Sections) → layout T h ≡ [] → InPlace T h 0 (parse h.statements T h 0 h.statements)
unfolding tree
table-placed T h laid = let w = table-laid T h laid in record { numbered = w.numbered; reads = w.reads }

module _ (rs : List Routine) (T : List ℤ) (h : Sections) (L : List ℤ) where
  -- A refusal that is that of the first fault.
  pub refused-checks : {f : Refusal} → Err f ≡ verdict_of (section_faults rs T h L) → section_faults rs T h L ≢ [] → ChecksSections rs T h L (Err f)
  refused-checks e n =
      record {
        verdict = e;
        report = λ a l. none-reported a ∙ sym (refused_none (section_faults rs T h L) (safe_at store T h L a) n);
      }

  module _ {l : Result (Unit {0}) Refusal} (e : l ≡ verdict (layout T h)) where
    pub layout-refused : {r : Refusal} → l ≡ Err r → ChecksSections rs T h L (Err r)
    unfolding verdict_rules.section_faults
    layout-refused p = let q = first-refused (layout T h) _ (sym e ∙ p) in refused-checks q.0 q.1

  module _ (laid : layout T h ≡ []) where
    list-first : (xs ys : List Refusal) {r : Refusal} → list_form xs ≡ Err r → (Err r ≡ verdict_of (also xs ys)) × (also xs ys ≢ [])
    unfolding list_form also verdict_of
    list-first [] ys e = let z : ◌≡◌ {A = ℕ} 0 1 = cc in absurd (omega arith)
    list-first (x ∷ xs) ys e = (ap Err (cc), λ q. let z : ◌≡◌ {A = ℕ} 0 1 = cc in omega arith)

    after-layout : section_faults rs T h L ≡ also (list_faults T h L) (block_faults (environment_of T h) L rs (tree T h) new_state)
    unfolding verdict_rules.section_faults
    after-layout = pass _ _ laid

    pub list-refused : {l : Result (Unit {0}) Refusal} {r : Refusal} → l ≡ list_form (list_faults T h L) → l ≡ Err r → ChecksSections rs T h L (Err r)
    list-refused e p =
        let q = list-first (list_faults T h L) (block_faults (environment_of T h) L rs (tree T h) new_state) (sym e ∙ p) in
        refused-checks (q.0 ∙ ap verdict_of (sym after-layout)) (λ z. q.1 (sym after-layout ∙ z))

    module _ (listed : list_faults T h L ≡ []) where
      after_list : section_faults rs T h L ≡ block_faults (environment_of T h) L rs (tree T h) new_state
      after_list = after-layout ∙ pass _ _ listed

      module _ {F : Force} {f : FactSet} {M : List ℕ} {r : Walked} (o : Forced (environment_of T h) own_rows F) (n : f ≡ new_set) (m : M ≡ no_words)
          (w : Walks (environment_of T h) L rs (parse h.statements T h 0 h.statements) (state_of f F.rows.each) M r) where
        begun : state_of f F.rows.each ≡ new_state
        begun = ap₂ state_of n o.rows

        walked : Walks (environment_of T h) L rs (tree T h) new_state no_words r
        unfolding tree
        walked = rw (begun, m) at w

        said : r.verdict ≡ verdict_of (section_faults rs T h L)
        said = walked.said ∙ ap verdict_of (sym after_list)

        pub walk_refused : {x : Refusal} → r.verdict ≡ Err x → ChecksSections rs T h L (Err x)
        walk_refused e = refused-checks (sym e ∙ said) (refuses (section_faults rs T h L) (sym e ∙ said))
          where
            refuses : (fs : List Refusal) {x : Refusal} → Err x ≡ verdict_of fs → fs ≢ []
            refuses fs {x} v z = let a : Err x ≡ (Ok tt) = v ∙ (ap verdict_of z ∙ none-accepts) in let y : ◌≡◌ {A = ℕ} 0 1 = cc in omega arith

        pub walk-accepted : r.verdict ≡ Ok tt → h.statements ≤ 1024 → ChecksSections rs T h L (Ok r.report)
        walk-accepted e few =
            let clear : block_faults (environment_of T h) L rs (tree T h) new_state ≡ [] = none-refused-walk e in
            record {
              verdict = sym e ∙ said;
              report = λ a l. ap (λ (N : List ℕ). reported N a) (walked.marked clear)
                  ∙ (bit a (ltb a h.statements) refl ∙ sym (ap (λ (fs : List Refusal). reported_if fs (safe_at store T h L a)) (after_list ∙ clear)
                  ∙ none-if (safe_at store T h L a)));
            }
          where
            none-refused-walk : r.verdict ≡ Ok tt → block_faults (environment_of T h) L rs (tree T h) new_state ≡ []
            none-refused-walk e = accepted-clear (block_faults (environment_of T h) L rs (tree T h) new_state) walked.said e

            bit : (a : ℕ) (b : Bool) → ltb a h.statements ≡ b → reported (block_marks (environment_of T h) L
                (tree T h) new_state no_words) a ≡ safe_at store T h L a
            bit a true i = inside-safe T h L laid a (ltb-true _ _ i) few
            bit a false i = outside-safe T h L laid a (ltb-false _ _ i) few

module _ (T L : List ℤ) {f : Result Sections Refusal} (e : f ≡ form_of T) where
  refused-faults : {r : Refusal} → f ≡ Err r → faults [] T L ≡ r ∷ []
  unfolding verdict_rules.faults
  refused-faults p = ap (λ (g : Result Sections Refusal). form_faults [] T L g) (sym e ∙ p)

  checked-faults : {h : Sections} → f ≡ Ok h → faults [] T L ≡ section_faults [] T h L
  unfolding verdict_rules.faults
  checked-faults p = ap (λ (g : Result Sections Refusal). form_faults [] T L g) (sym e ∙ p)

  pub form-refused : {r : Refusal} → f ≡ Err r → Judged [] T L (Err r) × Reported T L no_words
  unfolding verdict_of reported_at
  form-refused {r} p =
      let q = refused-faults p in (
        judged [] none-formed T L (Err r) (first-verdict ∙ ap verdict_of (sym q)),
        reported-stored T L no_words (λ a l.
            none-reported a ∙ sym (refused_none (faults [] T L) (safe_at store T (sections_of T) L a)
            (λ z. let y : ◌≡◌ {A = ℕ} 0 1 = cc in omega arith))),
      )
    where
      first-verdict : Err r ≡ verdict_of (r ∷ [])
      first-verdict = refl

  -- Of a routine by itself, which may call none.
  pub form-checked : {h : Sections} {c : Result Report Refusal} → f ≡ Ok h → {rs : List Routine} → rs ≡ [] → ChecksSections rs T h L c
      → Judged [] T L (verdict_in c) × Reported T L (report_in c)
  unfolding reported_at
  form-checked {h} {c} p {rs} n s =
      let q : ChecksSections [] T h L c = rw n at s in
      let d = checked-faults p in
      let k = formed-sections T h (sym e ∙ p) in (
        judged [] none-formed T L (verdict_in c) (q.verdict ∙ ap verdict_of (sym d)),
        reported-stored T L (report_in c) (λ a l. q.report a l
            ∙ (ap (λ (fs : List Refusal). reported_if fs (safe_at store T h L a)) (sym d)
            ∙ ap (λ (g : Sections). reported_if (faults [] T L) (safe_at store T g L a)) k)),
      )

pub form-formed : (T : List ℤ) {f : Result Sections Refusal} → f ≡ form_of T → {h : Sections} → f ≡ Ok h → Formed T h
form-formed T e p = well-formed T _ (sym e ∙ p)
