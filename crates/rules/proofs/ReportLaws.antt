-- The report by the store is the report by the paper's chains.
use Rattle.statements.specs.declared.Statement.{Statement}
use Rattle.std.specs.Prelude.{ℕ, ◌<◌, ◌≡◌, Bool, true, false, ℤ, None, Ok, Option, Some}
use Rattle.std.proofs.Math.Path.{refl}
use Rattle.std.proofs.Common.{sym, ap, ◌∙◌}
use mathlib.Core.List.{List, [], ◌∷◌}
use Rattle.answers.specs.declared.refusals.Refusal.{Refusal}
use Rattle.words.specs.declared.sections.Sections.{Sections}
use Rattle.statements.specs.Statements.{statement_at}
use Rattle.statements.specs.StatementLaws.{read-typed}
use Rattle.statements.specs.declared.Statement.TheVariants.{Plain, If, While, Bundle, Call}
use Rattle.table.specs.Form.{form_of, sections_of}
use Rattle.table.specs.FormLaws.{well-formed, formed-sections}
use Rattle.blocks.specs.Tree.{tree}
use Rattle.blocks.specs.Layout.{layout}
use Rattle.blocks.specs.ShapeLaws.{table-laid}
use Rattle.listed.specs.ListForm.{list_faults}
use Rattle.rules.specs.FactSets.{State}
use Rattle.rules.specs.Rules.{new_state}
use Rattle.rules.specs.StateBefore.{state_before}
use Rattle.rules.specs.Report.{read_safe, safe_at, reported_if, reported_at}
use Rattle.reports.specs.Reports.{reported}
use Rattle.rules.specs.Verdict.{environment_of, faults}
use Rattle.rules.specs.Stored.{store}
use Rattle.rules.specs.ByChains.{Decider, by_chains, variables, DecidesTable, Reported}
use Rattle.rules.proofs.Decidable.{decided}
use Rattle.rules.specs.CallLaws.{none-formed}
use Rattle.rules.specs.AcceptedLaws.{faults-clear}
use Rattle.rules.proofs.ListedLaws.{entries-right}
use Rattle.rules.proofs.StateRepresentation.{new-represented}
use Rattle.rules.proofs.BeforeLaws.{before-represented}
use Rattle.rules.proofs.Agreement.{SameFirst, safe-agrees, faults-agree}

module _ (T : List ℤ) (h : Sections) (L : List ℤ) (formed : form_of T ≡ Ok h) (laid : layout T h ≡ []) (listed : list_faults T h L ≡ [])
    (q : Decider)
    (decides : DecidesTable T q) where
  pub safe-represented : (d : ℕ) → safe_at store T h L d ≡ safe_at (by_chains q) T h L d
  unfolding safe_at
  safe-represented d = go (statement_at T h d) refl
    where
      go : (r : Option Statement) → statement_at T h d ≡ r
          → read_safe store (environment_of T h) r (state_before store (environment_of T h) L (tree T h) (new_state store) d)
          ≡ read_safe (by_chains q) (environment_of T h) r (state_before (by_chains q) (environment_of T h) L (tree T h) (new_state (by_chains q)) d)
      go (Some (Plain s)) e =
          let w = well-formed T h formed in
          let right = decides h w.limits formed in
          safe-agrees T h w q right (before-represented T h w.limits L (entries-right T h w.limits L listed) q right (tree T h) d
          (table-laid T h laid).reads (new-represented (variables T h w.limits) q)) s (read-typed T h d (Plain s) e)
      go (Some (If c n m)) e = refl
      go (Some (While c n)) e = refl
      go (Some (Bundle n)) e = refl
      go (Some (Call c)) e = refl
      go None e = refl

-- ---- the whole report

module _ (T L : List ℤ) (q : Decider) (decides : DecidesTable T q) (a : ℕ) where
  same_if : (xs ys : List Refusal) → faults store [] T L ≡ xs → SameFirst xs ys
      → reported_if xs (safe_at store T (sections_of T) L a) ≡ reported_if ys (safe_at (by_chains q) T (sections_of T) L a)
  unfolding reported_if
  same_if [] [] e s =
      let c = faults-clear [] T L e in
      let k : c.0 ≡ sections_of T = formed-sections T c.0 c.1.form in
      rw k at (safe-represented T c.0 L c.1.form c.1.laid c.1.listed q decides a)
  same_if [] (y ∷ ys) e s = absurd s
  same_if (x ∷ xs) [] e s = absurd s
  same_if (x ∷ xs) (y ∷ ys) e s = refl

  pub report-agrees : reported_at store T L a ≡ reported_at (by_chains q) T L a
  unfolding reported_at
  report-agrees = same_if (faults store [] T L) (faults (by_chains q) [] T L) refl (faults-agree [] none-formed T L q decides)

pub reported-stored : (T L : List ℤ) (ws : List ℕ) → ((a : ℕ) → a < 1024 → reported ws a ≡ reported_at store T L a) → Reported T L ws
unfolding Reported
reported-stored T L ws e = decided T _ (λ d r a l. e a l ∙ report-agrees T L d r a)
