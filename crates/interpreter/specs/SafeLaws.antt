-- Point 9: a statement that is shown safe is an access, and fails no check where the claim holds.
use Rattle.std.specs.Prelude.{ℕ, ◌≡◌, refl, true, List, [], ◌∷◌, ℤ, None, Option, Some}
use Rattle.std.proofs.lemmas.Bool.{false≢true}
use Rattle.answers.specs.declared.refusals.Refusal.{Refusal}
use Rattle.words.specs.declared.sections.Sections.{Sections}
use Rattle.statements.specs.Statements.{statement_at}
use Rattle.statements.specs.declared.Simple.{Simple}
use Rattle.statements.specs.declared.Statement.{Statement}
use Rattle.statements.specs.declared.Statement.TheVariants.{Plain, If, While, Bundle, Call}
use Rattle.table.specs.Form.{sections_of}
use Rattle.blocks.specs.Tree.{tree}
use Rattle.rules.specs.BoundsRules.{in_force}
use Rattle.rules.specs.StateBefore.{state_before}
use Rattle.rules.specs.Report.{read_safe, safe_at, reported_if, reported_at}
use Rattle.rules.specs.Stored.{store, new_state, faults}
use Rattle.rules.specs.declared.Environment.{Environment}
use Rattle.machine.specs.Machine.{none, Point}
use Rattle.machine.specs.Points.{failing_at}
use Rattle.machine.specs.Soundness.{Sound}

-- A reported statement is shown safe.
pub reported-safe : (T L : List ℤ) (a : ℕ) → reported_at store T L a ≡ true → safe_at store T (sections_of T) L a ≡ true
unfolding reported_at reported_if
reported-safe T L a e = go (faults [] T L) e
  where
    go : (fs : List Refusal) → reported_if fs (safe_at store T (sections_of T) L a) ≡ true → safe_at store T (sections_of T) L a ≡ true
    go [] e = e
    go (f ∷ fs) e = absurd (false≢true e)

module _ (T : List ℤ) (h : Sections) (E : Environment) (L : List ℤ) where
  -- What is shown safe is of kinds 1 to 10 and 14.
  pub safe-plain : (a : ℕ) (s : Statement) → read_safe store E (Some s) (state_before store E L (tree T h) new_state a) ≡ true → (x : Simple) × (s ≡ Plain x)
  safe-plain a (Plain x) q = (x, refl)
  safe-plain a (If c n m) q = absurd (false≢true q)
  safe-plain a (While c n) q = absurd (false≢true q)
  safe-plain a (Bundle n) q = absurd (false≢true q)
  safe-plain a (Call c) q = absurd (false≢true q)

  pub safe-passes : (D : List ℕ) (room : ℕ) (P : Point) → Sound T h E D room L P → (r : Option Statement) → statement_at T h P.due ≡ r
      → read_safe store E r (state_before store E L (tree T h) new_state P.due) ≡ true → failing_at (in_force E P.rows) r P.values ≡ none
  safe-passes D room P S (Some (Plain s)) e q = S.safe s e q
  safe-passes D room P S (Some (If c n m)) e q = absurd (false≢true q)
  safe-passes D room P S (Some (While c n)) e q = absurd (false≢true q)
  safe-passes D room P S (Some (Bundle n)) e q = absurd (false≢true q)
  safe-passes D room P S (Some (Call c)) e q = absurd (false≢true q)
  safe-passes D room P S None e q = absurd (false≢true q)
