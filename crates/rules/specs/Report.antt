-- The report (document 02, point 9): "The checker then reports, lowest statement first, exactly the accesses for which the facts before them show p >= 1, the
-- lower end at most the address, and the address plus 1 at most the upper end, by the rule for ends."
use Rattle.statements.specs.declared.Statement.{Statement}
use Rattle.std.specs.Prelude.{ℕ, Bool, false, List, [], ◌∷◌, ℤ, None, Option, Some}
use Rattle.answers.specs.declared.refusals.Refusal.{Refusal}
use Rattle.words.specs.declared.sections.Sections.{Sections}
use Rattle.statements.specs.Statements.{statement_at}
use Rattle.statements.specs.declared.Statement.TheVariants.{Plain, If, While, Bundle, Call}
use Rattle.table.specs.Form.{sections_of}
use Rattle.blocks.specs.Tree.{tree}
use Rattle.rules.specs.FactSets.{FactSets, State}
use Rattle.rules.specs.Rules.{new_state, safe_in}
use Rattle.rules.specs.StateBefore.{state_before}
use Rattle.rules.specs.Verdict.{environment_of, faults}
use Rattle.rules.specs.declared.Environment.{Environment}

-- A refused table has no report.
unfoldable pub reported_if : List Refusal → Bool → Bool
reported_if [] b = b
reported_if (f ∷ fs) b = false

module _ (S : FactSets) where
  open S use {Facts}

  -- The statement is an access that is shown safe in the state before it.
  abbrev pub read_safe : Environment → Option Statement → State Facts → Bool
  read_safe E (Some (Plain s)) w = safe_in S E w s
  read_safe E (Some (If c n m)) w = false
  read_safe E (Some (While c n)) w = false
  read_safe E (Some (Bundle n)) w = false
  read_safe E (Some (Call c)) w = false
  read_safe E None w = false

  -- Statement d of a table, with the list L of loop facts, is such an access.
  unfoldable pub safe_at : List ℤ → Sections → List ℤ → ℕ → Bool
  safe_at T h L d = read_safe (environment_of T h) (statement_at T h d) (state_before S (environment_of T h) L (tree T h) (new_state S) d)

  -- Whether statement d of a routine by itself is reported.
  unfoldable pub reported_at : List ℤ → List ℤ → ℕ → Bool
  reported_at T L d = reported_if (faults S [] T L) (safe_at T (sections_of T) L d)
