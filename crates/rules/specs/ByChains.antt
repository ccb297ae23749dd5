-- The verdict in the paper's own words. What is known is told by the operations that were done (a history), and each question is answered by a decider of
-- the paper's sentence about chains. Nothing here speaks of how the code stores facts.
use Rattle.std.specs.Prelude.{ℕ, ◌+◌, ◌-◌, ◌*◌, ◌<◌, ◌≡◌, ◌↔◌, Bool, true, List, ℤ, Ok, Result, Some}
use Rattle.sums.specs.Numbers.{bias}
use Rattle.chains.specs.Facts.{Variables, Node, Shown, EndShown}
use Rattle.chains.specs.History.{History, new, add, drop, range, shift, join, known, Legal}
use Rattle.answers.specs.declared.refusals.Refusal.{Refusal}
use Rattle.words.specs.Sections.{Limits}
use Rattle.words.specs.declared.sections.Sections.{Sections}
use Rattle.table.specs.Form.{form_of}
use Rattle.rules.specs.FactSets.{FactSets}
use Rattle.rules.specs.BoundsRules.{is_pointer}
use Rattle.rules.specs.Calls.{Routine}
use Rattle.rules.specs.Verdict.{environment_of, faults, Says}
use Rattle.rules.specs.Report.{reported_at}
use Rattle.reports.specs.Reports.{reported}

-- Answers to the questions about what is known after a history.
pub record Decider : Type 0 where
  pub shown : History → ℕ → ℕ → ℕ → Bool
  pub end_shown : History → ℕ → ℕ → ℕ → ℕ → ℕ → ℕ → ℕ → Bool

-- The decider says yes exactly where the paper's sentence about chains of the known facts is true.
-- (What it says after histories that no routine has, or of numbers that no variable has, is left open: no verdict depends on it.)
pub record Decides (vars : Variables) (d : Decider) : Type 0 where
  pub shown : (h : History) → Legal vars h → (x y k : ℕ) → Node vars x → Node vars y → (d.shown h x y k ≡ true) ↔ Shown (known vars h) x y k
  pub end_shown : (h : History) → Legal vars h → (s q n k r m j : ℕ) → Node vars q → Node vars n → Node vars r → Node vars m
      → (d.end_shown h s q n k r m j ≡ true) ↔ EndShown (known vars h) s q n k r m j

-- The paper's facts, for the rules: an operation is put on record, a question is decided, and an end's constant is a whole number.
abbrev pub by_chains : Decider → FactSets
by_chains d = record {
  Facts = History;
  new = new;
  added = add;
  dropped = drop;
  ranged = range;
  shifted = shift;
  joined = λ pointer h g. join h g;
  shown = d.shown;
  end_shown = d.end_shown;
  end_less = λ w k e. Some (record { pointer = e.pointer; integer = e.integer; constant = e.constant + w * bias - w * k });
}

-- The variables that a table declares.
abbrev pub variables : List ℤ → (h : Sections) → Limits h → Variables
variables T h w = record { count = h.variables; some = w.some; few = w.variables; pointer = is_pointer (environment_of T h) }

-- It decides the sentences about the variables of the table, where causes 1 to 5 leave one.
abbrev pub DecidesTable : List ℤ → Decider → Type 0
DecidesTable T d = (h : Sections) (w : Limits h) → form_of T ≡ Ok h → Decides (variables T h w) d

-- What is so of a table by the paper's chains: there is a decider of its sentences, and by each such decider it is so.
pub record Decided (T : List ℤ) (P : Decider → Type 0) : Type 0 where
  pub decider : Decider
  pub decides : DecidesTable T decider
  pub by-each : (d : Decider) → DecidesTable T d → P d

-- All faults of a table and its list of loop facts by the paper's rules, its facts and its chains; `callees` are the routines that it may call.
abbrev pub chain_faults : Decider → List Routine → List ℤ → List ℤ → List Refusal
chain_faults d = faults (by_chains d)

-- THE VERDICT ON A TABLE T with the list L of loop facts (point 9; an empty list: none): that of the first fault. "a routine by itself is number 0"
-- (point 14): it has no callees.
unfoldable pub Judged : List Routine → List ℤ → List ℤ → Result (Unit {0}) Refusal → Type 0
Judged callees T L v = Decided T (λ d. Says (chain_faults d callees T L) v)

-- THE REPORT ON A TABLE T with the list L (point 9): "exactly the accesses for which the facts before them show" that they are safe; statement d by its bit.
unfoldable pub Reported : List ℤ → List ℤ → List ℕ → Type 0
Reported T L ws = Decided T (λ d. (a : ℕ) → a < 1024 → reported ws a ≡ reported_at (by_chains d) T L a)
