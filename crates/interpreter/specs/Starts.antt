-- What a run begins with: a fault refuses it, or what its loop needs is laid out. (The dispatcher begins each routine so, and serves it later.)
use Rattle.std.specs.Prelude.{ℕ, ◌*◌, ◌≤◌, ◌≡◌, List, [], ◌∷◌, ℤ, length, get_or, Err, Ok, Result}
use Rattle.sums.specs.Numbers.{max_value}
use Rattle.answers.specs.declared.refusals.Refusal.{Refusal}
use Rattle.words.specs.declared.sections.Sections.{Sections}
use Rattle.table.specs.Form.{form_of}
use Rattle.blocks.specs.Flow.{table_flow}
use Rattle.blocks.specs.Written.{written}
use Rattle.rules.specs.BoundsRules.{own_rows}
use Rattle.rules.specs.Verdict.{environment_of}
use Rattle.rules.specs.Stored.{faults, store}
use Rattle.entry.specs.Entry.{entry_refusals}
use Rattle.entry.specs.Ends.{ends_of}
use Rattle.interpreter.specs.Claim.{Lent, run_faults}
use Rattle.interpreter.specs.Marks.{marks, Reports}

-- The words that are lent are of 32 bits.
pub record Small (cs vs : List ℕ) : Type 0 where
  pub cells-small : (i : ℕ) → get_or cs i 0 ≤ max_value
  pub values-small : (x : ℕ) → get_or vs x 0 ≤ max_value

-- Nothing refuses the run; W has the declared ends, S the successors of its statements, with marks where they are reported.
pub record Launched (T : List ℤ) (h : Sections) (L : List ℤ) (D cs vs os W S : List ℕ) : Type 0 where
  pub formed : form_of T ≡ Ok h
  pub accepts : faults [] T L ≡ []
  pub small : Small cs vs
  pub none : entry_refusals h (environment_of T h) D cs vs os ≡ []
  pub ends : W ≡ ends_of (environment_of T h) own_rows
  pub slice : List ℕ
  pub room : 2 * h.statements ≤ length slice
  pub report : List ℕ
  pub reports : Reports T L report
  pub successors : S ≡ marks report h.statements (written (table_flow T h) slice)

-- The first fault is r.
abbrev pub First : List Refusal → Refusal → Type 0
First fs r = (rest : List Refusal) × (fs ≡ r ∷ rest)

-- What `prepare` promises, by the store's facts: the first fault, or what the loop begins with is laid out.
abbrev pub Starts : Result Sections Refusal → List ℤ → List ℤ → Lent → List ℕ → List ℕ → Type 0
Starts (Err r) T L l W S = First (run_faults T L l store) r
Starts (Ok h) T L l W S = Launched T h L l.directory l.cells l.values l.origins W S
