-- Runs of the plain machine without origins, which is what the code does.
use Rattle.std.specs.Prelude.{ℕ, zero, suc, ◌+◌, ◌≡◌, Bool, true, false, cond, List, ltb, ℤ}
use Rattle.words.specs.declared.sections.Sections.{Sections}
use Rattle.steps.specs.Bare.{bare_move, Ready}
use Rattle.checks.specs.declared.Step.{Step}
use Rattle.checks.specs.declared.Step.TheVariants.{Go, Stop, Call}
use Rattle.answers.specs.declared.stops.Outcome.{Outcome}
use Rattle.answers.specs.declared.stops.Outcome.TheVariants.{Done, Spent, Stopped}

-- A run's end: its outcome, and the ends in force, values and cells then.
pub record BareResult : Type 0 where
  pub outcome : Outcome
  pub ends : List ℕ
  pub values : List ℕ
  pub cells : List ℕ

abbrev pub result : Outcome → List ℕ → List ℕ → List ℕ → BareResult
result o W vs cs = record { outcome = o; ends = W; values = vs; cells = cs }

-- After a step from the statement a, with n steps made before it, to the ends W, the values vs and the cells cs. A call is no step of this routine alone: the
-- run is given up where it is due, before the limit is used.
abbrev pub follow : Step → (ℕ → BareResult) → ℕ → ℕ → List ℕ → List ℕ → List ℕ → BareResult
follow (Go b) go n a W vs cs = go b
follow (Stop c) go n a W vs cs = result (Stopped (n + 1) c) W vs cs
follow Call go n a W vs cs = result (Spent n a) W vs cs

abbrev pub IfTrue : Bool → Type 0 → Type 0
IfTrue true A = A
IfTrue false A = Unit {0}

abbrev pub Onward : Step → (ℕ → Type 0) → Type 0
Onward (Go b) A = A b
Onward (Stop c) A = Unit {0}
Onward Call A = Unit {0}

-- ---- the run. S is the slice of successors, D the directory, W the ends.

-- From the statement due with n steps made: done where nothing is due, spent where the limit is used (or, before that, a call is due), else the step, which
-- may change the ends.
unfoldable pub bare_run : List ℤ → Sections → List ℕ → List ℕ → List ℕ → ℕ → ℕ → ℕ → List ℕ → List ℕ → BareResult
bare_run T h W D S zero n a vs cs = cond (ltb a h.statements) (result (Spent n a) W vs cs) (result (Done n) W vs cs)
bare_run T h W D S (suc l) n a vs cs =
    let m = bare_move T h W D S a vs cs in
    cond (ltb a h.statements)
    (follow m.said (λ b. bare_run T h m.ends D S l (n + 1) b m.values m.cells) n a m.ends m.values m.cells)
    (result (Done n) W vs cs)

-- Each statement begun within the limit reads, and its access is inside.
unfoldable pub SafeRun : List ℤ → Sections → List ℕ → List ℕ → List ℕ → ℕ → ℕ → List ℕ → List ℕ → Type 0
SafeRun T h W D S zero a vs cs = Unit {0}
SafeRun T h W D S (suc l) a vs cs =
    let m = bare_move T h W D S a vs cs in
    IfTrue (ltb a h.statements) (Ready T h W S a vs cs × Onward m.said (λ b. SafeRun T h m.ends D S l b m.values m.cells))

-- A run of the code ends with the result o.
pub record Ends (o : BareResult) (r : Outcome) (W vs cs : List ℕ) : Type 0 where
  pub outcome : r ≡ o.outcome
  pub ends : W ≡ o.ends
  pub values : vs ≡ o.values
  pub cells : cs ≡ o.cells
