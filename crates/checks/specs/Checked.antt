-- What the checks of a run read, and what they say of a step.
use Rattle.std.specs.Prelude.{ℕ, zero, suc, ◌+◌, ◌*◌, ◌%◌, ◌^◌, ◌<◌, ◌≤◌, Bool, List, [], eqb, length, get_or, Some}
use Rattle.arrays.specs.Tabulate.{tabulate}
use Rattle.conditions.specs.declared.Condition.{Condition}
use Rattle.table.specs.declared.variables.End.{End}
use Rattle.rules.specs.declared.Bounds.{Bounds}
use Rattle.rules.specs.declared.Environment.{Environment}
use Rattle.machine.specs.Machine.{Failing, none, fails}
use Rattle.answers.specs.declared.stops.Check.{Check}
use Rattle.answers.specs.declared.stops.Check.TheVariants.{ConditionFalse, NullAccess, OutOfBounds, NullArithmetic, AddressRange, Terminator}
use Rattle.checks.specs.declared.Step.{Step}
use Rattle.checks.specs.declared.Step.TheVariants.{Go, Stop}

-- ---- bounds in a slice of 512 numbers: those in force, six a pointer (pointer, integer and constant of the lower end, then of the upper end), then those of
-- the table's 64 rows, then (point 10) the element size of each pointer, then (point 7) a 1 for each pointer of kind 2

abbrev pub size_in : List ℕ → ℕ → ℕ
size_in W p = get_or W (480 + p) 0

abbrev pub string_in : List ℕ → ℕ → Bool
string_in W p = eqb (get_or W (496 + p) 0) 1

abbrev pub end_in : List ℕ → ℕ → End
end_in W i = record { pointer = get_or W i 0; integer = get_or W (i + 1) 0; constant = get_or W (i + 2) 0 }

abbrev pub bounds_in : List ℕ → ℕ → Bounds
bounds_in W p = record { size = size_in W p; lower = Some (end_in W (6 * p)); upper = Some (end_in W (6 * p + 3)) }

-- What such a slice declares.
unfoldable pub declared_in : List ℕ → Environment
declared_in W = record {
  pointers = [];
  strings = tabulate 16 (string_in W);
  sizes = tabulate 16 (size_in W);
  declared = tabulate 16 (bounds_in W);
  lengths = [];
  terminated = [];
  spans = [];
  rows = [];
}

-- ---- slots: a value for each variable, and behind them a 0 for the number that stands for zero

-- Each end names slots.
abbrev pub Named : List ℕ → Type 0
Named W = (i : ℕ) → i % 3 < 2 → get_or W i 0 ≤ 16

-- So does a condition, and no sum wraps.
abbrev pub Comparable : Condition → List ℕ → Type 0
Comparable c vs = (c.offset < 2 ^ 32) × (c.left < length vs) × (c.right < length vs)

-- ---- steps

-- The check of a number of 1 to 6.
abbrev pub check_of : ℕ → ℕ → Check
check_of zero s = ConditionFalse s
check_of (suc zero) s = ConditionFalse s
check_of (suc (suc zero)) s = NullAccess s
check_of (suc (suc (suc zero))) s = OutOfBounds s
check_of (suc (suc (suc (suc zero)))) s = NullArithmetic s
check_of (suc (suc (suc (suc (suc zero))))) s = AddressRange s
check_of (suc (suc (suc (suc (suc (suc n)))))) s = Terminator s

-- The step to the statement `next`, unless a check fails at the statement a.
unfoldable pub step_unless : Failing → ℕ → ℕ → Step
step_unless none a next = Go next
step_unless (fails n) a next = Stop (check_of n a)
