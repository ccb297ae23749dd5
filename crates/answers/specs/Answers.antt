-- What the answer of a run reads as, in the paper's numbers (document 01, "The plain machine"): the named checks; "done, spent .. or stopped", or refused.
use Rattle.std.specs.Prelude.{ℕ}
use Rattle.answers.specs.Refusals.{number, place, pointer}
use Rattle.answers.specs.declared.stops.Outcome.{Outcome}
use Rattle.answers.specs.declared.stops.Outcome.TheVariants.{Done, Spent, Stopped, Refused}
use Rattle.answers.specs.declared.stops.Check.{Check}
use Rattle.answers.specs.declared.stops.Check.TheVariants.{ConditionFalse, NullAccess, OutOfBounds, NullArithmetic, AddressRange, Terminator}

-- ---- the six named checks (the sixth: document 02, point 7): the number of each, and the statement at which it fails

-- "1 dynamic check false; 2 access through null; 3 address p + i + k below the lower end or not below the upper; 4 arithmetic on null; 5 result outside
-- 1 to 4,294,967,295"; point 7: "storing another number there is stop 6"
abbrev pub check_number : Check → ℕ
check_number (ConditionFalse s) = 1
check_number (NullAccess s) = 2
check_number (OutOfBounds s) = 3
check_number (NullArithmetic s) = 4
check_number (AddressRange s) = 5
check_number (Terminator s) = 6

-- "stopped and spent give the statement"
abbrev pub check_statement : Check → ℕ
check_statement (ConditionFalse s) = s
check_statement (NullAccess s) = s
check_statement (OutOfBounds s) = s
check_statement (NullArithmetic s) = s
check_statement (AddressRange s) = s
check_statement (Terminator s) = s

-- ---- the answer
pub data Answer : Type 0 where
  -- its steps
  done : ℕ → Answer
  -- its steps, the statement due
  spent : ℕ → ℕ → Answer
  -- its steps, the statement at which it stopped, the number of the check
  stopped : ℕ → ℕ → ℕ → Answer
  -- the refusal's number, its place, its pointer
  refused : ℕ → ℕ → ℕ → Answer

abbrev pub reads : Outcome → Answer
reads (Done n) = done n
reads (Spent n s) = spent n s
reads (Stopped n c) = stopped n (check_statement c) (check_number c)
reads (Refused r) = refused (number r) (place r) (pointer r)
