-- The paper's section "The plain machine", sentence by sentence.
use Rattle.statements.specs.declared.Statement.{Statement}
use Rattle.std.specs.Prelude.{ℕ, zero, suc, ◌+◌, ◌-◌, ◌*◌, ◌%◌, ◌^◌, Bool, true, false, not, ◌&&◌, ◌||◌, List, leb, ltb, eqb, ℤ, length, get_or, set}
use Rattle.std.specs.Prelude.{None, Option, Some}
use Rattle.sums.specs.Numbers.{bias, max_value}
use Rattle.words.specs.declared.sections.Sections.{Sections}
use Rattle.conditions.specs.Conditions.{relates}
use Rattle.conditions.specs.declared.Condition.{Condition}
use Rattle.statements.specs.Statements.{statement_at}
use Rattle.statements.specs.declared.Simple.{Simple}
use Rattle.statements.specs.declared.Simple.TheVariants.{Literal, AddConstant, Arithmetic, Null, Address}
use Rattle.statements.specs.declared.Simple.TheVariants.{PointerOffset, PointerIndex, Load, Store, Check, Declare}
use Rattle.statements.specs.declared.Statement.TheVariants.{Plain, If, While, Bundle, Call}
use Rattle.table.specs.declared.variables.End.{End}
use Rattle.blocks.specs.Flow.{Successors, successors, table_flow, table_entry}
use Rattle.rules.specs.BoundsRules.{declared, own_rows, in_force, rows_after, element_size, is_string, is_terminated, upper_limit}
use Rattle.rules.specs.declared.Environment.{Environment}

-- ---- values, ends and objects

-- The value of a variable; the number 16, which no variable has, stands for zero.
abbrev pub value : List ℕ → ℕ → ℕ
value vs x = get_or vs x 0

-- "An end's value is the whole number pointer + integer + k, never wrapped; null is 0, a missing integer is 0." With the bias.
-- Point 10: "an end's integer is multiplied by the s of the pointer it bounds".
abbrev pub end_value : List ℕ → ℕ → End → ℕ
end_value vs s e = value vs e.pointer + s * value vs e.integer + e.constant

-- The end of a declared bound; an integer has none.
abbrev pub end_of : Option End → End
end_of (Some e) = e
end_of None = record { pointer = 0; integer = 0; constant = 0 }

abbrev pub lower_end : Environment → List ℕ → ℕ → ℕ
lower_end E vs p = end_value vs (element_size E p) (end_of (declared E p).lower)

abbrev pub upper_end : Environment → List ℕ → ℕ → ℕ
upper_end E vs p = end_value vs (element_size E p) (end_of (declared E p).upper)

-- "The memory directory is one pair of offset and length per object": object o is the cells low to high - 1.
abbrev pub low : List ℕ → ℕ → ℕ
low D o = get_or D (2 * o) 0

abbrev pub high : List ℕ → ℕ → ℕ
high D o = get_or D (2 * o) 0 + get_or D (2 * o + 1) 0

-- Object o is one of the directory.
abbrev pub is_object : List ℕ → ℕ → Bool
is_object D o = ltb (2 * o + 1) (length D)

-- Point 7: "For every pointer into such an object the upper end must be at most high - 1."
abbrev pub top : Environment → List ℕ → ℕ → ℕ
top E D o = upper_limit (is_terminated E o) (high D o)

-- Point 7: the bounds of a kind 2 pointer "are true only when it is null or its origin is a terminated object".
abbrev pub takes_from : Environment → ℕ → ℕ → Bool
takes_from E p o = not (is_string E p) || is_terminated E o

-- "Bounds of p are true when p is null or its origin object [low, high) has low <= lower end and upper end <= high." So a pointer that is not null has an
-- object for its origin: origin 0 is none, and so is a number past the directory.
unfoldable pub origin_holds : Environment → List ℕ → ℕ → ℕ → ℕ → ℕ → Bool
origin_holds E D p zero l u = false
origin_holds E D p (suc o) l u = is_object D o && takes_from E p o && leb (low D o + bias) l && leb u (top E D o + bias)

unfoldable pub bounds_true : Environment → List ℕ → List ℕ → List ℕ → ℕ → Bool
bounds_true E D vs os p = eqb (value vs p) 0 || origin_holds E D p (get_or os p 0) (lower_end E vs p) (upper_end E vs p)

-- The address, with the bias, lies in the object of the origin.
unfoldable pub in_origin : List ℕ → ℕ → ℕ → Bool
in_origin D zero a = false
in_origin D (suc o) a = leb (low D o + bias) a && ltb a (high D o + bias)

-- ---- "Conditions compare values, pointers by address."

unfoldable pub condition_holds : List ℕ → Condition → Bool
condition_holds vs c = relates c.relation (value vs c.left) (value vs c.right + c.offset)

-- ---- the six checks

-- The first named check that fails, by its number.
pub data Failing : Type 0 where
  none : Failing
  fails : ℕ → Failing

abbrev pub first_of : Bool → ℕ → Failing → Failing
first_of true n rest = fails n
first_of false n rest = rest

abbrev pub first_unless : Bool → Failing → Failing
first_unless true rest = none
first_unless false rest = rest

-- Point 10: "an access is at p + s times i + k; each k stays in cells". With the bias.
abbrev pub address : Environment → List ℕ → ℕ → ℕ → ℕ → ℕ
address E vs p i k = value vs p + element_size E p * value vs i + k

-- Point 10: "Kind 7 moves by s of q times i": the whole number.
abbrev pub indexed : Environment → List ℕ → ℕ → ℕ → ℕ
indexed E vs q i = value vs q + element_size E q * value vs i

-- An address a that is "not below the upper" end u; point 7: of a kind 2 pointer, above it.
abbrev pub beyond : Bool → ℕ → ℕ → Bool
beyond true u a = ltb u a
beyond false u a = leb u a

-- "2 access through null; 3 address p + i + k below the lower end or not below the upper", then the rest.
unfoldable pub access_failing : Environment → List ℕ → ℕ → ℕ → Failing → Failing
access_failing E vs p a rest = first_of (eqb (value vs p) 0) 2 (first_of (ltb a (lower_end E vs p) || beyond (is_string E p) (upper_end E vs p) a) 3 rest)

-- Point 7: a store of a number x that is not 0 at the upper end. (An array_ptr is stopped there before.)
unfoldable pub terminator_failing : Environment → List ℕ → ℕ → ℕ → ℕ → Failing
terminator_failing E vs p a x = first_of (eqb a (upper_end E vs p) && not (eqb x 0)) 6 none

-- What may be read and what may be written. Point 7: "A kind 2 pointer may also read the cell at its upper end and store 0 there; storing another number
-- there is stop 6, tested after stop 3."
abbrev pub load_failing : Environment → List ℕ → ℕ → ℕ → Failing
load_failing E vs p a = access_failing E vs p a none

abbrev pub store_failing : Environment → List ℕ → ℕ → ℕ → ℕ → Failing
store_failing E vs p a x = access_failing E vs p a (terminator_failing E vs p a x)

-- "4 arithmetic on null; 5 result outside 1 to 4,294,967,295": the result with the bias.
unfoldable pub arithmetic_failing : ℕ → ℕ → Failing
arithmetic_failing q a = first_of (eqb q 0) 4 (first_of (leb a bias || ltb (bias + max_value) a) 5 none)

unfoldable pub failing : Environment → List ℕ → Simple → Failing
failing E vs (Literal x k) = none
failing E vs (AddConstant x y k) = none
failing E vs (Arithmetic x y z op) = none
failing E vs (Null p) = none
failing E vs (Address p o) = none
-- "(kind 6 with k not 0, kind 7)"
failing E vs (PointerOffset p q k) = first_unless (eqb k bias) (arithmetic_failing (value vs q) (value vs q + k))
failing E vs (PointerIndex p q i) = arithmetic_failing (value vs q) (indexed E vs q i + bias)
failing E vs (Load x p i k) = load_failing E vs p (address E vs p i k)
failing E vs (Store p i k x) = store_failing E vs p (address E vs p i k) (value vs x)
-- "1 dynamic check false"
failing E vs (Check c) = first_of (not (condition_holds vs c)) 1 none
failing E vs (Declare p r) = none

-- ---- the state

-- "Its state: cells, values, origins, the statement due, the steps"; point 2: the rows in force; and whether a check stopped it, or it has no step.
pub data Status : Type 0 where
  going : Status
  stopped : ℕ → Status
  stuck : Status

pub record Point : Type 0 where
  pub cells : List ℕ
  pub values : List ℕ
  pub origins : List ℕ
  pub rows : List ℕ
  pub due : ℕ
  pub steps : ℕ
  pub status : Status

-- What a statement of kinds 1 to 10 and 14 leaves, where no check fails.
pub record Memory : Type 0 where
  pub cells : List ℕ
  pub values : List ℕ
  pub origins : List ℕ
  pub rows : List ℕ

pub data Performed : Type 0 where
  done : Memory → Performed
  no_step : Performed

abbrev pub set_integer : Memory → ℕ → ℕ → Performed
set_integer m x a = done (record { cells = m.cells; values = set m.values x a; origins = m.origins; rows = m.rows })

abbrev pub set_pointer : Memory → ℕ → ℕ → ℕ → Performed
set_pointer m p a o = done (record { cells = m.cells; values = set m.values p a; origins = set m.origins p o; rows = m.rows })

-- "op (0 add, 1 subtract, 2 multiply)", "modulo 4,294,967,296"
unfoldable pub combined : ℕ → ℕ → ℕ → ℕ
combined zero a b = (a + b) % 2 ^ 32
combined (suc zero) a b = (a + 2 ^ 32 - b) % 2 ^ 32
combined (suc (suc n)) a b = a * b % 2 ^ 32

abbrev pub step_if : Bool → Performed → Performed
step_if true p = p
step_if false p = no_step

-- "Kinds 1 to 3 set x, modulo 4,294,967,296. Kind 4 gives p 0 and origin 0; kind 5 the offset of o and origin o + 1; 6 and 7 the whole number q + k or
-- q + i and q's origin. Kinds 8 and 9 read or write the cell at the whole number p + i + k; where no check fails, they have a step only if it lies in
-- p's origin object. Kind 10 changes nothing." Each i is multiplied by an element size (`indexed`, `address`).
unfoldable pub performed : Environment → List ℕ → Simple → Memory → Performed
performed E D (Literal x k) m = set_integer m x k
performed E D (AddConstant x y k) m = set_integer m x ((value m.values y + k) % 2 ^ 32)
performed E D (Arithmetic x y z op) m = set_integer m x (combined op (value m.values y) (value m.values z))
performed E D (Null p) m = set_pointer m p 0 0
performed E D (Address p o) m = set_pointer m p (low D o) (o + 1)
performed E D (PointerOffset p q k) m = set_pointer m p (value m.values q + k - bias) (get_or m.origins q 0)
performed E D (PointerIndex p q i) m = set_pointer m p (indexed E m.values q i) (get_or m.origins q 0)
performed E D (Load x p i k) m =
    step_if (in_origin D (get_or m.origins p 0) (address E m.values p i k)) (set_integer m x (get_or m.cells (address E m.values p i k - bias) 0))
performed E D (Store p i k x) m =
    step_if (in_origin D (get_or m.origins p 0) (address E m.values p i k))
    (done (record {
      cells = set m.cells (address E m.values p i k - bias) (value m.values x);
      values = m.values;
      origins = m.origins;
      rows = m.rows;
    }))
performed E D (Check c) m = done m
-- Point 2: a kind 14 changes the row in force, and nothing else.
performed E D (Declare p r) m = done (record { cells = m.cells; values = m.values; origins = m.origins; rows = rows_after (Declare p r) m.rows })

-- ---- steps. The machine is fed the routine (T, with its sections h and what it declares, E), the directory D, and a point.

abbrev pub memory_of : Point → Memory
memory_of P = record { cells = P.cells; values = P.values; origins = P.origins; rows = P.rows }

-- "Each statement begun is one step": the point after a step to the statement n.
abbrev pub moved : Point → Memory → ℕ → Point
moved P m n = record { cells = m.cells; values = m.values; origins = m.origins; rows = m.rows; due = n; steps = P.steps + 1; status = going }

-- "The stopping statement is counted and changes nothing"; "a stopped run's statement stays due".
abbrev pub halted : Point → ℕ → Point
halted P n = record { cells = P.cells; values = P.values; origins = P.origins; rows = P.rows; due = P.due; steps = P.steps + 1; status = stopped n }

abbrev pub lost : Point → Point
lost P = record { cells = P.cells; values = P.values; origins = P.origins; rows = P.rows; due = P.due; steps = P.steps; status = stuck }

abbrev pub after_performed : Point → ℕ → Performed → Point
after_performed P n (done m) = moved P m n
after_performed P n no_step = lost P

abbrev pub after_checks : Failing → Point → ℕ → Performed → Point
after_checks (fails n) P next p = halted P n
after_checks none P next p = after_performed P next p

abbrev pub branched : Bool → Point → Successors → Point
branched true P s = moved P (memory_of P) s.next
branched false P s = moved P (memory_of P) s.other

-- "An if, a bundle, or a while whose condition holds makes its block (of an if the chosen one) due from its first statement. After any other statement, and
-- after a while whose condition fails, the next in the same block is due." The successors are those of the flow.
unfoldable pub statement_step : Environment → List ℕ → Option Statement → Successors → Point → Point
statement_step E D (Some (Plain s)) n P = after_checks (failing (in_force E P.rows) P.values s) P n.next (performed E D s (memory_of P))
statement_step E D (Some (If c x y)) n P = branched (condition_holds P.values c) P n
statement_step E D (Some (While c x)) n P = branched (condition_holds P.values c) P n
statement_step E D (Some (Bundle x)) n P = moved P (memory_of P) n.next
-- A call is no step of a routine by itself: it makes another routine run (`SetMachine`).
statement_step E D (Some (Call c)) n P = lost P
statement_step E D None n P = lost P

module _ (T : List ℤ) (h : Sections) (E : Environment) (D : List ℕ) where
  abbrev pub successors_of : ℕ → Successors
  successors_of a = get_or (table_flow T h) a (successors 0 0 0)

  -- A step from a point where a statement is due; the number past the last one is "nothing".
  abbrev pub step_if_due : Bool → Point → Point
  step_if_due true P = statement_step E D (statement_at T h P.due) (successors_of P.due) P
  step_if_due false P = P

  -- The next point; a run that has ended stays where it is.
  unfoldable pub next_point : Status → Point → Point
  next_point going P = step_if_due (ltb P.due h.statements) P
  next_point (stopped n) P = P
  next_point stuck P = P

  -- "at the start what was lent, the first statement (in an empty table nothing), 0"
  unfoldable pub start : List ℕ → List ℕ → List ℕ → Point
  start cs vs os = record { cells = cs; values = vs; origins = os; rows = own_rows; due = table_entry T h; steps = 0; status = going }
