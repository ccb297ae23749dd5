-- A step of the plain machine without origins, which is what the code does.
use Rattle.std.specs.Prelude.{cond, ℕ, ◌+◌, ◌-◌, ◌*◌, ◌%◌, ◌^◌, ◌<◌, ◌≤◌, zero, suc, ◌≡◌, List, eqb, ℤ, length, get_or, set, Some}
use Rattle.sums.specs.Numbers.{bias}
use Rattle.words.specs.Sections.{statement_start}
use Rattle.words.specs.declared.sections.Sections.{Sections}
use Rattle.statements.specs.Statements.{statement_at}
use Rattle.statements.specs.declared.Simple.{Simple}
use Rattle.statements.specs.declared.Simple.TheVariants.{Literal, AddConstant, Arithmetic, Null, Address, PointerOffset}
use Rattle.statements.specs.declared.Simple.TheVariants.{PointerIndex, Load, Store, Check as Test, Declare}
use Rattle.statements.specs.declared.Statement.{Statement}
use Rattle.statements.specs.declared.Statement.TheVariants.{Plain, If, While, Bundle, Call}
use Rattle.statements.specs.Decode.{decoded_at}
use Rattle.blocks.specs.Flow.{Successors}
use Rattle.blocks.specs.Shape.{entries_at}
use Rattle.machine.specs.Machine.{value, low, condition_holds, Failing, none, fails, first_unless, failing}
use Rattle.machine.specs.Machine.{load_failing, store_failing, arithmetic_failing, address, combined, indexed}
use Rattle.checks.specs.Checked.{declared_in, step_unless, size_in, Named, Comparable}
use Rattle.checks.specs.declared.Step.{Step}
use Rattle.checks.specs.declared.Step.TheVariants.{Go}
use Rattle.checks.specs.declared.Step.TheVariants as step

-- ---- what a statement of kinds 1 to 10 leaves where no check fails: the values and cells of `performed`

unfoldable pub values_after : List ℕ → List ℕ → Simple → List ℕ → List ℕ → List ℕ
values_after W D (Literal x k) vs cs = set vs x k
values_after W D (AddConstant x y k) vs cs = set vs x ((value vs y + k) % 2 ^ 32)
values_after W D (Arithmetic x y z op) vs cs = set vs x (combined op (value vs y) (value vs z))
values_after W D (Null p) vs cs = set vs p 0
values_after W D (Address p o) vs cs = set vs p (low D o)
values_after W D (PointerOffset p q k) vs cs = set vs p (value vs q + k - bias)
values_after W D (PointerIndex p q i) vs cs = set vs p (indexed (declared_in W) vs q i)
values_after W D (Load x p i k) vs cs = set vs x (get_or cs (address (declared_in W) vs p i k - bias) 0)
values_after W D (Store p i k x) vs cs = vs
values_after W D (Test c) vs cs = vs
values_after W D (Declare p r) vs cs = vs

unfoldable pub cells_after : List ℕ → Simple → List ℕ → List ℕ → List ℕ
cells_after W (Literal x k) vs cs = cs
cells_after W (AddConstant x y k) vs cs = cs
cells_after W (Arithmetic x y z op) vs cs = cs
cells_after W (Null p) vs cs = cs
cells_after W (Address p o) vs cs = cs
cells_after W (PointerOffset p q k) vs cs = cs
cells_after W (PointerIndex p q i) vs cs = cs
cells_after W (Load x p i k) vs cs = cs
cells_after W (Store p i k x) vs cs = set cs (address (declared_in W) vs p i k - bias) (value vs x)
cells_after W (Test c) vs cs = cs
cells_after W (Declare p r) vs cs = cs

-- Point 2: the first n of the six numbers of the row r become those of the pointer p.
unfoldable pub copied : ℕ → ℕ → ℕ → List ℕ → List ℕ
copied zero p r W = W
copied (suc n) p r W = set (copied n p r W) (6 * p + n) (get_or W (96 + 6 * r + n) 0)

-- The ends in force after a statement: "rows in force as laid-out ends".
unfoldable pub ends_after : Simple → List ℕ → List ℕ
ends_after (Literal x k) W = W
ends_after (AddConstant x y k) W = W
ends_after (Arithmetic x y z op) W = W
ends_after (Null p) W = W
ends_after (Address p o) W = W
ends_after (PointerOffset p q k) W = W
ends_after (PointerIndex p q i) W = W
ends_after (Load x p i k) W = W
ends_after (Store p i k x) W = W
ends_after (Test c) W = W
ends_after (Declare p r) W = copied 6 p r W

-- ---- the checks of kinds 6 and 7, as in `failing`

abbrev pub offset_failing : List ℕ → ℕ → ℕ → Failing
offset_failing vs q k = first_unless (eqb k bias) (arithmetic_failing (value vs q) (value vs q + k))

abbrev pub index_failing : List ℕ → List ℕ → ℕ → ℕ → Failing
index_failing W vs q i = arithmetic_failing (value vs q) (indexed (declared_in W) vs q i + bias)

-- ---- steps

-- What a step says, and the ends in force, values and cells that it leaves.
pub record Move : Type 0 where
  pub said : Step
  pub ends : List ℕ
  pub values : List ℕ
  pub cells : List ℕ

abbrev pub move : Step → List ℕ → List ℕ → List ℕ → Move
move s W vs cs = record { said = s; ends = W; values = vs; cells = cs }

-- "The stopping statement changes nothing": a buffer before and after.
unfoldable pub changed_unless : Failing → List ℕ → List ℕ → List ℕ
changed_unless none old new = new
changed_unless (fails n) old new = old

unfoldable pub simple_move : List ℕ → List ℕ → Simple → ℕ → ℕ → List ℕ → List ℕ → Move
simple_move W D s a next vs cs =
    let f = failing (declared_in W) vs s in
    move (step_unless f a next) (changed_unless f W (ends_after s W)) (changed_unless f vs (values_after W D s vs cs))
    (changed_unless f cs (cells_after W s vs cs))

unfoldable pub statement_move : List ℕ → List ℕ → Statement → ℕ → Successors → List ℕ → List ℕ → Move
statement_move W D (Plain s) a n vs cs = simple_move W D s a n.next vs cs
statement_move W D (If c x y) a n vs cs = move (Go (cond (condition_holds vs c) n.next n.other)) W vs cs
statement_move W D (While c x) a n vs cs = move (Go (cond (condition_holds vs c) n.next n.other)) W vs cs
statement_move W D (Bundle x) a n vs cs = move (Go n.next) W vs cs
-- A call changes nothing of the caller: another routine runs.
statement_move W D (Call c) a n vs cs = move step.Call W vs cs

-- ---- what the code needs, so that no index is outside

-- The address, with the bias, is that of a cell.
abbrev pub InCells : ℕ → List ℕ → Type 0
InCells a cs = (bias ≤ a) × (a < bias + length cs)

abbrev pub InsideSimple : List ℕ → Simple → List ℕ → List ℕ → Type 0
InsideSimple W (Literal x k) vs cs = Unit {0}
InsideSimple W (AddConstant x y k) vs cs = Unit {0}
InsideSimple W (Arithmetic x y z op) vs cs = Unit {0}
InsideSimple W (Null p) vs cs = Unit {0}
InsideSimple W (Address p o) vs cs = Unit {0}
InsideSimple W (PointerOffset p q k) vs cs = Unit {0}
InsideSimple W (PointerIndex p q i) vs cs = Unit {0}
InsideSimple W (Load x p i k) vs cs = failing (declared_in W) vs (Load x p i k) ≡ none → InCells (address (declared_in W) vs p i k) cs
InsideSimple W (Store p i k x) vs cs = failing (declared_in W) vs (Store p i k x) ≡ none → InCells (address (declared_in W) vs p i k) cs
InsideSimple W (Test c) vs cs = Unit {0}
InsideSimple W (Declare p r) vs cs = Unit {0}

-- An access with no failing check is to a cell.
abbrev pub Inside : List ℕ → Statement → List ℕ → List ℕ → Type 0
Inside W (Plain s) vs cs = InsideSimple W s vs cs
Inside W (If c x y) vs cs = Unit {0}
Inside W (While c x) vs cs = Unit {0}
Inside W (Bundle x) vs cs = Unit {0}
Inside W (Call c) vs cs = Unit {0}

-- What the step of an access needs: x is the variable read into or stored, f the first of its checks that fails, and no sum wraps.
pub record Accessible (W : List ℕ) (x p i k : ℕ) (f : Failing) (vs cs : List ℕ) : Type 0 where
  pub value : x < length vs
  pub pointer : p < 16
  pub constant : k < 2 ^ 34
  pub ends : length W ≡ 512
  pub small : (n : ℕ) → get_or W n 0 < 2 ^ 34
  pub sizes : (n : ℕ) → size_in W n ≤ 8
  pub named : Named W
  pub index : i ≤ 16
  pub slots : 16 < length vs
  pub inside : f ≡ none → InCells (address (declared_in W) vs p i k) cs

-- The same of each kind of statement.
abbrev pub Operable : List ℕ → List ℕ → Simple → List ℕ → List ℕ → Type 0
Operable W D (Literal x k) vs cs = (x < length vs) × (k < 2 ^ 32)
Operable W D (AddConstant x y k) vs cs = (x < length vs) × (y < length vs) × (k < 2 ^ 34)
Operable W D (Arithmetic x y z op) vs cs = (x < length vs) × (y < length vs) × (z < length vs)
Operable W D (Null p) vs cs = p < length vs
Operable W D (Address p o) vs cs = (p < length vs) × (2 * o < length D)
Operable W D (PointerOffset p q k) vs cs = (p < length vs) × (q < length vs) × (k < 2 ^ 34)
Operable W D (PointerIndex p q i) vs cs = (p < length vs) × (q < length vs) × (i < length vs) × (q < 16) × (length W ≡ 512) × ((x : ℕ) → size_in W x ≤ 8)
Operable W D (Load x p i k) vs cs = Accessible W x p i k (load_failing (declared_in W) vs p (address (declared_in W) vs p i k)) vs cs
Operable W D (Store p i k x) vs cs = Accessible W x p i k (store_failing (declared_in W) vs p (address (declared_in W) vs p i k) (value vs x)) vs cs
Operable W D (Test c) vs cs = Comparable c vs
Operable W D (Declare p r) vs cs = (p < 16) × (r < 64) × (length W ≡ 512)

-- A statement of one successor that is marked in the place of the second: no check of it fails. (No statement has this number.)
abbrev pub mark : ℕ
mark = 4294967295

abbrev pub Marked : List ℕ → ℕ → Type 0
Marked S a = get_or S (2 * a + 1) 0 ≡ mark

-- The statement a reads, its access is inside, and no check of it fails where it is marked. It reads in the table that was checked; the table T that the run
-- has is decoded there as that is: for a routine of a set (point 14) it need not hold the words of the objects.
pub record Ready (T : List ℤ) (h : Sections) (W S : List ℕ) (a : ℕ) (vs cs : List ℕ) : Type 0 where
  pub checked : List ℤ
  pub same : decoded_at T h a ≡ decoded_at checked h a
  pub statement : Statement
  pub reads : statement_at checked h a ≡ Some statement
  pub inside : Inside W statement vs cs
  pub known : Marked S a → (s : Simple) → statement ≡ Plain s → failing (declared_in W) vs s ≡ none

-- The slices are long enough, the ends small enough that no sum wraps, and what they name has a slot.
pub record Prepared (T : List ℤ) (h : Sections) (W D S vs : List ℕ) : Type 0 where
  pub table : statement_start h h.statements ≤ length T
  pub ends : length W ≡ 512
  pub small : (i : ℕ) → get_or W i 0 < 2 ^ 34
  pub sizes : (p : ℕ) → size_in W p ≤ 8
  pub named : Named W
  pub directory : 2 * h.objects ≤ length D
  pub successors : 2 * h.statements ≤ length S
  pub slots : 16 < length vs

-- ---- the step of the statement a. S is the slice of successors, D the directory, W the ends.

module _ (T : List ℤ) (h : Sections) (W D S : List ℕ) where
  unfoldable pub bare_move : ℕ → List ℕ → List ℕ → Move
  bare_move a vs cs = statement_move W D (decoded_at T h a) a (entries_at S a) vs cs

-- ---- what the code gives back

-- A step of the code is the move m.
pub record Moves (m : Move) (r : Step) (W vs cs : List ℕ) : Type 0 where
  pub said : r ≡ m.said
  pub ends : W ≡ m.ends
  pub values : vs ≡ m.values
  pub cells : cs ≡ m.cells

-- A step that sets one number of one buffer, unless a check fails.
pub record Assigns (f : Failing) (a next x w : ℕ) (old : List ℕ) (r : Step) (new : List ℕ) : Type 0 where
  pub said : r ≡ step_unless f a next
  pub buffer : new ≡ changed_unless f old (set old x w)
