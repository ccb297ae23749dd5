-- Points of a run (document 01, "The plain machine"): which are in a bundle, the access that the step from a point performs, the cells outside of all
-- objects, the last cells of terminated ones.
use Rattle.statements.specs.declared.Statement.{Statement}
use Rattle.std.specs.Prelude.{ℕ, ◌+◌, ◌-◌, ◌≤◌, ◌<◌, suc, ◌≡◌, Bool, true, false, ◌&&◌, ◌||◌, List, ltb, ℤ, length, get_or, ◌⊎◌, None, Option, Some}
use Rattle.words.specs.declared.sections.Sections.{Sections}
use Rattle.statements.specs.Statements.{statement_at}
use Rattle.statements.specs.declared.Simple.{Simple}
use Rattle.statements.specs.declared.Simple.TheVariants.{Literal, AddConstant, Arithmetic, Null, Address}
use Rattle.statements.specs.declared.Simple.TheVariants.{PointerOffset, PointerIndex, Load, Store, Check, Declare}
use Rattle.statements.specs.declared.Statement.TheVariants.{Plain, If, While, Bundle, Call}
use Rattle.blocks.specs.Tree.{Block, nil, plain, branch, loop, bundle, call, unread}
use Rattle.rules.specs.BoundsRules.{is_terminated, in_force}
use Rattle.rules.specs.Calls.{Routine, routine_at}
use Rattle.rules.specs.declared.Environment.{Environment}
use Rattle.machine.specs.Machine.{low, high, Failing, none, fails, failing, address, Status, going, stopped, stuck, Point, Memory, memory_of, in_origin}

-- "A point is in a bundle when a statement inside one is due": of the statement d that is due. A bundle's head is not inside it.
unfoldable pub in_bundle : Block → ℕ → Bool
in_bundle nil d = false
in_bundle (plain a s r) d = in_bundle r d
in_bundle (branch a c t e r) d = in_bundle t d || (in_bundle e d || in_bundle r d)
in_bundle (loop a c t r) d = in_bundle t d || in_bundle r d
in_bundle (bundle a ss r) d = (ltb a d && ltb d (a + 1 + length ss)) || in_bundle r d
in_bundle (call a c r) d = in_bundle r d
in_bundle (unread a) d = false

-- An access: its address, with the bias, and the origin of its pointer.
pub data Access : Type 0 where
  no_access : Access
  access : ℕ → ℕ → Access

-- "Kinds 8 and 9 read or write the cell at the whole number p + i + k"; point 10: "an access is at p + s times i + k".
abbrev pub simple_access : Environment → Simple → Memory → Access
simple_access E (Literal x k) m = no_access
simple_access E (AddConstant x y k) m = no_access
simple_access E (Arithmetic x y z op) m = no_access
simple_access E (Null p) m = no_access
simple_access E (Address p o) m = no_access
simple_access E (PointerOffset p q k) m = no_access
simple_access E (PointerIndex p q i) m = no_access
simple_access E (Load x p i k) m = access (address E m.values p i k) (get_or m.origins p 0)
simple_access E (Store p i k x) m = access (address E m.values p i k) (get_or m.origins p 0)
simple_access E (Check c) m = no_access
simple_access E (Declare p r) m = no_access

abbrev pub unless_failing : Failing → Access → Access
unless_failing none a = a
unless_failing (fails n) a = no_access

abbrev pub statement_access : Environment → Option Statement → Memory → Access
statement_access E (Some (Plain s)) m = unless_failing (failing (in_force E m.rows) m.values s) (simple_access E s m)
statement_access E (Some (If c x y)) m = no_access
statement_access E (Some (While c x)) m = no_access
statement_access E (Some (Bundle x)) m = no_access
statement_access E (Some (Call c)) m = no_access
statement_access E None m = no_access

abbrev pub access_if : Bool → Access → Access
access_if true a = a
access_if false a = no_access

-- The access that the step from a point performs; a run that has ended performs none.
unfoldable pub access_from : List ℤ → Sections → Environment → Status → Point → Access
access_from T h E going P = access_if (ltb P.due h.statements) (statement_access E (statement_at T h P.due) (memory_of P))
access_from T h E (stopped n) P = no_access
access_from T h E stuck P = no_access

-- Cell i is in none of the objects.
abbrev pub Outside : List ℕ → ℕ → ℕ → Type 0
Outside D objects i = (o : ℕ) → o < objects → low D o ≤ i → i < high D o → ⊥

-- Point 7: "the last cell of each terminated object is 0".
abbrev pub LastZero : Environment → List ℕ → ℕ → List ℕ → Type 0
LastZero E D objects cs = (o : ℕ) → o < objects → is_terminated E o ≡ true → get_or cs (high D o - 1) 0 ≡ 0

-- "a named check fails at the statement due": the first such check. Heads of blocks have none.
abbrev pub failing_at : Environment → Option Statement → List ℕ → Failing
failing_at E (Some (Plain s)) vs = failing E vs s
failing_at E (Some (If c x y)) vs = none
failing_at E (Some (While c x)) vs = none
failing_at E (Some (Bundle x)) vs = none
failing_at E (Some (Call c)) vs = none
failing_at E None vs = none

-- "Each cell read or written lay in the object that the pointer was derived from."
abbrev pub AccessInside : List ℕ → Access → Type 0
AccessInside D no_access = Unit {0}
AccessInside D (access a origin) = in_origin D origin a ≡ true

-- ---- objects in reach of a run, and the cells of objects (document 02, point 12)
-- Point 12: "Call an object reachable when an entry pointer has it as origin or some kind 5 statement names it." A variable that has an object
-- as origin is a pointer, since integers and null have origin 0; and the statement need not be one that a run comes to. Point 14: "An object that any routine
-- of
-- the set takes the address of counts as reachable."
abbrev pub Reachable : List Routine → List ℕ → ℕ → Type 0
Reachable rs os o =
    ((v : ℕ) × (get_or os v 0 ≡ suc o)) ⊎ ((n a p : ℕ) × (statement_at (routine_at rs n).table (routine_at rs n).sections a ≡ Some (Plain (Address p o))))

-- Cell i is a cell of one of the objects R.
pub record CellOf (D : List ℕ) (R : ℕ → Type 0) (i : ℕ) : Type 0 where
  pub object : ℕ
  pub chosen : R object
  pub above : low D object ≤ i
  pub below : i < high D object
