-- Where all routines stand after k turns: what the dispatcher's loop keeps.
use Rattle.std.specs.Prelude.{ℕ, ◌+◌, ◌*◌, ◌-◌, ◌^◌, ◌<◌, ◌≤◌, ◌≡◌, cond, eqb, List, ℤ, length, get_or, drop}
use Rattle.answers.specs.declared.stops.Outcome.{Outcome}
use Rattle.answers.specs.declared.stops.Outcome.TheVariants.{Spent, Done, Stopped, Refused}
use Rattle.rules.specs.Verdict.{environment_of}
use Rattle.rules.specs.BoundsRules.{own_rows}
use Rattle.machine.specs.Points.{Outside}
use Rattle.entry.specs.Ends.{ends_of}
use Rattle.interpreter.specs.Slots.{Laid}
use Rattle.interpreter.specs.BareRun.{Ends, bare_run, SafeRun}
use Rattle.interpreter.specs.Starts.{Launched}
use Rattle.turns.specs.Turns.{after, sum, Idle}
use Rattle.parts.specs.Parts.{part_of, start_at, between}
use Rattle.seats.specs.Parts.{kinds, values_kind}
use Rattle.parts.specs.Parts.{Replaced}
use Rattle.seats.specs.Lends.{Lends, table_at, listed_at, lent_to, sections_at, count_of}
use Rattle.rounds.specs.Rounds.{routines_of, memory_after}
use Rattle.overlaps.specs.Overlaps.{first_overlap}
use Rattle.seats.specs.SeatAt.{seat_at}
use Rattle.seats.specs.Seats.{places_of, ends_at, successors_at}
use Rattle.rounds.specs.InTurn.{InTurn}
use Rattle.seats.specs.declared.Seat.{Seat}

-- The seat after a turn.
abbrev pub seated : Seat → Outcome → Seat
seated s o = record { sections = s.sections; places = s.places; outcome = o }

-- Routine r passed all that its run alone checks, and its successors are laid out.
abbrev pub IsLaunched : Lends → List ℕ → ℕ → Type 0
IsLaunched l S r =
    Launched (table_at l r) (sections_at l r) (listed_at l r) (lent_to l r).directory l.cells (lent_to l r).values (lent_to l r).origins
    (ends_of (environment_of (table_at l r) (sections_at l r)) own_rows) (successors_at S r)

abbrev pub AllLaunched : Lends → List ℕ → Type 0
AllLaunched l S = (r : ℕ) → r < count_of l → IsLaunched l S r

pub record Standing (l : Lends) (quantum total k : ℕ) (seats : List Seat) (ends vs cs : List ℕ) : Type 0 where
  pub seats-long : length seats ≡ 8
  pub sections : (r : ℕ) → r < count_of l → (seat_at seats r).sections ≡ sections_at l r
  pub places : (r : ℕ) → r < count_of l → (seat_at seats r).places ≡ places_of l r
  pub each : (r : ℕ) → r < count_of l
      → InTurn (table_at l r) (lent_to l r) (get_or (after (routines_of l) quantum total k).received r 0) (seat_at seats r).outcome (ends_at ends r)
      (part_of l.lengths kinds values_kind r vs) cs
  pub memory : cs ≡ memory_after l quantum total k
  pub nobodys-cells : (i : ℕ) → ((r : ℕ) → r < count_of l → Outside (lent_to l r).directory (sections_at l r).objects i) → get_or cs i 0 ≡ get_or l.cells i 0
  pub nobodys-values : drop (start_at l.lengths kinds values_kind (count_of l)) vs ≡ drop (start_at l.lengths kinds values_kind (count_of l)) l.values
  pub cells-long : length cs ≡ length l.cells
  pub values-long : length vs ≡ length l.values
  pub ends-long : length ends ≡ 4096

-- A turn of the routine in seat s, number r, with q steps at most: one that waits, after n steps at statement a, goes on, in its own parts;
pub record GoneOn (T : List ℤ) (F S : List ℕ) (s : Seat) (r q n a : ℕ) (ends vs cs : List ℕ) (o : Outcome) (ends' vs' cs' : List ℕ) : Type 0 where
  pub ends-then : List ℕ
  pub values-then : List ℕ
  pub run : Ends (bare_run (between s.places.table T) s.sections (ends_at ends r) (between s.places.directory F) (successors_at S r) q n a
      (between s.places.values vs) cs) o ends-then values-then cs'
  pub ends-kept : Replaced (512 * r) (512 * r + 512) ends ends-then ends'
  pub ends-count : length ends-then ≡ 512
  pub values-kept : Replaced s.places.values.start s.places.values.end vs values-then vs'
  pub values-count : length values-then ≡ length (between s.places.values vs)

-- one that ended is skipped.
pub record Skipped (old : Outcome) (ends vs cs : List ℕ) (o : Outcome) (ends' vs' cs' : List ℕ) : Type 0 where
  pub outcome : o ≡ old
  pub ends_same : ends' ≡ ends
  pub values_same : vs' ≡ vs
  pub cells_same : cs' ≡ cs

abbrev pub Turned : List ℤ → List ℕ → List ℕ → Seat → ℕ → ℕ → Outcome → List ℕ → List ℕ → List ℕ → Outcome → List ℕ → List ℕ → List ℕ → Type 0
Turned T F S s r q (Spent n a) ends vs cs o ends' vs' cs' = GoneOn T F S s r q n a ends vs cs o ends' vs' cs'
Turned T F S s r q (Done n) ends vs cs o ends' vs' cs' = Skipped (Done n) ends vs cs o ends' vs' cs'
Turned T F S s r q (Stopped n c) ends vs cs o ends' vs' cs' = Skipped (Stopped n c) ends vs cs o ends' vs' cs'
Turned T F S s r q (Refused f) ends vs cs o ends' vs' cs' = Skipped (Refused f) ends vs cs o ends' vs' cs'

-- What such a turn asks: the parts lie in their slices,
pub record InPlace (T : List ℤ) (F S : List ℕ) (s : Seat) (r : ℕ) (ends vs : List ℕ) : Type 0 where
  pub few : r < 8
  pub table-order : s.places.table.start ≤ s.places.table.end
  pub table-within : s.places.table.end ≤ length T
  pub directory-order : s.places.directory.start ≤ s.places.directory.end
  pub directory-within : s.places.directory.end ≤ length F
  pub values-order : s.places.values.start ≤ s.places.values.end
  pub values-within : s.places.values.end ≤ length vs
  pub ends-long : length ends ≡ 4096
  pub successors-long : length S ≡ 16384

-- and the loop may go on.
pub record MayGoOn (T : List ℤ) (F S : List ℕ) (s : Seat) (r q n a : ℕ) (ends vs cs : List ℕ) : Type 0 where
  pub laid : Laid (between s.places.table T) s.sections (ends_at ends r) (between s.places.directory F) (successors_at S r)
      (between s.places.values vs)
  pub safe : SafeRun (between s.places.table T) s.sections (ends_at ends r) (between s.places.directory F) (successors_at S r) q a
      (between s.places.values vs) cs
  pub fits : n + q < 2 ^ 32

abbrev pub MayTurn : List ℤ → List ℕ → List ℕ → Seat → ℕ → ℕ → Outcome → List ℕ → List ℕ → List ℕ → Type 0
MayTurn T F S s r q (Spent n a) ends vs cs = MayGoOn T F S s r q n a ends vs cs
MayTurn T F S s r q (Done n) ends vs cs = Unit {0}
MayTurn T F S s r q (Stopped n c) ends vs cs = Unit {0}
MayTurn T F S s r q (Refused f) ends vs cs = Unit {0}

-- ---- the loop

-- What it begins with.
pub record TurnsAsk (l : Lends) (S : List ℕ) (count quantum total : ℕ) (seats : List Seat) (ends : List ℕ) : Type 0 where
  pub counted : count ≡ count_of l
  pub some : 0 < count_of l
  pub few : count_of l ≤ 8
  pub quanta : 1 ≤ quantum
  pub launched : AllLaunched l S
  pub no-overlap : first_overlap l ≡ count_of l
  pub successors-long : length S ≡ 16384
  pub standing : Standing l quantum total 0 seats ends l.values l.cells

-- After `taken` turns: whose turn is next, what is left of the total, and how many turns gave nothing.
pub record Looping (l : Lends) (quantum total taken next left idle : ℕ) (seats : List Seat) (ends vs cs : List ℕ) : Type 0 where
  pub standing : Standing l quantum total taken seats ends vs cs
  pub next-is : next ≡ (after (routines_of l) quantum total taken).next
  pub left_is : left ≡ total - sum (after (routines_of l) quantum total taken).received
  pub idle-so-far : Idle (routines_of l) quantum total taken idle
  pub within : taken ≤ count_of l * total

-- The turns in a row that gave nothing, after one more.
abbrev pub idle_after : ℕ → ℕ → ℕ
idle_after idle made = cond (eqb made 0) (idle + 1) 0
