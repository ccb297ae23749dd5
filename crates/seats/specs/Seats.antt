-- Before the turns: each routine passes all that its run alone checks, and what its run needs is laid out.
use Rattle.rules.specs.declared.SetRefusal.{SetRefusal}
use Rattle.std.specs.Prelude.{ℕ, ◌*◌, ◌/◌, ◌<◌, ◌≤◌, ◌≡◌, List, length, take, Err, Ok, Result}
use Rattle.answers.specs.declared.refusals.Refusal.{Refusal}
use Rattle.answers.specs.declared.stops.Outcome.TheVariants.{Refused}
use Rattle.rules.specs.Stored.{store}
use Rattle.machine.specs.Machine.{going}
use Rattle.interpreter.specs.Claim.{run_faults, Begins}
use Rattle.interpreter.specs.Starts.{Launched, First}
use Rattle.interpreter.specs.Outcomes.{outcome_shown}
use Rattle.seats.specs.Lends.{Lends, table_at, listed_at, lent_to, sections_at, count_of}
use Rattle.parts.specs.Parts.{window, span_of}
use Rattle.seats.specs.Parts.{kinds, table_kind, directory_kind, values_kind}
use Rattle.seats.specs.SeatAt.{seat_at}
use Rattle.seats.specs.declared.Places.{Places}
use Rattle.seats.specs.declared.Seat.{Seat}

-- Where the parts of routine r lie.
abbrev pub places_of : Lends → ℕ → Places
places_of l r = record {
  table = span_of l.lengths kinds table_kind r (length l.tables);
  directory = span_of l.lengths kinds directory_kind r (length l.directories);
  values = span_of l.lengths kinds values_kind r (length l.values);
}

-- The scratch of routine r: 512 numbers for the ends in force, 2,048 for the successors of its statements.
abbrev pub ends_at : List ℕ → ℕ → List ℕ
ends_at ends r = window (512 * r) 512 ends

abbrev pub successors_at : List ℕ → ℕ → List ℕ
successors_at successors r = window (2048 * r) 2048 successors

-- The count of routines, in range.
pub record CountIs (count : ℕ) (lengths : List ℕ) : Type 0 where
  pub counted : count ≡ length lengths / 5
  pub few : count ≤ 8

-- The seat of routine r before its first turn: done where nothing is due.
abbrev pub start_seat : Lends → ℕ → Seat
start_seat l r = record { sections = sections_at l r; places = places_of l r; outcome = outcome_shown (sections_at l r) going 0 0 }

abbrev pub LaidOut : Lends → ℕ → List ℕ → List ℕ → Type 0
LaidOut l r ends S =
    Launched (table_at l r) (sections_at l r) (listed_at l r) (lent_to l r).directory l.cells (lent_to l r).values (lent_to l r).origins
    (ends_at ends r) (successors_at S r)

-- What becomes of routine r: its run alone is refused, or it has a seat.
abbrev pub SeatedAs : Result Seat Refusal → Lends → ℕ → List ℕ → List ℕ → Type 0
SeatedAs (Err f) l r ends S = First (run_faults (table_at l r) (listed_at l r) (lent_to l r) store) f
SeatedAs (Ok s) l r ends S = (s ≡ start_seat l r) × LaidOut l r ends S

-- The scratch of earlier routines is as it was.
pub record SeatResult (l : Lends) (r : ℕ) (s : Result Seat Refusal) (ends S ends' S' : List ℕ) : Type 0 where
  pub seated-as : SeatedAs s l r ends' S'
  pub ends-front : take (512 * r) ends' ≡ take (512 * r) ends
  pub flow-front : take (2048 * r) S' ≡ take (2048 * r) S

-- Routine k is ready for its first turn.
pub record Ready (l : Lends) (seats : List Seat) (ends S : List ℕ) (k : ℕ) : Type 0 where
  pub seat : seat_at seats k ≡ start_seat l k
  pub laid_out : LaidOut l k ends S

pub record ReadyTo (l : Lends) (r : ℕ) (seats : List Seat) (ends S : List ℕ) : Type 0 where
  pub seats-long : length seats ≡ 8
  pub ends-long : length ends ≡ 4096
  pub flow-long : length S ≡ 16384
  pub ready : (k : ℕ) → k < r → Ready l seats ends S k

-- The first routine that its run alone refuses, by the store's facts.
pub record RefusedAt (l : Lends) (r : ℕ) (f : Refusal) : Type 0 where
  pub within : r < count_of l
  pub earlier : (k : ℕ) → k < r → Begins (table_at l k) (listed_at l k) (lent_to l k)
  pub first : First (run_faults (table_at l r) (listed_at l r) (lent_to l r) store) f

abbrev pub AllSeatedAs : Result (Unit {0}) SetRefusal → Lends → List Seat → List ℕ → List ℕ → Type 0
AllSeatedAs (Err x) l seats ends S = RefusedAt l x.routine x.refusal
AllSeatedAs (Ok _) l seats ends S = ReadyTo l (count_of l) seats ends S
