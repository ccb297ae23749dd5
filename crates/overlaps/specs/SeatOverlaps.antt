-- Whether objects overlap, in the words of the code: by seats.
use Rattle.std.specs.Prelude.{ℕ, ◌≤◌, ◌<◌, Bool, List, length}
use Rattle.parts.specs.Parts.{between}
use Rattle.overlaps.specs.Overlaps.{some, overlap}
use Rattle.seats.specs.SeatAt.{seat_at}
use Rattle.seats.specs.declared.Seat.{Seat}

-- The directory of a seat lies in its slice, and its objects are few.
pub record SeatRight (F : List ℕ) (s : Seat) : Type 0 where
  pub order : s.places.directory.start ≤ s.places.directory.end
  pub within : s.places.directory.end ≤ length F
  pub few : s.sections.objects ≤ 16

abbrev pub SeatsRight : List ℕ → List Seat → ℕ → Type 0
SeatsRight F seats count = (r : ℕ) → r < count → SeatRight F (seat_at seats r)

-- Objects of the two seats overlap.
unfoldable pub seats_overlap : List ℕ → Seat → Seat → Bool
seats_overlap F s u = overlap (between s.places.directory F) s.sections.objects (between u.places.directory F) u.sections.objects

-- Objects of routine r overlap an earlier one's.
unfoldable pub seat_overlaps : List ℕ → List Seat → ℕ → Bool
seat_overlaps F seats r = some (λ e. seats_overlap F (seat_at seats r) (seat_at seats e)) r
