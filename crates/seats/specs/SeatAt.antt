-- The seats of a call's routines, by number.
use Rattle.std.specs.Prelude.{ℕ, List, get_or}
use Rattle.answers.specs.declared.refusals.Refusal.TheVariants.{Length}
use Rattle.answers.specs.declared.stops.Outcome.TheVariants.{Refused}
use Rattle.seats.specs.declared.Seat.{Seat}

-- A seat of nobody: what an array of seats has where there is none.
abbrev pub nobody : Seat
nobody = record {
  sections = record { start = 0; objects = 0; variables = 0; statements = 0; rows = 0 };
  places = record { table = record { start = 0; end = 0 }; directory = record { start = 0; end = 0 }; values = record { start = 0; end = 0 } };
  outcome = Refused Length;
}

-- Seat r of an array of them.
abbrev pub seat_at : List Seat → ℕ → Seat
seat_at seats r = get_or seats r nobody
