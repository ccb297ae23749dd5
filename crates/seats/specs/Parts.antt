-- The parts of a routine that is served: five lengths a routine say where they lie (parts/Parts).
use Rattle.std.specs.Prelude.{ℕ}

-- The kinds of parts, in the order of their lengths: table, list of loop facts (point 9), directory, values, origins.
abbrev pub kinds : ℕ
kinds = 5

abbrev pub table_kind : ℕ
table_kind = 0

abbrev pub listed_kind : ℕ
listed_kind = 1

abbrev pub directory_kind : ℕ
directory_kind = 2

abbrev pub values_kind : ℕ
values_kind = 3

abbrev pub origins_kind : ℕ
origins_kind = 4
