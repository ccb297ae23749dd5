-- The reported statements, marked in the successors: a run asks nothing of their accesses.
use Rattle.std.specs.Prelude.{ℕ, zero, suc, ◌+◌, ◌*◌, ◌<◌, ◌≡◌, cond, List, ℤ, set}
use Rattle.reports.specs.Reports.{reported}
use Rattle.rules.specs.Stored.{store}
use Rattle.rules.specs.Report.{reported_at}
use Rattle.steps.specs.Bare.{mark}

-- Those of the first n that the words M report.
unfoldable pub marks : List ℕ → ℕ → List ℕ → List ℕ
marks M zero S = S
marks M (suc n) S = cond (reported M n) (set (marks M n S) (2 * n + 1) mark) (marks M n S)

-- M is the report on the table T with the list L, by the store's facts.
abbrev pub Reports : List ℤ → List ℤ → List ℕ → Type 0
Reports T L M = (a : ℕ) → a < 1024 → reported M a ≡ reported_at store T L a
