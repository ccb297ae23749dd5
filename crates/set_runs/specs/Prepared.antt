-- What a run of a set begins with.
use Rattle.std.specs.Prelude.{ℕ, ◌+◌, ◌*◌, ◌≤◌, ◌<◌, ◌≡◌, List, ℤ, length, get_or, take}
use Rattle.table.specs.Form.{sections_of}
use Rattle.blocks.specs.Flow.{successors, table_flow}
use Rattle.blocks.specs.Shape.{entries_at}
use Rattle.blocks.specs.Written.{written}
use Rattle.rules.specs.Sets.{member_of}
use Rattle.parts.specs.Parts.{Replaced}
use Rattle.sets.specs.Tables.{tables_in}
use Rattle.set_runs.specs.Lent.{flow_of}

-- The room holds the table T, n words.
pub record Holds (T old : List ℤ) (n : ℕ) (new : List ℤ) : Type 0 where
  pub long : length new ≡ length old
  pub within : n ≤ length new
  pub front : take n new ≡ T

-- The successors of the table T are written in routine n's part; the other parts are as they were.
pub record FlowLaid (T : List ℤ) (n : ℕ) (S S' : List ℕ) : Type 0 where
  pub replaced : Replaced (2048 * n) (2048 * n + 2048) S (written (table_flow T (sections_of T)) (flow_of S n)) S'

-- The successors of the first n routines.
pub record AllLaid (W : List ℤ) (L : List ℕ) (n : ℕ) (S : List ℕ) : Type 0 where
  pub long : length S ≡ 16384
  pub flows : (k : ℕ) → k < n → (a : ℕ) → a < (sections_of (member_of (tables_in W L) k)).statements
      → entries_at (flow_of S k) a ≡ get_or (table_flow (member_of (tables_in W L) k) (sections_of (member_of (tables_in W L) k))) a (successors 0 0 0)
