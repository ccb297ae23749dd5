-- What the rules use of facts and of known ends, and nothing else: sets of facts, what is done to them, what is asked of them; and an end moved by a constant.
-- The rules are written once, over this. `by_chains` (ByChains.antt) has the paper's facts and chains; `store` (Stored.antt) has the sums that the code holds.
use Rattle.std.specs.Prelude.{ℕ, Bool, List, Option}
use Rattle.table.specs.declared.variables.End.{End}

pub record FactSets : Type 1 where
  pub Facts : Type 0
  -- What is always known.
  pub new : Facts
  -- added f x y k: the fact x <= y + k besides, with the bias in k.
  pub added : Facts → ℕ → ℕ → ℕ → Facts
  pub dropped : Facts → ℕ → Facts
  -- ranged f x low high: x dropped, then low <= x <= high.
  pub ranged : Facts → ℕ → ℕ → ℕ → Facts
  -- shifted f x k: x is raised by k.
  pub shifted : Facts → ℕ → ℕ → Facts
  -- What both sides show; which variables are pointers.
  pub joined : (ℕ → Bool) → Facts → Facts → Facts
  -- shown f x y k: x <= y + k
  pub shown : Facts → ℕ → ℕ → ℕ → Bool
  -- end_shown f s q n k r m j: the end (q, n, k) is at most the end (r, m, j), the integers n and m s times.
  pub end_shown : Facts → ℕ → ℕ → ℕ → ℕ → ℕ → ℕ → ℕ → Bool
  -- end_less w k e: the end e less w times k, with the bias in k.
  pub end_less : ℕ → ℕ → End → Option End

-- ---- what a walk hands on from each statement to the next: what is known, and the rows in force (document 02, point 2)
-- Point 2: "it is the pointer's declared bound until another kind 14 for it". For each pointer one number: 0 its own bound ("row -1"), r + 1 the row r.
pub record State (F : Type 0) : Type 0 where
  pub facts : F
  pub rows : List ℕ
