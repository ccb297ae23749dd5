-- What was done to the facts, as data, and what is known then, in the paper's words (document 01, "Facts").
use Rattle.std.specs.Prelude.{ℕ, ◌+◌, ◌-◌, ◌≤◌, ◌<◌}
use Rattle.sums.specs.Numbers.{bias, max_value, zero_var}
use Rattle.chains.specs.Facts.{Variables, Comparable, Known, Always, With, Without, Shifted, Both}

pub data History : Type 0 where
  new : History
  add : History → ℕ → ℕ → ℕ → History
  drop : History → ℕ → History
  range : History → ℕ → ℕ → ℕ → History
  shift : History → ℕ → ℕ → History
  join : History → History → History

-- A shift is by at most 2^32 + 1 either way, more than any k of a table.
pub record Slight (k : ℕ) : Type 0 where
  pub floor : max_value ≤ k
  pub ceiling : k + max_value ≤ bias + bias

module _ (vars : Variables) where
  -- What is known.
  abbrev pub known : History → Known
  known new = Always vars
  known (add h x y k) = With (known h) x y k
  known (drop h x) = Without vars x (known h)
  known (range h x bottom top) = With (With (Without vars x (known h)) x zero_var (bias + top)) zero_var x (bias - bottom)
  known (shift h x k) = Shifted vars x k (known h)
  known (join h g) = Both vars (known h) (known g)

  -- The arguments of each operation are legal.
  abbrev pub Legal : History → Type 0
  Legal new = Unit {0}
  Legal (add h x y k) = Legal h × Comparable vars x y
  Legal (drop h x) = Legal h × (x < vars.count)
  Legal (range h x bottom top) = Legal h × (x < vars.count) × (bottom ≤ top) × (top ≤ max_value)
  Legal (shift h x k) = Legal h × (x < vars.count) × Slight k
  Legal (join h g) = Legal h × Legal g
