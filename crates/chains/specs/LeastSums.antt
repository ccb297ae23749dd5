-- What a fact set promises.
use Rattle.std.specs.Prelude.{ℕ, ◌+◌, ◌≤◌}
use Rattle.sums.specs.Numbers.{bias}
use Rattle.chains.specs.Facts.{Variables, Node, Known, Chain, Shown}

-- "The store keeps the least sums": each is the sum of a chain, and no chain has a lesser one.
pub record LeastSums (vars : Variables) (sum : ℕ → ℕ → ℕ) (K : Known) : Type 0 where
  pub attained : (x y : ℕ) → Node vars x → Node vars y → Shown K x y (sum x y)
  pub lowest : {x y up down : ℕ} → Node vars x → Node vars y → Chain K x y up down → sum x y + down ≤ up + bias
