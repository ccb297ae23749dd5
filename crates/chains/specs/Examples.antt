-- Worked examples, computed. Variables 0 to 7 are pointers, 8 to 15 integers.
use Rattle.std.specs.Prelude.{ℕ, ◌+◌, ◌-◌, ◌≡◌, refl, Bool, true, false, ltb}
use Rattle.sums.specs.Numbers.{bias, zero_var}
use Rattle.arrays.specs.Tabulate.{tabulate}
use Rattle.sums.specs.Sums.{concatenated}
use Rattle.facts.specs.Store.{least_sum, shown, new_row, new_set, lowered_row, lowered, marked, added, own_row}
use Rattle.facts.specs.Store.{rerouted_row, reassigned, dropped, shifted, joined_sum, joined_row, joined}
use Rattle.facts.specs.declared.FactSet.{FactSet}

abbrev pointer : ℕ → Bool
pointer v = ltb v 8

-- p <= 0 on one side; p <= 7 and n >= 7 on the other. On both sides p <= n, which is no fact: with n <= 3 added p <= 3 is not shown, and p <= 7 is.
abbrev left : FactSet
left = added new_set 0 zero_var bias

abbrev right : FactSet
right = added (added new_set 0 zero_var (bias + 7)) zero_var 8 (bias - 7)

abbrev sides : FactSet
sides = added (joined pointer left right) 8 zero_var (bias + 3)

pub not_three : shown sides 0 zero_var (bias + 3) ≡ false
unfolding tabulate concatenated least_sum shown new_row new_set lowered_row lowered marked added joined_sum joined_row joined
not_three = refl

pub seven : shown sides 0 zero_var (bias + 7) ≡ true
unfolding tabulate concatenated least_sum shown new_row new_set lowered_row lowered marked added joined_sum joined_row joined
seven = refl

-- n >= 3, then n := n - 2: n >= 1 and n <= 4294967293.
pub shift-low : least_sum (shifted (added new_set zero_var 8 (bias - 3)) 8 (bias - 2)) zero_var 8 ≡ bias - 1
unfolding tabulate concatenated least_sum shown new_row new_set lowered_row lowered marked added own_row rerouted_row reassigned shifted
shift-low = refl

pub shift-high : least_sum (shifted (added new_set zero_var 8 (bias - 3)) 8 (bias - 2)) 8 zero_var ≡ bias + 4294967293
unfolding tabulate concatenated least_sum shown new_row new_set lowered_row lowered marked added own_row rerouted_row reassigned shifted
shift-high = refl

-- n <= 1, then n := n - 2: the new n would be below 0.
pub shift-contradicts : (shifted (added new_set 8 zero_var (bias + 1)) 8 (bias - 2)).contradiction ≡ true
unfolding tabulate concatenated least_sum shown new_row new_set lowered_row lowered marked added own_row rerouted_row reassigned shifted
shift-contradicts = refl

-- p <= q + 5 and q <= r - 3, then q is dropped: p <= r + 2 is still shown.
pub through-dropped : least_sum (dropped (added (added new_set 0 1 (bias + 5)) 1 2 (bias - 3)) 1) 0 2 ≡ bias + 2
unfolding tabulate concatenated least_sum shown new_row new_set lowered_row lowered marked added own_row rerouted_row reassigned dropped
through-dropped = refl
