-- The changes that statements and conditions are. What a change makes of facts is said in crate facts (Store, changed).
use Rattle.std.specs.Prelude.{ℕ, ◌+◌, ◌-◌, [], ◌∷◌}
use Rattle.sums.specs.Numbers.{bias, max_value, zero_var}
use Rattle.sums.specs.Sums.{negated}
use Rattle.changes.specs.declared.Fact.{Fact}
use Rattle.changes.specs.declared.Change.{Change}

-- x <= y + k
abbrev pub fact : ℕ → ℕ → ℕ → Fact
fact x y k = record { x = x; y = y; k = k }

-- A fact that says nothing: 17 is neither a variable nor zero.
abbrev pub no_fact : Fact
no_fact = fact 17 17 0

-- Two facts.
abbrev pub adding : Fact → Fact → Change
adding a b = record { target = 17; base = 17; up = 0; down = 0; facts = a ∷ b ∷ no_fact ∷ [] }

-- A variable dropped, then in a range: low <= x <= high, both plain numbers.
abbrev pub ranging : ℕ → ℕ → ℕ → Change
ranging x low high = record { target = x; base = zero_var; up = bias + high; down = bias - low; facts = no_fact ∷ no_fact ∷ no_fact ∷ [] }

-- A variable raised by k, of which all is known then that always is; and a third fact.
abbrev pub shifting : ℕ → ℕ → Fact → Change
shifting x k third = record { target = x; base = x; up = k; down = negated k; facts = fact zero_var x bias ∷ fact x zero_var (bias + max_value) ∷ third ∷ [] }

-- A variable dropped, then x = y + k; and a third fact.
abbrev pub equating : ℕ → ℕ → ℕ → Fact → Change
equating x y k third = record { target = x; base = zero_var; up = bias + max_value; down = bias; facts = fact x y k ∷ fact y x (negated k) ∷ third ∷ [] }
