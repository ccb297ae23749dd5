-- What is asked of the facts before a statement or a condition changes them.
use Rattle.std.specs.Prelude.{ℕ, ◌+◌, ◌-◌, true, false, not, leb, eqb}
use Rattle.sums.specs.Numbers.{bias, zero_var}
use Rattle.sums.specs.Sums.{room_above}
use Rattle.changes.specs.declared.Questions.{Questions}
use Rattle.conditions.specs.declared.Condition.{Condition}
use Rattle.statements.specs.declared.Simple.{Simple}
use Rattle.statements.specs.declared.Simple.TheVariants.{Literal, AddConstant, Arithmetic, Null, Address}
use Rattle.statements.specs.declared.Simple.TheVariants.{PointerOffset, PointerIndex, Load, Store, Check, Declare}

abbrev pub nothing_asked : Questions
nothing_asked = record { asked = false; chained = false; x = 0; y = 0; there = 0; back = 0 }

-- Whether the sum y + k is in range; a plain copy always is.
abbrev pub sum_asked : ℕ → ℕ → Questions
sum_asked y k = record { asked = not (eqb k bias); chained = true; x = zero_var; y = y; there = k; back = room_above k }

-- The two sides of a condition that is == or !=: its negation asks the same.
abbrev pub condition_asked : Condition → Questions
condition_asked c = record { asked = leb 4 c.relation; chained = false; x = c.left; y = c.right; there = bias + c.offset; back = bias - c.offset }

abbrev pub statement_asked : Simple → Questions
statement_asked (Literal x k) = nothing_asked
statement_asked (AddConstant x y k) = sum_asked y k
statement_asked (Arithmetic x y z op) = nothing_asked
statement_asked (Null p) = nothing_asked
statement_asked (Address p o) = nothing_asked
statement_asked (PointerOffset p q k) = nothing_asked
statement_asked (PointerIndex p q i) = nothing_asked
statement_asked (Load x p i k) = nothing_asked
statement_asked (Store p i k x) = nothing_asked
statement_asked (Check c) = condition_asked c
statement_asked (Declare p r) = nothing_asked
