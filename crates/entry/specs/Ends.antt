-- The ends of bounds as the run's loop has them: six numbers a pointer, then six a row, then the element size of each pointer, then its kind (`bounds_in`,
-- `size_in` and `string_in` of checks/specs/Checked read them).
use Rattle.std.specs.Prelude.{Bool, cond, ℕ, zero, suc, ◌-◌, ◌/◌, ◌%◌, List, ltb, get_or}
use Rattle.arrays.specs.Tabulate.{tabulate}
use Rattle.table.specs.declared.variables.End.{End}
use Rattle.rules.specs.BoundsRules.{declared, nothing_known, in_force, element_size, is_string}
use Rattle.rules.specs.declared.Bounds.{Bounds}
use Rattle.rules.specs.declared.Environment.{Environment}
use Rattle.machine.specs.Machine.{end_of}

-- The numbers of an end: pointer, integer, constant.
unfoldable pub end_number : End → ℕ → ℕ
end_number e zero = e.pointer
end_number e (suc zero) = e.integer
end_number e (suc (suc n)) = e.constant

-- The numbers of declared bounds: those of the lower end, then those of the upper end.
unfoldable pub bounds_number : Bounds → ℕ → ℕ
bounds_number b j = cond (ltb j 3) (end_number (end_of b.lower) j) (end_number (end_of b.upper) (j - 3))

-- The first n numbers of a list of bounds, six each.
unfoldable pub numbers_of : ℕ → List Bounds → List ℕ
numbers_of n bs = tabulate n (λ i. bounds_number (get_or bs (i / 6) nothing_known) (i % 6))

-- Point 2: the bounds in force of the 16 pointers, then the bounds of the 64 rows.
unfoldable pub place_bounds : Environment → List ℕ → ℕ → Bounds
place_bounds E R j = cond (ltb j 16) (declared (in_force E R) j) (get_or E.rows (j - 16) nothing_known)

-- Point 7: 1 for a pointer of kind 2, else 0.
abbrev pub mark_number : Bool → ℕ
mark_number string = cond string 1 0

-- Point 10: then the element sizes of the 16 pointers. Point 7: then their kinds.
abbrev pub after_bounds : Environment → ℕ → ℕ
after_bounds E i = cond (ltb i 496) (element_size E (i - 480)) (mark_number (is_string E (i - 496)))

abbrev pub place_number : Environment → List ℕ → ℕ → ℕ
place_number E R i = cond (ltb i 480) (bounds_number (place_bounds E R (i / 6)) (i % 6)) (after_bounds E i)

unfoldable pub ends_of : Environment → List ℕ → List ℕ
ends_of E R = tabulate 512 (place_number E R)
