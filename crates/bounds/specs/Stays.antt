-- Bounds that an effect leaves as they are.
use Rattle.table.specs.declared.variables.End.{End}
use Rattle.std.specs.Prelude.{ℕ, Bool, true, false, not, ◌&&◌, eqb, None, Option, Some}
use Rattle.rules.specs.BoundsRules.{names}
use Rattle.rules.specs.declared.Bounds.{Bounds}
use Rattle.rules.specs.declared.Effect.{Effect}
use Rattle.rules.specs.declared.Effect.TheVariants.{Keep, Forget, Shift, Copy, Object}

-- An end that is known and does not name v.
unfoldable pub end_stays : ℕ → Option End → Bool
end_stays v None = false
end_stays v (Some e) = not (names e v)

unfoldable pub bounds_stay : ℕ → Bounds → Bool
bounds_stay v b = end_stays v b.lower && end_stays v b.upper

-- The effect leaves known bounds of p as they are. (No variable has the number 17.)
unfoldable pub stays : Effect → ℕ → Bounds → Bool
stays Keep p b = bounds_stay 17 b
stays (Forget v) p b = bounds_stay v b
stays (Shift v k) p b = bounds_stay v b
stays (Copy v q) p b = not (eqb p v) && bounds_stay v b
stays (Object v z n) p b = not (eqb p v) && bounds_stay v b

-- The variable that an effect changes, and the pointer whose bounds it replaces; 17 where there is none.
abbrev pub changed_by : Effect → ℕ
changed_by Keep = 17
changed_by (Forget v) = v
changed_by (Shift v k) = v
changed_by (Copy v q) = v
changed_by (Object v z n) = v

abbrev pub replaced_by : Effect → ℕ
replaced_by Keep = 17
replaced_by (Forget v) = 17
replaced_by (Shift v k) = 17
replaced_by (Copy v q) = v
replaced_by (Object v z n) = v

-- As `stays`, given the two numbers of the effect.
unfoldable pub left_alone : ℕ → ℕ → ℕ → Bounds → Bool
left_alone changed replaced p b = not (eqb p replaced) && bounds_stay changed b

-- Bounds that an effect makes the same again: besides those that it leaves as they are, ends that are not known.
unfoldable pub end_same : ℕ → Option End → Bool
end_same v None = true
end_same v (Some e) = not (names e v)

unfoldable pub bounds_same : ℕ → Bounds → Bool
bounds_same v b = end_same v b.lower && end_same v b.upper

unfoldable pub made_same : ℕ → ℕ → ℕ → Bounds → Bool
made_same changed replaced p b = not (eqb p replaced) && bounds_same changed b
