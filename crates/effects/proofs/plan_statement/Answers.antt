-- `effects::plan_statement` meets its contract, kind by kind.
use native.Mathlib.Omega.{arith}
use Rattle.rules.specs.Stored.{facts_after, effect}
use Rattle.effects.specs.Applied.{applied, planned}
use Rattle.rules.specs.FactRules as fact_rules
use Rattle.rules.specs.BoundsRules as bounds_rules
use Rattle.effects.proofs.plan_statement.Goals as goal

pub overflow_cast-value : goal.overflow_cast-value
unfolding planned applied fact_rules.facts_after bounds_rules.effect
overflow_cast-value c = omega (arith, rw c.in-Literal.is at c.requires)

pub overflow_cast-value-in-Literal : goal.overflow_cast-value-in-Literal
unfolding planned applied fact_rules.facts_after bounds_rules.effect
overflow_cast-value-in-Literal c = omega (arith, rw c.in-Literal.is at c.requires)

pub add_constant-requires : goal.add_constant-requires
unfolding planned applied fact_rules.facts_after bounds_rules.effect
add_constant-requires c = rw c.in-AddConstant.is at c.requires

pub add_offset-requires : goal.add_offset-requires
unfolding planned applied fact_rules.facts_after bounds_rules.effect
add_offset-requires c = rw c.in-PointerOffset.is at c.requires

pub assume-requires : goal.assume-requires
unfolding planned applied fact_rules.facts_after bounds_rules.effect
assume-requires c = rw c.in-Check.is at c.requires

pub returns-in-Literal : goal.returns-in-Literal
unfolding planned applied fact_rules.facts_after bounds_rules.effect
returns-in-Literal c = λ f. simp (c.in-Literal.is, c.range.ensures f)

pub returns-in-AddConstant : goal.returns-in-AddConstant
unfolding planned applied fact_rules.facts_after bounds_rules.effect
returns-in-AddConstant c = λ f. simp c.in-AddConstant.is (c.add_constant.ensures f)

pub returns-in-Arithmetic : goal.returns-in-Arithmetic
unfolding planned applied fact_rules.facts_after bounds_rules.effect
returns-in-Arithmetic c = λ f. grind (arith, c.forget.ensures f)

pub returns-in-Null : goal.returns-in-Null
unfolding planned applied fact_rules.facts_after bounds_rules.effect
returns-in-Null c = λ f. simp (c.in-Null.is, c.range-in-Null.ensures f)

pub returns-in-Address : goal.returns-in-Address
unfolding planned applied fact_rules.facts_after bounds_rules.effect
returns-in-Address c = λ f. simp (
  c.in-Address.is,
  c.length_at.ensures,
  c.size_at.ensures,
  c.range-in-Address.ensures
      f,
)

pub returns-in-PointerOffset : goal.returns-in-PointerOffset
unfolding planned applied fact_rules.facts_after bounds_rules.effect
returns-in-PointerOffset c = λ f. simp c.in-PointerOffset.is (c.add_offset.ensures f)

pub returns-in-PointerIndex : goal.returns-in-PointerIndex
unfolding planned applied fact_rules.facts_after bounds_rules.effect
returns-in-PointerIndex c = λ f. simp (c.in-PointerIndex.is, c.index_effect.ensures, c.range-in-PointerIndex.ensures f)

pub returns-in-Store : goal.returns-in-Store
unfolding planned applied fact_rules.facts_after bounds_rules.effect
returns-in-Store c = λ f. grind (arith, c.keep.ensures f)

pub returns-in-Check : goal.returns-in-Check
unfolding planned applied fact_rules.facts_after bounds_rules.effect
returns-in-Check c = λ f. simp (c.in-Check.is, c.assume.ensures f)
