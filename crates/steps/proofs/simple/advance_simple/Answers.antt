-- `steps::simple::advance_simple` meets its contract.
use native.Mathlib.Omega.{arith}
use Rattle.steps.specs.AdvanceLaws.{move-as, moves-literal, moves-add-constant, moves-arithmetic, moves-null, moves-address, moves-offset, moves-index}
use Rattle.steps.specs.AdvanceLaws.{moves-load, moves-store, moves-check, moves-declare, load-known, store-known}
use Rattle.steps.proofs.simple.advance_simple.Goals as goal

pub overflow_cast-values : goal.overflow_cast-values
overflow_cast-values c = omega (arith, (rw c.in-Literal.is at c.requires.operable))

pub offset_bounds-values-target : goal.offset_bounds-values-target
offset_bounds-values-target c = omega (arith, (rw c.in-Literal.is at c.requires.operable))

pub bounds-values-target : goal.bounds-values-target
bounds-values-target c = omega (arith, (rw c.in-Literal.is at c.requires.operable))

pub offset_bounds-values-source : goal.offset_bounds-values-source
offset_bounds-values-source c = omega (arith, (rw c.in-AddConstant.is at c.requires.operable))

pub bounds-values-source : goal.bounds-values-source
bounds-values-source c = omega (arith, (rw c.in-AddConstant.is at c.requires.operable))

pub add_constant-requires : goal.add_constant-requires
add_constant-requires c = omega (arith, (rw c.in-AddConstant.is at c.requires.operable))

pub offset_bounds-values-target-in-AddConstant : goal.offset_bounds-values-target-in-AddConstant
offset_bounds-values-target-in-AddConstant c = omega (
  arith,
  (rw c.in-AddConstant.is at
      c.requires.operable),
)

pub bounds-values-target-in-AddConstant : goal.bounds-values-target-in-AddConstant
bounds-values-target-in-AddConstant c = omega (
  arith,
  (rw c.in-AddConstant.is at
      c.requires.operable),
)

pub offset_bounds-values-left : goal.offset_bounds-values-left
offset_bounds-values-left c = omega (arith, (rw c.in-Arithmetic.is at c.requires.operable))

pub bounds-values-left : goal.bounds-values-left
bounds-values-left c = omega (arith, (rw c.in-Arithmetic.is at c.requires.operable))

pub offset_bounds-values-right : goal.offset_bounds-values-right
offset_bounds-values-right c = omega (arith, (rw c.in-Arithmetic.is at c.requires.operable))

pub bounds-values-right : goal.bounds-values-right
bounds-values-right c = omega (
  arith,
  (rw c.in-Arithmetic.is at
      c.requires.operable),
)

pub offset_bounds-values-target-in-Arithmetic : goal.offset_bounds-values-target-in-Arithmetic
offset_bounds-values-target-in-Arithmetic c = omega (
  arith,
  (rw c.in-Arithmetic.is at
      c.requires.operable),
)

pub bounds-values-target-in-Arithmetic : goal.bounds-values-target-in-Arithmetic
bounds-values-target-in-Arithmetic c = omega (
  arith,
  (rw c.in-Arithmetic.is at
      c.requires.operable),
)

pub offset_bounds-values-target-in-Null : goal.offset_bounds-values-target-in-Null
offset_bounds-values-target-in-Null c = omega (arith, (rw c.in-Null.is at c.requires.operable))

pub bounds-values-target-in-Null : goal.bounds-values-target-in-Null
bounds-values-target-in-Null c = omega (arith, (rw c.in-Null.is at c.requires.operable))

pub overflow_mul-values : goal.overflow_mul-values
overflow_mul-values c = omega (arith, (rw c.in-Address.is at c.requires.operable))

pub offset_bounds-directory-object : goal.offset_bounds-directory-object
offset_bounds-directory-object c = omega (arith, (rw c.in-Address.is at c.requires.operable))

pub bounds-directory-object : goal.bounds-directory-object
bounds-directory-object c = omega (arith, (rw c.in-Address.is at c.requires.operable))

pub offset_bounds-values-target-in-Address : goal.offset_bounds-values-target-in-Address
offset_bounds-values-target-in-Address c = omega (arith, (rw c.in-Address.is at c.requires.operable))

pub bounds-values-target-in-Address : goal.bounds-values-target-in-Address
bounds-values-target-in-Address c = omega (arith, (rw c.in-Address.is at c.requires.operable))

pub offset_pointer-requires : goal.offset_pointer-requires
offset_pointer-requires c = (rw c.in-PointerOffset.is at c.requires.operable)

pub index_pointer-requires : goal.index_pointer-requires
index_pointer-requires c = (rw c.in-PointerIndex.is at c.requires.operable)

pub is_marked-requires : goal.is_marked-requires
is_marked-requires c = c.requires.at_in_bounds.0

pub load-requires-clause-accessible : goal.load-requires-clause-accessible
load-requires-clause-accessible c = rw c.in-Load.is at
    c.requires.operable

pub load-requires-clause-constant_value : goal.load-requires-clause-constant_value
load-requires-clause-constant_value c = load-known _ _
    c.args.successors.now
    c.args.at _ _ _ _ _ _
    c.requires.at_in_bounds.1
    c.in-Load.is c.is_marked.ensures

pub is_marked-requires-in-Store : goal.is_marked-requires-in-Store
is_marked-requires-in-Store c = c.requires.at_in_bounds.0

pub store-requires-clause-accessible : goal.store-requires-clause-accessible
store-requires-clause-accessible c = rw c.in-Store.is at
    c.requires.operable

pub store-requires-clause-source_value : goal.store-requires-clause-source_value
store-requires-clause-source_value c = store-known _ _
    c.args.successors.now
    c.args.at _ _ _ _ _ _
    c.requires.at_in_bounds.1
    c.in-Store.is c.is_marked-in-Store.ensures

pub check_condition-requires : goal.check_condition-requires
check_condition-requires c = (rw c.in-Check.is at c.requires.operable)

pub declare-requires : goal.declare-requires
declare-requires c = (rw c.in-Declare.is at c.requires.operable)

pub returns-in-Literal : goal.returns-in-Literal
returns-in-Literal c = move-as _ _ _ _ _ _ c.in-Literal.is (moves-literal _ _ _ _ _ _ _ _)

pub returns-in-AddConstant : goal.returns-in-AddConstant
returns-in-AddConstant c = move-as _ _ _ _ _ _ c.in-AddConstant.is (moves-add-constant _ _ _ _ _ _ _ _ _ _ c.add_constant.ensures)

pub returns-in-Arithmetic : goal.returns-in-Arithmetic
returns-in-Arithmetic c = move-as _ _ _ _ _ _ c.in-Arithmetic.is (moves-arithmetic _ _ _ _ _ _ _ _ _ _ _ c.combine.ensures)

pub returns-in-Null : goal.returns-in-Null
returns-in-Null c = move-as _ _ _ _ _ _ c.in-Null.is (moves-null _ _ _ _ _ _ _)

pub returns-in-Address : goal.returns-in-Address
returns-in-Address c = move-as _ _ _ _ _ _ c.in-Address.is (moves-address _ _ _ _ _ _ _ _)

pub returns-in-PointerOffset : goal.returns-in-PointerOffset
returns-in-PointerOffset c = move-as _ _ _ _ _ _ c.in-PointerOffset.is
    (moves-offset _ _ _ _ _ _ _ _ _ _ _ c.offset_pointer.ensures)

pub returns-in-PointerIndex : goal.returns-in-PointerIndex
returns-in-PointerIndex c = move-as _ _ _ _ _ _ c.in-PointerIndex.is
    (moves-index _ _ _ _ _ _ _ _ _ _ _ c.index_pointer.ensures)

pub returns-in-Load : goal.returns-in-Load
returns-in-Load c = move-as _ _ _ _ _ _ c.in-Load.is
    (moves-load _ _ _ _ _ _ _ _ _ _ _ _ c.load.ensures)

pub returns-in-Store : goal.returns-in-Store
returns-in-Store c = move-as _ _ _ _ _ _ c.in-Store.is
    (moves-store _ _ _ _ _ _ _ _ _ _ _ _ c.store.ensures)

pub returns-in-Check : goal.returns-in-Check
returns-in-Check c = move-as _ _ _ _ _ _ c.in-Check.is (moves-check _ _ _ _ _ _ _ _ c.check_condition.ensures)

pub returns-in-Declare : goal.returns-in-Declare
returns-in-Declare c = move-as _ _ _ _ _ _ c.in-Declare.is
    (moves-declare _ _ _ _ _ _ _ _ _ _ c.declare.ensures)
