-- `steps::simple::load` meets its contract.
use native.Mathlib.Omega.{arith}
use Rattle.steps.specs.AdvanceLaws.{goes_on, assigns-stop, assigns-call, assigns-go}
use Rattle.steps.proofs.simple.load.Goals as goal

pub address_of-address-requires : goal.address_of-address-requires
address_of-address-requires c = (
  c.requires.accessible.pointer,
  c.requires.accessible.ends,
  c.requires.accessible.sizes _,
  c.requires.accessible.constant,
  c.requires.accessible.index,
  c.requires.accessible.slots,
)

pub check_load-said-requires-clause-pointer_bound : goal.check_load-said-requires-clause-pointer_bound
check_load-said-requires-clause-pointer_bound c = (
  c.requires.accessible.pointer,
  c.requires.accessible.ends,
  c.requires.accessible.small,
  c.requires.accessible.sizes,
  c.requires.accessible.named,
  c.requires.accessible.slots,
)

pub check_load-said-requires-clause-address_value : goal.check_load-said-requires-clause-address_value
check_load-said-requires-clause-address_value c = λ e. rw c.address_of-address.ensures.value (c.requires.constant_value e)

pub overflow_sub-place : goal.overflow_sub-place
overflow_sub-place c = let r = c.requires.accessible.inside
    (goes_on _ _ _ _ _ (rw c.address_of-address.ensures.value at c.check_load-said.ensures)
    c.in-Go.is) in
    omega (arith, r.0, r.1, c.address_of-address.ensures.value)

pub bounds-cells-place : goal.bounds-cells-place
bounds-cells-place c = let r = c.requires.accessible.inside
    (goes_on _ _ _ _ _ (rw c.address_of-address.ensures.value at c.check_load-said.ensures)
    c.in-Go.is) in
    omega (arith, r.0, r.1, c.address_of-address.ensures.value)

pub returns-in-Go : goal.returns-in-Go
returns-in-Go c = rw c.address_of-address.ensures.value
    (assigns-go (rw c.address_of-address.ensures.value at c.check_load-said.ensures)
    c.in-Go.is)

pub returns-in-Stop : goal.returns-in-Stop
returns-in-Stop c = let e = (rw c.address_of-address.ensures.value at c.check_load-said.ensures) in grind (arith, assigns-stop, assigns-call)
