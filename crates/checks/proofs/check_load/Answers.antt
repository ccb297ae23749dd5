use Rattle.checks.specs.CheckLaws.{zero-passes}
use Rattle.checks.proofs.check_load.Goals as goal

pub check_store-requires-clause-pointer_bound : goal.check_store-requires-clause-pointer_bound
check_store-requires-clause-pointer_bound c = c.requires.pointer_bound

pub check_store-requires-clause-stored_value : goal.check_store-requires-clause-stored_value
check_store-requires-clause-stored_value c = λ e. rw (zero-passes _ _ _ _) (c.requires.address_value e)

pub returns : goal.returns
returns c = rw (zero-passes _ _ _ _) at c.check_store.ensures
