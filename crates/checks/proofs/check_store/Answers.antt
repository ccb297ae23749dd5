-- `checks::check_store` meets its contract.
use Rattle.checks.specs.CheckLaws.{passed-step}
use Rattle.checks.proofs.check_store.Goals as goal

pub returns-then-known : goal.returns-then-known
returns-then-known c = passed-step _ _ _ (c.requires.stored_value c.if-known.true)

pub test_store-requires : goal.test_store-requires
test_store-requires c = c.requires.pointer_bound

pub returns : goal.returns
returns c = c.test_store.ensures
