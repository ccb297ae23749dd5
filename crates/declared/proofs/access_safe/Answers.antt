-- `declared::access_safe` meets its contract.
use borrow.Author.Rules.{rules}
use mathlib.Core.Path.{sym, ◌∙◌}
use Rattle.arrays.specs.TabulateLaws.{length-under}
use Rattle.declared.specs.ShownLaws.{nothing-safe, none-declared, address-asked, access-short}
use Rattle.declared.proofs.access_safe.Goals as goal

pub returns-in_default : goal.returns-in_default
returns-in_default c = nothing-safe _ _ _ c.access_of.ensures c.in_default.is

pub returns-then-pointer-ge16 : goal.returns-then-pointer-ge16
returns-then-pointer-ge16 c = none-declared _ _ _ c.access_of.ensures c.in-Some.is (search (length-under, rules))
    c.if-pointer-ge16.true

pub address_safe-requires : goal.address_safe-requires
address_safe-requires c = access-short c.args.simple c.requires
    (sym c.access_of.ensures ∙ c.in-Some.is)

pub returns : goal.returns
returns c = address-asked _ _ _ c.access_of.ensures c.in-Some.is
    (search (length-under, rules)) c.address_safe.ensures
