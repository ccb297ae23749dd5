-- `entry::ends::lay_ends` meets its contract.
use Prim.Native.Nat.{◌-◌}
use mathlib.Core.Path.{◌∙◌}
use borrow.Author.Rules.{rules}
use Rattle.entry.specs.EndsLaws.{ends-laid}
use Rattle.arrays.specs.TabulateLaws.{length-under, filled_none, filled_more, filled-whole}
use Rattle.entry.proofs.ends.lay_ends.Goals as goal

pub loop-i-init : goal.loop-i-init
loop-i-init c = filled_none _ _ _ (search rules)

pub bounds-strings-i : goal.bounds-strings-i
bounds-strings-i c = search (length-under, rules)

pub bounds-sizes-i : goal.bounds-sizes-i
bounds-sizes-i c = search (length-under, rules)

pub loop-i-preserved : goal.loop-i-preserved
loop-i-preserved c = filled_more c.loop-i.invariant (search rules)
    (rw (c.one_of-other.ensures, c.one_of-mark.ensures, c.one_of-bound.ensures) at c.one_of.ensures)

pub returns : goal.returns
returns c = filled-whole c.loop-i.invariant c.loop-i-test.false
    ∙ rw (c.lay_own-own.ensures, c.lay_rows-laid.ensures)
    (ends-laid c.args.environment (search (length-under, rules)))
