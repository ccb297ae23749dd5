use Prim.Native.Nat.{◌-◌}
use mathlib.Core.Path.{◌≡◌, ◌∙◌}
use borrow.Author.Rules.{rules}
use Rattle.arrays.specs.TabulateLaws.{length-under}
use Rattle.facts.specs.Words.{rows_more, saved, rows_none, mark_from}
use Rattle.facts.proofs.FactSet.save.Goals as goal

pub loop-i-preserved : goal.loop-i-preserved
loop-i-preserved c = rows_more c.loop-i.invariant (search rules) c.save_row.ensures

pub returns : goal.returns
returns c = let z : c.loop-i.i ≡ 17 = search rules in
    saved (rw z at c.loop-i.invariant) (search rules) (search (length-under, rules)) (c.from.ensures ∙ mark_from _)
