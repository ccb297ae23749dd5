-- `chains::shown::shows_end` meets its contract.
use mathlib.Core.Path.{sym, ap₂, ◌∙◌}
use Prim.Native.Nat.{ℕ}
use Rattle.facts.specs.Store.{within_end}
use Rattle.facts.specs.StoreLaws.{end_marked, end-clear}
use Rattle.chains.proofs.shown.shows_end.Goals as goal

pub returns-then-contradicts : goal.returns-then-contradicts
returns-then-contradicts c = sym (end_marked _ _ _ _ _ _ _ _ (sym c.contradicts.ensures ∙ c.if-contradicts.true))

pub returns : goal.returns
returns c = c.within_end.ensures ∙ (ap₂ (λ (x y : ℕ). within_end c.args.size x y c.args.k c.args.j) c.sum.ensures c.sum-2.ensures
    ∙ sym (end-clear _ _ _ _ _ _ _ _ (sym c.contradicts.ensures ∙ c.if-contradicts.false)))
