-- `chains::shown::shows` meets its contract.
use mathlib.Core.Path.{sym, ap, ◌∙◌}
use Prim.Native.Nat.{ℕ}
use lib.Dec.{leb}
use Rattle.facts.specs.StoreLaws.{shown-marked, shown-clear}
use Rattle.chains.proofs.shown.shows.Goals as goal

pub returns-then-contradicts : goal.returns-then-contradicts
returns-then-contradicts c = sym (shown-marked _ _ _ _ (sym c.contradicts.ensures ∙ c.if-contradicts.true))

pub returns : goal.returns
returns c = ap (λ (s : ℕ). leb s c.args.k) c.sum.ensures
    ∙ sym (shown-clear _ _ _ _ (sym c.contradicts.ensures ∙ c.if-contradicts.false))
