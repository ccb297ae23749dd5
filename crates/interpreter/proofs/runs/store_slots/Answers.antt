-- `interpreter::runs::store_slots` meets its contract.
use mathlib.Core.Path.{sym, ◌∙◌}
use native.Mathlib.Omega.{arith}
use borrow.Author.Rules.{rules}
use lib.ListN.{length, take}
use lib.Seq.{get_or-take}
use Rattle.arrays.specs.TabulateLaws.{tabulate-alike}
use Rattle.facts.specs.Words.{whole}
use Rattle.interpreter.proofs.runs.store_slots.Goals as goal

pub returns : goal.returns
returns c = c.copy_from_slice.ensures.after
    ∙ (sym (whole (take (length c.args.values.now) c.args.slots) (length c.args.values.now) 0 (search rules))
    ∙ tabulate-alike (length c.args.values.now) (λ i l. get_or-take (length c.args.values.now) c.args.slots i 0 l))
