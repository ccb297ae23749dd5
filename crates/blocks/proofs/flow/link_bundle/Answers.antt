-- The invariant: writing what is left is writing the whole.
use Prim.Native.Nat.{◌+◌, ◌-◌}
use mathlib.Core.Path.{◌≡◌, sym, ap, ◌∙◌}
use native.Mathlib.Omega.{arith}
use lib.ListN.{length}
use Rattle.blocks.specs.FlowLaws.{line-none, line-some, length-put}
use Rattle.blocks.proofs.flow.link_bundle.Goals as goal

pub loop-at-preserved : goal.loop-at-preserved
loop-at-preserved c =
    let z : c.args.first + c.args.count - c.loop-at.at - 1 ≡ c.args.first + c.args.count - (c.loop-at.at + 1) = omega arith in (
      rw z at (c.loop-at.invariant.0 ∙ line-some _ _ _ _ _ _ (omega (arith, c.loop-at-test.true))
          (rw (sym z) at c.first_simple-next.ensures) c.put_successors.ensures),
      ap length c.put_successors.ensures ∙ (length-put _ _ ∙ c.loop-at.invariant.1),
    )

pub returns : goal.returns
returns c = sym (c.loop-at.invariant.0 ∙ line-none _ _ _ _ (omega (arith, c.loop-at-test.false)))
