-- `lay_block`, which calls itself on nested blocks. The invariant: the refusals of what is left are those of the whole.
use Rattle.std.specs.Prelude.{Ok}
use Rattle.std.proofs.lemmas.Result.{err_from_is_err_and}
use mathlib.Core.Path.{refl, sym, ap, ◌∙◌}
use native.Mathlib.Omega.{arith}
use borrow.Author.Rules.{rules}
use Rattle.blocks.specs.LayoutLaws.{falls as left-falls, turn-none, turn_end, turn-refused, turn-next, shallow, then-refused, else-refused, turn-blocks}
use Rattle.blocks.proofs.+lay_block.Goals as goal

pub loop-left-init : goal.loop-left-init
loop-left-init t c = record { same = refl; less = search rules }

pub returns-in_err-next : goal.returns-in_err-next
returns-in_err-next t c = let p = err_from_is_err_and c.from_residual.result c.from_residual.ensures.1 in rw (p.1, p.2)
    (turn-refused c.loop-left.invariant c.loop-left-test.true
    c.read_parts.ensures c.in_err-next.was)

pub loop-left-smaller-in-Next : goal.loop-left-smaller-in-Next
loop-left-smaller-in-Next t c = omega (arith, c.loop-left-test.true)

pub loop-left-preserved-in-Next : goal.loop-left-preserved-in-Next
loop-left-preserved-in-Next t c = turn-next c.loop-left.invariant c.loop-left-test.true c.read_parts.ensures
    (c.in_ok-next.was ∙ ap Ok c.in-Next.is)

pub overflow_add-depth : goal.overflow_add-depth
overflow_add-depth t c = omega
    (arith, shallow c.loop-left.invariant c.loop-left-test.true c.read_parts.ensures (c.in_ok-next.was ∙ ap Ok c.in-Blocks.is))

pub overflow_add-at : goal.overflow_add-at
overflow_add-at t c = omega (arith, c.if-at-end.false)

pub lay_block-requires : goal.lay_block-requires
lay_block-requires t c = (left-falls c.loop-left.invariant c.loop-left-test.true c.decreases, tt)

pub returns-in_err-lay_block-in-Blocks : goal.returns-in_err-lay_block-in-Blocks
returns-in_err-lay_block-in-Blocks t c =
    let p = err_from_is_err_and c.from_residual-in_err-lay_block-in-Blocks.result c.from_residual-in_err-lay_block-in-Blocks.ensures.1 in
    rw (p.1, p.2) (sym c.in_err-lay_block-in-Blocks.was ∙ then-refused c.loop-left.invariant c.loop-left-test.true c.read_parts.ensures
    (c.in_ok-next.was ∙ ap Ok c.in-Blocks.is) c.lay_block.ensures c.in_err-lay_block-in-Blocks.was)

pub overflow_add-depth-in-Blocks : goal.overflow_add-depth-in-Blocks
overflow_add-depth-in-Blocks t c = omega (
  arith,
  shallow c.loop-left.invariant c.loop-left-test.true c.read_parts.ensures
      (c.in_ok-next.was ∙ ap Ok c.in-Blocks.is),
)

pub lay_block-requires-in-Blocks : goal.lay_block-requires-in-Blocks
lay_block-requires-in-Blocks t c = (left-falls c.loop-left.invariant c.loop-left-test.true c.decreases, tt)

pub returns-in_err-lay_block-in-Blocks-2 : goal.returns-in_err-lay_block-in-Blocks-2
returns-in_err-lay_block-in-Blocks-2 t c =
    let p = err_from_is_err_and c.from_residual-in_err-lay_block-in-Blocks-2.result c.from_residual-in_err-lay_block-in-Blocks-2.ensures.1 in
    rw (p.1, p.2) (sym c.in_err-lay_block-in-Blocks-2.was ∙ else-refused c.loop-left.invariant
    c.loop-left-test.true c.read_parts.ensures (c.in_ok-next.was ∙ ap Ok c.in-Blocks.is)
    c.lay_block.ensures c.in_ok-lay_block-in-Blocks.was c.lay_block-in-Blocks.ensures
    c.in_err-lay_block-in-Blocks-2.was)

pub loop-left-smaller : goal.loop-left-smaller
loop-left-smaller t c = omega (arith, c.loop-left-test.true)

pub loop-left-preserved : goal.loop-left-preserved
loop-left-preserved t c = turn-blocks c.loop-left.invariant
    c.loop-left-test.true c.read_parts.ensures (c.in_ok-next.was ∙ ap Ok c.in-Blocks.is)
    c.lay_block.ensures c.in_ok-lay_block-in-Blocks.was c.lay_block-in-Blocks.ensures
    c.in_ok-lay_block-in-Blocks-2.was

pub returns-after-loop-left : goal.returns-after-loop-left
returns-after-loop-left t c = turn-none c.loop-left.invariant c.loop-left-test.false

pub returns-then-at-end : goal.returns-then-at-end
returns-then-at-end t c = turn_end c.loop-left.invariant c.if-at-end.true
