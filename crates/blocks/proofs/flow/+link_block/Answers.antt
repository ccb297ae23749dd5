-- `link_block`, which calls itself on nested blocks. The invariant: writing what is left is writing the whole.
use Prim.Native.Nat.{ℕ}
use mathlib.Core.Path.{refl, sym, ◌∙◌}
use native.Mathlib.Omega.{arith}
use borrow.Author.Rules.{rules}
use lib.ListN.{length}
use Rattle.statements.specs.StatementLaws.{read-counts-if, read-counts-while, read-counts-bundle}
use Rattle.blocks.specs.Tree.{parse}
use Rattle.blocks.specs.Flow.{flow}
use Rattle.blocks.specs.Written.{written}
use Rattle.blocks.specs.FlowLaws.{Turn, arm, placed, falls as left-falls, room-put, room-if, room-bundle, link-none, link-end, link-unread, link-plain}
use Rattle.blocks.specs.FlowLaws.{link-call, link-if, link-while, link-bundle}
use Rattle.blocks.proofs.flow.+link_block.Goals as goal
use Rattle.blocks.proofs.flow.+link_block.Goals.{In-Some}

-- the turn, once its statement is read
turn : (t : ℕ) (d : In-Some t)
    → Turn d.args.table.now
    d.args.sections
    d.args.end
    d.args.allowed
    d.args.after
    (written (flow (parse d.args.allowed
    d.args.table.now
    d.args.sections
    d.args.first
    d.args.end)
    d.args.after)
    d.args.entries.now)
    (length d.args.entries.now)
    d.loop-left.at d.loop-left.left
    d.loop-left.entries
    d.in-Some.s
turn t d = record {
  so_far = d.loop-left.invariant;
  some = d.loop-left-test.true;
  within = d.if-at-end.false;
  read = sym d.read_statement-got.ensures ∙ d.in-Some.is;
  room = d.requires;
}

pub loop-left-init : goal.loop-left-init
loop-left-init t c = record { same = refl; less = search rules; long = refl }

pub returns-then-at-end : goal.returns-then-at-end
returns-then-at-end t c = link-end c.loop-left.invariant c.if-at-end.true

pub returns-in_default : goal.returns-in_default
returns-in_default t c = link-unread c.loop-left.invariant c.loop-left-test.true
    c.if-at-end.false (sym c.read_statement-got.ensures ∙ c.in_default.is)

pub overflow_add-inner : goal.overflow_add-inner
overflow_add-inner t c = omega (arith, (placed (turn t (goal.at.overflow_add-inner t c).In-Some)).0, c.well_formed)

pub put_successors-requires : goal.put_successors-requires
put_successors-requires t c = (placed (turn t (goal.at.put_successors-requires t c).In-Some)).1

pub loop-left-smaller-in-Plain : goal.loop-left-smaller-in-Plain
loop-left-smaller-in-Plain t c = omega (arith, (turn t (goal.at.loop-left-smaller-in-Plain t c).In-Some).some)

pub loop-left-preserved-in-Plain : goal.loop-left-preserved-in-Plain
loop-left-preserved-in-Plain t c = link-plain (arm (turn t (goal.at.loop-left-preserved-in-Plain t c).In-Some)
    c.in-Plain.is) c.first_due-next.ensures
    c.put_successors.ensures

pub overflow_add-middle : goal.overflow_add-middle
overflow_add-middle t c = let u = arm (turn t (goal.at.overflow_add-middle t c).In-Some) c.in-If.is in omega (
  arith,
  (placed u).0,
  u.room,
  read-counts-if _ _ _ _ _ _ u.read,
  c.well_formed,
)

pub overflow_add-rest : goal.overflow_add-rest
overflow_add-rest t c = let u = arm (turn t (goal.at.overflow_add-rest t c).In-Some) c.in-If.is in omega (
  arith,
  (placed u).0,
  u.room,
  read-counts-if _ _ _ _ _ _ u.read,
  c.well_formed,
)

pub put_successors-requires-in-If : goal.put_successors-requires-in-If
put_successors-requires-in-If t c = (placed (turn t (goal.at.put_successors-requires-in-If t c).In-Some)).1

pub link_block-requires : goal.link_block-requires
link_block-requires t c = let u = turn t (goal.at.link_block-requires t c).In-Some in (
  left-falls u c.decreases,
  room-put u _ c.put_successors-in-If.ensures,
)

pub link_block-requires-in-If : goal.link_block-requires-in-If
link_block-requires-in-If t c = let u = turn t (goal.at.link_block-requires-in-If t c).In-Some in (
  left-falls u c.decreases,
  room-if (arm u c.in-If.is) _ _ _
      c.put_successors-in-If.ensures c.link_block.ensures,
)

pub loop-left-smaller-in-If : goal.loop-left-smaller-in-If
loop-left-smaller-in-If t c = omega (
  arith,
  (turn t
      (goal.at.loop-left-smaller-in-If t c).In-Some
      ).some,
)

pub loop-left-preserved-in-If : goal.loop-left-preserved-in-If
loop-left-preserved-in-If t c = link-if (arm (turn t
    (goal.at.loop-left-preserved-in-If t c).In-Some)
    c.in-If.is)
    c.first_due-after_if.ensures
    c.first_due-next-in-If.ensures
    c.first_due-other.ensures
    c.put_successors-in-If.ensures
    c.link_block.ensures c.link_block-in-If.ensures

pub overflow_add-rest-in-While : goal.overflow_add-rest-in-While
overflow_add-rest-in-While t c = let u = arm (turn t (goal.at.overflow_add-rest-in-While t c).In-Some) c.in-While.is in omega (
  arith,
  (placed u).0,
  u.room,
  read-counts-while _ _ _ _ _ u.read,
  c.well_formed,
)

pub put_successors-requires-in-While : goal.put_successors-requires-in-While
put_successors-requires-in-While t c = (placed (turn t (goal.at.put_successors-requires-in-While t c).In-Some)).1

pub link_block-requires-in-While : goal.link_block-requires-in-While
link_block-requires-in-While t c = let u = turn t (goal.at.link_block-requires-in-While t c).In-Some in (
  left-falls u c.decreases,
  room-put u _ c.put_successors-in-While.ensures,
)

pub loop-left-smaller-in-While : goal.loop-left-smaller-in-While
loop-left-smaller-in-While t c = omega (arith, (turn t (goal.at.loop-left-smaller-in-While t c).In-Some).some)

pub loop-left-preserved-in-While : goal.loop-left-preserved-in-While
loop-left-preserved-in-While t c = link-while (arm (turn t (goal.at.loop-left-preserved-in-While t c).In-Some)
    c.in-While.is)
    c.first_due-next-in-While.ensures
    c.first_due-other-in-While.ensures
    c.put_successors-in-While.ensures
    c.link_block-in-While.ensures

pub overflow_add-rest-in-Bundle : goal.overflow_add-rest-in-Bundle
overflow_add-rest-in-Bundle t c = let u = arm (turn t (goal.at.overflow_add-rest-in-Bundle t c).In-Some) c.in-Bundle.is in omega (
  arith,
  (placed u).0,
  u.room,
  read-counts-bundle _ _ _ _ u.read,
  c.well_formed,
)

pub count_simple-held-requires : goal.count_simple-held-requires
count_simple-held-requires t c = let u = arm (turn t (goal.at.count_simple-held-requires t c).In-Some) c.in-Bundle.is in omega (
  arith,
  (placed u).0,
  u.room,
  read-counts-bundle _ _ _ _ u.read,
  c.well_formed,
)

pub put_successors-requires-in-Bundle : goal.put_successors-requires-in-Bundle
put_successors-requires-in-Bundle t c = (placed (turn t (goal.at.put_successors-requires-in-Bundle t c).In-Some)).1

pub link_bundle-requires : goal.link_bundle-requires
link_bundle-requires t c = room-bundle (arm (turn t (goal.at.link_bundle-requires t c).In-Some)
    c.in-Bundle.is)
    c.count_simple-held.ensures _
    c.put_successors-in-Bundle.ensures

pub loop-left-smaller-in-Bundle : goal.loop-left-smaller-in-Bundle
loop-left-smaller-in-Bundle t c = omega (arith, (turn t (goal.at.loop-left-smaller-in-Bundle t c).In-Some).some)

pub loop-left-preserved-in-Bundle : goal.loop-left-preserved-in-Bundle
loop-left-preserved-in-Bundle t c = link-bundle (arm (turn t (goal.at.loop-left-preserved-in-Bundle t c).In-Some)
    c.in-Bundle.is)
    c.count_simple-held.ensures
    c.first_due-after_bundle.ensures
    c.first_simple-next.ensures
    c.put_successors-in-Bundle.ensures c.link_bundle.ensures

pub put_successors-requires-in-Call : goal.put_successors-requires-in-Call
put_successors-requires-in-Call t c = (placed (turn t (goal.at.put_successors-requires-in-Call t c).In-Some)).1

pub loop-left-smaller : goal.loop-left-smaller
loop-left-smaller t c = omega (arith, (turn t (goal.at.loop-left-smaller t c).In-Some).some)

pub loop-left-preserved : goal.loop-left-preserved
loop-left-preserved t c = link-call (arm (turn t (goal.at.loop-left-preserved t c).In-Some) c.in-Call.is)
    c.first_due-next-in-Call.ensures c.put_successors-in-Call.ensures

pub returns : goal.returns
returns t c = link-none c.loop-left.invariant c.loop-left-test.false
