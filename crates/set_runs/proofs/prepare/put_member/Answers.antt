-- `set_runs::prepare::put_member` meets its contract.
use native.Mathlib.Omega.{arith}
use Rattle.set_runs.specs.PrepareLaws.{few-lengths, copy-fits, copied-member, later-asks, put-member}
use Rattle.set_runs.proofs.prepare.put_member.Goals as goal

pub span_of-own-requires : goal.span_of-own-requires
span_of-own-requires c = (omega arith, omega arith, omega (arith, c.requires.1, few-lengths _ _ c.requires.0))

pub copy_table-requires : goal.copy_table-requires
copy_table-requires c = copy-fits _ _ c.requires.0 _ c.requires.1
    c.args.member.now c.span_of-own.ensures.value c.requires.2

pub returns-then-n-eq0 : goal.returns-then-n-eq0
returns-then-n-eq0 c = copied-member _ _ c.requires.0 _ c.requires.1
    c.span_of-own.ensures.value c.if-n-eq0.true c.copy_table.ensures

pub put_objects-requires : goal.put_objects-requires
put_objects-requires c = later-asks _ _ c.requires.0 _ c.requires.1
    c.span_of-first.ensures.value c.span_of-own.ensures.value
    c.if-n-eq0.false c.args.member.now c.requires.2

pub returns : goal.returns
returns c = put-member _ _ c.requires.0 _ c.requires.1
    c.span_of-first.ensures.value c.span_of-own.ensures.value
    c.if-n-eq0.false _ c.requires.2 c.put_objects.ensures
