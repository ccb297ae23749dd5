-- `sets::member::put_objects` meets its contract.
use Prim.Native.Nat.{◌-◌}
use mathlib.Core.Path.{◌∙◌, refl}
use native.Mathlib.Omega.{arith}
use mir.Syntax.{w32}
use mir.Facts.{to_z-of_z}
use Rattle.sets.specs.MemberLaws.{puts-made, full-long, full-within, copied_none, copied_more, copied-whole}
use Rattle.sets.proofs.member.put_objects.Goals as goal

pub overflow_add-count : goal.overflow_add-count
overflow_add-count c = let p = puts-made _ _ c.requires.0 c.requires.1 c.sections_of-own.ensures
    c.sections_of-sections.ensures c.requires.2 in record { fits = omega (arith, full-long p, full-within p) }

pub loop-i-init : goal.loop-i-init
loop-i-init c = copied_none _ _

pub member_word-requires : goal.member_word-requires
member_word-requires c = let p = puts-made _ _ c.requires.0 c.requires.1
    c.sections_of-own.ensures c.sections_of-sections.ensures
    c.requires.2 in (p, omega (arith, c.loop-i-test.true, full-long p, full-within p))

pub offset_bounds-member-i : goal.offset_bounds-member-i
offset_bounds-member-i c = let p = puts-made _ _ c.requires.0 c.requires.1
    c.sections_of-own.ensures c.sections_of-sections.ensures
    c.requires.2 in record { fits = omega (arith, c.loop-i-test.true, full-long p, full-within p) }

pub bounds-member-i : goal.bounds-member-i
bounds-member-i c = let p = puts-made _ _ c.requires.0 c.requires.1
    c.sections_of-own.ensures c.sections_of-sections.ensures
    c.requires.2 in omega (
      arith,
      c.loop-i-test.true,
      full-long p,
      full-within p,
      c.loop-i.invariant.long,
      c.requires.3,
    )

pub loop-i-preserved : goal.loop-i-preserved
loop-i-preserved c = let p = puts-made _ _ c.requires.0 c.requires.1
    c.sections_of-own.ensures c.sections_of-sections.ensures
    c.requires.2 in
    copied_more c.loop-i.invariant
    (omega (arith, c.loop-i-test.true, full-long p, full-within p, c.requires.3))
    (to_z-of_z {w = w32} {z = c.member_word.result} (record { sfits = c.member_word.type_inv }) ∙ c.member_word.ensures)

pub shape_of-member : goal.shape_of-member
shape_of-member c = c.loop-i.invariant.long

pub returns : goal.returns
returns c = copied-whole (puts-made _ _ c.requires.0 c.requires.1
    c.sections_of-own.ensures c.sections_of-sections.ensures
    c.requires.2) c.requires.3 refl c.loop-i-test.false c.loop-i.invariant
