use Prim.Native.Nat.{◌-◌}
use mathlib.Core.Path.{refl, ◌∙◌}
use native.Mathlib.Omega.{arith}
use mir.Syntax.{w32}
use mir.Facts.{to_z-of_z}
use lib.ListN.{length-set}
use Rattle.edits.specs.EditedLaws.{start-least}
use Rattle.edits.specs.WrittenLaws.{moved-and-put, rewritten}
use Rattle.edits.proofs.write_edited.Goals as goal

pub move_behind-requires : goal.move_behind-requires
move_behind-requires c = (omega arith, c.requires.2, omega (arith, c.requires.1), omega arith, omega arith, omega arith)

pub put_text-requires : goal.put_text-requires
put_text-requires c = omega (arith, c.move_behind.ensures.long, c.requires.2)

pub bounds-buffer-5 : goal.bounds-buffer-5
bounds-buffer-5 c = omega (arith, c.put_text.ensures.long, c.move_behind.ensures.long, c.requires.2, start-least _ c.requires.0.limits)

pub bounds-buffer-6 : goal.bounds-buffer-6
bounds-buffer-6 c = simp length-set (omega
    (arith, c.put_text.ensures.long, c.move_behind.ensures.long, c.requires.2, start-least _ c.requires.0.limits))

pub shape_of-buffer : goal.shape_of-buffer
shape_of-buffer c = simp length-set (c.put_text.ensures.long ∙ c.move_behind.ensures.long)

pub returns : goal.returns
returns c = rewritten _ _ _ _ _ c.requires.0 c.requires.2
    (moved-and-put _ _ _ _ _ c.requires.0 refl refl refl refl c.move_behind.ensures c.put_text.ensures)
    (to_z-of_z {w = w32} {z = c.edited_word-five.result} (record {
      sfits = c.edited_word-five.type_inv;
    })
    ∙ c.edited_word-five.ensures)
    (to_z-of_z {w = w32} {z = c.edited_word-six.result}
    (record { sfits = c.edited_word-six.type_inv })
    ∙ c.edited_word-six.ensures)
