-- `files::encoding::read_words` meets its contract: each turn fills one more word.
use Prim.Native.Nat.{◌-◌}
use mathlib.Core.Path.{refl, ◌∙◌}
use native.Mathlib.Omega.{arith}
use borrow.Author.Rules.{rules}
use mir.Syntax.{w32}
use mir.Facts.{to_z-of_z}
use Rattle.arrays.specs.TabulateLaws.{filled_none, filled_more}
use Rattle.files.specs.Files.{word_at}
use Rattle.files.specs.WordLaws.{words-read}
use Rattle.files.proofs.encoding.read_words.Goals as goal

pub loop-i-init : goal.loop-i-init
loop-i-init c = (filled_none _ _ _ refl, search rules, c.min-count.ensures)

pub word_at-requires : goal.word_at-requires
word_at-requires c = omega (arith, c.loop-i.invariant.2)

pub bounds-table-i : goal.bounds-table-i
bounds-table-i c = omega (arith, c.loop-i.invariant.0.long, c.loop-i.invariant.2, c.loop-i-test.true)

pub loop-i-preserved : goal.loop-i-preserved
loop-i-preserved c = (
  filled_more c.loop-i.invariant.0 (omega (arith, c.loop-i.invariant.2, c.loop-i-test.true))
      (to_z-of_z {w = w32} {z = c.word_at.result} (record { sfits = c.word_at.type_inv }) ∙ c.word_at.ensures),
  search rules,
  c.loop-i.invariant.2,
)

pub shape_of-table : goal.shape_of-table
shape_of-table c = c.loop-i.invariant.0.long

pub returns : goal.returns
returns c = words-read c.loop-i.invariant.0 c.loop-i.invariant.1 c.loop-i-test.false c.loop-i.invariant.2
