use lib.IntN.{pos}
use lib.ListN.{get_or}
use mir.Syntax.{w32}
use mathlib.Core.Path.{ap, ◌∙◌}
use mir.Facts.{to_z-of_z}
use Rattle.words.specs.Words.{biased, word}
use Rattle.words.proofs.word_within.Goals as goal

pub returns : goal.returns
unfolding word biased
returns c = c.biased.ensures
    ∙ ap biased (to_z-of_z {w = w32} {z = get_or c.args.table.now c.args.i (pos 0)} (record { sfits = c.biased-arg-1.given }))
