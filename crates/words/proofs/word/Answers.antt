use lib.IntN.{pos}
use lib.ListN.{get_or-eq_default}
use mathlib.Core.Path.{sym, ap}
use Rattle.words.specs.Words.{biased, word}
use Rattle.words.proofs.word.Goals as goal

pub returns : goal.returns
unfolding word biased
returns c = sym (ap biased (get_or-eq_default c.args.table.now (pos 0) c.if-i-table.false))
