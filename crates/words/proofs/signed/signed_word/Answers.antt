-- `words::signed::signed_word` meets its contract.
use mathlib.Core.Path.{sym}
use lib.IntN.{pos}
use lib.ListN.{get_or-eq_default}
use Rattle.words.proofs.signed.signed_word.Goals as goal

pub returns : goal.returns
returns c = sym (get_or-eq_default c.args.words.now (pos 0) {n = c.args.i} c.if-i-words.false)
