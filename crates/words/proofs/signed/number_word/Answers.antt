-- `words::signed::number_word` meets its contract.
use mir.Syntax.{w32}
use mir.Facts.{to_z_pos}
use Rattle.words.proofs.signed.number_word.Goals as goal

pub returns : goal.returns
returns c = to_z_pos w32 c.requires
