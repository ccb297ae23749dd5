use Rattle.table.specs.Form.{four_pairs}
use Rattle.table.proofs.four_pairs.Goals as goal

pub returns : goal.returns
unfolding four_pairs
returns c = simp (c.is_number.ensures, c.word.ensures)
