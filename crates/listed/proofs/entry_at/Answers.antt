-- `listed::entry_at` meets its contract.
use Rattle.listed.specs.Entries.{entry_at}
use Rattle.listed.proofs.entry_at.Goals as goal

pub returns : goal.returns
unfolding entry_at
returns c = simp (
  c.word-3.ensures,
  c.index_of-2.ensures,
  c.word-2.ensures,
  c.index_of.ensures,
  c.word.ensures,
)
