-- `listed::belongs` meets its contract.
use Rattle.listed.specs.Entries.{belongs}
use Rattle.listed.proofs.belongs.Goals as goal

pub returns : goal.returns
unfolding belongs
returns c = simp c.word.ensures
