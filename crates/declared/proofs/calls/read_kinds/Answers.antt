-- `declared::calls::read_kinds` meets its contract.
use Rattle.rules.specs.Verdict.{environment_of}
use Rattle.declared.proofs.calls.read_kinds.Goals as goal

pub returns : goal.returns
unfolding environment_of
returns c = simp (c.read_strings.ensures, c.read_pointers.ensures)
