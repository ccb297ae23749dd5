-- `declared::calls::read_signature` meets its contract.
use Rattle.rules.specs.Verdict.{environment_of}
use Rattle.declared.proofs.calls.read_signature.Goals as goal

pub returns : goal.returns
unfolding environment_of
returns c = simp (
  c.read_declared.ensures,
  c.read_strings.ensures,
  c.read_pointers.ensures,
  c.sections_of-sections.ensures,
)
