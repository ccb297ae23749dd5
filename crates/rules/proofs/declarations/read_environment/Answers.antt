-- `rules::declarations::read_environment` meets its contract.
use Rattle.rules.specs.Verdict.{environment_of}
use Rattle.rules.proofs.declarations.read_environment.Goals as goal

pub returns : goal.returns
unfolding environment_of
returns c = simp (
  c.read_rows.ensures,
  c.read_spans.ensures,
  c.read_terminated.ensures,
  c.read_lengths.ensures,
  c.read_declared.ensures,
  c.read_sizes.ensures,
  c.read_strings.ensures,
  c.read_pointers.ensures,
)
