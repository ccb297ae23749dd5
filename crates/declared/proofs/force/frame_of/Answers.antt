-- `declared::force::frame_of` meets its contract.
use Rattle.rules.specs.Verdict.{environment_of}
use Rattle.declared.proofs.force.frame_of.Goals as goal

pub returns : goal.returns
unfolding environment_of
returns c = record { pointers = c.read_pointers.ensures; sizes = c.read_sizes.ensures; spans = c.read_spans.ensures }
