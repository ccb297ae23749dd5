-- `declared::force::force_of` meets its contract.
use mathlib.Core.Path.{refl}
use Rattle.declared.proofs.force.force_of.Goals as goal

pub returns : goal.returns
returns c = record { rows = refl; seen = c.seen_in-seen.ensures; named = c.named_in.ensures }
