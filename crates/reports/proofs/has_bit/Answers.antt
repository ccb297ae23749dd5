-- `reports::has_bit` meets its contract.
use Rattle.reports.specs.Reports.{bit_at}
use mathlib.Core.Path.{refl}
use Rattle.reports.proofs.has_bit.Goals as goal

pub returns : goal.returns
unfolding bit_at
returns c = refl
