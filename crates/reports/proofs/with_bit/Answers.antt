-- `reports::with_bit` meets its contract.
use Prim.Native.Nat.{ℕ}
use mathlib.Core.Path.{ap}
use lib.Bits.{bit_or}
use Rattle.reports.specs.ReportLaws.{power-fits}
use Rattle.reports.proofs.with_bit.Goals as goal

pub returns : goal.returns
returns c = ap (λ (n : ℕ). bit_or c.args.word n) (power-fits _ c.requires)
