-- `parts::length_at` meets its contract.
use mathlib.Core.Path.{refl, sym}
use native.Mathlib.Omega.{arith}
use lib.ListN.{get_or-eq_default}
use Rattle.parts.proofs.length_at.Goals as goal

pub overflow_cast-result : goal.overflow_cast-result
overflow_cast-result c = record { fits = omega (arith, c.shared_slice_known-1.given c.args.i) }

pub returns-then-i-lengths : goal.returns-then-i-lengths
returns-then-i-lengths c = (refl, omega (arith, c.shared_slice_known-1.given c.args.i))

pub returns : goal.returns
returns c = (sym (get_or-eq_default c.args.lengths.now 0 {n = c.args.i} c.if-i-lengths.false), omega arith)
