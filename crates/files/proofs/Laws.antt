-- The machine's word of a pattern of 32 bits is the signed word.
use Prim.Native.Nat.{ℕ, ◌-◌, ◌^◌}
use Rattle.std.specs.Prelude.{cond, ltb}
use mathlib.Core.Path.{◌≡◌, ap}
use native.Mathlib.Omega.{arith}
use lib.IntN.{pos, negsuc}
use mir.Syntax.{w32}
use mir.Val.{to_z}
use Rattle.files.specs.Files.{signed_of}

pub signed : (u : ℕ) → to_z w32 u ≡ signed_of u
unfolding signed_of
signed u = ap (λ (n : ℕ). cond (ltb u (2 ^ 31)) (pos u) (negsuc n)) (omega arith)
