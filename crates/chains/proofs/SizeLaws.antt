-- Point 10: ends that name no integer are compared "by pointers and constants alone", whatever the size.
use Rattle.std.specs.Prelude.{ℕ, ◌*◌, ◌≤◌, ◌≡◌, refl, ◌↔◌, Bool, true, false, leb}
use Rattle.std.proofs.Common.{mul-zero, leb-true, leb-false, arith}
use Rattle.sums.specs.Numbers.{zero_var}
use Rattle.sums.specs.Scale.{scale}
use Rattle.chains.specs.Facts.{Variables, Node, Known, empty, ChainWithin, Contradiction, EndShown}
use Rattle.chains.proofs.Chains.{Sane, sinks, weaken}

-- A chain from q to r whose sum with k is at most j.
pub end-alone : (vars : Variables) (K : Known) → Sane vars K → (size q k r j : ℕ) → Node vars q → Node vars r
    → EndShown K size q zero_var k r zero_var j ↔ ChainWithin K q r j k
end-alone vars K s size q k r j hq hr = (there, back)
  where
    there : EndShown K size q zero_var k r zero_var j → ChainWithin K q r j k
    there e = go (leb e.down₂ e.up₂) refl
      where
        go : (b : Bool) → leb e.down₂ e.up₂ ≡ b → ChainWithin K q r j k
        go true t =
            let l : size * e.down₂ ≤ size * e.up₂ = scale size (leb-true e.down₂ e.up₂ t) in
            record { up = e.up₁; down = e.down₁; chain = e.first; within = omega (arith, e.within) }
        go false t =
            let c : Contradiction K = record { node = zero_var; up = e.up₂; down = e.down₂; round = e.second; negative = leb-false e.down₂ e.up₂ t } in
            weaken (sinks vars K s c q r k hq hr) (omega arith)

    back : ChainWithin K q r j k → EndShown K size q zero_var k r zero_var j
    back c = record { up₁ = c.up; down₁ = c.down; first = c.chain; up₂ = 0; down₂ = 0; second = empty; within = omega (arith, c.within, mul-zero size) }
