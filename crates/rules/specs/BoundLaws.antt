-- A place of what a table declares, within and beyond.
use Rattle.std.specs.Prelude.{ℕ, ◌<◌, ◌≤◌, ◌≡◌, get_or}
use Rattle.std.proofs.Common.{sym, ◌∙◌, arith}
use Rattle.std.proofs.Math.ListN.{get_or-eq_default}
use Rattle.arrays.specs.Tabulate.{tabulate}
use Rattle.arrays.specs.TabulateLaws.{get_d_tabulate, length-tabulate}

pub within : {A : Type 0} (n : ℕ) (f : ℕ → A) (i : ℕ) (d : A) {a : A} → i < n → a ≡ f i → a ≡ get_or (tabulate n f) i d
within n f i d h e = e ∙ sym (get_d_tabulate n f i d h)

pub beyond : {A : Type 0} (n : ℕ) (f : ℕ → A) (i : ℕ) (d : A) → n ≤ i → d ≡ get_or (tabulate n f) i d
beyond n f i d h = let l : ◌≡◌ {A = ℕ} _ n = length-tabulate n f in sym (get_or-eq_default (tabulate n f) d {n = i} (omega (arith, h, l)))
