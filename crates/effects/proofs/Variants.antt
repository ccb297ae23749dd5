-- What the last arm of the `match` in `ask_statement` is told.
use Rattle.std.specs.Prelude.{◌≡◌, ℕ, refl}
use Rattle.conditions.specs.declared.Condition.{Condition}
use Rattle.statements.specs.declared.Simple.{Simple}
use Rattle.statements.specs.declared.Simple.TheVariants.{Literal, AddConstant, Arithmetic, Null, Address, PointerOffset, PointerIndex, Load, Store, Check}
use Rattle.statements.specs.declared.Simple.TheVariants.{Declare}
use Rattle.effects.specs.Asked.{nothing_asked, statement_asked}

-- Kinds 2 and 10 ask.
pub nothing-asked : (s : Simple)
    → ((x y k : ℕ) → s ≡ AddConstant x y k → ⊥)
    → ((c : Condition) → s ≡ Check c → ⊥)
    → nothing_asked ≡ statement_asked s
nothing-asked (Literal x k) h g = refl
nothing-asked (AddConstant x y k) h g = absurd (h _ _ _ refl)
nothing-asked (Arithmetic x y z op) h g = refl
nothing-asked (Null p) h g = refl
nothing-asked (Address p o) h g = refl
nothing-asked (PointerOffset p q k) h g = refl
nothing-asked (PointerIndex p q i) h g = refl
nothing-asked (Load x p i k) h g = refl
nothing-asked (Store p i k x) h g = refl
nothing-asked (Check c) h g = absurd (g _ refl)
nothing-asked (Declare p r) h g = refl
