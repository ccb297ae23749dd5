-- What the last arms of the `match` in `access_of` and `declares_of` are told.
use Rattle.std.specs.Prelude.{◌≡◌, ℕ, refl, None}
use Rattle.statements.specs.declared.Simple.{Simple}
use Rattle.statements.specs.declared.Simple.TheVariants.{Literal, AddConstant, Arithmetic, Null, Address, PointerOffset, PointerIndex, Load, Store, Check}
use Rattle.statements.specs.declared.Simple.TheVariants.{Declare}
use Rattle.declared.specs.Shown.{access_of, declares_of}

-- Only kinds 8 and 9 are accesses.
pub no_access : (s : Simple)
    → ((x p i k : ℕ) → s ≡ Load x p i k → ⊥)
    → ((p i k x : ℕ) → s ≡ Store p i k x → ⊥)
    → None ≡ access_of s
no_access (Literal x k) h g = refl
no_access (AddConstant x y k) h g = refl
no_access (Arithmetic x y z op) h g = refl
no_access (Null p) h g = refl
no_access (Address p o) h g = refl
no_access (PointerOffset p q k) h g = refl
no_access (PointerIndex p q i) h g = refl
no_access (Load x p i k) h g = absurd (h _ _ _ _ refl)
no_access (Store p i k x) h g = absurd (g _ _ _ _ refl)
no_access (Check c) h g = refl
no_access (Declare p r) h g = refl

-- Only kind 14 names a row.
pub no_row : (s : Simple)
    → ((p r : ℕ) → s ≡ Declare p r → ⊥)
    → None ≡ declares_of s
no_row (Literal x k) h = refl
no_row (AddConstant x y k) h = refl
no_row (Arithmetic x y z op) h = refl
no_row (Null p) h = refl
no_row (Address p o) h = refl
no_row (PointerOffset p q k) h = refl
no_row (PointerIndex p q i) h = refl
no_row (Load x p i k) h = refl
no_row (Store p i k x) h = refl
no_row (Check c) h = refl
no_row (Declare p r) h = absurd (h _ _ refl)
