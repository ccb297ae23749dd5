-- What the functions of the root give back, in terms of the rules: bounds that are the same, and the access that a statement makes.
use Rattle.table.specs.declared.variables.End.{End}
use Rattle.std.specs.Prelude.{Bool, true, false, ◌&&◌, eqb, None, Option, Some, is_some, ℕ}
use Rattle.statements.specs.declared.Simple.{Simple}
use Rattle.statements.specs.declared.Simple.TheVariants.{Literal, AddConstant, Arithmetic, Null, Address}
use Rattle.statements.specs.declared.Simple.TheVariants.{PointerOffset, PointerIndex, Load, Store, Check, Declare}
use Rattle.rules.specs.Stored.{same_end}
use Rattle.rules.specs.declared.Bounds.{Bounds}
use Rattle.declared.specs.declared.Access.{Access}
use Rattle.declared.specs.declared.Declaration.{Declaration}

-- Both ends are known and the same.
unfoldable pub same_known : Option End → Option End → Bool
same_known None g = false
same_known (Some e) None = false
same_known (Some e) (Some g) = same_end e g

-- Known and declared bounds are the same, size and end by end; each pair in the order in which `bounds_shown` compares it.
unfoldable pub same_bounds : Bounds → Bounds → Bool
same_bounds k d = eqb k.size d.size && (same_known k.lower d.lower && same_known d.upper k.upper)

abbrev pub access : ℕ → ℕ → ℕ → Access
access p i k = record { pointer = p; index = i; constant = k }

abbrev pub declaration : ℕ → ℕ → Declaration
declaration p r = record { pointer = p; row = r }

-- Kinds 8 and 9 are accesses.
abbrev pub access_of : Simple → Option Access
access_of (Literal x k) = None
access_of (AddConstant x y k) = None
access_of (Arithmetic x y z op) = None
access_of (Null p) = None
access_of (Address p o) = None
access_of (PointerOffset p q k) = None
access_of (PointerIndex p q i) = None
access_of (Load x p i k) = Some (access p i k)
access_of (Store p i k x) = Some (access p i k)
access_of (Check c) = None
access_of (Declare p r) = None

unfoldable pub is_access : Simple → Bool
is_access s = is_some (access_of s)

-- Kind 14 names a row.
abbrev pub declares_of : Simple → Option Declaration
declares_of (Literal x k) = None
declares_of (AddConstant x y k) = None
declares_of (Arithmetic x y z op) = None
declares_of (Null p) = None
declares_of (Address p o) = None
declares_of (PointerOffset p q k) = None
declares_of (PointerIndex p q i) = None
declares_of (Load x p i k) = None
declares_of (Store p i k x) = None
declares_of (Check c) = None
declares_of (Declare p r) = Some (declaration p r)
