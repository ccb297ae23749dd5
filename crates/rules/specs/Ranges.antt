-- The ranges that sums of 64 bits allow: of a statement, of element sizes, of the lengths of objects, of an effect.
use Rattle.std.specs.Prelude.{ℕ, ◌^◌, ◌≤◌, ◌<◌}
use Rattle.statements.specs.declared.Simple.{Simple}
use Rattle.statements.specs.declared.Simple.TheVariants.{Literal, AddConstant, Arithmetic, Null, Address}
use Rattle.statements.specs.declared.Simple.TheVariants.{PointerOffset, PointerIndex, Load, Store, Check, Declare}
use Rattle.rules.specs.BoundsRules.{element_size, object_span}
use Rattle.rules.specs.declared.Environment.{Environment}
use Rattle.rules.specs.declared.Effect.{Effect}
use Rattle.rules.specs.declared.Effect.TheVariants.{Keep, Forget, Shift, Copy, Object}

-- The numbers of a statement are in the ranges that sums of 64 bits allow, and what is copied or moved is a variable.
abbrev pub InRange : Simple → Type 0
InRange (Literal x k) = k < 2 ^ 32
InRange (AddConstant x y k) = (k < 2 ^ 34) × (y < 16)
InRange (Arithmetic x y z op) = Unit
InRange (Null p) = Unit
InRange (Address p o) = Unit
InRange (PointerOffset p q k) = (k < 2 ^ 34) × (q < 16)
InRange (PointerIndex p q i) = q < 16
InRange (Load x p i k) = k < 2 ^ 34
InRange (Store p i k x) = k < 2 ^ 34
InRange (Check c) = c.offset < 2 ^ 32
InRange (Declare p r) = Unit

-- Element sizes are in range.
abbrev pub Sized : Environment → Type 0
Sized E = (p : ℕ) → element_size E p ≤ 8

-- The spans of objects are in range.
abbrev pub Measured : Environment → Type 0
Measured E = (o : ℕ) → object_span E o < 2 ^ 40

-- The numbers of an effect are in range, too.
abbrev pub Short : Effect → Type 0
Short Keep = Unit
Short (Forget v) = Unit
Short (Shift v k) = Unit
Short (Copy v q) = q < 16
Short (Object v s n) = n < 2 ^ 40
