-- What holds of a statement that was read: what its fields name, and their ranges.
use Rattle.std.specs.Prelude.{ℕ, ◌^◌, ◌<◌, ◌≡◌, true, List, ℤ}
use Rattle.sums.specs.Numbers.{zero_var}
use Rattle.words.specs.Fields.{literal_limit}
use Rattle.words.specs.Sections.{string_at, object_terminated}
use Rattle.words.specs.Typed.{IsInteger, IsPointer, IsIndex, IsSmall}
use Rattle.words.specs.declared.sections.Sections.{Sections}
use Rattle.conditions.specs.Typed.{ConditionTyped}
use Rattle.conditions.specs.declared.Condition.{Condition}
use Rattle.statements.specs.declared.Simple.{Simple}
use Rattle.statements.specs.declared.Simple.TheVariants.{Literal, AddConstant, Arithmetic, Null, Address}
use Rattle.statements.specs.declared.Simple.TheVariants.{PointerOffset, PointerIndex, Load, Store, Check, Declare}
use Rattle.statements.specs.declared.CallSite.{CallSite}
use Rattle.statements.specs.declared.Statement.{Statement}
use Rattle.statements.specs.declared.Statement.TheVariants.{Plain, If, While, Bundle, Call}

-- A variable, or the number that stands for none.
pub data IsArgument (h : Sections) (v : ℕ) : Type 0 where
  missing : v ≡ zero_var → IsArgument h v
  given : v < h.variables → IsArgument h v

module _ (table : List ℤ) (h : Sections) where
  pub record LiteralTyped (x k : ℕ) : Type 0 where
    pub target : IsInteger table h x
    pub value : k < literal_limit

  pub record AddConstantTyped (x y k : ℕ) : Type 0 where
    pub target : IsInteger table h x
    pub source : IsInteger table h y
    pub constant : IsSmall k

  pub record ArithmeticTyped (x y z op : ℕ) : Type 0 where
    pub target : IsInteger table h x
    pub left : IsInteger table h y
    pub right : IsInteger table h z
    pub operation : op < 3

  pub record AddressTyped (p o : ℕ) : Type 0 where
    pub target : IsPointer table h p
    pub object : o < h.objects
    pub fits : string_at table h p ≡ true → object_terminated table h o ≡ true

  pub record PointerOffsetTyped (p q k : ℕ) : Type 0 where
    pub target : IsPointer table h p
    pub source : IsPointer table h q
    pub constant : IsSmall k
    pub fits : string_at table h p ≡ true → string_at table h q ≡ true

  pub record PointerIndexTyped (p q i : ℕ) : Type 0 where
    pub target : IsPointer table h p
    pub source : IsPointer table h q
    pub index : IsInteger table h i
    pub fits : string_at table h p ≡ true → string_at table h q ≡ true

  -- Kinds 8 and 9: x is read into, or stored.
  pub record AccessTyped (x p i k : ℕ) : Type 0 where
    pub value : IsInteger table h x
    pub pointer : IsPointer table h p
    pub index : IsIndex table h i
    pub constant : IsSmall k

  pub record DeclareTyped (p r : ℕ) : Type 0 where
    pub pointer : IsPointer table h p
    pub row : r < h.rows

  pub record IfTyped (c : Condition) (n m : ℕ) : Type 0 where
    pub condition : ConditionTyped table h c
    pub then-count : n < 2 ^ 31
    pub else-count : m < 2 ^ 31

  pub record WhileTyped (c : Condition) (n : ℕ) : Type 0 where
    pub condition : ConditionTyped table h c
    pub count : n < 2 ^ 31

  pub record CallTyped (c : CallSite) : Type 0 where
    pub result : IsIndex table h c.result
    pub first : IsArgument h c.first
    pub second : IsArgument h c.second
    pub third : IsArgument h c.third
    pub fourth : IsArgument h c.fourth

  abbrev pub SimpleTyped : Simple → Type 0
  SimpleTyped (Literal x k) = LiteralTyped x k
  SimpleTyped (AddConstant x y k) = AddConstantTyped x y k
  SimpleTyped (Arithmetic x y z op) = ArithmeticTyped x y z op
  SimpleTyped (Null p) = IsPointer table h p
  SimpleTyped (Address p o) = AddressTyped p o
  SimpleTyped (PointerOffset p q k) = PointerOffsetTyped p q k
  SimpleTyped (PointerIndex p q i) = PointerIndexTyped p q i
  SimpleTyped (Load x p i k) = AccessTyped x p i k
  SimpleTyped (Store p i k x) = AccessTyped x p i k
  SimpleTyped (Check c) = ConditionTyped table h c
  SimpleTyped (Declare p r) = DeclareTyped p r

  abbrev pub WellTyped : Statement → Type 0
  WellTyped (Plain s) = SimpleTyped s
  WellTyped (If c n m) = IfTyped c n m
  WellTyped (While c n) = WhileTyped c n
  WellTyped (Bundle n) = n < 2 ^ 31
  WellTyped (Call c) = CallTyped c
