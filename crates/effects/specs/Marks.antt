-- The variables that statements assign, as the code finds them: record by record, and as marks, one for each variable.
use Rattle.std.specs.Prelude.{ℕ, zero, suc, ◌+◌, Bool, true, false, List, [], ◌∷◌, ◌++◌, ℤ, set, replicate, None, Option, Some}
use Rattle.sums.specs.Numbers.{zero_var}
use Rattle.words.specs.declared.sections.Sections.{Sections}
use Rattle.statements.specs.declared.Simple.{Simple}
use Rattle.statements.specs.declared.Simple.TheVariants.{Literal, AddConstant, Arithmetic, Null, Address}
use Rattle.statements.specs.declared.Simple.TheVariants.{PointerOffset, PointerIndex, Load, Store, Check, Declare}
use Rattle.statements.specs.declared.Statement.{Statement}
use Rattle.statements.specs.declared.Statement.TheVariants.{Plain, If, While, Bundle, Call}
use Rattle.statements.specs.Statements.{statement_at}
use Rattle.blocks.specs.Tree.{target, call_target}

-- What a record assigns itself: an if, a while and a bundle assign by the records that follow them.
abbrev pub target_of : Option Statement → List ℕ
target_of None = []
target_of (Some (Plain s)) = target s
target_of (Some (If c n m)) = []
target_of (Some (While c n)) = []
target_of (Some (Bundle n)) = []
target_of (Some (Call c)) = call_target c

-- What the n records from a on assign.
unfoldable pub targets_from : List ℤ → Sections → ℕ → ℕ → List ℕ
targets_from T h a zero = []
targets_from T h a (suc n) = target_of (statement_at T h a) ++ targets_from T h (a + 1) n

-- The variable that a statement assigns, or the number of none.
abbrev pub target_number : Simple → ℕ
target_number (Literal x k) = x
target_number (AddConstant x y k) = x
target_number (Arithmetic x y z op) = x
target_number (Null p) = p
target_number (Address p o) = p
target_number (PointerOffset p q k) = p
target_number (PointerIndex p q i) = p
target_number (Load x p i k) = x
target_number (Store p i k x) = zero_var
target_number (Check c) = zero_var
target_number (Declare p r) = zero_var

-- The same of any statement.
abbrev pub assigned_number : Statement → ℕ
assigned_number (Plain s) = target_number s
assigned_number (If c n m) = zero_var
assigned_number (While c n) = zero_var
assigned_number (Bundle n) = zero_var
assigned_number (Call c) = c.result

abbrev pub no_marks : List Bool
no_marks = replicate 16 false

-- The marks with each of these numbers marked.
unfoldable pub marked : List Bool → List ℕ → List Bool
marked marks [] = marks
marked marks (x ∷ xs) = marked (set marks x true) xs
