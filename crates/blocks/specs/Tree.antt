-- The tree of blocks that the statements of a table are (document 01, "The routine table").
use Rattle.statements.specs.declared.Statement.{Statement}
use Rattle.std.specs.Prelude.{ℕ, zero, suc, ◌+◌, Bool, true, false, cond, List, [], ◌∷◌, ◌++◌, ℤ, ltb, eqb, None, Option, Some}
use Rattle.sums.specs.Numbers.{zero_var}
use Rattle.words.specs.declared.sections.Sections.{Sections}
use Rattle.conditions.specs.declared.Condition.{Condition}
use Rattle.statements.specs.declared.CallSite.{CallSite}
use Rattle.statements.specs.declared.Simple.{Simple}
use Rattle.statements.specs.declared.Simple.TheVariants.{Literal, AddConstant, Arithmetic, Null, Address}
use Rattle.statements.specs.declared.Simple.TheVariants.{PointerOffset, PointerIndex, Load, Store, Check, Declare}
use Rattle.statements.specs.declared.Statement.TheVariants.{Plain, If, While, Bundle, Call}
use Rattle.statements.specs.Statements.{statement_at}

-- A block is its first statement, with that statement's own number and blocks, and the rest of the block.
-- A record that does not read ends the tree.
pub data Block : Type 0 where
  nil : Block
  plain : ℕ → Simple → Block → Block
  branch : ℕ → Condition → Block → Block → Block → Block
  loop : ℕ → Condition → Block → Block → Block
  bundle : ℕ → List Simple → Block → Block
  call : ℕ → CallSite → Block → Block
  unread : ℕ → Block

-- "A bundle holds kinds 1 to 10 only", and 14: the n statements from a on, cut short at the first that is of another kind or does not read.
abbrev pub simples_from : Option Statement → List Simple → List Simple
simples_from None ss = []
simples_from (Some (Plain s)) ss = s ∷ ss
simples_from (Some (If c n m)) ss = []
simples_from (Some (While c n)) ss = []
simples_from (Some (Bundle n)) ss = []
simples_from (Some (Call c)) ss = []

unfoldable pub simples : ℕ → List ℤ → Sections → ℕ → List Simple
simples zero T h a = []
simples (suc n) T h a = simples_from (statement_at T h a) (simples n T h (a + 1))

-- "Counts take in nested statements; blocks follow their head directly and may be empty": the block of the statements a to b - 1, by its first statement.
-- `rec x y` is the block of x to y - 1.
abbrev pub node : Bool → Option Statement → (ℕ → ℕ → Block) → List ℤ → Sections → ℕ → ℕ → Block
node false s rec T h a b = nil
node true None rec T h a b = unread a
node true (Some (Plain s)) rec T h a b = plain a s (rec (a + 1) b)
node true (Some (If c n m)) rec T h a b =
    branch a c (rec (a + 1) (a + 1 + n)) (rec (a + 1 + n) (a + 1 + n + m)) (rec (a + 1 + n + m) b)
node true (Some (While c n)) rec T h a b = loop a c (rec (a + 1) (a + 1 + n)) (rec (a + 1 + n) b)
node true (Some (Bundle n)) rec T h a b = bundle a (simples n T h (a + 1)) (rec (a + 1 + n) b)
node true (Some (Call c)) rec T h a b = call a c (rec (a + 1) b)

-- The fuel is the number of statements left; it falls at each statement.
unfoldable pub parse : ℕ → List ℤ → Sections → ℕ → ℕ → Block
parse zero T h a b = nil
parse (suc f) T h a b = node (ltb a b) (statement_at T h a) (λ x y. parse f T h x y) T h a b

-- The whole table.
unfoldable pub tree : List ℤ → Sections → Block
tree T h = parse h.statements T h 0 h.statements

-- "variables assigned in the body" (document 01, "Facts"): the targets of kinds 1 to 8.
abbrev pub target : Simple → List ℕ
target (Literal x k) = x ∷ []
target (AddConstant x y k) = x ∷ []
target (Arithmetic x y z o) = x ∷ []
target (Null p) = p ∷ []
target (Address p o) = p ∷ []
target (PointerOffset p q k) = p ∷ []
target (PointerIndex p q i) = p ∷ []
target (Load x p i k) = x ∷ []
target (Store p i k x) = []
target (Check c) = []
-- Point 2: kind 14 assigns nothing.
target (Declare p r) = []

-- Point 14: the result of a call counts as assigned; a missing one is no variable.
abbrev pub call_target : CallSite → List ℕ
call_target c = cond (eqb c.result zero_var) [] (c.result ∷ [])

unfoldable pub targets : List Simple → List ℕ
targets [] = []
targets (s ∷ ss) = target s ++ targets ss

-- The variables that a block assigns, at any nesting and in bundles.
unfoldable pub assigned : Block → List ℕ
assigned nil = []
assigned (plain a s r) = target s ++ assigned r
assigned (branch a c t e r) = assigned t ++ (assigned e ++ assigned r)
assigned (loop a c t r) = assigned t ++ assigned r
assigned (bundle a ss r) = targets ss ++ assigned r
assigned (call a c r) = call_target c ++ assigned r
assigned (unread a) = []
