-- The top-level statements of a routine (point 13: "insert, replace or remove one top-level statement with its blocks").
use Rattle.statements.specs.declared.Statement.{Statement}
use Rattle.std.specs.Prelude.{ℕ, ◌+◌, Bool, true, false, ◌||◌, List, [], ◌∷◌, length, eqb, None, Option, Some}
use Rattle.statements.specs.declared.Statement.TheVariants.{Plain, If, While, Bundle, Call}
use Rattle.blocks.specs.Tree.{Block, nil, plain, branch, loop, bundle, call, unread}

-- Whether a number is in a list.
unfoldable pub is_in : List ℕ → ℕ → Bool
is_in [] a = false
is_in (x ∷ xs) a = eqb x a || is_in xs a

-- "A position is a statement's number in the table": those of a block's statements, without what is inside of their own blocks.
unfoldable pub positions_of : Block → List ℕ
positions_of nil = []
positions_of (plain a s r) = a ∷ positions_of r
positions_of (call a c r) = a ∷ positions_of r
positions_of (branch a c t e r) = a ∷ positions_of r
positions_of (loop a c t r) = a ∷ positions_of r
positions_of (bundle a ss r) = a ∷ positions_of r
positions_of (unread a) = []

unfoldable pub top_level : Block → ℕ → Bool
top_level t p = is_in (positions_of t) p

-- "exactly one statement with its blocks"
unfoldable pub single : Block → Bool
single t = eqb (length (positions_of t)) 1

-- How many statements a statement is, with its blocks, by its record. ("Counts take in nested statements".)
abbrev pub span_of : Option Statement → ℕ
span_of (Some (Plain s)) = 1
span_of (Some (Call c)) = 1
span_of (Some (If c n m)) = 1 + n + m
span_of (Some (While c n)) = 1 + n
span_of (Some (Bundle n)) = 1 + n
span_of None = 1
