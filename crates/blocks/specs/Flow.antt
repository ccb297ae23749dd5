-- What is due after each statement: "The plain machine" of the paper, as a definition on the tree of blocks.
use Rattle.std.specs.Prelude.{ℕ, zero, suc, ◌+◌, List, [], ◌∷◌, ◌++◌, ℤ, length}
use Rattle.words.specs.declared.sections.Sections.{Sections}
use Rattle.blocks.specs.Tree.{Block, nil, plain, call, branch, loop, bundle, unread, tree}

-- The two successors of a statement: `next`, and `other` where the condition of an if or a while fails.
pub record Successors : Type 0 where
  pub statement : ℕ
  pub next : ℕ
  pub other : ℕ

abbrev pub successors : ℕ → ℕ → ℕ → Successors
successors a y n = record { statement = a; next = y; other = n }

-- "makes its block due from its first statement"; "A block with none left ends, an empty one at once", and then `after` is due.
unfoldable pub entry : Block → ℕ → ℕ
entry nil after = after
entry (plain a s r) after = a
entry (call a s r) after = a
entry (branch a c t e r) after = a
entry (loop a c t r) after = a
entry (bundle a ss r) after = a
entry (unread a) after = a

-- The same of the n statements of a bundle that start at a.
unfoldable pub lead : ℕ → ℕ → ℕ → ℕ
lead a zero after = after
lead a (suc n) after = a

-- "After any other statement .. the next in the same block is due", inside a bundle.
unfoldable pub line : ℕ → ℕ → ℕ → List Successors
line a zero after = []
line a (suc n) after = successors a (lead (a + 1) n after) (lead (a + 1) n after) ∷ line (a + 1) n after

-- The statements of a block in table order; `after` is due where the block ends.
-- "An if, a bundle, or a while whose condition holds makes its block (of an if the chosen one) due": of an if the then block and the else block.
-- "After any other statement, and after a while whose condition fails, the next in the same block is due".
-- "the end of a body makes its while due, of another block the next after its head in the head's own block".
unfoldable pub flow : Block → ℕ → List Successors
flow nil after = []
flow (plain a s r) after = successors a (entry r after) (entry r after) ∷ flow r after
flow (call a s r) after = successors a (entry r after) (entry r after) ∷ flow r after
flow (branch a c t e r) after =
    successors a (entry t (entry r after)) (entry e (entry r after))
    ∷ (flow t (entry r after) ++ (flow e (entry r after) ++ flow r after))
flow (loop a c t r) after = successors a (entry t a) (entry r after) ∷ (flow t a ++ flow r after)
flow (bundle a ss r) after =
    successors a (lead (a + 1) (length ss) (entry r after)) (lead (a + 1) (length ss) (entry r after))
    ∷ (line (a + 1) (length ss) (entry r after) ++ flow r after)
flow (unread a) after = []

-- "of the table nothing": the number past the last statement.
unfoldable pub table_flow : List ℤ → Sections → List Successors
table_flow T h = flow (tree T h) h.statements

-- The first statement due.
unfoldable pub table_entry : List ℤ → Sections → ℕ
table_entry T h = entry (tree T h) h.statements
