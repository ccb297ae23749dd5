-- The terms in which the laws of the tree, the layout and the flow are stated.
use Rattle.std.specs.Prelude.{ℕ, ◌+◌, ◌*◌, ◌≤◌, ◌≡◌, List, [], ◌∷◌, ℤ, length, get_or, Some}
use Rattle.words.specs.declared.sections.Sections.{Sections}
use Rattle.statements.specs.declared.Simple.{Simple}
use Rattle.statements.specs.declared.Statement.TheVariants.{Plain, If, While, Bundle, Call}
use Rattle.statements.specs.Statements.{statement_at}
use Rattle.blocks.specs.Tree.{Block, nil, plain, call, branch, loop, bundle, unread}
use Rattle.blocks.specs.Layout.{max_depth, max_bundle}
use Rattle.blocks.specs.Flow.{Successors, successors, entry, lead}

-- How many statements a block has, nested ones and those of bundles too.
unfoldable pub size : Block → ℕ
size nil = 0
size (plain a s r) = 1 + size r
size (call a s r) = 1 + size r
size (branch a c t e r) = 1 + size t + size e + size r
size (loop a c t r) = 1 + size t + size r
size (bundle a ss r) = 1 + length ss + size r
size (unread a) = 0

-- The statements are numbered from lo on, in table order and without gaps.
abbrev pub Numbered : Block → ℕ → Type 0
Numbered nil lo = Unit
Numbered (plain a s r) lo = (a ≡ lo) × Numbered r (a + 1)
Numbered (call a s r) lo = (a ≡ lo) × Numbered r (a + 1)
Numbered (branch a c t e r) lo = (a ≡ lo) × Numbered t (a + 1) × Numbered e (a + 1 + size t) × Numbered r (a + 1 + size t + size e)
Numbered (loop a c t r) lo = (a ≡ lo) × Numbered t (a + 1) × Numbered r (a + 1 + size t)
Numbered (bundle a ss r) lo = (a ≡ lo) × Numbered r (a + 1 + length ss)
Numbered (unread a) lo = ⊥

-- Every record reads, no statement is deeper than the limit, and a bundle has 1 to 16 statements.
abbrev pub Formed : ℕ → Block → Type 0
Formed d nil = Unit
Formed d (plain a s r) = (d ≤ max_depth) × Formed d r
Formed d (call a s r) = (d ≤ max_depth) × Formed d r
Formed d (branch a c t e r) = (d ≤ max_depth) × Formed (d + 1) t × Formed (d + 1) e × Formed d r
Formed d (loop a c t r) = (d ≤ max_depth) × Formed (d + 1) t × Formed d r
Formed d (bundle a ss r) = (d ≤ max_depth) × (1 ≤ length ss) × (length ss ≤ max_bundle) × Formed d r
Formed d (unread a) = ⊥

-- Each node is what the record at its number says, its blocks and its bundle as long as the counts there.
abbrev pub ReadsLine : List ℤ → Sections → ℕ → List Simple → Type 0
ReadsLine T h a [] = Unit
ReadsLine T h a (s ∷ ss) = (statement_at T h a ≡ Some (Plain s)) × ReadsLine T h (a + 1) ss

abbrev pub Reads : List ℤ → Sections → Block → Type 0
Reads T h nil = Unit
Reads T h (plain a s r) = (statement_at T h a ≡ Some (Plain s)) × Reads T h r
Reads T h (call a s r) = (statement_at T h a ≡ Some (Call s)) × Reads T h r
Reads T h (branch a c t e r) = (statement_at T h a ≡ Some (If c (size t) (size e))) × Reads T h t × Reads T h e × Reads T h r
Reads T h (loop a c t r) = (statement_at T h a ≡ Some (While c (size t))) × Reads T h t × Reads T h r
Reads T h (bundle a ss r) = (statement_at T h a ≡ Some (Bundle (length ss))) × ReadsLine T h (a + 1) ss × Reads T h r
Reads T h (unread a) = ⊥

-- The block of a to b - 1, at the depth d.
pub record Laid (T : List ℤ) (h : Sections) (d a b : ℕ) (t : Block) : Type 0 where
  pub ends : a + size t ≡ b
  pub numbered : Numbered t a
  pub formed : Formed d t
  pub reads : Reads T h t

-- The successors that `f` gives are those of the flow, at each statement of a block that `after` follows.
abbrev pub RightLine : (ℕ → Successors) → ℕ → List Simple → ℕ → Type 0
RightLine f a [] after = Unit
RightLine f a (s ∷ ss) after = (f a ≡ successors a (lead (a + 1) (length ss) after) (lead (a + 1) (length ss) after)) × RightLine f (a + 1) ss after

abbrev pub Right : (ℕ → Successors) → Block → ℕ → Type 0
Right f nil after = Unit
Right f (plain a s r) after = (f a ≡ successors a (entry r after) (entry r after)) × Right f r after
Right f (call a s r) after = (f a ≡ successors a (entry r after) (entry r after)) × Right f r after
Right f (branch a c t e r) after =
    (f a ≡ successors a (entry t (entry r after)) (entry e (entry r after)))
    × Right f t (entry r after) × Right f e (entry r after) × Right f r after
Right f (loop a c t r) after = (f a ≡ successors a (entry t a) (entry r after)) × Right f t a × Right f r after
Right f (bundle a ss r) after =
    (f a ≡ successors a (lead (a + 1) (length ss) (entry r after)) (lead (a + 1) (length ss) (entry r after)))
    × RightLine f (a + 1) ss (entry r after) × Right f r after
Right f (unread a) after = Unit

-- Each successor is a statement of the table, or the number past the last.
abbrev pub Bounded : ℕ → List Successors → Type 0
Bounded m [] = Unit
Bounded m (x ∷ xs) = (x.next ≤ m) × (x.other ≤ m) × Bounded m xs

-- The flow's statements are lo, lo + 1 and so on.
abbrev pub Consecutive : ℕ → List Successors → Type 0
Consecutive lo [] = Unit
Consecutive lo (x ∷ xs) = (x.statement ≡ lo) × Consecutive (lo + 1) xs

-- The successors of statement s in a slice.
abbrev pub entries_at : List ℕ → ℕ → Successors
entries_at w s = successors s (get_or w (2 * s) 0) (get_or w (2 * s + 1) 0)
