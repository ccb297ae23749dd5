-- Cause 6 (document 01, "Causes of refusal"): the layout of blocks and bundles, in table order.
use Rattle.std.specs.Prelude.{ℕ, zero, suc, ◌+◌, Bool, true, false, ◌||◌, List, [], ◌∷◌, ℤ, ltb, eqb, None, Option, Some}
use Rattle.answers.specs.declared.refusals.Refusal.{Refusal}
use Rattle.answers.specs.declared.refusals.Refusal.TheVariants.{StatementRecord, BlockLayout}
use Rattle.words.specs.declared.sections.Sections.{Sections}
use Rattle.statements.specs.declared.Statement.{Statement}
use Rattle.statements.specs.declared.Statement.TheVariants.{Plain, If, While, Bundle, Call}
use Rattle.statements.specs.Statements.{statement_at}

-- "a block may hold blocks, to a depth" of 6 "(top statements have depth 0)". Point 8: "The limit becomes 6; depth 7 is refusal 6."
abbrev pub max_depth : ℕ
max_depth = 6

-- "bundle: count, 1 to 16"
abbrev pub max_bundle : ℕ
max_bundle = 16

-- Refusals are listed in table order, and the first counts.
unfoldable pub also : List Refusal → List Refusal → List Refusal
also [] ys = ys
also (x ∷ xs) ys = x ∷ also xs ys

unfoldable pub when : Bool → Refusal → List Refusal
when true r = r ∷ []
when false r = []

-- "A bundle holds kinds 1 to 10 only", and 14 (point 2): another kind among its n statements from x on is refused at its head a. A record that does not read is
-- cause 5.
abbrev pub contents_from : Option Statement → ℕ → ℕ → List Refusal → List Refusal
contents_from None a x rest = StatementRecord x ∷ []
contents_from (Some (Plain s)) a x rest = rest
contents_from (Some (If c n m)) a x rest = BlockLayout a ∷ []
contents_from (Some (While c n)) a x rest = BlockLayout a ∷ []
contents_from (Some (Bundle n)) a x rest = BlockLayout a ∷ []
contents_from (Some (Call c)) a x rest = BlockLayout a ∷ []

unfoldable pub contents : ℕ → List ℤ → Sections → ℕ → ℕ → List Refusal
contents zero T h a x = []
contents (suc n) T h a x = contents_from (statement_at T h x) a x (contents n T h a (x + 1))

-- A bundle with its head at a and the count n, in a block that ends at b.
unfoldable pub bundle_layout : List ℤ → Sections → ℕ → ℕ → ℕ → List Refusal
bundle_layout T h a n b =
    also (when (eqb n 0 || ltb max_bundle n) (BlockLayout a))
    (also (when (ltb b (a + 1 + n)) (BlockLayout a)) (contents n T h a (a + 1)))

-- "block past its parent's end, too deep, or a bundle's count or contents": the statement a in a block that ends at b, at the depth d.
-- `rec e x y` is the layout of the block of x to y - 1 at the depth e. A bundle adds no depth.
abbrev pub kind_layout : Statement → (ℕ → ℕ → ℕ → List Refusal) → List ℤ → Sections → ℕ → ℕ → ℕ → List Refusal
kind_layout (Plain s) rec T h d a b = rec d (a + 1) b
kind_layout (If c n m) rec T h d a b =
    also (when (ltb b (a + 1 + n + m)) (BlockLayout a))
    (also (rec (d + 1) (a + 1) (a + 1 + n)) (also (rec (d + 1) (a + 1 + n) (a + 1 + n + m)) (rec d (a + 1 + n + m) b)))
kind_layout (While c n) rec T h d a b =
    also (when (ltb b (a + 1 + n)) (BlockLayout a)) (also (rec (d + 1) (a + 1) (a + 1 + n)) (rec d (a + 1 + n) b))
kind_layout (Bundle n) rec T h d a b = also (bundle_layout T h a n b) (rec d (a + 1 + n) b)
kind_layout (Call c) rec T h d a b = rec d (a + 1) b

abbrev pub node_layout : Bool → Option Statement → (ℕ → ℕ → ℕ → List Refusal) → List ℤ → Sections → ℕ → ℕ → ℕ → List Refusal
node_layout false s rec T h d a b = []
node_layout true None rec T h d a b = StatementRecord a ∷ []
node_layout true (Some s) rec T h d a b = also (when (ltb max_depth d) (BlockLayout a)) (kind_layout s rec T h d a b)

-- The block of a to b - 1 at the depth d; the fuel is the number of statements left, as in `parse`, and it is enough (`laid` in blocks/specs/ShapeLaws).
unfoldable pub block_layout : ℕ → List ℤ → Sections → ℕ → ℕ → ℕ → List Refusal
block_layout zero T h d a b = []
block_layout (suc f) T h d a b = node_layout (ltb a b) (statement_at T h a) (λ e x y. block_layout f T h e x y) T h d a b

-- The whole table.
unfoldable pub layout : List ℤ → Sections → List Refusal
layout T h = block_layout h.statements T h 0 0 h.statements
