-- What a statement of a block leads to, as the code goes through a block.
use Rattle.std.specs.Prelude.{ℕ, ◌+◌, ◌-◌, ◌<◌, ◌≤◌, ◌≡◌, cond, List, [], ◌∷◌, ℤ, ltb, Err, Ok, Result}
use Rattle.answers.specs.declared.refusals.Refusal.{Refusal}
use Rattle.answers.specs.declared.refusals.Refusal.TheVariants.{BlockLayout}
use Rattle.words.specs.declared.sections.Sections.{Sections}
use Rattle.blocks.specs.declared.Parts.{Parts}
use Rattle.blocks.specs.declared.Parts.TheVariants.{Next, Blocks}
use Rattle.blocks.specs.Layout.{max_depth, also, block_layout}

-- What the layout of a block answers: "lowest place first".
unfoldable pub verdict : List Refusal → Result (Unit {0}) Refusal
verdict [] = Ok tt
verdict (x ∷ xs) = Err x

-- Blocks of n and m statements behind the head a, in a block that ends at b.
abbrev pub blocks_of : ℕ → ℕ → ℕ → ℕ → Result Parts Refusal
blocks_of a n m b = cond (ltb b (a + 1 + n + m)) (Err (BlockLayout a)) (Ok (Blocks (a + 1 + n) (a + 1 + n + m)))

-- The layout of the block from the statement a on, with l statements allowed, by what a leads to.
abbrev pub Leads : Result Parts Refusal → List ℤ → Sections → ℕ → ℕ → ℕ → ℕ → Type 0
Leads (Err r) T h d a b l = Err r ≡ verdict (block_layout l T h d a b)
Leads (Ok (Next x)) T h d a b l = block_layout l T h d a b ≡ block_layout (l - 1) T h d x b
Leads (Ok (Blocks x y)) T h d a b l =
    (d ≤ max_depth)
    × (block_layout l T h d a b ≡ also (block_layout (l - 1) T h (d + 1) (a + 1) x)
    (also (block_layout (l - 1) T h (d + 1) x y) (block_layout (l - 1) T h d y b)))

pub record Parted (T : List ℤ) (h : Sections) (d a b : ℕ) (r : Result Parts Refusal) : Type 0 where
  pub leads : (l : ℕ) → 0 < l → Leads r T h d a b l
