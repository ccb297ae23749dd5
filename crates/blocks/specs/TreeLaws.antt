-- The tree, one statement at a time.
use Rattle.statements.specs.declared.Statement.{Statement}
use Rattle.std.specs.Prelude.{ℕ, zero, suc, ◌-◌, ◌<◌, ◌≤◌, ◌≡◌, refl, true, List, ℤ, Option}
use Rattle.std.proofs.Common.{arith, sub-one, lt-ltb, le-ltb}
use Rattle.words.specs.declared.sections.Sections.{Sections}
use Rattle.statements.specs.Statements.{statement_at}
use Rattle.blocks.specs.Tree.{nil, node, parse}

pub parse-none : (l : ℕ) (T : List ℤ) (h : Sections) (a b : ℕ) → l ≤ 0 → parse l T h a b ≡ nil
unfolding parse
parse-none zero T h a b p = refl
parse-none (suc l) T h a b p = absurd (omega arith)

pub parse-end : (l : ℕ) (T : List ℤ) (h : Sections) (a b : ℕ) → b ≤ a → parse l T h a b ≡ nil
unfolding parse
parse-end zero T h a b p = refl
parse-end (suc l) T h a b p = rw (le-ltb _ _ p)

pub parse-some : (l : ℕ) (T : List ℤ) (h : Sections) (a b : ℕ) (s : Option Statement) → 0 < l → a < b → statement_at T h a ≡ s
    → parse l T h a b ≡ node true s (λ x y. parse (l - 1) T h x y) T h a b
unfolding parse
parse-some zero T h a b s p q e = absurd (omega arith)
parse-some (suc l) T h a b s p q e = rw (lt-ltb _ _ q, e, sub-one)
