-- A table whose layout has no refusal is a tree with every statement in its place.
use Rattle.std.specs.Prelude.{ℕ, zero, suc, ◌+◌, ◌<◌, ◌≤◌, refl, Bool, List, [], ℤ, ltb, None, Option, Some}
use Rattle.std.proofs.Math.Path.{◌≡◌}
use Rattle.std.proofs.Common.{ap, arith}
use Rattle.std.proofs.Math.Bool.{true, false}
use borrow.Author.Tests.{ltb-true, ltb-false}
use Rattle.std.proofs.Math.ListN.{length}
use Rattle.words.specs.declared.sections.Sections.{Sections}
use Rattle.statements.specs.declared.Simple.{Simple}
use Rattle.statements.specs.declared.Statement.{Statement}
use Rattle.statements.specs.declared.Statement.TheVariants.{Plain, If, While, Bundle, Call}
use Rattle.statements.specs.Statements.{statement_at}
use Rattle.blocks.specs.Tree.{simples, simples_from, node, parse, tree}
use Rattle.blocks.specs.Layout.{max_depth, contents, contents_from, kind_layout, node_layout, block_layout, layout}
use Rattle.blocks.specs.LayoutLaws.{no-first, no-rest, passed, bundle-within, bundle-counted, bundle-contents}
use Rattle.blocks.specs.Shape.{size, ReadsLine, Laid}

-- The contents of a bundle that are not refused are its list, none missing.
pub record Held (T : List ℤ) (h : Sections) (n x : ℕ) (ss : List Simple) : Type 0 where
  pub all : length ss ≡ n
  pub line : ReadsLine T h x ss

pub held : (n : ℕ) (T : List ℤ) (h : Sections) (a x : ℕ) → contents n T h a x ≡ [] → Held T h n x (simples n T h x)
unfolding contents simples
held zero T h a x e = record { all = refl; line = tt }
held (suc n) T h a x e = go (statement_at T h x) refl e (λ p. held n T h a (x + 1) p)
  where
    go : (s : Option Statement) → statement_at T h x ≡ s → contents_from s a x (contents n T h a (x + 1)) ≡ []
        → (contents n T h a (x + 1) ≡ [] → Held T h n (x + 1) (simples n T h (x + 1)))
        → Held T h (suc n) x (simples_from s (simples n T h (x + 1)))
    go None q p i = let o : ◌≡◌ {A = ℕ} 0 1 = cc in absurd (omega arith)
    go (Some (Plain s)) q p i = record { all = ap suc (i p).all; line = (q, (i p).line) }
    go (Some (If c k m)) q p i = let o : ◌≡◌ {A = ℕ} 0 1 = cc in absurd (omega arith)
    go (Some (While c k)) q p i = let o : ◌≡◌ {A = ℕ} 0 1 = cc in absurd (omega arith)
    go (Some (Bundle k)) q p i = let o : ◌≡◌ {A = ℕ} 0 1 = cc in absurd (omega arith)
    go (Some (Call k)) q p i = let o : ◌≡◌ {A = ℕ} 0 1 = cc in absurd (omega arith)

-- One statement and the rest of its block, given the same of the blocks that start later.
module _ (l : ℕ) (T : List ℤ) (h : Sections)
    (ih : (d a b : ℕ) → a ≤ b → b ≤ a + l → block_layout l T h d a b ≡ [] → Laid T h d a b (parse l T h a b)) where
  kind-laid : (d a b : ℕ) (s : Statement) → a < b → b ≤ a + suc l → statement_at T h a ≡ Some s → d ≤ max_depth
      → kind_layout s (λ e x y. block_layout l T h e x y) T h d a b ≡ []
      → Laid T h d a b (node true (Some s) (λ x y. parse l T h x y) T h a b)
  unfolding size
  kind-laid d a b (Plain s) p q r w e =
      let i = ih d (a + 1) b (omega arith) (omega arith) e in
      record { ends = omega (arith, i.ends); numbered = (refl, i.numbered); formed = (w, i.formed); reads = (r, i.reads) }
  kind-laid d a b (If c n m) p q r w e =
      let u : a + 1 + n + m ≤ b = ltb-false _ _ (passed _ _ (no-first _ _ e)) in
      let e₁ = no-rest _ _ e in
      let e₂ = no-rest _ _ e₁ in
      let i = ih (d + 1) (a + 1) (a + 1 + n) (omega arith) (omega arith) (no-first _ _ e₁) in
      let j = ih (d + 1) (a + 1 + n) (a + 1 + n + m) (omega arith) (omega arith) (no-first _ _ e₂) in
      let k = ih d (a + 1 + n + m) b u (omega arith) (no-rest _ _ e₂) in
      let x : size (parse l T h (a + 1) (a + 1 + n)) ≡ n = omega (arith, i.ends) in
      let y : size (parse l T h (a + 1 + n) (a + 1 + n + m)) ≡ m = omega (arith, j.ends) in
      record {
        ends = omega (arith, k.ends);
        numbered = rw (x, y) (refl, i.numbered, j.numbered, k.numbered);
        formed = (w, i.formed, j.formed, k.formed);
        reads = rw (x, y) (r, i.reads, j.reads, k.reads);
      }
  kind-laid d a b (While c n) p q r w e =
      let u : a + 1 + n ≤ b = ltb-false _ _ (passed _ _ (no-first _ _ e)) in
      let e₁ = no-rest _ _ e in
      let i = ih (d + 1) (a + 1) (a + 1 + n) (omega arith) (omega arith) (no-first _ _ e₁) in
      let k = ih d (a + 1 + n) b u (omega arith) (no-rest _ _ e₁) in
      let x : size (parse l T h (a + 1) (a + 1 + n)) ≡ n = omega (arith, i.ends) in
      record {
        ends = omega (arith, k.ends);
        numbered = rw x (refl, i.numbered, k.numbered);
        formed = (w, i.formed, k.formed);
        reads = rw x (r, i.reads, k.reads);
      }
  kind-laid d a b (Bundle n) p q r w e =
      let e₀ = no-first _ _ e in
      let u : a + 1 + n ≤ b = bundle-within T h a n b e₀ in
      let z = bundle-counted T h a n b e₀ in
      let i = held n T h a (a + 1) (bundle-contents T h a n b e₀) in
      let k = ih d (a + 1 + n) b u (omega arith) (no-rest _ _ e) in
      let x : length (simples n T h (a + 1)) ≡ n = i.all in
      record {
        ends = omega (arith, k.ends, x);
        numbered = rw x (refl, k.numbered);
        formed = (w, omega (arith, x, z.0), omega (arith, x, z.1), k.formed);
        reads = rw x (r, i.line, k.reads);
      }
  kind-laid d a b (Call s) p q r w e =
      let i = ih d (a + 1) b (omega arith) (omega arith) e in
      record { ends = omega (arith, i.ends); numbered = (refl, i.numbered); formed = (w, i.formed); reads = (r, i.reads) }

  node-laid : (d a b : ℕ) (x : Bool) (s : Option Statement) → a ≤ b → b ≤ a + suc l → ltb a b ≡ x → statement_at T h a ≡ s
      → node_layout x s (λ e y z. block_layout l T h e y z) T h d a b ≡ []
      → Laid T h d a b (node x s (λ y z. parse l T h y z) T h a b)
  unfolding size
  node-laid d a b false s p q g r e = let u = ltb-false a b g in record { ends = omega arith; numbered = tt; formed = tt; reads = tt }
  node-laid d a b true None p q g r e = let o : ◌≡◌ {A = ℕ} 0 1 = cc in absurd (omega arith)
  node-laid d a b true (Some s) p q g r e =
      kind-laid d a b s (ltb-true a b g) q r (ltb-false _ _ (passed _ _ (no-first _ _ e))) (no-rest _ _ e)

pub laid : (l : ℕ) (T : List ℤ) (h : Sections) (d a b : ℕ) → a ≤ b → b ≤ a + l → block_layout l T h d a b ≡ [] → Laid T h d a b (parse l T h a b)
unfolding block_layout parse size
laid zero T h d a b p q e = record { ends = omega arith; numbered = tt; formed = tt; reads = tt }
laid (suc l) T h d a b p q e = node-laid l T h (λ d a b p q e. laid l T h d a b p q e) d a b (ltb a b) (statement_at T h a) p q refl refl e

-- The whole table.
pub table-laid : (T : List ℤ) (h : Sections) → layout T h ≡ [] → Laid T h 0 0 h.statements (tree T h)
unfolding layout tree
table-laid T h e = laid h.statements T h 0 0 h.statements (omega arith) (omega arith) e
