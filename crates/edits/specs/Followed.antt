-- Blocks one after the other, and blocks at other numbers. A block that is laid out is the one tree that its records give, whatever the fuel: so a tree may
-- be cut between two top-level statements, and its parts put together again, elsewhere too.
use Rattle.std.specs.Prelude.{ℕ, zero, suc, ◌+◌, ◌-◌, ◌<◌, ◌≤◌, ◌≡◌, refl, Bool, true, false, List, [], ◌∷◌, ℤ, Some}
use Rattle.std.proofs.Math.Path.{sym}
use Rattle.std.proofs.Common.{◌∙◌, ap, ap₂, arith, sub-one, add-one, le-ltb}
use Rattle.std.proofs.Math.ListN.{length}
use Rattle.words.specs.declared.sections.Sections.{Sections}
use Rattle.conditions.specs.declared.Condition.{Condition}
use Rattle.statements.specs.declared.Simple.{Simple}
use Rattle.statements.specs.declared.Statement.{Statement}
use Rattle.statements.specs.declared.Statement.TheVariants.{Plain, If, While, Bundle}
use Rattle.statements.specs.Statements.{statement_at}
use Rattle.answers.specs.declared.refusals.Refusal.{Refusal}
use Rattle.blocks.specs.Tree.{Block, nil, plain, branch, loop, bundle, call, unread, simples, parse}
use Rattle.blocks.specs.TreeLaws.{parse-end, parse-some}
use Rattle.blocks.specs.Layout.{max_depth, also, contents, bundle_layout, kind_layout, block_layout}
use Rattle.blocks.specs.LayoutLaws.{skip, pass, contents-plain, bundle-held, block-end, block-some}
use Rattle.blocks.specs.Shape.{size, Numbered, Formed, ReadsLine, Reads, Laid}

-- The statements of b, then those of c. A record that does not read ends the tree.
unfoldable pub followed : Block → Block → Block
followed nil c = c
followed (plain a s r) c = plain a s (followed r c)
followed (call a s r) c = call a s (followed r c)
followed (branch a x t e r) c = branch a x t e (followed r c)
followed (loop a x t r) c = loop a x t (followed r c)
followed (bundle a ss r) c = bundle a ss (followed r c)
followed (unread a) c = unread a

-- The same block, numbered from x on.
unfoldable pub moved : ℕ → Block → Block
moved x nil = nil
moved x (plain a s r) = plain x s (moved (x + 1) r)
moved x (call a s r) = call x s (moved (x + 1) r)
moved x (branch a c t e r) = branch x c (moved (x + 1) t) (moved (x + 1 + size t) e) (moved (x + 1 + size t + size e) r)
moved x (loop a c t r) = loop x c (moved (x + 1) t) (moved (x + 1 + size t) r)
moved x (bundle a ss r) = bundle x ss (moved (x + 1 + length ss) r)
moved x (unread a) = unread x

-- ---- one after the other

size-followed : (t u : Block) (a : ℕ) → Numbered t a → size (followed t u) ≡ size t + size u
unfolding size followed
size-followed nil u a n = omega arith
size-followed (plain x s r) u a n = omega (arith, size-followed r u (x + 1) n.1)
size-followed (call x s r) u a n = omega (arith, size-followed r u (x + 1) n.1)
size-followed (branch x c t e r) u a n = omega (arith, size-followed r u (x + 1 + size t + size e) n.3)
size-followed (loop x c t r) u a n = omega (arith, size-followed r u (x + 1 + size t) n.2)
size-followed (bundle x ss r) u a n = omega (arith, size-followed r u (x + 1 + length ss) n.1)
size-followed (unread x) u a n = absurd n

numbered-followed : (t u : Block) (a b : ℕ) → a + size t ≡ b → Numbered t a → Numbered u b → Numbered (followed t u) a
unfolding size followed
numbered-followed nil u a b e n m = let z : b ≡ a = omega arith in rw z at m
numbered-followed (plain x s r) u a b e n m = let z = n.0 in (z, numbered-followed r u (x + 1) b (omega arith) n.1 m)
numbered-followed (call x s r) u a b e n m = let z = n.0 in (z, numbered-followed r u (x + 1) b (omega arith) n.1 m)
numbered-followed (branch x c t o r) u a b e n m =
    let z = n.0 in (z, n.1, n.2, numbered-followed r u (x + 1 + size t + size o) b (omega arith) n.3 m)
numbered-followed (loop x c t r) u a b e n m = let z = n.0 in (z, n.1, numbered-followed r u (x + 1 + size t) b (omega arith) n.2 m)
numbered-followed (bundle x ss r) u a b e n m = let z = n.0 in (z, numbered-followed r u (x + 1 + length ss) b (omega arith) n.1 m)
numbered-followed (unread x) u a b e n m = absurd n

formed-followed : (d : ℕ) (t u : Block) → Formed d t → Formed d u → Formed d (followed t u)
unfolding followed
formed-followed d nil u f g = g
formed-followed d (plain x s r) u f g = (f.0, formed-followed d r u f.1 g)
formed-followed d (call x s r) u f g = (f.0, formed-followed d r u f.1 g)
formed-followed d (branch x c t o r) u f g = (f.0, f.1, f.2, formed-followed d r u f.3 g)
formed-followed d (loop x c t r) u f g = (f.0, f.1, formed-followed d r u f.2 g)
formed-followed d (bundle x ss r) u f g = (f.0, f.1, f.2, formed-followed d r u f.3 g)
formed-followed d (unread x) u f g = absurd f

reads_followed : (T : List ℤ) (h : Sections) (t u : Block) → Reads T h t → Reads T h u → Reads T h (followed t u)
unfolding followed
reads_followed T h nil u f g = g
reads_followed T h (plain x s r) u f g = (f.0, reads_followed T h r u f.1 g)
reads_followed T h (call x s r) u f g = (f.0, reads_followed T h r u f.1 g)
reads_followed T h (branch x c t o r) u f g = (f.0, f.1, f.2, reads_followed T h r u f.3 g)
reads_followed T h (loop x c t r) u f g = (f.0, f.1, reads_followed T h r u f.2 g)
reads_followed T h (bundle x ss r) u f g = (f.0, f.1, reads_followed T h r u f.2 g)
reads_followed T h (unread x) u f g = absurd f

-- The block of a to b - 1, then that of b to c - 1.
pub laid-followed : {T : List ℤ} {h : Sections} {d a b c : ℕ} {t u : Block} → Laid T h d a b t → Laid T h d b c u → Laid T h d a c (followed t u)
laid-followed {T} {h} {d} {a} {b} {c} {t} {u} p q = record {
  ends = omega (arith, p.ends, q.ends, size-followed t u a p.numbered);
  numbered = numbered-followed t u a b p.ends p.numbered q.numbered;
  formed = formed-followed d t u p.formed q.formed;
  reads = reads_followed T h t u p.reads q.reads;
}

-- ---- at other numbers

-- n records from a on stand from x on in the other table.
pub record Agree (T : List ℤ) (h : Sections) (a : ℕ) (U : List ℤ) (g : Sections) (x n : ℕ) : Type 0 where
  pub each : (i : ℕ) → i < n → statement_at U g (x + i) ≡ statement_at T h (a + i)

pub size-moved : (x : ℕ) (t : Block) → size (moved x t) ≡ size t
unfolding size moved
size-moved x nil = refl
size-moved x (plain a s r) = omega (arith, size-moved (x + 1) r)
size-moved x (call a s r) = omega (arith, size-moved (x + 1) r)
size-moved x (branch a c t e r) =
    omega (arith, size-moved (x + 1) t, size-moved (x + 1 + size t) e, size-moved (x + 1 + size t + size e) r)
size-moved x (loop a c t r) = omega (arith, size-moved (x + 1) t, size-moved (x + 1 + size t) r)
size-moved x (bundle a ss r) = omega (arith, size-moved (x + 1 + length ss) r)
size-moved x (unread a) = refl

pub moved_same : (t : Block) (a : ℕ) → Numbered t a → moved a t ≡ t
unfolding moved
moved_same nil a n = refl
moved_same (plain x s r) a n = let z = n.0 in rw (sym z, moved_same r (x + 1) n.1)
moved_same (call x s r) a n = let z = n.0 in rw (sym z, moved_same r (x + 1) n.1)
moved_same (branch x c t e r) a n =
    let z = n.0 in
    rw (sym z, moved_same t (x + 1) n.1, moved_same e (x + 1 + size t) n.2, moved_same r (x + 1 + size t + size e) n.3)
moved_same (loop x c t r) a n = let z = n.0 in rw (sym z, moved_same t (x + 1) n.1, moved_same r (x + 1 + size t) n.2)
moved_same (bundle x ss r) a n = let z = n.0 in rw (sym z, moved_same r (x + 1 + length ss) n.1)
moved_same (unread x) a n = absurd n

numbered-moved : (x : ℕ) (t : Block) (a : ℕ) → Numbered t a → Numbered (moved x t) x
unfolding moved
numbered-moved x nil a n = tt
numbered-moved x (plain y s r) a n = (refl, numbered-moved (x + 1) r (y + 1) n.1)
numbered-moved x (call y s r) a n = (refl, numbered-moved (x + 1) r (y + 1) n.1)
numbered-moved x (branch y c t e r) a n =
    rw (size-moved (x + 1) t, size-moved (x + 1 + size t) e) (
      refl,
      numbered-moved (x + 1) t (y + 1) n.1,
      numbered-moved (x + 1 + size t) e (y + 1 + size t) n.2,
      numbered-moved (x + 1 + size t + size e) r (y + 1 + size t + size e) n.3,
    )
numbered-moved x (loop y c t r) a n =
    rw (size-moved (x + 1) t) (refl, numbered-moved (x + 1) t (y + 1) n.1, numbered-moved (x + 1 + size t) r (y + 1 + size t) n.2)
numbered-moved x (bundle y ss r) a n = (refl, numbered-moved (x + 1 + length ss) r (y + 1 + length ss) n.1)
numbered-moved x (unread y) a n = absurd n

formed-moved : (d x : ℕ) (t : Block) → Formed d t → Formed d (moved x t)
unfolding moved
formed-moved d x nil f = tt
formed-moved d x (plain a s r) f = (f.0, formed-moved d (x + 1) r f.1)
formed-moved d x (call a s r) f = (f.0, formed-moved d (x + 1) r f.1)
formed-moved d x (branch a c t e r) f =
    (f.0, formed-moved (d + 1) (x + 1) t f.1, formed-moved (d + 1) (x + 1 + size t) e f.2, formed-moved d (x + 1 + size t + size e) r f.3)
formed-moved d x (loop a c t r) f = (f.0, formed-moved (d + 1) (x + 1) t f.1, formed-moved d (x + 1 + size t) r f.2)
formed-moved d x (bundle a ss r) f = (f.0, f.1, f.2, formed-moved d (x + 1 + length ss) r f.3)
formed-moved d x (unread a) f = absurd f

module _ {T : List ℤ} {h : Sections} {U : List ℤ} {g : Sections} where
  pub agree-from : {a x n : ℕ} → Agree T h a U g x n → {b y : ℕ} (k m : ℕ) → k + m ≤ n → b ≡ a + k → y ≡ x + k → Agree T h b U g y m
  agree-from {a} {x} {n} f {b} {y} k m p e z = record { each = go }
    where
      go : (i : ℕ) → i < m → statement_at U g (y + i) ≡ statement_at T h (b + i)
      go i q =
          let s : y + i ≡ x + (k + i) = omega arith in
          let t : b + i ≡ a + (k + i) = omega arith in
          rw (s, t) (f.each (k + i) (omega arith))

  agree-here : {a x n : ℕ} → Agree T h a U g x n → 0 < n → statement_at U g x ≡ statement_at T h a
  agree-here {a} {x} {n} f p = let s : x ≡ x + 0 = omega arith in let t : a ≡ a + 0 = omega arith in rw (s, t) (f.each 0 p)

  line-moved : (ss : List Simple) (a x : ℕ) → Agree T h a U g x (length ss) → ReadsLine T h a ss → ReadsLine U g x ss
  line-moved [] a x f r = tt
  line-moved (s ∷ ss) a x f r =
      (agree-here f (omega arith) ∙ r.0, line-moved ss (a + 1) (x + 1) (agree-from f 1 (length ss) (omega arith) refl refl) r.1)

  reads-moved : (t : Block) (a x : ℕ) → Agree T h a U g x (size t) → Numbered t a → Reads T h t → Reads U g (moved x t)
  unfolding size moved
  reads-moved nil a x f n r = tt
  reads-moved (plain y s o) a x f n r =
      let z = n.0 in (
        agree-here f (omega arith) ∙ (rw z at r.0),
        reads-moved o (y + 1) (x + 1) (agree-from f 1 (size o) (omega arith) (omega arith) refl) n.1 r.1,
      )
  reads-moved (call y s o) a x f n r =
      let z = n.0 in (
        agree-here f (omega arith) ∙ (rw z at r.0),
        reads-moved o (y + 1) (x + 1) (agree-from f 1 (size o) (omega arith) (omega arith) refl) n.1 r.1,
      )
  reads-moved (branch y c t e o) a x f n r =
      let z = n.0 in
      rw (size-moved (x + 1) t, size-moved (x + 1 + size t) e) (
        agree-here f (omega arith) ∙ (rw z at r.0),
        reads-moved t (y + 1) (x + 1) (agree-from f 1 (size t) (omega arith) (omega arith) refl) n.1 r.1,
        reads-moved e (y + 1 + size t) (x + 1 + size t) (agree-from f (1 + size t) (size e) (omega arith) (omega arith) (omega arith)) n.2 r.2,
        reads-moved o (y + 1 + size t + size e) (x + 1 + size t + size e)
            (agree-from f (1 + size t + size e) (size o) (omega arith) (omega arith) (omega arith)) n.3 r.3,
      )
  reads-moved (loop y c t o) a x f n r =
      let z = n.0 in
      rw (size-moved (x + 1) t) (
        agree-here f (omega arith) ∙ (rw z at r.0),
        reads-moved t (y + 1) (x + 1) (agree-from f 1 (size t) (omega arith) (omega arith) refl) n.1 r.1,
        reads-moved o (y + 1 + size t) (x + 1 + size t) (agree-from f (1 + size t) (size o) (omega arith) (omega arith) (omega arith)) n.2 r.2,
      )
  reads-moved (bundle y ss o) a x f n r =
      let z = n.0 in (
        agree-here f (omega arith) ∙ (rw z at r.0),
        line-moved ss (y + 1) (x + 1) (agree-from f 1 (length ss) (omega arith) (omega arith) refl) r.1,
        reads-moved o (y + 1 + length ss) (x + 1 + length ss) (agree-from f (1 + length ss) (size o) (omega arith) (omega arith) (omega arith)) n.1 r.2,
      )
  reads-moved (unread y) a x f n r = absurd n

  -- A block whose records stand elsewhere is laid out there.
  pub laid-moved : {d a b x y : ℕ} {t : Block} → Laid T h d a b t → b + x ≡ a + y → a ≤ b → Agree T h a U g x (b - a) → Laid U g d x y (moved x t)
  laid-moved {d} {a} {b} {x} {y} {t} p e q f =
      let z : b - a ≡ size t = omega (arith, p.ends) in record {
        ends = omega (arith, p.ends, size-moved x t);
        numbered = numbered-moved x t a p.numbered;
        formed = formed-moved d x t p.formed;
        reads = reads-moved t a x (rw z at f) p.numbered p.reads;
      }

-- ---- a block that is laid out is what its records give

line-parsed : (ss : List Simple) (T : List ℤ) (h : Sections) (a : ℕ) → ReadsLine T h a ss → simples (length ss) T h a ≡ ss
unfolding simples
line-parsed [] T h a r = refl
line-parsed (s ∷ ss) T h a r = let z = r.0 in rw (z, line-parsed ss T h (a + 1) r.1)

line-contents : (ss : List Simple) (T : List ℤ) (h : Sections) (x a : ℕ) → ReadsLine T h a ss → contents (length ss) T h x a ≡ []
unfolding contents
line-contents [] T h x a r = refl
line-contents (s ∷ ss) T h x a r = let z = r.0 in rw (z, line-contents ss T h x (a + 1) r.1)

module _ (T : List ℤ) (h : Sections) where
  parsed : (t : Block) (l a b : ℕ) → a + size t ≡ b → b ≤ a + l → Numbered t a → Reads T h t → parse l T h a b ≡ t
  unfolding size
  parsed nil l a b e p n r = parse-end l T h a b (omega arith)
  parsed (plain x s o) l a b e p n r =
      let z = n.0 in
      parse-some l T h a b _ (omega arith) (omega arith) (rw z at r.0)
      ∙ rw (sym z, parsed o (l - 1) (x + 1) b (omega arith) (omega arith) n.1 r.1)
  parsed (call x s o) l a b e p n r =
      let z = n.0 in
      parse-some l T h a b _ (omega arith) (omega arith) (rw z at r.0)
      ∙ rw (sym z, parsed o (l - 1) (x + 1) b (omega arith) (omega arith) n.1 r.1)
  parsed (branch x c t u o) l a b e p n r =
      let z = n.0 in
      parse-some l T h a b _ (omega arith) (omega arith) (rw z at r.0)
      ∙ rw (
        sym z,
        parsed t (l - 1) (x + 1) (x + 1 + size t) (omega arith) (omega arith) n.1 r.1,
        parsed u (l - 1) (x + 1 + size t) (x + 1 + size t + size u) (omega arith) (omega arith) n.2 r.2,
        parsed o (l - 1) (x + 1 + size t + size u) b (omega arith) (omega arith) n.3 r.3,
      )
  parsed (loop x c t o) l a b e p n r =
      let z = n.0 in
      parse-some l T h a b _ (omega arith) (omega arith) (rw z at r.0)
      ∙ rw (
        sym z,
        parsed t (l - 1) (x + 1) (x + 1 + size t) (omega arith) (omega arith) n.1 r.1,
        parsed o (l - 1) (x + 1 + size t) b (omega arith) (omega arith) n.2 r.2,
      )
  parsed (bundle x ss o) l a b e p n r =
      let z = n.0 in
      parse-some l T h a b _ (omega arith) (omega arith) (rw z at r.0)
      ∙ rw (
        sym z,
        line-parsed ss T h (x + 1) r.1,
        parsed o (l - 1) (x + 1 + length ss) b (omega arith) (omega arith) n.1 r.2,
      )
  parsed (unread x) l a b e p n r = absurd n

  -- The layout of one statement that reads, at a depth that is allowed.
  kind-here : (l d a b : ℕ) (s : Statement) → 0 < l → a < b → d ≤ max_depth → statement_at T h a ≡ Some s
      → block_layout l T h d a b ≡ kind_layout s (λ e x y. block_layout (l - 1) T h e x y) T h d a b
  kind-here l d a b s p q w e = block-some l T h d a b _ p q e ∙ skip _ _ _ (le-ltb _ _ w)

  clear : (t : Block) (l d a b : ℕ) → a + size t ≡ b → b ≤ a + l → Numbered t a → Formed d t → Reads T h t → block_layout l T h d a b ≡ []
  unfolding size
  clear nil l d a b e p n f r = block-end l T h d a b (omega arith)
  clear (plain x s o) l d a b e p n f r =
      let z = n.0 in
      kind-here l d a b _ (omega arith) (omega arith) f.0 (rw z at r.0)
      ∙ rw (sym z) (clear o (l - 1) d (x + 1) b (omega arith) (omega arith) n.1 f.1 r.1)
  clear (call x s o) l d a b e p n f r =
      let z = n.0 in
      kind-here l d a b _ (omega arith) (omega arith) f.0 (rw z at r.0)
      ∙ rw (sym z) (clear o (l - 1) d (x + 1) b (omega arith) (omega arith) n.1 f.1 r.1)
  clear (branch x c t u o) l d a b e p n f r =
      let z = n.0 in
      kind-here l d a b _ (omega arith) (omega arith) f.0 (rw z at r.0)
      ∙ (skip _ _ _ (le-ltb b (a + 1 + size t + size u) (omega arith)) ∙ rw (sym z) (pass _ _
      (clear t (l - 1) (d + 1) (x + 1) (x + 1 + size t) (omega arith) (omega arith) n.1 f.1 r.1) ∙ (pass _ _
      (clear u (l - 1) (d + 1) (x + 1 + size t) (x + 1 + size t + size u) (omega arith) (omega arith) n.2 f.2 r.2)
      ∙ clear o (l - 1) d (x + 1 + size t + size u) b (omega arith) (omega arith) n.3 f.3 r.3)))
  clear (loop x c t o) l d a b e p n f r =
      let z = n.0 in
      kind-here l d a b _ (omega arith) (omega arith) f.0 (rw z at r.0)
      ∙ (skip _ _ _ (le-ltb b (a + 1 + size t) (omega arith)) ∙ rw (sym z) (pass _ _
      (clear t (l - 1) (d + 1) (x + 1) (x + 1 + size t) (omega arith) (omega arith) n.1 f.1 r.1)
      ∙ clear o (l - 1) d (x + 1 + size t) b (omega arith) (omega arith) n.2 f.2 r.2))
  clear (bundle x ss o) l d a b e p n f r =
      let z = n.0 in
      kind-here l d a b _ (omega arith) (omega arith) f.0 (rw z at r.0)
      ∙ rw (sym z) (pass _ _ (sym (bundle-held T h x (length ss) b (λ q. omega (arith, f.1, q)) f.2 (omega arith))
      ∙ line-contents ss T h x (x + 1) r.1) ∙ clear o (l - 1) d (x + 1 + length ss) b (omega arith) (omega arith) n.1 f.3 r.2)
  clear (unread x) l d a b e p n f r = absurd n

module _ {T : List ℤ} {h : Sections} {d a b : ℕ} {t : Block} (p : Laid T h d a b t) (l : ℕ) (enough : b ≤ a + l) where
  pub laid-parsed : parse l T h a b ≡ t
  laid-parsed = parsed T h t l a b p.ends enough p.numbered p.reads

  pub laid-clear : block_layout l T h d a b ≡ []
  laid-clear = clear T h t l d a b p.ends enough p.numbered p.formed p.reads
