-- A block cut before one of its top-level statements.
use Prim.Native.Nat.{ℕ, zero, suc, ◌+◌, ◌-◌, ◌<◌, ◌≤◌}
use Rattle.std.proofs.Math.Path.{◌≡◌, refl, sym}
use Rattle.std.proofs.Common.{◌∙◌, ap}
use Rattle.std.specs.Prelude.{Bool, ◌&&◌, ◌||◌, List, [], ℤ, eqb}
use Rattle.std.proofs.Math.Bool.{true, false, cond}
use native.Mathlib.Omega.{arith}
use borrow.Author.Tests.{eqb-true, eqb-false, eq-eqb, ne_eqb, ltb-true, ltb-false, lt-ltb, le-ltb}
use Rattle.std.proofs.Math.ListN.{length}
use Rattle.std.proofs.Math.Dec.{ltb}
use Rattle.words.specs.declared.sections.Sections.{Sections}
use Rattle.statements.specs.declared.Statement.TheVariants.{Plain, If, While, Bundle, Call}
use Rattle.statements.specs.Statements.{statement_at}
use Rattle.blocks.specs.Tree.{Block, nil, plain, branch, loop, bundle, call, unread, parse, tree}
use Rattle.blocks.specs.Layout.{layout, block_layout}
use Rattle.blocks.specs.Shape.{size, Numbered, Laid}
use Rattle.blocks.specs.ShapeLaws.{table-laid, laid}
use Rattle.edits.specs.TopLevel.{is_in, positions_of, top_level, span_of}
use Rattle.edits.specs.Followed.{followed, laid-followed, laid-parsed, laid-clear}

-- The first statement of a block with its own blocks, and what follows it.
unfoldable pub first : Block → Block
first nil = nil
first (plain a s r) = plain a s nil
first (call a s r) = call a s nil
first (branch a c t e r) = branch a c t e nil
first (loop a c t r) = loop a c t nil
first (bundle a ss r) = bundle a ss nil
first (unread a) = unread a

unfoldable pub rest : Block → Block
rest nil = nil
rest (plain a s r) = r
rest (call a s r) = r
rest (branch a c t e r) = r
rest (loop a c t r) = r
rest (bundle a ss r) = r
rest (unread a) = nil

module _ {T : List ℤ} {h : Sections} {d a b : ℕ} where
  pub first-laid : (t : Block) → Laid T h d a b t → Laid T h d a (a + size (first t)) (first t)
  unfolding size first
  first-laid nil p = record { ends = refl; numbered = tt; formed = tt; reads = tt }
  first-laid (plain x s r) p = record { ends = refl; numbered = (p.numbered.0, tt); formed = (p.formed.0, tt); reads = (p.reads.0, tt) }
  first-laid (call x s r) p = record { ends = refl; numbered = (p.numbered.0, tt); formed = (p.formed.0, tt); reads = (p.reads.0, tt) }
  first-laid (branch x c t e r) p = record {
    ends = refl;
    numbered = (p.numbered.0, p.numbered.1, p.numbered.2, tt);
    formed = (p.formed.0, p.formed.1, p.formed.2, tt);
    reads = (p.reads.0, p.reads.1, p.reads.2, tt);
  }
  first-laid (loop x c t r) p = record {
    ends = refl;
    numbered = (p.numbered.0, p.numbered.1, tt);
    formed = (p.formed.0, p.formed.1, tt);
    reads = (p.reads.0, p.reads.1, tt);
  }
  first-laid (bundle x ss r) p = record {
    ends = refl;
    numbered = (p.numbered.0, tt);
    formed = (p.formed.0, p.formed.1, p.formed.2, tt);
    reads = (p.reads.0, p.reads.1, tt);
  }
  first-laid (unread x) p = absurd p.numbered

  pub rest-laid : (t : Block) → Laid T h d a b t → Laid T h d (a + size (first t)) b (rest t)
  unfolding size first rest
  rest-laid nil p = record { ends = omega (arith, p.ends); numbered = tt; formed = tt; reads = tt }
  rest-laid (plain x s r) p =
      let z = p.numbered.0 in
      let y : a + (1 + 0) ≡ x + 1 = omega arith in
      record { ends = omega (arith, p.ends); numbered = rw y p.numbered.1; formed = p.formed.1; reads = p.reads.1 }
  rest-laid (call x s r) p =
      let z = p.numbered.0 in
      let y : a + (1 + 0) ≡ x + 1 = omega arith in
      record { ends = omega (arith, p.ends); numbered = rw y p.numbered.1; formed = p.formed.1; reads = p.reads.1 }
  rest-laid (branch x c t e r) p =
      let z = p.numbered.0 in
      let y : a + (1 + size t + size e + 0) ≡ x + 1 + size t + size e = omega arith in
      record { ends = omega (arith, p.ends); numbered = rw y p.numbered.3; formed = p.formed.3; reads = p.reads.3 }
  rest-laid (loop x c t r) p =
      let z = p.numbered.0 in
      let y : a + (1 + size t + 0) ≡ x + 1 + size t = omega arith in
      record { ends = omega (arith, p.ends); numbered = rw y p.numbered.2; formed = p.formed.2; reads = p.reads.2 }
  rest-laid (bundle x ss r) p =
      let z = p.numbered.0 in
      let y : a + (1 + length ss + 0) ≡ x + 1 + length ss = omega arith in
      record { ends = omega (arith, p.ends); numbered = rw y p.numbered.1; formed = p.formed.3; reads = p.reads.2 }
  rest-laid (unread x) p = absurd p.numbered

  pub span-laid : (t : Block) → Laid T h d a b t → a < b → span_of (statement_at T h a) ≡ size (first t)
  unfolding size first
  span-laid nil p q = absurd (omega (arith, p.ends))
  span-laid (plain x s r) p q = let z = p.numbered.0 in let y = rw z at p.reads.0 in rw y
  span-laid (call x s r) p q = let z = p.numbered.0 in let y = rw z at p.reads.0 in rw y
  span-laid (branch x c t e r) p q = let z = p.numbered.0 in let y = rw z at p.reads.0 in rw y (omega arith)
  span-laid (loop x c t r) p q = let z = p.numbered.0 in let y = rw z at p.reads.0 in rw y (omega arith)
  span-laid (bundle x ss r) p q = let z = p.numbered.0 in let y = rw z at p.reads.0 in rw y (omega arith)
  span-laid (unread x) p q = absurd p.numbered

-- The statements a to b - 1, cut before the statement p, or behind the last.
pub record Cut (T : List ℤ) (h : Sections) (d a p b : ℕ) : Type 0 where
  pub front : Block
  pub back : Block
  pub front-laid : Laid T h d a p front
  pub back-laid : Laid T h d p b back

module _ {T : List ℤ} {h : Sections} {d : ℕ} where
  pub none-laid : (a : ℕ) → Laid T h d a a nil
  unfolding size
  none-laid a = record { ends = omega arith; numbered = tt; formed = tt; reads = tt }

  unfoldable pub cut-first : {a b : ℕ} {t : Block} → Laid T h d a b t → Cut T h d a a b
  cut-first {a} {b} {t} l = record { front = nil; back = t; front-laid = none-laid a; back-laid = l }

  pub cut-last : {a b : ℕ} {t : Block} → Laid T h d a b t → Cut T h d a b b
  cut-last {a} {b} {t} l = record { front = t; back = nil; front-laid = l; back-laid = none-laid b }

  pub cut_step : {a p b : ℕ} (t : Block) → Laid T h d a b t → Cut T h d (a + size (first t)) p b → Cut T h d a p b
  cut_step t l c = record {
    front = followed (first t) c.front;
    back = c.back;
    front-laid = laid-followed (first-laid t l) c.front-laid;
    back-laid = c.back-laid;
  }

  -- Both parts together are the block.
  pub cut-whole : {a p b : ℕ} {t : Block} → Laid T h d a b t → (c : Cut T h d a p b) → t ≡ followed c.front c.back
  cut-whole {a} {p} {b} {t} l c =
      sym (laid-parsed l b (omega arith)) ∙ laid-parsed (laid-followed c.front-laid c.back-laid) b (omega arith)

  -- The statements behind the cut in two parts.
  pub cut_again : {a p q b : ℕ} → (c : Cut T h d a p b) → Cut T h d p q b → Cut T h d a q b
  cut_again c e = record {
    front = followed c.front e.front;
    back = e.back;
    front-laid = laid-followed c.front-laid e.front-laid;
    back-laid = e.back-laid;
  }

-- ---- which statements are top-level

or-false : (x y : Bool) → x ≡ false → (x || y) ≡ y
or-false true y e = cc
or-false false y e = refl

or-true : (x y : Bool) → x ≡ true → (x || y) ≡ true
or-true true y e = refl
or-true false y e = cc

or_assoc : (x y z : Bool) → (x || (y || z)) ≡ ((x || y) || z)
or_assoc true y z = refl
or_assoc false y z = refl

and-false : (x y : Bool) → y ≡ false → (x && y) ≡ false
and-false true y e = e
and-false false y e = refl

pub size-first : (t : Block) (a : ℕ) → Numbered t a → 0 < size t → 0 < size (first t)
unfolding size first
size-first nil a n q = q
size-first (plain x s r) a n q = omega arith
size-first (call x s r) a n q = omega arith
size-first (branch x c t e r) a n q = omega arith
size-first (loop x c t r) a n q = omega arith
size-first (bundle x ss r) a n q = omega arith
size-first (unread x) a n q = absurd n

top-rest : (t : Block) (a p : ℕ) → Numbered t a → (a ≡ p → ⊥) → top_level t p ≡ top_level (rest t) p
unfolding top_level positions_of is_in rest
top-rest nil a p n q = refl
top-rest (plain x s r) a p n q = let z = n.0 in or-false _ _ (ne_eqb x p (λ e. q (sym z ∙ e)))
top-rest (call x s r) a p n q = let z = n.0 in or-false _ _ (ne_eqb x p (λ e. q (sym z ∙ e)))
top-rest (branch x c t e r) a p n q = let z = n.0 in or-false _ _ (ne_eqb x p (λ e. q (sym z ∙ e)))
top-rest (loop x c t r) a p n q = let z = n.0 in or-false _ _ (ne_eqb x p (λ e. q (sym z ∙ e)))
top-rest (bundle x ss r) a p n q = let z = n.0 in or-false _ _ (ne_eqb x p (λ e. q (sym z ∙ e)))
top-rest (unread x) a p n q = absurd n

pub top-first : (t : Block) (a : ℕ) → Numbered t a → 0 < size t → top_level t a ≡ true
unfolding top_level positions_of is_in size
top-first nil a n q = absurd (omega arith)
top-first (plain x s r) a n q = or-true _ _ (eq-eqb x a n.0)
top-first (call x s r) a n q = or-true _ _ (eq-eqb x a n.0)
top-first (branch x c t e r) a n q = or-true _ _ (eq-eqb x a n.0)
top-first (loop x c t r) a n q = or-true _ _ (eq-eqb x a n.0)
top-first (bundle x ss r) a n q = or-true _ _ (eq-eqb x a n.0)
top-first (unread x) a n q = absurd n

pub top_below : (t : Block) (a p : ℕ) → Numbered t a → p < a → top_level t p ≡ false
unfolding top_level positions_of is_in
top_below nil a p n q = refl
top_below (plain x s r) a p n q =
    let z = n.0 in or-false _ _ (ne_eqb x p (λ e. omega arith)) ∙ top_below r (x + 1) p n.1 (omega arith)
top_below (call x s r) a p n q =
    let z = n.0 in or-false _ _ (ne_eqb x p (λ e. omega arith)) ∙ top_below r (x + 1) p n.1 (omega arith)
top_below (branch x c t e r) a p n q =
    let z = n.0 in or-false _ _ (ne_eqb x p (λ e. omega arith)) ∙ top_below r (x + 1 + size t + size e) p n.3 (omega arith)
top_below (loop x c t r) a p n q =
    let z = n.0 in or-false _ _ (ne_eqb x p (λ e. omega arith)) ∙ top_below r (x + 1 + size t) p n.2 (omega arith)
top_below (bundle x ss r) a p n q =
    let z = n.0 in or-false _ _ (ne_eqb x p (λ e. omega arith)) ∙ top_below r (x + 1 + length ss) p n.1 (omega arith)
top_below (unread x) a p n q = absurd n

top-none : (t : Block) (a p : ℕ) → Numbered t a → size t ≡ 0 → top_level t p ≡ false
unfolding top_level positions_of is_in size
top-none nil a p n q = refl
top-none (plain x s r) a p n q = absurd (omega arith)
top-none (call x s r) a p n q = absurd (omega arith)
top-none (branch x c t e r) a p n q = absurd (omega arith)
top-none (loop x c t r) a p n q = absurd (omega arith)
top-none (bundle x ss r) a p n q = absurd (omega arith)
top-none (unread x) a p n q = absurd n

pub top-past : (t : Block) (a b p : ℕ) → Numbered t a → a + size t ≡ b → b ≤ p → top_level t p ≡ false
unfolding top_level positions_of is_in size
top-past nil a b p n e q = refl
top-past (plain x s r) a b p n e q =
    let z = n.0 in or-false _ _ (ne_eqb x p (λ i. omega arith)) ∙ top-past r (x + 1) b p n.1 (omega arith) q
top-past (call x s r) a b p n e q =
    let z = n.0 in or-false _ _ (ne_eqb x p (λ i. omega arith)) ∙ top-past r (x + 1) b p n.1 (omega arith) q
top-past (branch x c t u r) a b p n e q =
    let z = n.0 in or-false _ _ (ne_eqb x p (λ i. omega arith)) ∙ top-past r (x + 1 + size t + size u) b p n.3 (omega arith) q
top-past (loop x c t r) a b p n e q =
    let z = n.0 in or-false _ _ (ne_eqb x p (λ i. omega arith)) ∙ top-past r (x + 1 + size t) b p n.2 (omega arith) q
top-past (bundle x ss r) a b p n e q =
    let z = n.0 in or-false _ _ (ne_eqb x p (λ i. omega arith)) ∙ top-past r (x + 1 + length ss) b p n.1 (omega arith) q
top-past (unread x) a b p n e q = absurd n

pub top-followed : (t u : Block) (a p : ℕ) → Numbered t a → top_level (followed t u) p ≡ (top_level t p || top_level u p)
unfolding top_level positions_of is_in followed
top-followed nil u a p n = refl
top-followed (plain x s r) u a p n = rw (top-followed r u (x + 1) p n.1) (or_assoc (eqb x p) _ _)
top-followed (call x s r) u a p n = rw (top-followed r u (x + 1) p n.1) (or_assoc (eqb x p) _ _)
top-followed (branch x c t e r) u a p n = rw (top-followed r u (x + 1 + size t + size e) p n.3) (or_assoc (eqb x p) _ _)
top-followed (loop x c t r) u a p n = rw (top-followed r u (x + 1 + size t) p n.2) (or_assoc (eqb x p) _ _)
top-followed (bundle x ss r) u a p n = rw (top-followed r u (x + 1 + length ss) p n.1) (or_assoc (eqb x p) _ _)
top-followed (unread x) u a p n = absurd n

-- ---- the way there, from statement to statement

-- The first number at or past p, from a on.
unfoldable pub landing : ℕ → List ℤ → Sections → ℕ → ℕ → ℕ
landing zero T h a p = a
landing (suc l) T h a p = cond (ltb a p) (landing l T h (a + span_of (statement_at T h a)) p) a

module _ {T : List ℤ} {h : Sections} {d : ℕ} where
  -- p is a top-level statement exactly where the way lands on it before the end.
  there : (a b p : ℕ) (t : Block) → Laid T h d a b t → p ≤ a → (eqb a p && ltb p b) ≡ top_level t p
  there a b p t l q = go (eqb a p) refl (ltb p b) refl
    where
      go : (x : Bool) → eqb a p ≡ x → (y : Bool) → ltb p b ≡ y → (x && y) ≡ top_level t p
      go true e true f =
          let z = eqb-true a p e in
          let g = ltb-true p b f in
          sym (rw z at (top-first t a l.numbered (omega (arith, l.ends))))
      go true e false f =
          let z = eqb-true a p e in
          let g = ltb-false p b f in
          sym (top-none t a p l.numbered (omega (arith, l.ends)))
      go false e y f =
          let z = eqb-false a p e in
          sym (top_below t a p l.numbered (omega arith))

  landing-step : (l a b p : ℕ) (t : Block) → Laid T h d a b t → p ≤ a + suc l
      → (p ≤ a + size (first t) + l → (eqb (landing l T h (a + size (first t)) p) p && ltb p b) ≡ top_level (rest t) p)
      → (eqb (landing (suc l) T h a p) p && ltb p b) ≡ top_level t p
  unfolding landing
  landing-step l a b p t w q ih = go (ltb a p) refl (ltb a b) refl
    where
      go : (x : Bool) → ltb a p ≡ x → (y : Bool) → ltb a b ≡ y
          → (eqb (cond x (landing l T h (a + span_of (statement_at T h a)) p) a) p && ltb p b) ≡ top_level t p
      go false e y f = there a b p t w (ltb-false a p e)
      go true e true f =
          let g = ltb-true a p e in
          let k = ltb-true a b f in
          let z = span-laid t w k in
          rw z (ih (omega (arith, size-first t a w.numbered (omega (arith, w.ends))))
          ∙ sym (top-rest t a p w.numbered (λ i. omega arith)))
      go true e false f =
          let g = ltb-true a p e in
          let k = ltb-false a b f in
          and-false (eqb (landing l T h (a + span_of (statement_at T h a)) p) p) (ltb p b) (le-ltb p b (omega arith))
          ∙ sym (top-none t a p w.numbered (omega (arith, w.ends)))

  pub landing-top : (l a b p : ℕ) (t : Block) → Laid T h d a b t → p ≤ a + l → (eqb (landing l T h a p) p && ltb p b) ≡ top_level t p
  unfolding landing
  landing-top zero a b p t w q = there a b p t w (omega arith)
  landing-top (suc l) a b p t w q =
      landing-step l a b p t w q (λ u. landing-top l (a + size (first t)) b p (rest t) (rest-laid t w) u)

  -- The cut before a top-level statement.
  cut-node : (t : Block) (a b p : ℕ) → Laid T h d a b t → (top_level (rest t) p ≡ true → Cut T h d (a + size (first t)) p b) → top_level t p ≡ true
      → Cut T h d a p b
  cut-node t a b p w ih e = go (eqb a p) refl
    where
      go : (x : Bool) → eqb a p ≡ x → Cut T h d a p b
      go true f = let z : p ≡ a = sym (eqb-true a p f) in rw z (cut-first w)
      go false f = cut_step t w (ih (sym (top-rest t a p w.numbered (eqb-false a p f)) ∙ e))

  pub cut-top : (t : Block) (a b p : ℕ) → Laid T h d a b t → top_level t p ≡ true → Cut T h d a p b
  unfolding top_level positions_of is_in rest
  cut-top nil a b p w e = let i : ◌≡◌ {A = ℕ} 0 1 = cc in absurd (omega arith)
  cut-top (plain x s r) a b p w e = cut-node (plain x s r) a b p w (λ q. cut-top r _ b p (rest-laid (plain x s r) w) q) e
  cut-top (call x s r) a b p w e = cut-node (call x s r) a b p w (λ q. cut-top r _ b p (rest-laid (call x s r) w) q) e
  cut-top (branch x c t o r) a b p w e = cut-node (branch x c t o r) a b p w (λ q. cut-top r _ b p (rest-laid (branch x c t o r) w) q) e
  cut-top (loop x c t r) a b p w e = cut-node (loop x c t r) a b p w (λ q. cut-top r _ b p (rest-laid (loop x c t r) w) q) e
  cut-top (bundle x ss r) a b p w e = cut-node (bundle x ss r) a b p w (λ q. cut-top r _ b p (rest-laid (bundle x ss r) w) q) e
  cut-top (unread x) a b p w e = absurd w.numbered

  -- Behind a cut, the top-level statements are those of the back.
  pub cut-back : {a p b : ℕ} {t : Block} (q : ℕ) → Laid T h d a b t → (c : Cut T h d a p b) → p ≤ q → top_level t q ≡ top_level c.back q
  cut-back {a} {p} {b} {t} q w c i =
      ap (λ (u : Block). top_level u q) (cut-whole w c) ∙ (top-followed c.front c.back a q c.front-laid.numbered
      ∙ or-false _ _ (top-past c.front a p q c.front-laid.numbered c.front-laid.ends i))

  -- A cut before the last statement is before a top-level one.
  pub top-cut : {a p b : ℕ} {t : Block} → Laid T h d a b t → (c : Cut T h d a p b) → p < b → top_level t p ≡ true
  top-cut {a} {p} {b} {t} w c i =
      cut-back p w c (omega arith) ∙ top-first c.back p c.back-laid.numbered (omega (arith, c.back-laid.ends))

  -- Between two cuts.
  pub cut-between : {a q p b : ℕ} {t : Block} → Laid T h d a b t → Cut T h d a q b → Cut T h d a p b → q ≤ p → Cut T h d q p b
  cut-between {a} {q} {p} {b} {t} w c e i = go (ltb p b) refl
    where
      go : (x : Bool) → ltb p b ≡ x → Cut T h d q p b
      go true f = cut-top c.back q b p c.back-laid (sym (cut-back p w c i) ∙ top-cut w e (ltb-true p b f))
      go false f =
          let z : p ≡ b = omega (arith, ltb-false p b f, e.back-laid.ends) in
          rw z (cut-last c.back-laid)

  -- The way from statement to statement ends at the end.
  pub landing-end : (l a b : ℕ) (t : Block) → Laid T h d a b t → b ≤ a + l → landing l T h a b ≡ b
  unfolding landing
  landing-end zero a b t w q = omega (arith, w.ends)
  landing-end (suc l) a b t w q = go (ltb a b) refl (λ p. landing-end l (a + size (first t)) b (rest t) (rest-laid t w) p)
    where
      go : (x : Bool) → ltb a b ≡ x → (b ≤ a + size (first t) + l → landing l T h (a + size (first t)) b ≡ b)
          → cond x (landing l T h (a + span_of (statement_at T h a)) b) a ≡ b
      go true e ih =
          let k = ltb-true a b e in
          let z = span-laid t w k in
          rw z (ih (omega (arith, size-first t a w.numbered (omega (arith, w.ends)))))
      go false e ih = omega (arith, ltb-false a b e, w.ends)
