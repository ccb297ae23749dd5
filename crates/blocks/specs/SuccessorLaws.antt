-- The successors written are those of the flow, at each statement of a table that is laid out.
use Rattle.std.specs.Prelude.{ℕ, zero, suc, ◌+◌, ◌*◌, ◌%◌, ◌^◌, ◌<◌, ◌≤◌, ◌≡◌, refl, ℤ, length, get_or, set}
use Rattle.std.proofs.Common.{sym, ◌∙◌, ap, arith, length-append, length-set, get_or-set_same, get_or-set_other}
use mathlib.Core.List.{List, [], ◌∷◌, ◌++◌}
use Rattle.words.specs.declared.sections.Sections.{Sections}
use Rattle.statements.specs.declared.Simple.{Simple}
use Rattle.blocks.specs.Tree.{Block, nil, plain, call, branch, loop, bundle, unread, tree}
use Rattle.blocks.specs.Layout.{layout}
use Rattle.blocks.specs.Flow.{Successors, successors, entry, lead, line, flow, table_flow}
use Rattle.blocks.specs.Written.{put, written}
use Rattle.blocks.specs.FlowLaws.{length-put}
use Rattle.blocks.specs.Along.{Along, along-left, along-right, along-at, along-getD}
use Rattle.blocks.specs.Shape.{size, Numbered, RightLine, Right, Bounded, Consecutive, entries_at}
use Rattle.blocks.specs.ShapeLaws.{table-laid}

-- The flow has each statement once, in table order.
pub length-line : (a n after : ℕ) → length (line a n after) ≡ n
unfolding line
length-line a zero after = refl
length-line a (suc n) after = ap suc (length-line (a + 1) n after)

pub length-flow : (t : Block) (after : ℕ) → length (flow t after) ≡ size t
unfolding flow size
length-flow nil after = refl
length-flow (plain a s r) after = omega (arith, length-flow r after)
length-flow (call a s r) after = omega (arith, length-flow r after)
length-flow (branch a c t e r) after =
    simp length-append (omega (arith, length-flow t (entry r after), length-flow e (entry r after), length-flow r after))
length-flow (loop a c t r) after = simp length-append (omega (arith, length-flow t a, length-flow r after))
length-flow (bundle a ss r) after =
    simp length-append (omega (arith, length-line (a + 1) (length ss) (entry r after), length-flow r after))
length-flow (unread a) after = refl

-- Whatever agrees with the flow along the table is right at each node of the tree.
right-line : (f : ℕ → Successors) (a : ℕ) (ss : List Simple) (after : ℕ) → Along f a (line a (length ss) after) → RightLine f a ss after
unfolding line
right-line f a [] after h = tt
right-line f a (s ∷ ss) after h = (h.0, right-line f (a + 1) ss after h.1)

pub right : (f : ℕ → Successors) (t : Block) (lo after : ℕ) → Numbered t lo → Along f lo (flow t after) → Right f t after
unfolding flow
right f nil lo after n h = tt
right f (plain a s r) lo after n h =
    let g = rw (sym n.0) at h in
    (g.0, right f r (a + 1) after n.1 g.1)
right f (call a s r) lo after n h =
    let g = rw (sym n.0) at h in
    (g.0, right f r (a + 1) after n.1 g.1)
right f (branch a c t e r) lo after n h =
    let g = rw (sym n.0) at h in
    let k = entry r after in
    let u = along-right f (a + 1) (a + 1 + size t) (flow t k) (flow e k ++ flow r after) (omega (arith, length-flow t k)) g.1 in (
      g.0,
      right f t (a + 1) k n.1 (along-left f (a + 1) (flow t k) _ g.1),
      right f e (a + 1 + size t) k n.2 (along-left f (a + 1 + size t) (flow e k) _ u),
      right f r (a + 1 + size t + size e) after n.3 (along-right f (a + 1 + size t) _ (flow e k) (flow r after) (omega (arith, length-flow e k)) u),
    )
right f (loop a c t r) lo after n h =
    let g = rw (sym n.0) at h in (
      g.0,
      right f t (a + 1) a n.1 (along-left f (a + 1) (flow t a) _ g.1),
      right f r (a + 1 + size t) after n.2 (along-right f (a + 1) _ (flow t a) (flow r after) (omega (arith, length-flow t a)) g.1),
    )
right f (bundle a ss r) lo after n h =
    let g = rw (sym n.0) at h in
    let k = entry r after in (
      g.0,
      right-line f (a + 1) ss k (along-left f (a + 1) (line (a + 1) (length ss) k) _ g.1),
      right f r (a + 1 + length ss) after n.1
          (along-right f (a + 1) _ (line (a + 1) (length ss) k) (flow r after) (omega (arith, length-line (a + 1) (length ss) k)) g.1),
    )
right f (unread a) lo after n h = tt

-- Each successor is a statement of the table, or the number past the last.
bounded-append : (m : ℕ) (xs ys : List Successors) → Bounded m xs → Bounded m ys → Bounded m (xs ++ ys)
bounded-append m [] ys p q = q
bounded-append m (x ∷ xs) ys p q = (p.0, p.1, bounded-append m xs ys p.2 q)

pub bounded_at : (m : ℕ) (xs : List Successors) (i : ℕ) (d : Successors) → Bounded m xs → i < length xs → ((get_or xs i d).next ≤ m)
    × ((get_or xs i d).other ≤ m)
bounded_at m [] i d p q = absurd (omega arith)
bounded_at m (x ∷ xs) zero d p q = (p.0, p.1)
bounded_at m (x ∷ xs) (suc i) d p q = bounded_at m xs i d p.2 (omega arith)

pub small-entry : (t : Block) (lo after m : ℕ) → Numbered t lo → lo + size t ≤ m → after ≤ m → entry t after ≤ m
unfolding entry size
small-entry nil lo after m n p q = q
small-entry (plain a s r) lo after m n p q = omega (arith, n.0)
small-entry (call a s r) lo after m n p q = omega (arith, n.0)
small-entry (branch a c t e r) lo after m n p q = omega (arith, n.0)
small-entry (loop a c t r) lo after m n p q = omega (arith, n.0)
small-entry (bundle a ss r) lo after m n p q = omega (arith, n.0)
small-entry (unread a) lo after m n p q = absurd n

small-lead : (a n after m : ℕ) → a + n ≤ m → after ≤ m → lead a n after ≤ m
unfolding lead
small-lead a zero after m p q = q
small-lead a (suc n) after m p q = omega arith

bounded-line : (a n after m : ℕ) → a + n ≤ m → after ≤ m → Bounded m (line a n after)
unfolding line
bounded-line a zero after m p q = tt
bounded-line a (suc n) after m p q =
    let u = small-lead (a + 1) n after m (omega arith) q in
    (u, u, bounded-line (a + 1) n after m (omega arith) q)

pub bounded-flow : (t : Block) (lo after m : ℕ) → Numbered t lo → lo + size t ≤ m → after ≤ m → Bounded m (flow t after)
unfolding flow size
bounded-flow nil lo after m n p q = tt
bounded-flow (plain a s r) lo after m n p q =
    let g = n.0 in
    let u = small-entry r (a + 1) after m n.1 (omega arith) q in
    (u, u, bounded-flow r (a + 1) after m n.1 (omega arith) q)
bounded-flow (call a s r) lo after m n p q =
    let g = n.0 in
    let u = small-entry r (a + 1) after m n.1 (omega arith) q in
    (u, u, bounded-flow r (a + 1) after m n.1 (omega arith) q)
bounded-flow (branch a c t e r) lo after m n p q =
    let g = n.0 in
    let u = small-entry r (a + 1 + size t + size e) after m n.3 (omega arith) q in (
      small-entry t (a + 1) (entry r after) m n.1 (omega arith) u,
      small-entry e (a + 1 + size t) (entry r after) m n.2 (omega arith) u,
      bounded-append m (flow t (entry r after)) (flow e (entry r after) ++ flow r after) (bounded-flow t (a + 1) (entry r after) m n.1 (omega arith) u)
          (bounded-append m (flow e (entry r after)) (flow r after) (bounded-flow e (a + 1 + size t) (entry r after) m n.2 (omega arith) u)
          (bounded-flow r (a + 1 + size t + size e) after m n.3 (omega arith) q)),
    )
bounded-flow (loop a c t r) lo after m n p q =
    let g = n.0 in (
      small-entry t (a + 1) a m n.1 (omega arith) (omega arith),
      small-entry r (a + 1 + size t) after m n.2 (omega arith) q,
      bounded-append m (flow t a) (flow r after) (bounded-flow t (a + 1) a m n.1 (omega arith) (omega arith))
          (bounded-flow r (a + 1 + size t) after m n.2 (omega arith) q),
    )
bounded-flow (bundle a ss r) lo after m n p q =
    let g = n.0 in
    let u = small-entry r (a + 1 + length ss) after m n.1 (omega arith) q in
    let v = small-lead (a + 1) (length ss) (entry r after) m (omega arith) u in (
      v,
      v,
      bounded-append m (line (a + 1) (length ss) (entry r after)) (flow r after) (bounded-line (a + 1) (length ss) (entry r after) m (omega arith) u)
          (bounded-flow r (a + 1 + length ss) after m n.1 (omega arith) q),
    )
bounded-flow (unread a) lo after m n p q = tt

-- The flow is in table order.
consecutive-append : (lo hi : ℕ) (xs ys : List Successors) → lo + length xs ≡ hi → Consecutive lo xs → Consecutive hi ys → Consecutive lo (xs ++ ys)
consecutive-append lo hi [] ys e p q = let g : lo ≡ hi = omega arith in rw g q
consecutive-append lo hi (x ∷ xs) ys e p q = (p.0, consecutive-append (lo + 1) hi xs ys (omega arith) p.1 q)

consecutive-line : (a n after : ℕ) → Consecutive a (line a n after)
unfolding line
consecutive-line a zero after = tt
consecutive-line a (suc n) after = (refl, consecutive-line (a + 1) n after)

pub consecutive-flow : (t : Block) (lo after : ℕ) → Numbered t lo → Consecutive lo (flow t after)
unfolding flow
consecutive-flow nil lo after n = tt
consecutive-flow (plain a s r) lo after n = rw (sym n.0) (refl, consecutive-flow r (a + 1) after n.1)
consecutive-flow (call a s r) lo after n = rw (sym n.0) (refl, consecutive-flow r (a + 1) after n.1)
consecutive-flow (branch a c t e r) lo after n =
    let k = entry r after in
    rw (sym n.0) (
      refl,
      consecutive-append (a + 1) (a + 1 + size t) (flow t k) _ (omega (arith, length-flow t k)) (consecutive-flow t (a + 1) k n.1)
          (consecutive-append (a + 1 + size t) (a + 1 + size t + size e) (flow e k) _ (omega (arith, length-flow e k))
          (consecutive-flow e (a + 1 + size t) k n.2) (consecutive-flow r (a + 1 + size t + size e) after n.3)),
    )
consecutive-flow (loop a c t r) lo after n =
    rw (sym n.0) (
      refl,
      consecutive-append (a + 1) (a + 1 + size t) (flow t a) _ (omega (arith, length-flow t a)) (consecutive-flow t (a + 1) a n.1)
          (consecutive-flow r (a + 1 + size t) after n.2),
    )
consecutive-flow (bundle a ss r) lo after n =
    let k = entry r after in
    rw (sym n.0) (
      refl,
      consecutive-append (a + 1) (a + 1 + length ss) (line (a + 1) (length ss) k) _ (omega (arith, length-line (a + 1) (length ss) k))
          (consecutive-line (a + 1) (length ss) k) (consecutive-flow r (a + 1 + length ss) after n.1),
    )
consecutive-flow (unread a) lo after n = tt

-- Entries below those of the list stay.
put_other : (w : List ℕ) (x : Successors) (i : ℕ) → i < 2 * x.statement → get_or (put w x) i 0 ≡ get_or w i 0
unfolding put
put_other w x i p =
    get_or-set_other (set w (2 * x.statement) (x.next % 2 ^ 32)) (2 * x.statement + 1) i (x.other % 2 ^ 32) 0 (λ e. omega arith)
    ∙ get_or-set_other w (2 * x.statement) i (x.next % 2 ^ 32) 0 (λ e. omega arith)

untouched : (xs : List Successors) (lo i : ℕ) (w : List ℕ) → Consecutive lo xs → i < 2 * lo → get_or (written xs w) i 0 ≡ get_or w i 0
unfolding written
untouched [] lo i w c p = refl
untouched (x ∷ xs) lo i w c p =
    let g = c.0 in
    untouched xs (lo + 1) i (put w x) c.1 (omega arith) ∙ put_other w x i (omega arith)

same-successors : (a b y₁ y₂ n₁ n₂ : ℕ) → a ≡ b → y₁ ≡ y₂ → n₁ ≡ n₂ → successors a y₁ n₁ ≡ successors b y₂ n₂
same-successors a b y₁ y₂ n₁ n₂ p q r = rw (p, q, r)

put-there : (w : List ℕ) (x : Successors) (m : ℕ) → 2 * x.statement + 1 < length w → m < 2 ^ 32 → x.next ≤ m → x.other ≤ m
    → entries_at (put w x) x.statement ≡ x
unfolding put
put-there w x m p s y z =
    let u : x.next % 2 ^ 32 ≡ x.next = omega arith in
    let v : x.other % 2 ^ 32 ≡ x.other = omega arith in
    same-successors _ _ _ _ _ _ refl
    (get_or-set_other (set w (2 * x.statement) (x.next % 2 ^ 32)) (2 * x.statement + 1) (2 * x.statement) _ 0 (λ e. omega arith)
    ∙ (get_or-set_same w (2 * x.statement) _ 0 (omega arith) ∙ u))
    (get_or-set_same (set w (2 * x.statement) (x.next % 2 ^ 32)) (2 * x.statement + 1) _ 0 (simp length-set p) ∙ v)

pub along-written : (xs : List Successors) (lo m : ℕ) (w : List ℕ) → Consecutive lo xs → 2 * (lo + length xs) ≤ length w → m < 2 ^ 32 → Bounded m xs
    → Along (entries_at (written xs w)) lo xs
unfolding written
along-written [] lo m w c p s b = tt
along-written (x ∷ xs) lo m w c p s b =
    let g = c.0 in (
      same-successors _ _ _ _ _ _ refl (untouched xs (lo + 1) (2 * lo) (put w x) c.1 (omega arith))
          (untouched xs (lo + 1) (2 * lo + 1) (put w x) c.1 (omega arith))
          ∙ rw (← g) (put-there w x m (omega arith) s b.0 b.1),
      along-written xs (lo + 1) m (put w x) c.1 (omega (arith, length-put w x)) s b.2,
    )

-- The whole table.
module _ (T : List ℤ) (h : Sections) (e : layout T h ≡ []) where
  pub flow-consecutive : Consecutive 0 (table_flow T h)
  unfolding table_flow
  flow-consecutive = consecutive-flow (tree T h) 0 h.statements (table-laid T h e).numbered

  pub flow-long : length (table_flow T h) ≡ h.statements
  unfolding table_flow
  flow-long = let l = table-laid T h e in omega (arith, l.ends, length-flow (tree T h) h.statements)

  pub flow-bounded : Bounded h.statements (table_flow T h)
  unfolding table_flow
  flow-bounded =
      let l = table-laid T h e in
      bounded-flow (tree T h) 0 h.statements h.statements l.numbered (omega (arith, l.ends)) (omega arith)

  -- The successors of a statement in the flow are those at its node.
  pub flow-right : (d : Successors) → Right (λ s. get_or (table_flow T h) s d) (tree T h) h.statements
  unfolding table_flow
  flow-right d = right _ (tree T h) 0 h.statements (table-laid T h e).numbered (along-getD [] (flow (tree T h) h.statements) d 0 refl)

  module _ (w : List ℕ) (few : h.statements < 2 ^ 32) (room : 2 * h.statements ≤ length w) where
    written-along : Along (entries_at (written (table_flow T h) w)) 0 (table_flow T h)
    written-along = along-written (table_flow T h) 0 h.statements w flow-consecutive (omega (arith, flow-long)) few flow-bounded

    -- The entries written are those of the flow at each statement.
    pub written_at : (s : ℕ) (d : Successors) → s < h.statements → entries_at (written (table_flow T h) w) s ≡ get_or (table_flow T h) s d
    written_at s d p =
        let z : 0 + s ≡ s = omega arith in
        rw z at (along-at (entries_at (written (table_flow T h) w)) 0 (table_flow T h) s d written-along (omega (arith, flow-long)))
