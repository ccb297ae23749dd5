-- The flow, one statement at a time, as the code meets it.
use Rattle.std.specs.Prelude.{ℕ, zero, suc, ◌+◌, ◌-◌, ◌*◌, ◌<◌, ◌≤◌, ◌≡◌, refl, Bool, true, false, List, [], ◌∷◌, ◌++◌, ℤ, length, ltb, None, Option, Some}
use Rattle.std.proofs.Math.Path.{sym}
use Rattle.std.proofs.Common.{◌∙◌, ap, arith, sub-one, ltb-true, ltb-false, le-leb, length-set}
use Rattle.std.proofs.lemmas.Bool.{lt-leb}
use Rattle.words.specs.declared.sections.Sections.{Sections}
use Rattle.conditions.specs.declared.Condition.{Condition}
use Rattle.statements.specs.declared.CallSite.{CallSite}
use Rattle.statements.specs.declared.Simple.{Simple}
use Rattle.statements.specs.declared.Statement.{Statement}
use Rattle.statements.specs.declared.Statement.TheVariants.{Plain, If, While, Bundle, Call}
use Rattle.statements.specs.Statements.{statement_at}
use Rattle.statements.specs.StatementLaws.{read-within}
use Rattle.blocks.specs.Tree.{Block, plain, branch, loop, bundle, call, simples, simples_from, node, parse, tree}
use Rattle.blocks.specs.TreeLaws.{parse-none, parse-end, parse-some}
use Rattle.blocks.specs.Flow.{Successors, successors, entry, lead, line, flow, table_flow}
use Rattle.blocks.specs.Written.{FirstDue, put, written, Written}

-- Where a block of a to b - 1 begins.
pub begins : (l : ℕ) (T : List ℤ) (h : Sections) (a b : ℕ) {after r : ℕ} → FirstDue l a b after r → r ≡ entry (parse l T h a b) after
unfolding entry parse
begins zero T h a b k = k.none (omega arith)
begins (suc l) T h a b {after} {r} k = go (ltb a b) (statement_at T h a) refl
  where
    go : (x : Bool) (s : Option Statement) → ltb a b ≡ x → r ≡ entry (node x s (λ x y. parse l T h x y) T h a b) after
    go false s e = k.end (ltb-false a b e)
    go true None e = k.some (omega arith) (ltb-true a b e)
    go true (Some (Plain s)) e = k.some (omega arith) (ltb-true a b e)
    go true (Some (If c n m)) e = k.some (omega arith) (ltb-true a b e)
    go true (Some (While c n)) e = k.some (omega arith) (ltb-true a b e)
    go true (Some (Bundle n)) e = k.some (omega arith) (ltb-true a b e)
    go true (Some (Call c)) e = k.some (omega arith) (ltb-true a b e)

-- Lists of successors.
pub written-append : (xs ys : List Successors) (w : List ℕ) → written (xs ++ ys) w ≡ written ys (written xs w)
unfolding written
written-append [] ys w = refl
written-append (x ∷ xs) ys w = written-append xs ys (put w x)

pub length-put : (w : List ℕ) (l : Successors) → length (put w l) ≡ length w
unfolding put
length-put w l = simp length-set

pub length-written : (ls : List Successors) (w : List ℕ) → length (written ls w) ≡ length w
unfolding written
length-written [] w = refl
length-written (l ∷ ls) w = length-written ls (put w l) ∙ length-put w l

-- The statements of a bundle.
pub lead-some : (a n after : ℕ) → 0 < n → a ≡ lead a n after
unfolding lead
lead-some a zero after p = absurd (omega arith)
lead-some a (suc n) after p = refl

pub lead-none : (a n after : ℕ) → n ≤ 0 → after ≡ lead a n after
unfolding lead
lead-none a zero after p = refl
lead-none a (suc n) after p = absurd (omega arith)

pub line-none : (a n after : ℕ) (w : List ℕ) → n ≤ 0 → written (line a n after) w ≡ w
unfolding line written
line-none a zero after w p = refl
line-none a (suc n) after w p = absurd (omega arith)

pub line-some : (a n after q : ℕ) (w v : List ℕ) → 0 < n → q ≡ lead (a + 1) (n - 1) after → v ≡ put w (successors a q q)
    → written (line a n after) w ≡ written (line (a + 1) (n - 1) after) v
unfolding line written
line-some a zero after q w v p e i = absurd (omega arith)
line-some a (suc n) after q w v p e i = rw (i, e, sub-one)

-- The simple statements that a bundle's node holds.
pub simples-none : (n : ℕ) (T : List ℤ) (h : Sections) (a : ℕ) {x k : ℕ} → n ≤ 0 → x ≡ k + length (simples n T h a) → x ≡ k
unfolding simples
simples-none zero T h a p e = omega arith
simples-none (suc n) T h a p e = absurd (omega arith)

pub simples-some : (n : ℕ) (T : List ℤ) (h : Sections) (a : ℕ) (s : Option Statement) → 0 < n → statement_at T h a ≡ s
    → simples n T h a ≡ simples_from s (simples (n - 1) T h (a + 1))
unfolding simples
simples-some zero T h a s p e = absurd (omega arith)
simples-some (suc n) T h a s p e = rw (e, sub-one)

module _ (n : ℕ) (T : List ℤ) (h : Sections) (a : ℕ) (some : 0 < n) where
  pub simples-unread : statement_at T h a ≡ None → length (simples n T h a) ≡ 0
  simples-unread e = ap length (simples-some n T h a _ some e)

  pub simples-plain : (s : Simple) → statement_at T h a ≡ Some (Plain s) → length (simples n T h a) ≡ 1 + length (simples (n - 1) T h (a + 1))
  simples-plain s e =
      let q : length (simples n T h a) ≡ suc (length (simples (n - 1) T h (a + 1))) = ap length (simples-some n T h a _ some e) in
      omega arith

  pub simples-other : (s : Statement) → ((p : Simple) → s ≡ Plain p → ⊥) → statement_at T h a ≡ Some s → length (simples n T h a) ≡ 0
  simples-other (Plain p) q e = absurd (q p refl)
  simples-other (If c k m) q e = ap length (simples-some n T h a _ some e)
  simples-other (While c k) q e = ap length (simples-some n T h a _ some e)
  simples-other (Bundle k) q e = ap length (simples-some n T h a _ some e)
  simples-other (Call k) q e = ap length (simples-some n T h a _ some e)

-- They are statements of the table.
pub simples-within : (n : ℕ) (T : List ℤ) (h : Sections) (a : ℕ) → a ≤ h.statements → a + length (simples n T h a) ≤ h.statements
unfolding simples
simples-within zero T h a p = omega arith
simples-within (suc n) T h a p = go (statement_at T h a) refl (λ q. simples-within n T h (a + 1) q)
  where
    go : (s : Option Statement) → statement_at T h a ≡ s → (a + 1 ≤ h.statements → a + 1 + length (simples n T h (a + 1)) ≤ h.statements)
        → a + length (simples_from s (simples n T h (a + 1))) ≤ h.statements
    go None e i = omega arith
    go (Some (Plain s)) e i = let q : a + 1 ≤ h.statements = omega (arith, read-within T h a _ e) in omega (arith, i q)
    go (Some (If c k m)) e i = omega arith
    go (Some (While c k)) e i = omega arith
    go (Some (Bundle k)) e i = omega arith
    go (Some (Call k)) e i = omega arith

-- One statement's node, by what the code has at hand.
module _ (r : Block) (a after : ℕ) (w : List ℕ) where
  plain-written : (s : Simple) (q : ℕ) (v : List ℕ) → q ≡ entry r after → v ≡ put w (successors a q q)
      → written (flow (plain a s r) after) w ≡ written (flow r after) v
  unfolding flow written
  plain-written s q v i e = rw (e, i)

  call-written : (c : CallSite) (q : ℕ) (v : List ℕ) → q ≡ entry r after → v ≡ put w (successors a q q)
      → written (flow (call a c r) after) w ≡ written (flow r after) v
  unfolding flow written
  call-written c q v i e = rw (e, i)

  branch-written : (c : Condition) (t e : Block) (q x y : ℕ) (w₁ w₂ w₃ : List ℕ) → q ≡ entry r after → x ≡ entry t q → y ≡ entry e q
      → w₁ ≡ put w (successors a x y) → w₂ ≡ written (flow t q) w₁ → w₃ ≡ written (flow e q) w₂
      → written (flow (branch a c t e r) after) w ≡ written (flow r after) w₃
  unfolding flow written
  branch-written c t e q x y w₁ w₂ w₃ i j k e₁ e₂ e₃ =
      rw (e₃, e₂, e₁, k, j, i)
      (written-append (flow t (entry r after)) _ _ ∙ written-append (flow e (entry r after)) (flow r after) _)

  loop-written : (c : Condition) (t : Block) (x y : ℕ) (w₁ w₂ : List ℕ) → x ≡ entry t a → y ≡ entry r after
      → w₁ ≡ put w (successors a x y) → w₂ ≡ written (flow t a) w₁
      → written (flow (loop a c t r) after) w ≡ written (flow r after) w₂
  unfolding flow written
  loop-written c t x y w₁ w₂ i j e₁ e₂ = rw (e₂, e₁, i, j) (written-append (flow t a) (flow r after) _)

  bundle_written : (ss : List Simple) (k q x : ℕ) (w₁ w₂ : List ℕ) → k ≡ length ss → q ≡ entry r after → x ≡ lead (a + 1) k q
      → w₁ ≡ put w (successors a x x) → w₂ ≡ written (line (a + 1) k q) w₁
      → written (flow (bundle a ss r) after) w ≡ written (flow r after) w₂
  unfolding flow written
  bundle_written ss k q x w₁ w₂ z i j e₁ e₂ = rw (e₂, e₁, j, i, z) (written-append (line (a + 1) (length ss) (entry r after)) (flow r after) _)

-- The loop's invariant: writing what is left of the block into `w` is writing the whole, which gives `v`.
pub record Kept (T : List ℤ) (h : Sections) (end allowed after : ℕ) (v : List ℕ) (n at left : ℕ) (w : List ℕ) : Type 0 where
  pub same : v ≡ written (flow (parse left T h at end) after) w
  pub less : left ≤ allowed
  pub long : length w ≡ n

module _ {T : List ℤ} {h : Sections} {end allowed after : ℕ} {v : List ℕ} {n at left : ℕ} {w : List ℕ}
    (k : Kept T h end allowed after v n at left w) where
  pub link-none : left ≤ 0 → w ≡ v
  unfolding flow written
  link-none p = sym (k.same ∙ rw (parse-none left T h at end p))

  pub link-end : end ≤ at → w ≡ v
  unfolding flow written
  link-end p = sym (k.same ∙ rw (parse-end left T h at end p))

  pub link-unread : 0 < left → at < end → statement_at T h at ≡ None → w ≡ v
  unfolding flow written
  link-unread some within e = sym (k.same ∙ rw (parse-some left T h at end _ some within e))

-- A turn of the loop, once its statement is read.
pub record Turn (T : List ℤ) (h : Sections) (end allowed after : ℕ) (v : List ℕ) (n at left : ℕ) (w : List ℕ) (s : Statement) : Type 0 where
  pub so_far : Kept T h end allowed after v n at left w
  pub some : 0 < left
  pub within : at < end
  pub read : statement_at T h at ≡ Some s
  pub room : 2 * h.statements ≤ n

module _ {T : List ℤ} {h : Sections} {end allowed after : ℕ} {v : List ℕ} {n at left : ℕ} {w : List ℕ} where
  pub arm : {s r : Statement} → Turn T h end allowed after v n at left w s → s ≡ r → Turn T h end allowed after v n at left w r
  arm u e = rw e at u

  -- The statement is one of the table, and its two entries are in the slice.
  pub placed : {s : Statement} → Turn T h end allowed after v n at left w s → (at < h.statements) × (2 * at + 1 < length w)
  placed u = let p = read-within T h at _ u.read in (p, omega (arith, u.room, u.so_far.long))

  pub falls : {s : Statement} {t : ℕ} → Turn T h end allowed after v n at left w s → allowed ≡ t → left - 1 < t
  falls u e = omega (arith, u.some, u.so_far.less)

  here : (s : Statement) → Turn T h end allowed after v n at left w s
      → v ≡ written (flow (node true (Some s) (λ x y. parse (left - 1) T h x y) T h at end) after) w
  here s u =
      u.so_far.same
      ∙ ap (λ (b : Block). written (flow b after) w) (parse-some left T h at end _ u.some u.within u.read)

  fewer : {s : Statement} → Turn T h end allowed after v n at left w s → left - 1 ≤ allowed
  fewer u = omega (arith, u.so_far.less)

  -- The slice stays as long, after the statement's own entries and after a nested block's.
  pub room-put : {s : Statement} {w₁ : List ℕ} → Turn T h end allowed after v n at left w s → (l : Successors) → w₁ ≡ put w l → 2 * h.statements ≤ length w₁
  room-put u l e = omega (arith, u.room, ap length e ∙ (length-put w l ∙ u.so_far.long))

  pub room-if : {c : Condition} {k m : ℕ} {w₁ w₂ : List ℕ} → Turn T h end allowed after v n at left w (If c k m) → (x y q : ℕ)
      → w₁ ≡ put w (successors at x y) → w₂ ≡ written (flow (parse (left - 1) T h (at + 1) (at + 1 + k)) q) w₁ → 2 * h.statements ≤ length w₂
  room-if {c} {k} {m} {w₁} u x y q e₁ e₂ = omega (arith, room-put u (successors at x y) e₁, ap length e₂ ∙ length-written _ w₁)

  pub room-bundle : {k m : ℕ} {w₁ : List ℕ} → Turn T h end allowed after v n at left w (Bundle k) → m ≡ length (simples k T h (at + 1))
      → (l : Successors) → w₁ ≡ put w l → 2 * (at + 1 + m) ≤ length w₁
  room-bundle {k} u z l e = omega (arith, room-put u l e, z, (placed u).0, simples-within k T h (at + 1) (omega (arith, (placed u).0)))

  pub link-plain : {p : Simple} {q : ℕ} {w₁ : List ℕ} → Turn T h end allowed after v n at left w (Plain p)
      → FirstDue (left - 1) (at + 1) end after q → w₁ ≡ put w (successors at q q)
      → Kept T h end allowed after v n (at + 1) (left - 1) w₁
  link-plain {p} {q} {w₁} u i e = record {
    same = here (Plain p) u ∙ plain-written _ at after w p q w₁ (begins _ T h _ _ i) e;
    less = fewer u;
    long = ap length e ∙ (length-put w _ ∙ u.so_far.long);
  }

  pub link-call : {c : CallSite} {q : ℕ} {w₁ : List ℕ} → Turn T h end allowed after v n at left w (Call c)
      → FirstDue (left - 1) (at + 1) end after q → w₁ ≡ put w (successors at q q)
      → Kept T h end allowed after v n (at + 1) (left - 1) w₁
  link-call {c} {q} {w₁} u i e = record {
    same = here (Call c) u ∙ call-written _ at after w c q w₁ (begins _ T h _ _ i) e;
    less = fewer u;
    long = ap length e ∙ (length-put w _ ∙ u.so_far.long);
  }

  pub link-if : {c : Condition} {k m q x y : ℕ} {w₁ w₂ w₃ : List ℕ} → Turn T h end allowed after v n at left w (If c k m)
      → FirstDue (left - 1) (at + 1 + k + m) end after q
      → FirstDue (left - 1) (at + 1) (at + 1 + k) q x
      → FirstDue (left - 1) (at + 1 + k) (at + 1 + k + m) q y
      → w₁ ≡ put w (successors at x y) → w₂ ≡ written (flow (parse (left - 1) T h (at + 1) (at + 1 + k)) q) w₁
      → w₃ ≡ written (flow (parse (left - 1) T h (at + 1 + k) (at + 1 + k + m)) q) w₂
      → Kept T h end allowed after v n (at + 1 + k + m) (left - 1) w₃
  link-if {c} {k} {m} {q} {x} {y} {w₁} {w₂} {w₃} u i j z e₁ e₂ e₃ = record {
    same = here (If c k m) u ∙ branch-written _ at after w c _ _ q x y w₁ w₂ w₃ (begins _ T h _ _ i) (begins _ T h _ _ j) (begins _ T h _ _ z) e₁ e₂ e₃;
    less = fewer u;
    long = ap length e₃ ∙ (length-written _ w₂ ∙ (ap length e₂ ∙ (length-written _ w₁ ∙ (ap length e₁ ∙ (length-put w _ ∙ u.so_far.long)))));
  }

  pub link-while : {c : Condition} {k x y : ℕ} {w₁ w₂ : List ℕ} → Turn T h end allowed after v n at left w (While c k)
      → FirstDue (left - 1) (at + 1) (at + 1 + k) at x → FirstDue (left - 1) (at + 1 + k) end after y
      → w₁ ≡ put w (successors at x y) → w₂ ≡ written (flow (parse (left - 1) T h (at + 1) (at + 1 + k)) at) w₁
      → Kept T h end allowed after v n (at + 1 + k) (left - 1) w₂
  link-while {c} {k} {x} {y} {w₁} {w₂} u i j e₁ e₂ = record {
    same = here (While c k) u ∙ loop-written _ at after w c _ x y w₁ w₂ (begins _ T h _ _ i) (begins _ T h _ _ j) e₁ e₂;
    less = fewer u;
    long = ap length e₂ ∙ (length-written _ w₁ ∙ (ap length e₁ ∙ (length-put w _ ∙ u.so_far.long)));
  }

  pub link-bundle : {k m q x : ℕ} {w₁ w₂ : List ℕ} → Turn T h end allowed after v n at left w (Bundle k) → m ≡ length (simples k T h (at + 1))
      → FirstDue (left - 1) (at + 1 + k) end after q → x ≡ lead (at + 1) m q
      → w₁ ≡ put w (successors at x x) → w₂ ≡ written (line (at + 1) m q) w₁
      → Kept T h end allowed after v n (at + 1 + k) (left - 1) w₂
  link-bundle {k} {m} {q} {x} {w₁} {w₂} u z i j e₁ e₂ = record {
    same = here (Bundle k) u ∙ bundle_written _ at after w _ m q x w₁ w₂ z (begins _ T h _ _ i) j e₁ e₂;
    less = fewer u;
    long = ap length e₂ ∙ (length-written _ w₁ ∙ (ap length e₁ ∙ (length-put w _ ∙ u.so_far.long)));
  }

-- The whole table.
pub too_short : (T : List ℤ) (h : Sections) (w : List ℕ) → length w < 2 * h.statements → Written T h w false w
too_short T h w p = record { fits = sym (lt-leb _ _ p); entries = rw (lt-leb _ _ p) }

pub long-enough : (T : List ℤ) (h : Sections) (w v : List ℕ) → 2 * h.statements ≤ length w
    → v ≡ written (flow (parse h.statements T h 0 h.statements) h.statements) w → Written T h w true v
unfolding table_flow tree
long-enough T h w v p e = record { fits = sym (le-leb _ _ p); entries = rw (le-leb _ _ p) e }
