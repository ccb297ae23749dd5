-- The words of the report after a walk: each statement's bit says whether it is an access that is shown safe in the state before it.
use Rattle.statements.specs.declared.Statement.{Statement}
use Prim.Native.Nat.{ℕ, ◌+◌, ◌/◌, ◌≤◌, ◌<◌}
use Rattle.std.specs.Prelude.{◌≡◌, ◌≢◌, ◌⊎◌, Bool, cond, ltb, ℤ, Option}
use Rattle.std.proofs.Math.Path.{refl, sym}
use Rattle.std.proofs.Common.{ap, ◌∙◌, inl, inr, arith, eq-or-lt_of_le}
use Rattle.std.proofs.Math.Logic.{⊎_elim}
use Rattle.std.proofs.Math.Bool.{true, false}
use mathlib.Core.List.{List, [], ◌∷◌}
use borrow.Author.Tests.{eqb-true, eqb-false, eq-eqb, ne_eqb, ltb-true, ltb-false, lt-ltb, le-ltb}
use Rattle.std.proofs.Math.Dec.{eqb}
use Rattle.std.proofs.Math.ListN.{length, length-set}
use Rattle.facts.specs.declared.FactSet.{FactSet}
use Rattle.words.specs.declared.sections.Sections.{Sections}
use Rattle.conditions.specs.Conditions.{negated_of}
use Rattle.statements.specs.Statements.{statement_at}
use Rattle.statements.specs.declared.Simple.{Simple}
use Rattle.statements.specs.declared.Statement.TheVariants.{Plain}
use Rattle.blocks.specs.Tree.{Block, nil, plain, branch, loop, bundle, call, unread, assigned}
use Rattle.blocks.specs.Shape.{size, Numbered, ReadsLine, Reads}
use Rattle.listed.specs.Entries.{entries_of}
use Rattle.reports.specs.Reports.{marked, marked_if, reported}
use Rattle.reports.specs.ReportLaws.{mark-same, mark-other}
use Rattle.rules.specs.FactSets.{State}
use Rattle.rules.specs.Stored.{store, state_after, called_state, assumed, at_head, safe_in, sides_joined, bundle_after, block_after}
use Rattle.rules.specs.StateBefore.{line_before, state_before}
use Rattle.rules.specs.Report.{read_safe}
use Rattle.rules.specs.declared.Environment.{Environment}
use Rattle.bundles.specs.Bundles.{line_marks}
use Rattle.checker.specs.Walk.{block_marks}

-- ---- one mark

-- d is none of the n numbers from lo on.
pub data Outside (lo n d : ℕ) : Type 0 where
  under : d < lo → Outside lo n d
  over : lo + n ≤ d → Outside lo n d

part : {lo n a k d : ℕ} → Outside lo n d → lo ≤ a → a + k ≤ lo + n → Outside a k d
part (under x) p q = under (omega arith)
part (over x) p q = over (omega arith)

away : {lo n a d : ℕ} → Outside lo n d → a ≡ lo → 1 ≤ n → d ≢ a
away (under x) p q e = omega arith
away (over x) p q e = omega arith

after-head : {a d : ℕ} → a ≤ d → d ≢ a → a < d
after-head {a} {d} x q = ⊎_elim (λ (i : a ≡ d). absurd (q (sym i))) (λ (i : a < d). i) (eq-or-lt_of_le x)

module _ (M : List ℕ) (long : length M ≡ 32) (a : ℕ) (small : a < 1024) where
  marked-long : (b : Bool) → length (marked_if b M a) ≡ 32
  unfolding marked_if marked
  marked-long true = length-set M _ _ ∙ long
  marked-long false = long

  marked_other : (b : Bool) (d : ℕ) → d ≢ a → reported (marked_if b M a) d ≡ reported M d
  unfolding marked_if
  marked_other true d e = mark-other M a d (omega arith) e
  marked_other false d e = refl

  marked-same : (b : Bool) → reported M a ≡ false → reported (marked_if b M a) a ≡ b
  unfolding marked_if
  marked-same true e = mark-same M a (omega arith)
  marked-same false e = e

-- ---- a bundle

module _ (T : List ℤ) (h : Sections) (E : Environment) where
  line-long : (a : ℕ) (ss : List Simple) (w : State FactSet) (M : List ℕ) → length M ≡ 32 → a + length ss ≤ 1024 → length (line_marks E a ss w M) ≡ 32
  unfolding line_marks
  line-long a [] w M l n = l
  line-long a (s ∷ ss) w M l n =
      line-long (a + 1) ss (state_after s w) (marked_if (safe_in E w s) M a) (marked-long M l a (omega arith) (safe_in E w s)) (omega arith)

  line-outside : (a : ℕ) (ss : List Simple) (w : State FactSet) (M : List ℕ) → length M ≡ 32 → a + length ss ≤ 1024 → (d : ℕ) → Outside a (length ss) d
      → reported (line_marks E a ss w M) d ≡ reported M d
  unfolding line_marks
  line-outside a [] w M l n d o = refl
  line-outside a (s ∷ ss) w M l n d o =
      line-outside (a + 1) ss (state_after s w) (marked_if (safe_in E w s) M a) (marked-long M l a (omega arith) (safe_in E w s)) (omega arith) d (part o
      (omega arith) (omega arith))
      ∙ marked_other M l a (omega arith) (safe_in E w s) d (away o refl (omega arith))

  line-inside : (a : ℕ) (ss : List Simple) (w : State FactSet) (M : List ℕ) → length M ≡ 32 → a + length ss ≤ 1024 → ReadsLine T h a ss
      → (d : ℕ) → a ≤ d → d < a + length ss → reported M d ≡ false
      → reported (line_marks E a ss w M) d ≡ read_safe store E (statement_at T h d) (line_before store a ss w d)
  unfolding line_marks line_before
  line-inside a [] w M l n r d x y z = absurd (omega arith)
  line-inside a (s ∷ ss) w M l n r d x y z = go (eqb d a) refl
      (λ u v. line-inside (a + 1) ss (state_after s w) (marked_if (safe_in E w s) M a) (marked-long M l a (omega arith) (safe_in E w s)) (omega arith) r.1 d
      (omega arith) (omega arith) v)
    where
      go : (b : Bool) → eqb d a ≡ b
          → (a < d → reported (marked_if (safe_in E w s) M a) d ≡ false → reported (line_marks E (a + 1) ss (state_after s w) (marked_if (safe_in E w s) M a)) d
          ≡ read_safe store E (statement_at T h d) (line_before store (a + 1) ss (state_after s w) d))
          → reported (line_marks E (a + 1) ss (state_after s w) (marked_if (safe_in E w s) M a)) d
          ≡ read_safe store E (statement_at T h d) (cond b w (line_before store (a + 1) ss (state_after s w) d))
      go true e ih =
          let q : d ≡ a = eqb-true d a e in
          let f : reported M a ≡ false = rw q at z in
          line-outside (a + 1) ss (state_after s w) (marked_if (safe_in E w s) M a) (marked-long M l a (omega arith) (safe_in E w s)) (omega arith) d (under
          (omega arith))
          ∙ (rw q (marked-same M l a (omega arith) (safe_in E w s) f)
          ∙ sym (ap (λ (k : Option Statement). read_safe store E k w) (ap (statement_at T h) q ∙ r.0)))
      go false e ih =
          let q : d ≢ a = eqb-false d a e in
          let less : a < d = ⊎_elim (λ (i : a ≡ d). absurd (q (sym i))) (λ (i : a < d). i) (eq-or-lt_of_le x) in
          ih less (marked_other M l a (omega arith) (safe_in E w s) d q ∙ z)

-- ---- a block

module _ (T : List ℤ) (h : Sections) (E : Environment) (L : List ℤ) where
  block-long : (b : Block) (lo : ℕ) (w : State FactSet) (M : List ℕ) → Numbered b lo → length M ≡ 32 → lo + size b ≤ 1024 → length (block_marks E L b w M) ≡ 32
  unfolding block_marks size
  block-long nil lo w M n l k = l
  block-long (plain a s r) lo w M n l k =
      block-long r (a + 1) _ _ n.1 (marked-long M l a (omega (arith, n.0)) (safe_in E w s)) (omega (arith, n.0))
  block-long (branch a c t e r) lo w M n l k =
      let p = block-long t (a + 1) (assumed w c) M n.1 l (omega (arith, n.0)) in
      let q = block-long e (a + 1 + size t) (assumed w (negated_of c)) _ n.2 p (omega (arith, n.0)) in
      block-long r (a + 1 + size t + size e) _ _ n.3 q (omega (arith, n.0))
  block-long (loop a c t r) lo w M n l k =
      let p = block-long t (a + 1) (assumed (at_head (entries_of L a) (assigned t) w) c) M n.1 l (omega (arith, n.0)) in
      block-long r (a + 1 + size t) _ _ n.2 p (omega (arith, n.0))
  block-long (bundle a ss r) lo w M n l k =
      block-long r (a + 1 + length ss) _ _ n.1 (line-long T h E (a + 1) ss w M l (omega (arith, n.0))) (omega (arith, n.0))
  block-long (call a c r) lo w M n l k = block-long r (a + 1) _ M n.1 l (omega (arith, n.0))
  block-long (unread a) lo w M n l k = l

  pub block-outside : (b : Block) (lo : ℕ) (w : State FactSet) (M : List ℕ) → Numbered b lo → length M ≡ 32 → lo + size b ≤ 1024 → (d : ℕ) → Outside lo
      (size b) d
      → reported (block_marks E L b w M) d ≡ reported M d
  unfolding block_marks size
  block-outside nil lo w M n l k d o = refl
  block-outside (plain a s r) lo w M n l k d o =
      block-outside r (a + 1) _ _ n.1 (marked-long M l a (omega (arith, n.0)) (safe_in E w s)) (omega (arith, n.0)) d
      (part o (omega (arith, n.0)) (omega (arith, n.0)))
      ∙ marked_other M l a (omega (arith, n.0)) (safe_in E w s) d (away o n.0 (omega arith))
  block-outside (branch a c t e r) lo w M n l k d o =
      let p = block-long t (a + 1) (assumed w c) M n.1 l (omega (arith, n.0)) in
      let q = block-long e (a + 1 + size t) (assumed w (negated_of c)) _ n.2 p (omega (arith, n.0)) in
      block-outside r (a + 1 + size t + size e) _ _ n.3 q (omega (arith, n.0)) d (part o (omega (arith, n.0)) (omega (arith, n.0)))
      ∙ (block-outside e (a + 1 + size t) _ _ n.2 p (omega (arith, n.0)) d (part o (omega (arith, n.0)) (omega (arith, n.0)))
      ∙ block-outside t (a + 1) _ _ n.1 l (omega (arith, n.0)) d (part o (omega (arith, n.0)) (omega (arith, n.0))))
  block-outside (loop a c t r) lo w M n l k d o =
      let p = block-long t (a + 1) (assumed (at_head (entries_of L a) (assigned t) w) c) M n.1 l (omega (arith, n.0)) in
      block-outside r (a + 1 + size t) _ _ n.2 p (omega (arith, n.0)) d (part o (omega (arith, n.0)) (omega (arith, n.0)))
      ∙ block-outside t (a + 1) _ _ n.1 l (omega (arith, n.0)) d (part o (omega (arith, n.0)) (omega (arith, n.0)))
  block-outside (bundle a ss r) lo w M n l k d o =
      block-outside r (a + 1 + length ss) _ _ n.1 (line-long T h E (a + 1) ss w M l (omega (arith, n.0))) (omega (arith, n.0)) d
      (part o (omega (arith, n.0)) (omega (arith, n.0)))
      ∙ line-outside T h E (a + 1) ss w M l (omega (arith, n.0)) d (part o (omega (arith, n.0)) (omega (arith, n.0)))
  block-outside (call a c r) lo w M n l k d o = block-outside r (a + 1) _ M n.1 l (omega (arith, n.0)) d
      (part o (omega (arith, n.0)) (omega (arith, n.0)))
  block-outside (unread a) lo w M n l k d o = refl

  -- A head of a block, or a call, is no access.
  head-unsafe : (d a : ℕ) (k : Option Statement) (w : State FactSet) → d ≡ a → statement_at T h a ≡ k → read_safe store E k w ≡ false
      → read_safe store E (statement_at T h d) w ≡ false
  head-unsafe d a k w q r e = ap (λ (x : Option Statement). read_safe store E x w) (ap (statement_at T h) q ∙ r) ∙ e

  abbrev Inside : Block → State FactSet → List ℕ → ℕ → Type 0
  Inside b w M d = reported (block_marks E L b w M) d ≡ read_safe store E (statement_at T h d) (state_before store E L b w d)

  pub block_inside : (b : Block) (lo : ℕ) (w : State FactSet) (M : List ℕ) → Numbered b lo → Reads T h b → length M ≡ 32 → lo + size b ≤ 1024
      → (d : ℕ) → lo ≤ d → d < lo + size b → reported M d ≡ false → Inside b w M d
  unfolding block_marks size state_before
  block_inside nil lo w M n r l k d x y z = absurd (omega arith)
  block_inside (plain a s u) lo w M n r l k d x y z = go (eqb d a) refl
      (λ i v. block_inside u (a + 1) _ _ n.1 r.1 (marked-long M l a (omega (arith, n.0)) (safe_in E w s)) (omega (arith, n.0)) d (omega arith)
      (omega (arith, n.0)) v)
    where
      m : List ℕ
      m = marked_if (safe_in E w s) M a

      go : (b : Bool) → eqb d a ≡ b → (a < d → reported m d ≡ false → Inside u (state_after s w) m d)
          → reported (block_marks E L u (state_after s w) m) d
          ≡ read_safe store E (statement_at T h d) (cond b w (state_before store E L u (state_after s w) d))
      go true e ih =
          let q : d ≡ a = eqb-true d a e in
          let f : reported M a ≡ false = rw q at z in
          block-outside u (a + 1) _ _ n.1 (marked-long M l a (omega (arith, n.0)) (safe_in E w s)) (omega (arith, n.0)) d (under (omega arith))
          ∙ (rw q (marked-same M l a (omega (arith, n.0)) (safe_in E w s) f)
          ∙ sym (ap (λ (j : Option Statement). read_safe store E j w) (ap (statement_at T h) q ∙ r.0)))
      go false e ih =
          let q : d ≢ a = eqb-false d a e in
          ih (after-head (omega (arith, n.0)) q) (marked_other M l a (omega (arith, n.0)) (safe_in E w s) d q ∙ z)
  block_inside (branch a c t e u) lo w M n r l k d x y z =
      go (eqb d a) refl (ltb d (a + 1 + size t)) refl (ltb d (a + 1 + size t + size e)) refl
      (λ i j. block_inside t (a + 1) (assumed w c) M n.1 r.1 l (omega (arith, n.0)) d (omega arith) j z)
      (λ i j. block_inside e (a + 1 + size t) (assumed w (negated_of c)) m₁ n.2 r.2 p (omega (arith, n.0)) d i j (outside-t (over i) ∙ z))
      (λ i. block_inside u (a + 1 + size t + size e) _ m₂ n.3 r.3 q (omega (arith, n.0)) d i (omega (arith, n.0)) (outside-e (over i) ∙ (outside-t
      (over (omega arith)) ∙ z)))
    where
      m₁ : List ℕ
      m₁ = block_marks E L t (assumed w c) M

      m₂ : List ℕ
      m₂ = block_marks E L e (assumed w (negated_of c)) m₁

      v : State FactSet
      v = sides_joined E (block_after E L t (assumed w c)) (block_after E L e (assumed w (negated_of c)))

      p : length m₁ ≡ 32
      p = block-long t (a + 1) (assumed w c) M n.1 l (omega (arith, n.0))

      q : length m₂ ≡ 32
      q = block-long e (a + 1 + size t) (assumed w (negated_of c)) m₁ n.2 p (omega (arith, n.0))

      outside-t : Outside (a + 1) (size t) d → reported m₁ d ≡ reported M d
      outside-t o = block-outside t (a + 1) (assumed w c) M n.1 l (omega (arith, n.0)) d o

      outside-e : Outside (a + 1 + size t) (size e) d → reported m₂ d ≡ reported m₁ d
      outside-e o = block-outside e (a + 1 + size t) (assumed w (negated_of c)) m₁ n.2 p (omega (arith, n.0)) d o

      outside-u : d < a + 1 + size t + size e → reported (block_marks E L u v m₂) d ≡ reported m₂ d
      outside-u i = block-outside u (a + 1 + size t + size e) v m₂ n.3 q (omega (arith, n.0)) d (under i)

      go : (b₁ : Bool) → eqb d a ≡ b₁ → (b₂ : Bool) → ltb d (a + 1 + size t) ≡ b₂ → (b₃ : Bool) → ltb d (a + 1 + size t + size e) ≡ b₃
          → (a < d → d < a + 1 + size t → Inside t (assumed w c) M d)
          → (a + 1 + size t ≤ d → d < a + 1 + size t + size e → Inside e (assumed w (negated_of c)) m₁ d)
          → (a + 1 + size t + size e ≤ d → Inside u v m₂ d)
          → reported (block_marks E L u v m₂) d ≡ read_safe store E (statement_at T h d) (cond b₁ w (cond b₂ (state_before store E L t (assumed w c) d)
          (cond b₃ (state_before store E L e (assumed w (negated_of c)) d) (state_before store E L u v d))))
      go true g b₂ g₂ b₃ g₃ f₁ f₂ f₃ =
          let i : d ≡ a = eqb-true d a g in
          outside-u (omega arith) ∙ (outside-e (under (omega arith)) ∙ (outside-t (under (omega arith)) ∙ (z ∙ sym (head-unsafe d a _ w i r.0 refl))))
      go false g true g₂ b₃ g₃ f₁ f₂ f₃ =
          let i : a < d = after-head (omega (arith, n.0)) (eqb-false d a g) in
          let j : d < a + 1 + size t = ltb-true _ _ g₂ in
          outside-u (omega arith) ∙ (outside-e (under j) ∙ f₁ i j)
      go false g false g₂ true g₃ f₁ f₂ f₃ =
          let j : a + 1 + size t ≤ d = ltb-false _ _ g₂ in
          let i : d < a + 1 + size t + size e = ltb-true _ _ g₃ in
          outside-u i ∙ f₂ j i
      go false g false g₂ false g₃ f₁ f₂ f₃ = f₃ (ltb-false _ _ g₃)
  block_inside (loop a c t u) lo w M n r l k d x y z =
      go (eqb d a) refl (ltb d (a + 1 + size t)) refl
      (λ i j. block_inside t (a + 1) (assumed hd c) M n.1 r.1 l (omega (arith, n.0)) d (omega arith) j z)
      (λ i. block_inside u (a + 1 + size t) _ m₁ n.2 r.2 p (omega (arith, n.0)) d i (omega (arith, n.0)) (outside-t (over i) ∙ z))
    where
      hd : State FactSet
      hd = at_head (entries_of L a) (assigned t) w

      m₁ : List ℕ
      m₁ = block_marks E L t (assumed hd c) M

      p : length m₁ ≡ 32
      p = block-long t (a + 1) (assumed hd c) M n.1 l (omega (arith, n.0))

      outside-t : Outside (a + 1) (size t) d → reported m₁ d ≡ reported M d
      outside-t o = block-outside t (a + 1) (assumed hd c) M n.1 l (omega (arith, n.0)) d o

      outside-u : d < a + 1 + size t → reported (block_marks E L u (assumed hd (negated_of c)) m₁) d ≡ reported m₁ d
      outside-u i = block-outside u (a + 1 + size t) (assumed hd (negated_of c)) m₁ n.2 p (omega (arith, n.0)) d (under i)

      go : (b₁ : Bool) → eqb d a ≡ b₁ → (b₂ : Bool) → ltb d (a + 1 + size t) ≡ b₂
          → (a < d → d < a + 1 + size t → Inside t (assumed hd c) M d)
          → (a + 1 + size t ≤ d → Inside u (assumed hd (negated_of c)) m₁ d)
          → reported (block_marks E L u (assumed hd (negated_of c)) m₁) d ≡ read_safe store E (statement_at T h d) (cond b₁ w
          (cond b₂ (state_before store E L t (assumed hd c) d) (state_before store E L u (assumed hd (negated_of c)) d)))
      go true g b₂ g₂ f₁ f₂ =
          let i : d ≡ a = eqb-true d a g in
          outside-u (omega arith) ∙ (outside-t (under (omega arith)) ∙ (z ∙ sym (head-unsafe d a _ w i r.0 refl)))
      go false g true g₂ f₁ f₂ =
          let j : d < a + 1 + size t = ltb-true _ _ g₂ in
          outside-u j ∙ f₁ (after-head (omega (arith, n.0)) (eqb-false d a g)) j
      go false g false g₂ f₁ f₂ = f₂ (ltb-false _ _ g₂)
  block_inside (bundle a ss u) lo w M n r l k d x y z =
      go (eqb d a) refl (ltb d (a + 1 + length ss)) refl
      (λ i. block_inside u (a + 1 + length ss) _ m₁ n.1 r.2 p (omega (arith, n.0)) d i (omega (arith, n.0)) (outside-l (over i) ∙ z))
    where
      m₁ : List ℕ
      m₁ = line_marks E (a + 1) ss w M

      p : length m₁ ≡ 32
      p = line-long T h E (a + 1) ss w M l (omega (arith, n.0))

      outside-l : Outside (a + 1) (length ss) d → reported m₁ d ≡ reported M d
      outside-l o = line-outside T h E (a + 1) ss w M l (omega (arith, n.0)) d o

      outside-u : d < a + 1 + length ss → reported (block_marks E L u (bundle_after ss w) m₁) d ≡ reported m₁ d
      outside-u i = block-outside u (a + 1 + length ss) (bundle_after ss w) m₁ n.1 p (omega (arith, n.0)) d (under i)

      go : (b₁ : Bool) → eqb d a ≡ b₁ → (b₂ : Bool) → ltb d (a + 1 + length ss) ≡ b₂
          → (a + 1 + length ss ≤ d → Inside u (bundle_after ss w) m₁ d)
          → reported (block_marks E L u (bundle_after ss w) m₁) d ≡ read_safe store E (statement_at T h d) (cond b₁ w
          (cond b₂ (line_before store (a + 1) ss w d) (state_before store E L u (bundle_after ss w) d)))
      go true g b₂ g₂ f₂ =
          let i : d ≡ a = eqb-true d a g in
          outside-u (omega arith) ∙ (outside-l (under (omega arith)) ∙ (z ∙ sym (head-unsafe d a _ w i r.0 refl)))
      go false g true g₂ f₂ =
          let j : d < a + 1 + length ss = ltb-true _ _ g₂ in
          let i : a < d = after-head (omega (arith, n.0)) (eqb-false d a g) in
          outside-u j ∙ line-inside T h E (a + 1) ss w M l (omega (arith, n.0)) r.1 d (omega arith) j z
      go false g false g₂ f₂ = f₂ (ltb-false _ _ g₂)
  block_inside (call a c u) lo w M n r l k d x y z = go (eqb d a) refl
      (λ i. block_inside u (a + 1) (called_state c w) M n.1 r.1 l (omega (arith, n.0)) d (omega arith) (omega (arith, n.0)) z)
    where
      go : (b : Bool) → eqb d a ≡ b → (a < d → Inside u (called_state c w) M d)
          → reported (block_marks E L u (called_state c w) M) d
          ≡ read_safe store E (statement_at T h d) (cond b w (state_before store E L u (called_state c w) d))
      go true e ih =
          let q : d ≡ a = eqb-true d a e in
          block-outside u (a + 1) (called_state c w) M n.1 l (omega (arith, n.0)) d (under (omega arith)) ∙ (z ∙ sym (head-unsafe d a _ w q r.0 refl))
      go false e ih = ih (after-head (omega (arith, n.0)) (eqb-false d a e))
  block_inside (unread a) lo w M n r l k d x y z = absurd n
