-- From one position that is kept to the next.
use Rattle.std.specs.Prelude.{ℕ, ◌+◌, ◌-◌, ◌<◌, ◌≤◌, ◌≡◌, refl, Bool, true, false, ◌||◌, List, ℤ, length, eqb}
use Rattle.std.proofs.Common.{sym, ◌∙◌, ap, arith, eqb-true}
use Rattle.words.specs.declared.sections.Sections.{Sections}
use Rattle.statements.specs.Statements.{statement_at}
use Rattle.blocks.specs.Tree.{Block, nil, plain, branch, loop, bundle, call, unread}
use Rattle.blocks.specs.Shape.{size, Numbered, Laid}
use Rattle.edits.specs.Followed.{followed, laid-followed}
use Rattle.edits.specs.Cuts.{Cut, first, rest, first-laid, rest-laid, span-laid, size-first, top-followed}
use Rattle.edits.specs.TopLevel.{top_level, positions_of, span_of}
use Rattle.edits.specs.TopLevel.{is_in}

-- The statements a to b - 1 are laid out, at the top level.
pub record Stands (T : List ℤ) (h : Sections) (a b : ℕ) : Type 0 where
  pub block : Block
  pub laid : Laid T h 0 a b block

-- r is the next top-level statement behind `at` that is named in K, or the end.
pub record Stop (T : List ℤ) (h : Sections) (K : List ℕ) (at end r : ℕ) : Type 0 where
  pub cut : Cut T h 0 at r end
  pub later : at < r
  pub silent : (x : ℕ) → at < x → top_level cut.front x ≡ true → is_in K x ≡ false

either_true : (x y : Bool) → (x || y) ≡ true → (y ≡ true → ⊥) → x ≡ true
either_true true y e q = refl
either_true false y e q = absurd (q e)

-- The first statement of a block is its only top-level one.
head-only : (x : ℕ) (y : ℕ) → (eqb x y || false) ≡ true → x ≡ y
head-only x y e = eqb-true x y (either_true (eqb x y) false e (λ o. let z : ◌≡◌ {A = ℕ} 0 1 = cc in omega arith))

top-only : (t : Block) (a p : ℕ) → Numbered t a → top_level (first t) p ≡ true → p ≡ a
unfolding top_level positions_of is_in first
top-only nil a p n e = cc
top-only (plain x s r) a p n e = sym (head-only x p e) ∙ n.0
top-only (call x s r) a p n e = sym (head-only x p e) ∙ n.0
top-only (branch x c t o r) a p n e = sym (head-only x p e) ∙ n.0
top-only (loop x c t r) a p n e = sym (head-only x p e) ∙ n.0
top-only (bundle x ss r) a p n e = sym (head-only x p e) ∙ n.0
top-only (unread x) a p n e = absurd n

module _ {T : List ℤ} {h : Sections} (K : List ℕ) {at end : ℕ} where
  pub stop-first : {s : ℕ} → Stands T h at end → at < end → s ≡ span_of (statement_at T h at) → Stop T h K at end (at + s)
  stop-first {s} p q e =
      let z : s ≡ size (first p.block) = e ∙ span-laid p.block p.laid q in
      let o = size-first p.block at p.laid.numbered (omega (arith, p.laid.ends)) in
      rw z (record {
        cut = record {
          front = first p.block;
          back = rest p.block;
          front-laid = first-laid p.block p.laid;
          back-laid = rest-laid p.block p.laid;
        };
        later = omega arith;
        silent = λ x l t. let y = top-only p.block at x p.laid.numbered t in absurd (omega arith);
      })

  pub stop-more : {stop s : ℕ} → Stop T h K at end stop → is_in K stop ≡ false → stop < end → s ≡ span_of (statement_at T h stop) → Stop T h K at end (stop + s)
  stop-more {stop} {s} p f q e =
      let b = p.cut.back in
      let z : s ≡ size (first b) = e ∙ span-laid b p.cut.back-laid q in
      rw z (record {
        cut = record {
          front = followed p.cut.front (first b);
          back = rest b;
          front-laid = laid-followed p.cut.front-laid (first-laid b p.cut.back-laid);
          back-laid = rest-laid b p.cut.back-laid;
        };
        later = omega (arith, p.later);
        silent = λ x l t. go x l (top_level p.cut.front x) refl (sym (top-followed p.cut.front (first b) at x p.cut.front-laid.numbered) ∙ t);
      })
    where
      go : (x : ℕ) → at < x → (y : Bool) → top_level p.cut.front x ≡ y → (y || top_level (first p.cut.back) x) ≡ true → is_in K x ≡ false
      go x l true u t = p.silent x l (u)
      go x l false u t = let z = top-only p.cut.back stop x p.cut.back-laid.numbered t in rw z f
