-- The facts before a statement that is due. What point 11 rests on: they do not contradict, since they are true of some values. What the report of point 9
-- rests on: before a statement that is no head of a block they are true of the values now.
use Rattle.std.specs.Prelude.{ℕ, ◌+◌, ◌≤◌, ◌<◌, false, ℤ, Some}
use Rattle.std.proofs.Math.Path.{◌≡◌, ap}
use Rattle.std.proofs.Common.{◌∙◌, arith}
use Rattle.std.proofs.Math.Logic.{inl, inr}
use mathlib.Core.List.{List, [], ◌∷◌}
use borrow.Author.Tests.{lt-ltb, le-ltb, eq-eqb, ne_eqb}
use Rattle.std.proofs.Math.ListN.{length}
use Rattle.facts.specs.Store.{contradictory}
use Rattle.chains.proofs.Sound.{Holds, holds-clear}
use Rattle.facts.specs.declared.FactSet.{FactSet}
use Rattle.words.specs.declared.sections.Sections.{Sections}
use Rattle.statements.specs.Statements.{statement_at}
use Rattle.statements.specs.declared.Simple.{Simple}
use Rattle.statements.specs.declared.Statement.TheVariants.{Plain, While}
use Rattle.blocks.specs.Tree.{Block, nil, plain, branch, loop, bundle, call, unread}
use Rattle.blocks.specs.Shape.{size, Numbered, Reads}
use Rattle.rules.specs.Stored.{store}
use Rattle.rules.specs.FactSets.{State}
use Rattle.rules.specs.StateBefore.{line_before, state_before}
use Rattle.rules.specs.declared.Bounds.{Bounds}
use Rattle.rules.specs.declared.Environment.{Environment}
use Rattle.machine.specs.Machine.{value, Memory}
use Rattle.machine.specs.Good.{Good}
use Rattle.machine.specs.Places.{AtLine, At}

module _ (T : List ℤ) (h : Sections) (E : Environment) (D : List ℕ) (room : ℕ) (L : List ℤ) where
  -- ---- the statement due is one of the block

  line-range : (a : ℕ) (ss : List Simple) (W : State FactSet) (K : List Bounds) (d : ℕ) (m : Memory) → AtLine h E D room a ss W K d m
      → (a ≤ d) × (d < a + length ss)
  line-range a [] W K d m i = absurd i
  line-range a (s ∷ ss) W K d m (inl i) = (omega (arith, i.0), omega (arith, i.0))
  line-range a (s ∷ ss) W K d m (inr i) = let r = line-range (a + 1) ss _ _ d m i in (omega (arith, r.0), omega (arith, r.1))

  at-range : (b : Block) (lo : ℕ) (W : State FactSet) (d : ℕ) (m : Memory) → Numbered b lo → At h E D room L b W d m → (lo ≤ d) × (d < lo + size b)
  unfolding size
  at-range nil lo W d m n i = absurd i
  at-range (plain a s r) lo W d m n (inl i) = (omega (arith, n.0, i.0), omega (arith, n.0, i.0))
  at-range (plain a s r) lo W d m n (inr i) = let w = at-range r (a + 1) _ d m n.1 i in (omega (arith, n.0, w.0), omega (arith, n.0, w.1))
  at-range (branch a c t e r) lo W d m n (inl i) = (omega (arith, n.0, i.0), omega (arith, n.0, i.0))
  at-range (branch a c t e r) lo W d m n (inr (inl i)) = let w = at-range t (a + 1) _ d m n.1 i in (omega (arith, n.0, w.0), omega (arith, n.0, w.1))
  at-range (branch a c t e r) lo W d m n (inr (inr (inl i))) = let w = at-range e (a + 1 + size t) _ d m n.2 i in
      (omega (arith, n.0, w.0), omega (arith, n.0, w.1))
  at-range (branch a c t e r) lo W d m n (inr (inr (inr i))) =
      let w = at-range r (a + 1 + size t + size e) _ d m n.3 i in
      (omega (arith, n.0, w.0), omega (arith, n.0, w.1))
  at-range (loop a c t r) lo W d m n (inl (w, inl i)) = (omega (arith, n.0, i.0.0), omega (arith, n.0, i.0.0))
  at-range (loop a c t r) lo W d m n (inl (w, inr i)) = let x = at-range t (a + 1) _ d m n.1 i in (omega (arith, n.0, x.0), omega (arith, n.0, x.1))
  at-range (loop a c t r) lo W d m n (inr i) = let w = at-range r (a + 1 + size t) _ d m n.2 i in (omega (arith, n.0, w.0), omega (arith, n.0, w.1))
  at-range (bundle a ss r) lo W d m n (inl i) = (omega (arith, n.0, i.0), omega (arith, n.0, i.0))
  at-range (bundle a ss r) lo W d m n (inr (inl i)) = let w = line-range (a + 1) ss _ _ d m i in (omega (arith, n.0, w.0), omega (arith, n.0, w.1))
  at-range (bundle a ss r) lo W d m n (inr (inr i)) = let w = at-range r (a + 1 + length ss) _ d m n.1 i in
      (omega (arith, n.0, w.0), omega (arith, n.0, w.1))
  at-range (call a s r) lo W d m n (inl i) = (omega (arith, n.0, i.0), omega (arith, n.0, i.0))
  at-range (call a s r) lo W d m n (inr i) = let w = at-range r (a + 1) _ d m n.1 i in (omega (arith, n.0, w.0), omega (arith, n.0, w.1))
  at-range (unread a) lo W d m n i = absurd i

  -- ---- the state before it

  pub record Before (U : State FactSet) (d : ℕ) (m : Memory) : Type 0 where
    pub consistent : contradictory U.facts ≡ false
    pub facts : (s : Simple) → statement_at T h d ≡ Some (Plain s) → Holds U.facts (value m.values)
    pub rows : (s : Simple) → statement_at T h d ≡ Some (Plain s) → m.rows ≡ U.rows

  here : (U : State FactSet) (K : List Bounds) (d : ℕ) (m : Memory) → Good h E D room U K m → Before U d m
  here U K d m g = record { consistent = holds-clear _ _ g.facts; facts = λ s e. g.facts; rows = λ s e. g.rows }

  line-before : (a : ℕ) (ss : List Simple) (W : State FactSet) (K : List Bounds) (d : ℕ) (m : Memory) → AtLine h E D room a ss W K d m
      → Before (line_before store a ss W d) d m
  unfolding line_before
  line-before a [] W K d m i = absurd i
  line-before a (s ∷ ss) W K d m (inl i) = rw (eq-eqb d a i.0) (here _ _ d m i.1)
  line-before a (s ∷ ss) W K d m (inr i) =
      let r = line-range (a + 1) ss _ _ d m i in
      rw (ne_eqb d a (λ (e : d ≡ a). omega (arith, r.0))) (line-before (a + 1) ss _ _ d m i)

  pub before-due : (b : Block) (lo : ℕ) (W : State FactSet) (d : ℕ) (m : Memory) → Numbered b lo → Reads T h b → At h E D room L b W d m
      → Before (state_before store E L b W d) d m
  unfolding state_before
  before-due nil lo W d m n r₀ i = absurd i
  before-due (plain a s r) lo W d m n r₀ (inl i) = rw (eq-eqb d a i.0) (here _ _ d m i.1)
  before-due (plain a s r) lo W d m n r₀ (inr i) =
      let w = at-range r (a + 1) _ d m n.1 i in
      rw (ne_eqb d a (λ (e : d ≡ a). omega (arith, w.0))) (before-due r (a + 1) _ d m n.1 r₀.1 i)
  before-due (branch a c t e r) lo W d m n r₀ (inl i) = rw (eq-eqb d a i.0) (here _ _ d m i.1)
  before-due (branch a c t e r) lo W d m n r₀ (inr (inl i)) =
      let w = at-range t (a + 1) _ d m n.1 i in
      rw (ne_eqb d a (λ (e : d ≡ a). omega (arith, w.0)), lt-ltb d (a + 1 + size t) w.1) (before-due t (a + 1) _ d m n.1 r₀.1 i)
  before-due (branch a c t e r) lo W d m n r₀ (inr (inr (inl i))) =
      let w = at-range e (a + 1 + size t) _ d m n.2 i in
      rw (ne_eqb d a (λ (e : d ≡ a). omega (arith, w.0)), le-ltb d (a + 1 + size t) w.0, lt-ltb d (a + 1 + size t + size e) w.1)
      (before-due e (a + 1 + size t) _ d m n.2 r₀.2 i)
  before-due (branch a c t e r) lo W d m n r₀ (inr (inr (inr i))) =
      let w = at-range r (a + 1 + size t + size e) _ d m n.3 i in
      let l : a + 1 + size t ≤ d = omega (arith, w.0) in
      rw (ne_eqb d a (λ (e : d ≡ a). omega (arith, w.0)), le-ltb d (a + 1 + size t) l, le-ltb d (a + 1 + size t + size e) w.0)
      (before-due r (a + 1 + size t + size e) _ d m n.3 r₀.3 i)
  -- Before a loop the facts were true of some values, though these may be others by now.
  before-due (loop a c t r) lo W d m n r₀ (inl (w, inl i)) =
      let read : statement_at T h d ≡ Some (While c (size t)) = ap (statement_at T h) i.0.0 ∙ r₀.0 in
      rw (eq-eqb d a i.0.0) (record {
        consistent = holds-clear _ _ w.held;
        facts = λ s e. let z : ◌≡◌ {A = ℕ} 0 1 = cc in absurd
            (omega arith);
        rows = λ s e. let z : ◌≡◌ {A = ℕ} 0 1 = cc in absurd (omega arith);
      })
  before-due (loop a c t r) lo W d m n r₀ (inl (w, inr i)) =
      let x = at-range t (a + 1) _ d m n.1 i in
      rw (ne_eqb d a (λ (e : d ≡ a). omega (arith, x.0)), lt-ltb d (a + 1 + size t) x.1) (before-due t (a + 1) _ d m n.1 r₀.1 i)
  before-due (loop a c t r) lo W d m n r₀ (inr i) =
      let w = at-range r (a + 1 + size t) _ d m n.2 i in
      rw (ne_eqb d a (λ (e : d ≡ a). omega (arith, w.0)), le-ltb d (a + 1 + size t) w.0) (before-due r (a + 1 + size t) _ d m n.2 r₀.2 i)
  before-due (bundle a ss r) lo W d m n r₀ (inl i) = rw (eq-eqb d a i.0) (here _ _ d m i.1)
  before-due (bundle a ss r) lo W d m n r₀ (inr (inl i)) =
      let w = line-range (a + 1) ss _ _ d m i in
      rw (ne_eqb d a (λ (e : d ≡ a). omega (arith, w.0)), lt-ltb d (a + 1 + length ss) w.1) (line-before (a + 1) ss W _ d m i)
  before-due (bundle a ss r) lo W d m n r₀ (inr (inr i)) =
      let w = at-range r (a + 1 + length ss) _ d m n.1 i in
      rw (ne_eqb d a (λ (e : d ≡ a). omega (arith, w.0)), le-ltb d (a + 1 + length ss) w.0) (before-due r (a + 1 + length ss) _ d m n.1 r₀.2 i)
  before-due (call a s r) lo W d m n r₀ (inl i) = rw (eq-eqb d a i.0) (here _ _ d m i.1)
  before-due (call a s r) lo W d m n r₀ (inr i) =
      let w = at-range r (a + 1) _ d m n.1 i in
      rw (ne_eqb d a (λ (e : d ≡ a). omega (arith, w.0))) (before-due r (a + 1) _ d m n.1 r₀.1 i)
  before-due (unread a) lo W d m n r₀ i = absurd i
