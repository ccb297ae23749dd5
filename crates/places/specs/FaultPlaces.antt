-- The faults of a block, with no loop facts and of a routine by itself, are at its own statements.
use Prim.Native.Nat.{ℕ, ◌+◌, ◌<◌, ◌≤◌}
use Rattle.std.specs.Prelude.{◌≡◌, refl, Bool, true, false, not}
use Rattle.std.proofs.Common.{sym, ◌∙◌, ap, arith}
use mathlib.Core.List.{List, [], ◌∷◌}
use Rattle.std.proofs.Math.ListN.{length}
use Rattle.answers.specs.Refusals.{place}
use Rattle.answers.specs.declared.refusals.Refusal.{Refusal}
use Rattle.answers.specs.declared.refusals.Refusal.TheVariants.{RowsDiffer, Callee, Arguments}
use Rattle.statements.specs.declared.CallSite.{CallSite}
use Rattle.statements.specs.declared.Simple.{Simple}
use Rattle.blocks.specs.Tree.{Block, nil, plain, branch, loop, bundle, call, unread}
use Rattle.blocks.specs.Layout.{also, when}
use Rattle.blocks.specs.Shape.{size, Numbered}
use Rattle.listed.specs.Entries.{entries_from, entries_of}
use Rattle.listed.specs.declared.Entry.{Entry}
use Rattle.rules.specs.FactSets.{FactSets, State}
use Rattle.rules.specs.declared.Bounds.{Bounds}
use Rattle.rules.specs.Calls.{call_faults}
use Rattle.rules.specs.Rules.{access_at, bounds_at, same_rows, rows_at, entries_unshown, bundle_faults, block_faults}
use Rattle.rules.specs.declared.Environment.{Environment}

-- Every place is at or behind a, and before b.
unfoldable pub Ranged : ℕ → ℕ → List Refusal → Type 0
Ranged a b [] = Unit
Ranged a b (r ∷ rs) = ((a ≤ place r) × (place r < b)) × Ranged a b rs

ranged-none : (a b : ℕ) → Ranged a b []
unfolding Ranged
ranged-none a b = tt

pub ranged-also : (a b : ℕ) (F G : List Refusal) → Ranged a b F → Ranged a b G → Ranged a b (also F G)
unfolding also Ranged
ranged-also a b [] G f g = g
ranged-also a b (r ∷ F) G f g = (f.0, ranged-also a b F G f.1 g)

pub ranged-wide : (a b c d : ℕ) (F : List Refusal) → c ≤ a → b ≤ d → Ranged a b F → Ranged c d F
unfolding Ranged
ranged-wide a b c d [] p q f = tt
ranged-wide a b c d (r ∷ F) p q f = ((omega (arith, f.0.0), omega (arith, f.0.1)), ranged-wide a b c d F p q f.1)

access-ranged : (b : Bool) (a : ℕ) → Ranged a (a + 1) (access_at b a)
unfolding access_at Ranged
access-ranged true a = tt
access-ranged false a = ((omega arith, omega arith), tt)

bounds-ranged : (a : ℕ) (ps : List ℕ) → Ranged a (a + 1) (bounds_at a ps)
unfolding bounds_at Ranged
bounds-ranged a [] = tt
bounds-ranged a (p ∷ ps) = ((omega arith, omega arith), tt)

when-ranged : (b : Bool) (r : Refusal) (a : ℕ) → place r ≡ a → Ranged a (a + 1) (when b r)
unfolding when Ranged
when-ranged true r a e = ((omega arith, omega arith), tt)
when-ranged false r a e = tt

rows-ranged : (a : ℕ) (R Q : List ℕ) → Ranged a (a + 1) (rows_at a R Q)
unfolding rows_at
rows-ranged a R Q = when-ranged (not (same_rows R Q)) (RowsDiffer a) a refl

none-listed : (a : ℕ) → entries_of [] a ≡ []
unfolding entries_of entries_from
none-listed a = refl

module _ (S : FactSets) where
  open S use {Facts}

  none-ranged : (a b : ℕ) (es : List Entry) (f : Facts) → es ≡ [] → Ranged a b (entries_unshown S es f)
  unfolding entries_unshown Ranged
  none-ranged a b es f e = rw e tt

  bundle-ranged : (E : Environment) (a : ℕ) (ss : List Simple) (w : State Facts) (K : List Bounds) → Ranged a (a + length ss) (bundle_faults S E a ss w K)
  unfolding bundle_faults
  bundle-ranged E a [] w K = ranged-none a (a + 0)
  bundle-ranged E a (s ∷ ss) w K =
      let b : ℕ = a + length (s ∷ ss) in
      ranged-also a b _ _ (ranged-wide a (a + 1) a b _ (omega arith) (omega arith) (access-ranged _ a))
      (ranged-also a b _ _ (ranged-wide a (a + 1) a b _ (omega arith) (omega arith) (bounds-ranged a _))
      (ranged-wide (a + 1) (a + 1 + length ss) a b _ (omega arith) (omega arith) (bundle-ranged E (a + 1) ss _ _)))

  call-ranged : (E : Environment) (a : ℕ) (c : CallSite) (f : Facts) (K : List Bounds) → Ranged a (a + 1) (call_faults S [] E a c f K)
  unfolding call_faults
  call-ranged E a c f K = ranged-also a (a + 1) _ _ (when-ranged _ (Callee a) a refl) (when-ranged _ (Arguments a) a refl)

  pub block-ranged : (E : Environment) (t : Block) (a : ℕ) → Numbered t a → (w : State Facts) → Ranged a (a + size t) (block_faults S E [] [] t w)
  unfolding block_faults size
  block-ranged E nil a n w = ranged-none a (a + 0)
  block-ranged E (plain x s r) a n w =
      let z = n.0 in
      let b : ℕ = a + (1 + size r) in
      ranged-also a b _ _ (ranged-wide x (x + 1) a b _ (omega arith) (omega arith) (bounds-ranged x _))
      (ranged-also a b _ _ (ranged-wide x (x + 1) a b _ (omega arith) (omega arith) (bounds-ranged x _))
      (ranged-wide (x + 1) (x + 1 + size r) a b _ (omega arith) (omega arith) (block-ranged E r (x + 1) n.1 _)))
  block-ranged E (call x s r) a n w =
      let z = n.0 in
      let b : ℕ = a + (1 + size r) in
      ranged-also a b _ _ (ranged-wide x (x + 1) a b _ (omega arith) (omega arith) (call-ranged E x s _ _))
      (ranged-also a b _ _ (ranged-wide x (x + 1) a b _ (omega arith) (omega arith) (bounds-ranged x _))
      (ranged-wide (x + 1) (x + 1 + size r) a b _ (omega arith) (omega arith) (block-ranged E r (x + 1) n.1 _)))
  block-ranged E (branch x c t e r) a n w =
      let z = n.0 in
      let b : ℕ = a + (1 + size t + size e + size r) in
      ranged-also a b _ _ (ranged-wide (x + 1) (x + 1 + size t) a b _ (omega arith) (omega arith) (block-ranged E t (x + 1) n.1 _))
      (ranged-also a b _ _
      (ranged-wide (x + 1 + size t) (x + 1 + size t + size e) a b _ (omega arith) (omega arith) (block-ranged E e (x + 1 + size t) n.2 _))
      (ranged-also a b _ _ (ranged-wide x (x + 1) a b _ (omega arith) (omega arith) (rows-ranged x _ _))
      (ranged-wide (x + 1 + size t + size e) (x + 1 + size t + size e + size r) a b _ (omega arith) (omega arith)
      (block-ranged E r (x + 1 + size t + size e) n.3 _))))
  block-ranged E (loop x c t r) a n w =
      let z = n.0 in
      let b : ℕ = a + (1 + size t + size r) in
      ranged-also a b _ _ (none-ranged a b _ _ (none-listed x))
      (ranged-also a b _ _ (ranged-wide (x + 1) (x + 1 + size t) a b _ (omega arith) (omega arith) (block-ranged E t (x + 1) n.1 _))
      (ranged-also a b _ _ (none-ranged a b _ _ (none-listed x))
      (ranged-also a b _ _ (ranged-wide x (x + 1) a b _ (omega arith) (omega arith) (rows-ranged x _ _))
      (ranged-wide (x + 1 + size t) (x + 1 + size t + size r) a b _ (omega arith) (omega arith) (block-ranged E r (x + 1 + size t) n.2 _)))))
  block-ranged E (bundle x ss r) a n w =
      let z = n.0 in
      let b : ℕ = a + (1 + length ss + size r) in
      ranged-also a b _ _ (ranged-wide (x + 1) (x + 1 + length ss) a b _ (omega arith) (omega arith) (bundle-ranged E (x + 1) ss _ _))
      (ranged-also a b _ _ (ranged-wide x (x + 1) a b _ (omega arith) (omega arith) (bounds-ranged x _))
      (ranged-wide (x + 1 + length ss) (x + 1 + length ss + size r) a b _ (omega arith) (omega arith) (block-ranged E r (x + 1 + length ss) n.1 _)))
  block-ranged E (unread x) a n w = absurd n
