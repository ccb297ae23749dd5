-- The fact set that the store makes by a history is exact, for every history.
use Rattle.std.specs.Prelude.{ℕ, ◌≡◌, ◌↔◌, Bool, true}
use Rattle.facts.specs.Store.{shown, new_set, added, dropped, ranged, shifted, joined}
use Rattle.chains.specs.Facts.{Variables, Node, Shown, Contradiction}
use Rattle.chains.specs.History.{History, new, add, drop, range, shift, join, known, Legal}
use Rattle.chains.proofs.Exact.{Exact, shown-exact, contradiction-exact}
use Rattle.chains.proofs.ExactAfter.{new-exact, added-exact, ranged-exact, dropped-exact, shifted-exact, joined-exact}
use Rattle.facts.specs.declared.FactSet.{FactSet}

-- The fact set that the store makes; it has to know which variables are pointers.
abbrev pub made : (ℕ → Bool) → History → FactSet
made pointer new = new_set
made pointer (add h x y k) = added (made pointer h) x y k
made pointer (drop h x) = dropped (made pointer h) x
made pointer (range h x bottom top) = ranged (made pointer h) x bottom top
made pointer (shift h x k) = shifted (made pointer h) x k
made pointer (join h g) = joined pointer (made pointer h) (made pointer g)

module _ (vars : Variables) where
  pub exact : (h : History) → Legal vars h → Exact vars (made vars.pointer h) (known vars h)
  exact new l = new-exact vars
  exact (add h x y k) l = added-exact vars (made vars.pointer h) (known vars h) (exact h l.0) x y k l.1
  exact (drop h x) l = dropped-exact vars (made vars.pointer h) (known vars h) (exact h l.0) x l.1
  exact (range h x bottom top) l = ranged-exact vars (made vars.pointer h) (known vars h) (exact h l.0) x l.1 bottom top l.2 l.3
  exact (shift h x k) l = shifted-exact vars (made vars.pointer h) (known vars h) (exact h l.0) x k l.1 l.2
  exact (join h g) l = joined-exact vars (made vars.pointer h) (made vars.pointer g) (known vars h) (known vars g) (exact h l.0) (exact g l.1)

  -- A fact is shown exactly when a chain of known vars facts shows it.
  pub shows-exactly : (h : History) → Legal vars h → (x y k : ℕ) → Node vars x → Node vars y
      → (shown (made vars.pointer h) x y k ≡ true) ↔ Shown (known vars h) x y k
  shows-exactly h l = shown-exact vars (made vars.pointer h) (known vars h) (exact h l)

  -- The mark stands exactly when some chain from x to x has a negative sum.
  pub contradicts-exactly : (h : History) → Legal vars h → ((made vars.pointer h).contradiction ≡ true) ↔ Contradiction (known vars h)
  contradicts-exactly h l = contradiction-exact vars (made vars.pointer h) (known vars h) (exact h l)
