-- What the changes that plans are made of make of any facts.
use Rattle.std.specs.Prelude.{ℕ, ◌<◌, ◌≡◌}
use Rattle.std.proofs.Math.Path.{ap}
use Rattle.std.proofs.Common.{◌∙◌, arith}
use Rattle.sums.specs.Numbers.{max_value}
use Rattle.changes.specs.Changes.{no_fact, adding, ranging, shifting, equating}
use Rattle.changes.specs.declared.Change.{Change}
use Rattle.changes.specs.declared.Fact.{Fact}
use Rattle.facts.specs.Store.{added_fact, changed, dropped, ranged, shifted}
use Rattle.facts.specs.StoreLaws.{silent, changed-adding, changed-ranging, changed-forgetting, changed-shifting, changed-equating}
use Rattle.rules.specs.Stored.{equated}
use Rattle.effects.specs.Applied.{Adds, Makes}
use Rattle.rules.specs.FactRules as fact_rules

pub adds_none : {none : Fact} → none ≡ no_fact → Adds none (λ f. f)
adds_none n f = ap (added_fact f) n ∙ silent f

module _ {r : Change} where
  pub makes_both : {a b : Fact} → r ≡ adding a b → Makes r (λ f. added_fact (added_fact f a) b)
  makes_both {a} {b} e f = ap (changed f) e ∙ changed-adding f a b

  pub makes_one : {a none : Fact} → none ≡ no_fact → r ≡ adding a none → Makes r (λ f. added_fact f a)
  makes_one n e f = makes_both e f ∙ adds_none n _

  pub makes-range : (x low high : ℕ) → r ≡ ranging x low high → Makes r (λ f. ranged f x low high)
  makes-range x low high e f = ap (changed f) e ∙ changed-ranging f x low high

  pub makes-drop : {x : ℕ} → r ≡ ranging x 0 max_value → Makes r (λ f. dropped f x)
  makes-drop {x} e f = ap (changed f) e ∙ changed-forgetting f x

  pub makes-shift : {x k : ℕ} {third : Fact} → x < 16 → r ≡ shifting x k third → Makes r (λ f. added_fact (shifted f x k) third)
  makes-shift {x} {k} {third} h e f = ap (changed f) e ∙ changed-shifting f x k third (omega arith)

  pub makes-equal : {x y k : ℕ} {third : Fact} → r ≡ equating x y k third → Makes r (λ f. added_fact (equated (dropped f x) x y k) third)
  unfolding fact_rules.equated
  makes-equal {x} {y} {k} {third} e f = ap (changed f) e ∙ changed-equating f x y k third
