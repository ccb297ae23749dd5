-- `chains::shown::answer` meets its contract.
use Prim.Native.Nat.{ℕ}
use mathlib.Core.Path.{◌≡◌, refl, sym, ap, ◌∙◌}
use mathlib.Core.Bool.{Bool, true, false, not, ◌&&◌, false≢true, cond}
use borrow.Author.Tests.{not-true, not-false}
use lib.Dec.{leb}
use Rattle.changes.specs.declared.Questions.{Questions}
use Rattle.changes.specs.declared.Answers.{Answers}
use Rattle.facts.specs.Store.{shown, least_sum, no_answers, answered}
use Rattle.facts.specs.StoreLaws.{shown-marked, shown-clear}
use Rattle.facts.specs.declared.FactSet.{FactSet}
use Rattle.chains.proofs.shown.answer.Goals as goal

refused : (a b : Bool) → (a && not b) ≡ true → b ≡ false
refused true true e = sym e
refused true false e = refl
refused false b e = absurd (false≢true e)

module _ (f : FactSet) (q : Questions) where
  unasked : q.asked ≡ false → no_answers ≡ answered f q
  unasked e = rw e

  module _ (w : q.asked ≡ true) where
    marked : f.contradiction ≡ true → ◌≡◌ {A = Answers} (record { there = true; back = true }) (answered f q)
    marked e = rw (w, shown-marked f q.x q.y q.there e, shown-marked f q.y q.x q.back e) (go q.chained)
      where
        go : (b : Bool) → ◌≡◌ {A = Answers} (record { there = true; back = true }) (record { there = true; back = cond (b && false) false true })
        go true = refl
        go false = refl

    module _ (e : f.contradiction ≡ false) {a : ℕ} (m : a ≡ least_sum f q.x q.y) where
      first : shown f q.x q.y q.there ≡ leb a q.there
      first = shown-clear f q.x q.y q.there e ∙ ap (λ (n : ℕ). leb n q.there) (sym m)

      -- Of two chained questions the first is not shown.
      broken : (q.chained && not (leb a q.there)) ≡ true → no_answers ≡ answered f q
      broken t = rw (w, first, t, refused q.chained (leb a q.there) t)

      whole : {b : ℕ} → (q.chained && not (leb a q.there)) ≡ false → b ≡ least_sum f q.y q.x
          → ◌≡◌ {A = Answers} (record { there = leb a q.there; back = leb b q.back }) (answered f q)
      whole t n = rw (w, first, t, n, shown-clear f q.y q.x q.back e)

pub returns-then-not-questions : goal.returns-then-not-questions
returns-then-not-questions c = unasked c.args.facts c.args.questions (not-true _ c.if-not-questions.true)

pub returns-then-contradicts : goal.returns-then-contradicts
returns-then-contradicts c = marked c.args.facts c.args.questions
    (not-false _ c.if-not-questions.false) (sym c.contradicts.ensures ∙ c.if-contradicts.true)

pub returns-then-questions-there : goal.returns-then-questions-there
returns-then-questions-there c = broken c.args.facts
    c.args.questions
    (not-false _ c.if-not-questions.false)
    (sym c.contradicts.ensures ∙ c.if-contradicts.false)
    c.sum.ensures c.if-questions-there.true

pub returns : goal.returns
returns c = whole c.args.facts
    c.args.questions
    (not-false _ c.if-not-questions.false)
    (sym c.contradicts.ensures ∙ c.if-contradicts.false)
    c.sum.ensures c.if-questions-there.false c.sum-2.ensures
