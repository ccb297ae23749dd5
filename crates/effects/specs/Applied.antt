-- What `assume` and `plan_statement` give back, in terms of the rules: a change for a condition and a plan for a statement.
use Rattle.std.specs.Prelude.{ℕ, Bool, ◌||◌, ◌&&◌, cond, List, [], ◌≡◌, leb, eqb}
use Rattle.sums.specs.Numbers.{bias}
use Rattle.facts.specs.Store.{added_fact, changed}
use Rattle.changes.specs.declared.Answers.{Answers}
use Rattle.changes.specs.declared.Change.{Change}
use Rattle.changes.specs.declared.Fact.{Fact}
use Rattle.facts.specs.declared.FactSet.{FactSet}
use Rattle.statements.specs.declared.Simple.{Simple}
use Rattle.statements.specs.declared.Simple.TheVariants.{Literal, AddConstant, Arithmetic, Null, Address}
use Rattle.statements.specs.declared.Simple.TheVariants.{PointerOffset, PointerIndex, Load, Store, Check, Declare}
use Rattle.conditions.specs.declared.Condition.{Condition}
use Rattle.rules.specs.Stored.{differs, sum_facts, facts_after, condition_facts, effect}
use Rattle.rules.specs.declared.Environment.{Environment}
use Rattle.rules.specs.declared.Effect.{Effect}
use Rattle.rules.specs.declared.Effect.TheVariants.{Keep, Shift, Forget}
use Rattle.effects.specs.declared.Plan.{Plan}

-- An environment of which only the element sizes and the spans of objects matter, as to an effect.
abbrev pub with_spans : List ℕ → List ℕ → Environment
with_spans sizes spans =
    record { pointers = []; strings = []; sizes = sizes; declared = []; lengths = []; terminated = []; spans = spans; rows = [] }

-- The facts after a statement, and what it does to known bounds.
pub record Applied : Type 0 where
  pub facts : FactSet
  pub effect : Effect

unfoldable pub applied : List ℕ → List ℕ → FactSet → Simple → Applied
applied sizes spans f s = record { facts = facts_after s f; effect = effect (with_spans sizes spans) f s }

-- The facts that a condition gives, by the answers to what it asks: whether left <= right + offset and right + offset <= left are shown.
unfoldable pub condition_given : Answers → FactSet → Condition → FactSet
condition_given a f c = cond (leb 5 c.relation) (differs a.there a.back f c.left c.right c.offset) (condition_facts f c)

-- Whether a sum y + k is in range, by the answers; a plain copy always is.
abbrev pub sum_fits : Answers → ℕ → Bool
sum_fits a k = eqb k bias || a.there && a.back

-- The facts after a statement and what it does to known bounds, by the answers to what it asks.
unfoldable pub planned : Answers → List ℕ → List ℕ → FactSet → Simple → Applied
planned a sizes spans f (Literal x k) = applied sizes spans f (Literal x k)
planned a sizes spans f (AddConstant x y k) =
    record { facts = sum_facts (sum_fits a k) (eqb x y) f x y k; effect = cond (sum_fits a k && eqb x y) (Shift x k) (Forget x) }
planned a sizes spans f (Arithmetic x y z op) = applied sizes spans f (Arithmetic x y z op)
planned a sizes spans f (Null p) = applied sizes spans f (Null p)
planned a sizes spans f (Address p o) = applied sizes spans f (Address p o)
planned a sizes spans f (PointerOffset p q k) = applied sizes spans f (PointerOffset p q k)
planned a sizes spans f (PointerIndex p q i) = applied sizes spans f (PointerIndex p q i)
planned a sizes spans f (Load x p i k) = applied sizes spans f (Load x p i k)
planned a sizes spans f (Store p i k x) = applied sizes spans f (Store p i k x)
planned a sizes spans f (Check c) = record { facts = condition_given a f c; effect = Keep }
planned a sizes spans f (Declare p r) = applied sizes spans f (Declare p r)

-- ---- changes and plans

-- A change makes of any facts the facts g.
abbrev pub Makes : Change → (FactSet → FactSet) → Type 0
Makes r g = (f : FactSet) → changed f r ≡ g f

-- One fact more makes of any facts the facts g.
abbrev pub Adds : Fact → (FactSet → FactSet) → Type 0
Adds r g = (f : FactSet) → added_fact f r ≡ g f

-- The change makes of any facts those that the condition gives, by these answers.
abbrev pub Assumes : Condition → Answers → Change → Type 0
Assumes c a r = Makes r (λ f. condition_given a f c)

-- The plan makes of the facts f what is applied to them; and its effect is the statement's.
abbrev pub Does : Plan → FactSet → Applied → Type 0
Does r f a = record { facts = changed f r.change; effect = r.effect } ≡ a

-- The plan for a statement, given the answers to what it asks: of any facts.
abbrev pub Plans : List ℕ → List ℕ → Simple → Answers → Plan → Type 0
Plans sizes spans s a r = (f : FactSet) → Does r f (planned a sizes spans f s)
