-- What the walk hands on by the store represents what it hands on by the paper's chains: the facts do, and the rows in force are the same.
use Rattle.std.specs.Prelude.{◌≡◌, refl, Bool, true, false, cond, ℤ, List}
use Rattle.std.proofs.Common.{ap}
use Rattle.facts.specs.declared.FactSet.{FactSet}
use Rattle.chains.specs.Facts.{Variables}
use Rattle.chains.specs.History.{History}
use Rattle.words.specs.Sections.{Limits}
use Rattle.words.specs.declared.sections.Sections.{Sections}
use Rattle.conditions.specs.Conditions.{negated_of}
use Rattle.conditions.specs.Typed.{Sides}
use Rattle.conditions.specs.declared.Condition.{Condition}
use Rattle.statements.specs.Typed.{SimpleTyped, CallTyped}
use Rattle.statements.specs.declared.CallSite.{CallSite}
use Rattle.statements.specs.declared.Simple.{Simple}
use Rattle.blocks.specs.Tree.{Block, assigned}
use Rattle.blocks.specs.Shape.{Reads}
use Rattle.listed.specs.declared.Entry.{Entry}
use Rattle.rules.specs.FactSets.{State}
use Rattle.rules.specs.BoundsRules.{rows_after}
use Rattle.rules.specs.Rules.{new_state, state_after, called_state, assumed, at_head, sides_joined}
use Rattle.rules.specs.Verdict.{environment_of}
use Rattle.rules.specs.Stored.{store}
use Rattle.rules.specs.ByChains.{Decider, Decides, by_chains, variables}
use Rattle.rules.proofs.Representation.{Represents, represents-new, represents-join, condition-represented}
use Rattle.rules.proofs.Representation.{negated-represented, after-represented, result-represented, body-represented}
use Rattle.rules.proofs.ListedLaws.{EntriesRight, entries-represented}

pub record StateRepresents (vars : Variables) (U : State History) (W : State FactSet) : Type 0 where
  pub represents : Represents vars U.facts W.facts
  pub rows : U.rows ≡ W.rows

pub either : {vars : Variables} (b : Bool) {U U' : State History} {W W' : State FactSet} → StateRepresents vars U W → StateRepresents vars U' W'
    → StateRepresents vars (cond b U U') (cond b W W')
either true t u = t
either false t u = u

pub new-represented : (vars : Variables) (q : Decider) → StateRepresents vars (new_state (by_chains q)) (new_state store)
new-represented vars q = record { represents = represents-new vars; rows = refl }

module _ (T : List ℤ) (h : Sections) (w : Limits h) (q : Decider) (right : Decides (variables T h w) q) where
  abbrev vars : Variables
  vars = variables T h w

  pub meets : {U U' : State History} {W W' : State FactSet} → StateRepresents vars U W → StateRepresents vars U' W'
      → StateRepresents vars (sides_joined (by_chains q) (environment_of T h) U U') (sides_joined store (environment_of T h) W W')
  meets i j = record { represents = represents-join vars i.represents j.represents; rows = i.rows }

  module _ {U : State History} {W : State FactSet} (t : StateRepresents vars U W) where
    pub state-after : (s : Simple) → SimpleTyped T h s → StateRepresents vars (state_after (by_chains q) s U) (state_after store s W)
    state-after s y = record { represents = after-represented T h w q right t.represents s y; rows = ap (rows_after s) t.rows }

    pub state-called : (c : CallSite) → CallTyped T h c → StateRepresents vars (called_state (by_chains q) c U) (called_state store c W)
    state-called c y = record { represents = result-represented T h w q right t.represents c y; rows = t.rows }

    pub state-assumed : (c : Condition) → Sides T h c.left c.right c.offset → StateRepresents vars (assumed (by_chains q) U c) (assumed store W c)
    state-assumed c s = record { represents = condition-represented T h w q right t.represents c s; rows = t.rows }

    pub state-negated : (c : Condition) → Sides T h c.left c.right c.offset
        → StateRepresents vars (assumed (by_chains q) U (negated_of c)) (assumed store W (negated_of c))
    state-negated c s = record { represents = negated-represented T h w q right t.represents c s; rows = t.rows }

    pub state-at-head : (es : List Entry) → EntriesRight T h w es → (b : Block) → Reads T h b
        → StateRepresents vars (at_head (by_chains q) es (assigned b) U) (at_head store es (assigned b) W)
    state-at-head es e b r =
        record { represents = entries-represented T h w q right es e (body-represented T h w q right t.represents b r); rows = t.rows }
