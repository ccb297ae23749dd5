-- The rules over the fact store: what the code computes with.
use Rattle.std.specs.Prelude.{ℕ, ◌+◌, ◌-◌, ◌*◌, ◌^◌, Bool, ◌&&◌, ◌||◌, cond, List, ℤ, leb, ltb, eqb, None, Option, Result, Some}
use Rattle.sums.specs.Numbers.{bias}
use Rattle.facts.specs.Store as sets
use Rattle.facts.specs.declared.FactSet.{FactSet}
use Rattle.answers.specs.declared.refusals.Refusal.{Refusal}
use Rattle.words.specs.declared.sections.Sections.{Sections}
use Rattle.conditions.specs.declared.Condition.{Condition}
use Rattle.statements.specs.declared.CallSite.{CallSite}
use Rattle.statements.specs.declared.Simple.{Simple}
use Rattle.table.specs.declared.variables.End.{End}
use Rattle.blocks.specs.Tree.{Block}
use Rattle.listed.specs.declared.Entry.{Entry}
use Rattle.rules.specs.FactSets.{FactSets, State}
use Rattle.rules.specs.FactRules as facts
use Rattle.rules.specs.BoundsRules as bounds
use Rattle.rules.specs.Rules as walk
use Rattle.rules.specs.Calls as calls
use Rattle.rules.specs.Calls.{Routine}
use Rattle.rules.specs.Verdict as verdict
use Rattle.rules.specs.declared.Bounds.{Bounds}
use Rattle.rules.specs.declared.Environment.{Environment}
use Rattle.rules.specs.declared.Effect.{Effect}

abbrev pub same_end : End → End → Bool
same_end e g = eqb e.pointer g.pointer && eqb e.integer g.integer && eqb e.constant g.constant

-- Sums of 64 bits hold the constants that arise; any other end is unknown.
unfoldable pub shift_constant : ℕ → ℕ → End → Option End
shift_constant w k e =
    cond (leb w 8 && ltb k (2 ^ 40) && ltb e.constant (2 ^ 40) && leb (w * k) (e.constant + w * bias))
    (Some (record { pointer = e.pointer; integer = e.integer; constant = e.constant + w * bias - w * k })) None

abbrev pub store : FactSets
store = record {
  Facts = FactSet;
  new = sets.new_set;
  added = sets.added;
  dropped = sets.dropped;
  ranged = sets.ranged;
  shifted = sets.shifted;
  joined = sets.joined;
  shown = sets.shown;
  -- The same end is at most itself, by two empty chains: the facts need not be asked.
  end_shown = λ f s q n k r m j. eqb q r && eqb n m && eqb k j || sets.end_shown f s q n k r m j;
  end_less = shift_constant;
}

-- ---- facts

abbrev pub equated : FactSet → ℕ → ℕ → ℕ → FactSet
equated = facts.equated store

abbrev pub positive : FactSet → ℕ → FactSet
positive = facts.positive store

abbrev pub differs : Bool → Bool → FactSet → ℕ → ℕ → ℕ → FactSet
differs = facts.differs store

abbrev pub relation_facts : ℕ → FactSet → ℕ → ℕ → ℕ → FactSet
relation_facts = facts.relation_facts store

abbrev pub condition_facts : FactSet → Condition → FactSet
condition_facts = facts.condition_facts store

abbrev pub sum_facts : Bool → Bool → FactSet → ℕ → ℕ → ℕ → FactSet
sum_facts = facts.sum_facts store

abbrev pub offset_facts : Bool → Bool → FactSet → ℕ → ℕ → ℕ → FactSet
offset_facts = facts.offset_facts store

abbrev pub facts_after : Simple → FactSet → FactSet
facts_after = facts.facts_after store

abbrev pub dropped_each : ℕ → (ℕ → Bool) → FactSet → FactSet
dropped_each = facts.dropped_each store

abbrev pub loop_facts : List ℕ → FactSet → FactSet
loop_facts = facts.loop_facts store

abbrev pub entry_facts : List Entry → FactSet → FactSet
entry_facts = facts.entry_facts store

-- ---- bounds

abbrev pub shift_end : ℕ → ℕ → ℕ → Option End → Option End
shift_end = bounds.shift_end store

abbrev pub shift_bounds : ℕ → ℕ → Bounds → Bounds
shift_bounds = bounds.shift_bounds store

abbrev pub effect_on : Effect → List Bounds → ℕ → Bounds
effect_on = bounds.effect_on store

abbrev pub bounds_after : Effect → List Bounds → List Bounds
bounds_after = bounds.bounds_after store

abbrev pub effect : Environment → FactSet → Simple → Effect
effect = bounds.effect store

abbrev pub end_at_most : FactSet → ℕ → End → ℕ → End → Bool
end_at_most = bounds.end_at_most store

abbrev pub known_at_most : FactSet → ℕ → Option End → ℕ → Option End → Bool
known_at_most = bounds.known_at_most store

abbrev pub bounds_shown : FactSet → ℕ → Bounds → Bounds → Bool
bounds_shown = bounds.bounds_shown store

abbrev pub unshown_from : Environment → FactSet → List Bounds → ℕ → ℕ → List ℕ
unshown_from = bounds.unshown_from store

abbrev pub unshown : Environment → FactSet → List Bounds → List ℕ
unshown = bounds.unshown store

abbrev pub row_unshown : Environment → FactSet → List Bounds → Simple → List ℕ
row_unshown = bounds.row_unshown store

abbrev pub access_shown : Environment → FactSet → List Bounds → Simple → Bool
access_shown = bounds.access_shown store

abbrev pub address_safe : FactSet → ℕ → ℕ → ℕ → Bounds → Bool
address_safe = bounds.address_safe store

abbrev pub access_safe : Environment → FactSet → Simple → Bool
access_safe = bounds.access_safe store

-- ---- the walk

abbrev pub entries_unshown : List Entry → FactSet → List Refusal
entries_unshown = walk.entries_unshown store

abbrev pub new_state : State FactSet
new_state = walk.new_state store

abbrev pub state_after : Simple → State FactSet → State FactSet
state_after = walk.state_after store

abbrev pub called_state : CallSite → State FactSet → State FactSet
called_state = walk.called_state store

abbrev pub call_faults : List Routine → Environment → ℕ → CallSite → FactSet → List Bounds → List Refusal
call_faults = calls.call_faults store

abbrev pub assumed : State FactSet → Condition → State FactSet
assumed = walk.assumed store

abbrev pub at_head : List Entry → List ℕ → State FactSet → State FactSet
at_head = walk.at_head store

abbrev pub unshown_in : Environment → State FactSet → List Bounds → List ℕ
unshown_in = walk.unshown_in store

abbrev pub access_in : Environment → State FactSet → List Bounds → Simple → Bool
access_in = walk.access_in store

abbrev pub safe_in : Environment → State FactSet → Simple → Bool
safe_in = walk.safe_in store

abbrev pub declared_in : Environment → State FactSet → List Bounds
declared_in = walk.declared_in store

abbrev pub bundle_after : List Simple → State FactSet → State FactSet
bundle_after = walk.bundle_after store

abbrev pub bundle_bounds : Environment → List Simple → State FactSet → List Bounds → List Bounds
bundle_bounds = walk.bundle_bounds store

abbrev pub bundle_faults : Environment → ℕ → List Simple → State FactSet → List Bounds → List Refusal
bundle_faults = walk.bundle_faults store

abbrev pub sides_joined : Environment → State FactSet → State FactSet → State FactSet
sides_joined = walk.sides_joined store

abbrev pub block_after : Environment → List ℤ → Block → State FactSet → State FactSet
block_after = walk.block_after store

abbrev pub block_faults : Environment → List ℤ → List Routine → Block → State FactSet → List Refusal
block_faults = walk.block_faults store

-- ---- the verdict

abbrev pub section_faults : List Routine → List ℤ → Sections → List ℤ → List Refusal
section_faults = verdict.section_faults store

abbrev pub form_faults : List Routine → List ℤ → List ℤ → Result Sections Refusal → List Refusal
form_faults = verdict.form_faults store

abbrev pub faults : List Routine → List ℤ → List ℤ → List Refusal
faults = verdict.faults store
