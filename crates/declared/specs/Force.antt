-- What the rows in force put in force, and the answer to a kind 14 outside a bundle, in terms of the rules.
use Rattle.std.specs.Prelude.{ℕ, ◌+◌, ◌≡◌, List, set, Ok}
use Rattle.facts.specs.declared.FactSet.{FactSet}
use Rattle.statements.specs.declared.Simple.TheVariants.{Declare}
use Rattle.blocks.specs.Layout.{also}
use Rattle.rules.specs.FactSets.{State}
use Rattle.rules.specs.BoundsRules.{in_force}
use Rattle.rules.specs.Stored.{unshown, row_unshown, bounds_after}
use Rattle.rules.specs.Rules.{bounds_at}
use Rattle.rules.specs.Verdict.{verdict_of}
use Rattle.rules.specs.declared.Environment.{Environment}
use Rattle.rules.specs.declared.Effect.TheVariants.{Keep}
use Rattle.bounds.specs.Touched.{seen_as, seen_of, named_in}
use Rattle.declared.specs.declared.force.Force.{Force}
use Rattle.declared.specs.declared.force.Frame.{Frame}
use Rattle.declared.specs.declared.force.Declared.{Declared}

-- The facts, and the rows in force.
abbrev pub state_of : FactSet → List ℕ → State FactSet
state_of f R = record { facts = f; rows = R }

-- F is what the rows R put in force.
pub record Forced (E : Environment) (R : List ℕ) (F : Force) : Type 0 where
  pub rows : F.rows.each ≡ R
  pub seen : F.seen ≡ seen_of (in_force E R)
  pub named : F.named.each ≡ named_in (seen_as F.seen)

pub record Framed (E : Environment) (r : Frame) : Type 0 where
  pub pointers : r.pointers ≡ E.pointers
  pub sizes : r.sizes ≡ E.sizes
  pub spans : r.spans ≡ E.spans

-- A kind 14 at a: its own 8, then the general one; where there is none, its row is in force.
pub record DeclaresRow (E : Environment) (f : FactSet) (R : List ℕ) (p r a : ℕ) (d : Declared) : Type 0 where
  pub said : d.verdict ≡ verdict_of (also (bounds_at a (row_unshown E f (in_force E R).declared (Declare p r)))
      (bounds_at a (unshown (in_force E (set R p (r + 1))) f (bounds_after Keep (in_force E R).declared))))
  pub kept : d.verdict ≡ Ok tt → Forced E (set R p (r + 1)) d.force
