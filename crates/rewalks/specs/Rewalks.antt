-- What the walk from the last place of a store to the end answers and leaves, whatever the words of table and store are.
use Rattle.std.specs.Prelude.{ℕ, ◌≡◌, cond, List, [], ◌∷◌, ℤ, ltb}
use Rattle.answers.specs.declared.refusals.Refusal.{Refusal}
use Rattle.answers.specs.declared.refusals.Refusal.TheVariants.{BlockLayout}
use Rattle.words.specs.declared.sections.Sections.{Sections}
use Rattle.blocks.specs.Layout.{also, block_layout}
use Rattle.rules.specs.Stored.{block_faults}
use Rattle.rules.specs.Verdict.{environment_of, verdict_of}
use Rattle.declared.specs.Force.{state_of}
use Rattle.edits.specs.Edited.{is_empty}
use Rattle.places.specs.Positions.{capacity, walked_from}
use Rattle.places.specs.Places.{Place, place_of, places, last_place, onward, kept_from}
use Rattle.places.specs.StoreLaws.{Restored}
use Rattle.rewalks.specs.Walking.{rest_of}
use Rattle.rewalks.specs.declared.Begin.{Begin}
use Rattle.rewalks.specs.declared.Rewalked.{Rewalked}

-- A walk begins at the last of the places.
pub record Begins (P : List Place) (b : Begin) : Type 0 where
  pub place : place_of b.position (state_of b.facts b.rows.each) ≡ last_place P

-- The statements from q to the end are no top-level statements one after the other. (From a place that calls left they always are.)
unfoldable pub layout_from : List ℤ → Sections → ℕ → List Refusal
layout_from T h q = cond (ltb h.statements q) (BlockLayout q ∷ []) (block_layout h.statements T h 0 q h.statements)

-- The faults of the layout from there, then those of the walk; the statements walked; and the places kept on the way.
pub record RewalkedFrom (T : List ℤ) (h : Sections) (K S : List ℕ) (p : Place) (r : Rewalked) (Q : List ℕ) : Type 0 where
  pub verdict : r.verdict ≡ verdict_of (also (layout_from T h p.position) (block_faults (environment_of T h) [] [] (rest_of T h p.position) p.state))
  pub walked : r.walked ≡ cond (is_empty (layout_from T h p.position)) (walked_from T h p.position r.verdict) 0
  pub left : Restored S (onward (layout_from T h p.position)
      (kept_from K (capacity S) (environment_of T h) (rest_of T h p.position) p.state (places S)) (places S)) Q

abbrev pub Rewalks : List ℤ → Sections → List ℕ → List ℕ → Rewalked → List ℕ → Type 0
Rewalks T h K S r Q = RewalkedFrom T h K S (last_place (places S)) r Q
