-- What a walk from the start has come to before a top-level statement, or at the end: the state there, with no fault on the way. The verdict on the table is
-- that of the walk from there; an edit at or behind it leaves it as it is.
use Rattle.std.specs.Prelude.{ℕ, ◌+◌, ◌<◌, ◌≤◌, ◌≡◌, ℤ, Ok, Result}
use Rattle.std.proofs.Math.Path.{refl, ap, ap₂}
use Rattle.std.proofs.Common.{sym, ◌∙◌, arith}
use mathlib.Core.List.{List, []}
use Rattle.arrays.specs.TabulateLaws.{tabulate-alike}
use Rattle.facts.specs.declared.FactSet.{FactSet}
use Rattle.answers.specs.declared.refusals.Refusal.{Refusal}
use Rattle.words.specs.Sections.{object_terminated}
use Rattle.words.specs.declared.sections.Sections.{Sections}
use Rattle.table.specs.Variables.{object_at, variable_at, row_at}
use Rattle.table.specs.Form.{form_of}
use Rattle.blocks.specs.Tree.{Block, nil, parse, tree}
use Rattle.blocks.specs.Layout.{also, layout}
use Rattle.blocks.specs.Shape.{Laid}
use Rattle.listed.specs.ListLaws.{none-listed}
use Rattle.rules.specs.CallLaws.{none-formed}
use Rattle.rules.specs.FactSets.{State}
use Rattle.rules.specs.BoundsRules.{upper_limit}
use Rattle.rules.specs.Rules as walk_rules
use Rattle.rules.specs.Stored.{store, new_state, block_after, block_faults, section_faults}
use Rattle.rules.specs.Verdict.{environment_of, bounds_of, variable_size, row_bounds, verdict_of}
use Rattle.rules.specs.Verdict as verdict_rules
use Rattle.rules.specs.ByChains.{Judged}
use Rattle.rules.proofs.Decidable.{judged}
use Rattle.declared.specs.ForceLaws.{pass}
use Rattle.edits.specs.Followed.{followed, laid-followed, laid-parsed}
use Rattle.edits.specs.Cuts.{Cut, cut-first, cut-whole, cut-between}
use Rattle.edits.specs.SameDeclared.{pointer-same, string-same}
use Rattle.edits.specs.Edited.{edited_sections, edited}
use Rattle.edits.specs.EditedLaws.{Fits, declared-stays, object-stays, variable-stays, row_stays}
use Rattle.edits.specs.EditedTree.{laid-layout, laid-tree, cut-stays}
use Rattle.places.specs.WalkFollowed.{after-followed, faults-followed}

-- The walk from the start comes to the number q, a top-level statement or the end, with the state w.
pub record Reached (T : List ℤ) (h : Sections) (q : ℕ) (w : State FactSet) : Type 0 where
  pub cut : Cut T h 0 0 q h.statements
  pub clear : block_faults (environment_of T h) [] [] cut.front new_state ≡ []
  pub state : block_after (environment_of T h) [] cut.front new_state ≡ w

module _ {T : List ℤ} {h : Sections} where
  -- At the start.
  pub reached-start : {t : Block} → Laid T h 0 0 h.statements t → Reached T h 0 new_state
  unfolding walk_rules.block_faults walk_rules.block_after cut-first
  reached-start l = record { cut = cut-first l; clear = refl; state = refl }

  -- Further on, where the statements between have no fault.
  pub reached-more : {q r : ℕ} {w : State FactSet} → Reached T h q w → (c : Cut T h 0 q r h.statements)
      → block_faults (environment_of T h) [] [] c.front w ≡ [] → Reached T h r (block_after (environment_of T h) [] c.front w)
  reached-more {q} {r} {w} p c e =
      let E = environment_of T h in
      let n = p.cut.front-laid.numbered in
      let s = p.state in
      record {
        cut = record {
          front = followed p.cut.front c.front;
          back = c.back;
          front-laid = laid-followed p.cut.front-laid c.front-laid;
          back-laid = c.back-laid;
        };
        clear = faults-followed store E [] p.cut.front c.front 0 n new_state ∙ (pass _ _ p.clear ∙ rw s e);
        state = after-followed store E [] p.cut.front c.front 0 n new_state ∙ rw s;
      }

  -- The faults of the table are those from here on.
  pub reached-faults : {q : ℕ} {w : State FactSet} → (p : Reached T h q w)
      → block_faults (environment_of T h) [] [] (tree T h) new_state ≡ block_faults (environment_of T h) [] [] p.cut.back w
  reached-faults {q} {w} p =
      let E = environment_of T h in
      let s = p.state in
      ap (λ (b : Block). block_faults E [] [] b new_state) (laid-tree (laid-followed p.cut.front-laid p.cut.back-laid))
      ∙ (faults-followed store E [] p.cut.front p.cut.back 0 p.cut.front-laid.numbered new_state ∙ (pass _ _ p.clear ∙ rw s))

  -- What is left of the walk, as the code reads it.
  pub reached-rest : {q : ℕ} {w : State FactSet} → (p : Reached T h q w) (l : ℕ) → h.statements ≤ q + l → parse l T h q h.statements ≡ p.cut.back
  reached-rest p l e = laid-parsed p.cut.back-laid l e

  pub reached-section : {q : ℕ} {w : State FactSet} → (p : Reached T h q w)
      → section_faults [] T h [] ≡ block_faults (environment_of T h) [] [] p.cut.back w
  unfolding verdict_rules.section_faults
  reached-section p =
      pass _ _ (laid-layout (laid-followed p.cut.front-laid p.cut.back-laid)) ∙ (pass _ _ (none-listed T h) ∙ reached-faults p)

  -- THE VERDICT FROM A PLACE is the verdict on the table from nothing.
  pub reached-judged : {q : ℕ} {w : State FactSet} {v : Result (Unit {0}) Refusal} → (p : Reached T h q w) → form_of T ≡ Ok h
      → v ≡ verdict_of (block_faults (environment_of T h) [] [] p.cut.back w) → Judged [] T [] v
  unfolding verdict_rules.faults
  reached-judged {v = v} p f e = judged [] none-formed T [] v (e ∙ ap verdict_of (rw f (sym (reached-section p))))

-- ---- after an edit

module _ (T : List ℤ) (h : Sections) (p m k : ℕ) (X : List ℤ) (fits : Fits h p m k) where
  abbrev U : List ℤ
  U = edited T h p m k X

  abbrev g : Sections
  g = edited_sections h m k

  pub environment-stays : environment_of U g ≡ environment_of T h
  unfolding environment_of
  environment-stays =
      let d = declared-stays T h p m k X fits in
      rw (
        tabulate-alike 17 (λ i q. pointer-same d i),
        tabulate-alike 17 (λ i q. string-same d i),
        tabulate-alike 16 (λ i q. ap variable_size (variable-stays T h p m k X fits i)),
        tabulate-alike 16 (λ i q. ap bounds_of (variable-stays T h p m k X fits i)),
        tabulate-alike 16 (λ i q. object-stays T h p m k X fits i),
        tabulate-alike 16 (λ i q. d.terminated i),
        tabulate-alike 16 (λ i q. ap₂ upper_limit (d.terminated i) (object-stays T h p m k X fits i)),
        tabulate-alike 64 (λ i q. ap row_bounds (row_stays T h p m k X fits i)),
      )

  module _ (whole : Block) (l : Laid T h 0 0 h.statements whole) (c : Cut T h 0 0 p h.statements) (e : Cut T h 0 p (p + m) h.statements)
      (x : Block) (text : Laid U g 0 p (p + k) x) where
    -- A place at or before the edit is one of the edited table.
    pub reached-stays : {q : ℕ} {w : State FactSet} → Reached T h q w → q ≤ p → Reached U g q w
    unfolding cut-stays
    reached-stays r i = record {
      cut = cut-stays T h p m k X fits whole l c e x text r.cut i;
      clear = rw environment-stays r.clear;
      state = rw environment-stays r.state;
    }
