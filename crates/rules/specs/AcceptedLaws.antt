-- What an accepted table is: no fault, so well formed and laid out, and its walk has no fault.
use Rattle.std.specs.Prelude.{ℕ, ◌≡◌, refl, List, [], ◌∷◌, ℤ, Err, Ok, Result}
use Rattle.std.proofs.Common.{arith}
use Rattle.answers.specs.declared.refusals.Refusal.{Refusal}
use Rattle.words.specs.declared.sections.Sections.{Sections}
use Rattle.table.specs.Form.{form_of}
use Rattle.blocks.specs.Tree.{tree}
use Rattle.blocks.specs.Layout.{layout}
use Rattle.listed.specs.ListForm.{list_faults}
use Rattle.rules.specs.Calls.{Routine}
use Rattle.rules.specs.Stored.{block_faults, section_faults, form_faults, faults, new_state}
use Rattle.rules.specs.Verdict.{environment_of, verdict_of}
use Rattle.blocks.specs.LayoutLaws.{no-first, no-rest}
use Rattle.rules.specs.Verdict as verdict_rules

-- A verdict that accepts says that there is no fault.
pub accepted-clear : (xs : List Refusal) {v : Result (Unit {0}) Refusal} → v ≡ verdict_of xs → v ≡ Ok tt → xs ≡ []
unfolding verdict_of
accepted-clear [] a e = refl
accepted-clear (r ∷ xs) a e = cc

pub record Clear (callees : List Routine) (T : List ℤ) (h : Sections) (L : List ℤ) : Type 0 where
  pub form : form_of T ≡ Ok h
  pub laid : layout T h ≡ []
  pub listed : list_faults T h L ≡ []
  pub walked : block_faults (environment_of T h) L callees (tree T h) new_state ≡ []

-- A table without a fault is well formed and laid out, and its walk has no fault.
pub clear : (callees : List Routine) (T : List ℤ) (h : Sections) (L : List ℤ) → form_of T ≡ Ok h → faults callees T L ≡ [] → Clear callees T h L
unfolding verdict_rules.faults verdict_rules.section_faults
clear callees T h L f e =
    let s : form_faults callees T L (Ok h) ≡ [] = rw f at e in
    record { form = f; laid = no-first _ _ s; listed = no-first _ _ (no-rest _ _ s); walked = no-rest _ _ (no-rest _ _ s) }

pub faults-clear : (callees : List Routine) (T L : List ℤ) → faults callees T L ≡ [] → (h : Sections) × Clear callees T h L
unfolding verdict_rules.faults
faults-clear callees T L e = go (form_of T) refl e
  where
    go : (f : Result Sections Refusal) → form_of T ≡ f → form_faults callees T L f ≡ [] → (h : Sections) × Clear callees T h L
    go (Err r) q e' = let o : ◌≡◌ {A = ℕ} 0 1 = cc in absurd (omega arith)
    go (Ok h) q e' = (h, clear callees T h L q e)
