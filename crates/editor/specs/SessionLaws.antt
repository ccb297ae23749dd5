-- AFTER ANY SEQUENCE OF CALLS the verdict told last is that of a check of the present table from nothing: each call gives what the next one asks for.
use Rattle.std.specs.Prelude.{ℕ, ◌≤◌, ◌≡◌, refl, Bool, true, false, List, [], ◌∷◌, ◌++◌, ℤ, length, take, drop, leb, Err, Ok, Result}
use Rattle.std.proofs.Common.{sym, ◌∙◌, ap, arith, leb-true, leb-false, length-append, length-take, length-take-le, take_all, take_at}
use Rattle.words.specs.Sections.{table_end}
use Rattle.words.specs.declared.sections.Sections.{Sections}
use Rattle.answers.specs.declared.refusals.Refusal.{Refusal}
use Rattle.table.specs.Form.{form_of}
use Rattle.blocks.specs.Layout.{layout}
use Rattle.rules.specs.ByChains.{Judged}
use Rattle.edits.specs.Edited.{edited_sections, edited}
use Rattle.edits.specs.FormKept.{tested, directory-end}
use Rattle.plans.specs.Plans.{is_position, plan_of}
use Rattle.plans.specs.declared.Edit.{Edit}
use Rattle.plans.specs.declared.Splice.{Splice}
use Rattle.editor.specs.Kept.{Kept}
use Rattle.editor.specs.Editor.{Passing, Started, Unmade, Written, KeptSaid, EditCall, Session, begun, made, unmade, SessionJudged}
use Rattle.editor.specs.declared.Answer.{Answer}

-- What holds after each call.
record Standing (B : List ℤ) (L : ℕ) (S : List ℕ) (v : Result (Unit {0}) Refusal) : Type 0 where
  sections : Sections
  within : L ≤ length B
  kept : Kept (take L B) sections S
  judged : Judged [] (take L B) [] v

differ : {A : Type 0} → true ≡ false → A
differ e = let z : ◌≡◌ {A = ℕ} 0 1 = cc in absurd (omega arith)

-- A length beyond the buffer counts as the buffer's.
take_short : (B : List ℤ) (L n : ℕ) → n ≡ length (take L B) → (take n B ≡ take L B) × (n ≤ length B)
take_short B L n e = go (leb L (length B)) refl
  where
    go : (b : Bool) → leb L (length B) ≡ b → (take n B ≡ take L B) × (n ≤ length B)
    go true q =
        let p = leb-true L (length B) q in
        let z : n ≡ L = e ∙ length-take-le L B p in
        (ap (λ (i : ℕ). take i B) z, omega arith)
    go false q =
        let p = leb-false L (length B) q in
        let y : take L B ≡ B = take_all L B (omega arith) in
        let z : n ≡ length B = e ∙ ap length y in
        (take_all n B (omega arith) ∙ sym y, omega arith)

module _ {B : List ℤ} {S : List ℕ} {at : ℕ} {e : Edit} {X : List ℤ} {K : List ℕ} {r : Answer} {B' : List ℤ} {S' : List ℕ} where
  -- An edit that is made.
  after-made : {L : ℕ} {v : Result (Unit {0}) Refusal} → Standing B L S v → EditCall B at e X K S r B' S' → r.taken ≡ true → Standing B' r.length S' r.verdict
  after-made {L} s call t =
      let T = take L B in
      go (plan_of (is_position e T s.sections at) T (length B) s.sections at e X) (call.kept L s.sections s.within s.kept)
    where
      go : (p : Result Splice Refusal) → KeptSaid p B s.sections at X K S r B' S' → Standing B' r.length S' r.verdict
      go (Err x) k = differ (sym t ∙ ap (λ (a : Answer). a.taken) k.answer)
      go (Ok p) k =
          let U = edited (take (table_end s.sections) B) s.sections at p.removed p.added X in
          let g = edited_sections s.sections p.removed p.added in
          let l : length U ≡ table_end g = directory-end U g (tested U g k.1.kept.form).directory in
          let z : take r.length B' ≡ U = let y = k.0.words in let x = k.0.buffer in rw (y, x) (take_at U (drop (table_end g) B) (table_end g) l) in
          record {
            sections = g;
            within = omega (arith, k.0.words, ap length k.0.buffer, length-append U (drop (table_end g) B), l);
            kept = rw z k.1.kept;
            judged = rw z k.1.judged;
          }

  -- An edit that is refused.
  after-unmade : {L : ℕ} {v : Result (Unit {0}) Refusal} → Standing B L S v → EditCall B at e X K S r B' S' → r.taken ≡ false → Standing B' L S' v
  after-unmade {L} {v} s call t =
      let T = take L B in
      go (plan_of (is_position e T s.sections at) T (length B) s.sections at e X) (call.kept L s.sections s.within s.kept)
    where
      go : (p : Result Splice Refusal) → KeptSaid p B s.sections at X K S r B' S' → Standing B' L S' v
      go (Err x) k = let y = k.buffer in let z = k.store in rw (y, z) s
      go (Ok p) k = differ (sym k.0.taken ∙ t)

-- The first call.
after-start : (B : List ℤ) (L : ℕ) {K S : List ℕ} {r : Answer} {Q : List ℕ} → Started (take L B) K S r Q → r.taken ≡ true
    → Standing B r.length Q r.verdict
after-start B L {K} {S} {r} {Q} s t = passing (form_of (take L B)) refl
  where
    z : (take r.length B ≡ take L B) × (r.length ≤ length B)
    z = take_short B L r.length s.words

    not_taken : ((h : Sections) → Passing (take L B) h → ⊥) → Standing B r.length Q r.verdict
    not_taken n = differ (sym t ∙ (s.refused n).1)

    passes : (h : Sections) → Passing (take L B) h → Standing B r.length Q r.verdict
    passes h p = let y = z.0 in let c = (s.taken h p).1 in record { sections = h; within = z.1; kept = rw y c.kept; judged = rw y c.judged }

    laid : (h : Sections) → form_of (take L B) ≡ Ok h → (xs : List Refusal) → layout (take L B) h ≡ xs → Standing B r.length Q r.verdict
    laid h f [] e = passes h (record { form = f; laid = e })
    laid h f (x ∷ xs) e =
        not_taken (λ g p.
        let i : Ok h ≡ Ok g = sym f ∙ p.form in
        let j : h ≡ g = cc in
        let o : x ∷ xs ≡ [] = sym e ∙ (rw j p.laid) in
        let y : ◌≡◌ {A = ℕ} 0 1 = cc in omega arith)

    passing : (f : Result Sections Refusal) → form_of (take L B) ≡ f → Standing B r.length Q r.verdict
    passing (Err x) e =
        not_taken (λ h p. let o : Err x ≡ Ok h = sym e ∙ p.form in let y : ◌≡◌ {A = ℕ} 0 1 = cc in omega arith)
    passing (Ok h) e = laid h e (layout (take L B) h) refl

standing : {B : List ℤ} {L : ℕ} {S : List ℕ} {v : Result (Unit {0}) Refusal} → Session B L S v → Standing B L S v
standing (begun B L s t) = after-start B L s t
standing (made s call t) = after-made (standing s) call t
standing (unmade s call t) = after-unmade (standing s) call t

-- "After any edits, if nobody else writes the table or the store, the verdict and its place equal a check of the present table from nothing".
pub session-judged : SessionJudged
session-judged B L S v s = (standing s).judged
