-- Laws of the copy of a table with the objects of routine 0 put in.
use Rattle.std.specs.Prelude.{ℕ, zero, suc, ◌+◌, ◌-◌, ◌*◌, ◌≤◌, ◌<◌, ◌≡◌, refl, Bool, true, false, List, [], ℤ, pos, length, get_or, set, take}
use Rattle.std.proofs.Common.{sym, ap, ◌∙◌, ⊎_elim, eq-or-lt_of_le, arith, length-take, length-set, ext_get_or, get_or-take, get_or-set_same, get_or-set_other}
use Rattle.words.specs.Sections.{Limits}
use Rattle.words.specs.SectionsLaws.{limits}
use Rattle.words.specs.declared.sections.Sections.{Sections}
use Rattle.table.specs.Form.{sections_of, four_pairs, head_right}
use Rattle.table.specs.FormLaws.{head-limits, head-long, start-six, start-eight}
use Rattle.rules.specs.Sets.{object_words, with_objects}
use Rattle.rules.specs.PutLaws.{length-put, put-kept, put_count, put-object, put-behind, head-whole, objects-long, object-word}
use Rattle.rules.specs.PutLaws.{put-second-offset, put-third-offset, put-fourth-offset}
use Rattle.sets.specs.Member.{Puts, Copied, Put}
use Rattle.sets.specs.Checked.{member_words}

pub puts-made : (F T : List ℤ) {own h : Sections} → head_right F ≡ true → head_right T ≡ true → own ≡ sections_of F → h ≡ sections_of T
    → (sections_of T).objects ≡ 0 → Puts F T own h
puts-made F T p q e f n = record {
  right-first = p;
  right = q;
  none = ap (λ (g : Sections). g.objects) f ∙ n;
  sections-first = e;
  sections = f;
  limits-first = rw e (limits (sections_of F) (head-limits F p));
  limits = rw f (limits (sections_of T) (head-limits T q));
}

module _ {F T : List ℤ} {own h : Sections} (p : Puts F T own h) where
  abbrev os : List ℤ
  os = object_words F

  abbrev full : List ℤ
  full = with_objects os T

  none-listed : (sections_of T).objects ≡ 0
  none-listed = ap (λ (g : Sections). g.objects) (sym p.sections) ∙ p.none

  whole : (sections_of T).start ≤ length T
  whole = head-whole T p.right

  starts : h.start ≡ (sections_of T).start
  starts = ap (λ (g : Sections). g.start) p.sections

  counts : length os ≡ own.objects
  counts = objects-long F p.right-first ∙ ap (λ (g : Sections). g.objects) (sym p.sections-first)

  pub full-long : length full ≡ length T + own.objects
  full-long = length-put os T whole ∙ ap (λ (n : ℕ). length T + n) counts

  pub full-within : length full ≤ member_words
  full-within =
      let l = limits (sections_of T) (head-limits T p.right) in
      omega (arith, full-long, head-long T p.right, l.objects, l.variables, l.statements, l.start, l.rows, p.limits-first.objects)

  pub word_count : pos own.objects ≡ get_or full 1 (pos 0)
  word_count = ap pos (sym counts) ∙ sym (put_count os T whole)

  pub word-second : pos (h.start + own.objects) ≡ get_or full 2 (pos 0)
  word-second =
      let e : h.start + own.objects ≡ (sections_of T).start + length os = omega (arith, starts, counts) in
      ap pos e ∙ sym (put-second-offset os T p.right none-listed)

  variables-are : h.variables ≡ (sections_of T).variables
  variables-are = ap (λ (g : Sections). g.variables) p.sections

  statements-are : h.statements ≡ (sections_of T).statements
  statements-are = ap (λ (g : Sections). g.statements) p.sections

  pub word-third : pos (h.start + own.objects + 8 * h.variables) ≡ get_or full 4 (pos 0)
  word-third =
      let e : h.start + own.objects + 8 * h.variables ≡ (sections_of T).start + length os + 8 * (sections_of T).variables =
      omega (arith, starts, counts, variables-are) in
      ap pos e ∙ sym (put-third-offset os T p.right none-listed)

  pub word-fourth : 6 < h.start → pos (h.start + own.objects + 8 * h.variables + 7 * h.statements) ≡ get_or full 6 (pos 0)
  word-fourth l =
      let e : h.start + own.objects + 8 * h.variables + 7 * h.statements
      ≡ (sections_of T).start + length os + 8 * (sections_of T).variables + 7 * (sections_of T).statements =
      omega (arith, starts, counts, variables-are, statements-are) in
      ap pos e ∙ sym (put-fourth-offset os T p.right none-listed (eight (four_pairs T) refl))
    where
      eight : (b : Bool) → four_pairs T ≡ b → (sections_of T).start ≡ 8
      eight true e = start-eight T e
      eight false e = absurd (omega (arith, l, starts, start-six T e))

  pub word-head : (i : ℕ) → (i ≡ 1 → ⊥) → (i ≡ 2 → ⊥) → (i ≡ 4 → ⊥) → (i ≡ 6 → ⊥) → i < h.start → get_or T i (pos 0) ≡ get_or full i (pos 0)
  word-head i a b c d l = sym (put-kept os T whole i a b c d (omega (arith, starts)))

  pub word-object : (i : ℕ) → h.start ≤ i → i < h.start + own.objects → get_or F (own.start + (i - h.start)) (pos 0) ≡ get_or full i (pos 0)
  word-object i l u =
      let o : ℕ = i - h.start in
      let e : (sections_of T).start + o ≡ i = omega (arith, starts) in
      let f : own.start ≡ (sections_of F).start = ap (λ (g : Sections). g.start) p.sections-first in
      ap (λ (s : ℕ). get_or F (s + o) (pos 0)) f
      ∙ (sym (object-word F p.right-first o (omega (arith, counts, objects-long F p.right-first)))
      ∙ (sym (put-object os T whole o (omega (arith, counts))) ∙ ap (λ (j : ℕ). get_or full j (pos 0)) e))

  pub word-behind : (i : ℕ) → h.start + own.objects ≤ i → get_or T (i - own.objects) (pos 0) ≡ get_or full i (pos 0)
  word-behind i l =
      let j : ℕ = i - (h.start + own.objects) in
      let e : (sections_of T).start + length os + j ≡ i = omega (arith, starts, counts) in
      let f : i - own.objects ≡ (sections_of T).start + j = omega (arith, starts) in
      ap (λ (k : ℕ). get_or T k (pos 0)) f ∙ (sym (put-behind os T whole j) ∙ ap (λ (k : ℕ). get_or full k (pos 0)) e)

-- ---- the loop

pub copied_none : (full l : List ℤ) → Copied full l 0 l
copied_none full l = record { long = refl; words = λ i q. absurd (omega arith) }

pub copied_more : {full old new : List ℤ} {n : ℕ} {z : ℤ} → Copied full old n new → n < length old → z ≡ get_or full n (pos 0)
    → Copied full old (n + 1) (set new n z)
copied_more {full} {old} {new} {n} {z} c l e = record {
  long = length-set new n z ∙ c.long;
  words = λ i q. ⊎_elim
      (λ (s : i ≡ n). rw s (get_or-set_same new n z (pos 0) (omega (arith, c.long)) ∙ e))
      (λ (s : i < n). get_or-set_other new n i z (pos 0) (λ y. omega arith) ∙ c.words i s)
      (eq-or-lt_of_le (omega arith));
}

pub copied-whole : {F T old new : List ℤ} {own h : Sections} {n m : ℕ} → Puts F T own h → member_words ≤ length old → m ≡ length T + own.objects → m ≤ n
    → Copied (with_objects (object_words F) T) old n new → Put F T old m new
copied-whole {F} {T} {old} {new} {own} {h} {n} {m} p room e l c =
    let full = with_objects (object_words F) T in
    let k : m ≡ length full = e ∙ sym (full-long p) in
    let t : length (take m new) ≡ m = length-take m new ∙ omega (arith, c.long, k, full-within p) in
    record {
      long = c.long;
      within = omega (arith, k, full-within p);
      counted = k;
      front = ext_get_or (pos 0) (take m new) full (t ∙ k) (λ i q. get_or-take m new i (pos 0) (omega (arith, t)) ∙ c.words i (omega (arith, t)));
    }
