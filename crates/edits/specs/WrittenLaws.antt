-- The edited table, written in place: the words behind the text moved, then the text, then two words of the directory.
use Rattle.std.specs.Prelude.{ℕ, ◌+◌, ◌-◌, ◌*◌, ◌<◌, ◌≤◌, ◌≡◌, Bool, ◌&&◌, cond, List, [], ◌∷◌, ◌++◌, ℤ, pos, set, eqb}
use Rattle.std.proofs.Math.Path.{refl, sym, ap}
use Rattle.std.proofs.Common.{◌∙◌, ⊎_elim, eq-or-lt_of_le, length-append, length-set, length-drop, ext_get_or, get_or-drop, get_or-append-add, get_or-set_same}
use Rattle.std.proofs.Common.{get_or-set_other}
use Rattle.std.proofs.Math.Bool.{true, false}
use native.Mathlib.Omega.{arith}
use borrow.Author.Tests.{eqb-true, eqb-false, ne_eqb, ltb-true, ltb-false, lt-ltb, le-ltb}
use Rattle.std.proofs.Math.ListN.{length, get_or, drop, get_or-append}
use Rattle.std.proofs.Math.Dec.{ltb}
use Rattle.arrays.specs.Tabulate.{tabulate}
use Rattle.arrays.specs.TabulateLaws.{length-tabulate, get_d_tabulate}
use Rattle.arrays.specs.Overwritten.{Overwritten}
use Rattle.words.specs.Sections.{statement_start, rows_start, table_end}
use Rattle.words.specs.SectionsLaws.{limits}
use Rattle.words.specs.declared.sections.Sections.{Sections}
use Rattle.edits.specs.Edited.{edited_sections, edited_word, edited}
use Rattle.edits.specs.EditedLaws.{Fits, start-least}

-- ---- a loop that writes from the last element on

module _ {A : Type 0} {d : A} where
  pub over-empty : (l : List A) (i : ℕ) (v : ℕ → A) → Overwritten d l i (i - i) v l
  over-empty l i v = record { long = refl; inside = λ j p. absurd (omega arith); below = λ j p. refl; behind = λ j p. refl }

  -- One more before those that are written.
  pub over-before : {old new : List A} {i end : ℕ} {v u : ℕ → A} {a : A} → Overwritten d old i (end - i) v new → 0 < i → i ≤ end → end ≤ length old → a ≡ u 0
      → ((j : ℕ) → j < end - i → v j ≡ u (j + 1)) → Overwritten d old (i - 1) (end - (i - 1)) u (set new (i - 1) a)
  over-before {old} {new} {i} {end} {v} {u} {a} p q r t e f = record {
    long = length-set new (i - 1) a ∙ p.long;
    inside = λ j l. ⊎_elim
        (λ (z : 0 ≡ j). let y : i - 1 + j ≡ i - 1 = omega arith in
        rw (y, sym z) (get_or-set_same new (i - 1) a d (omega (arith, p.long)) ∙ e))
        (λ (z : 0 < j).
        let y : i - 1 + j ≡ i + (j - 1) = omega arith in
        let x : j - 1 + 1 ≡ j = omega arith in
        get_or-set_other new (i - 1) (i - 1 + j) a d (λ o. omega arith) ∙ (rw y (p.inside (j - 1) (omega arith)) ∙ (f (j - 1) (omega arith) ∙ ap u x)))
        (eq-or-lt_of_le (omega arith));
    below = λ j l. get_or-set_other new (i - 1) j a d (λ o. omega arith) ∙ p.below j (omega arith);
    behind = λ j l. get_or-set_other new (i - 1) j a d (λ o. omega arith) ∙ p.behind j (omega arith);
  }

  -- The element that stood `by` before, which no turn has written yet.
  pub shifted_up : {old new : List A} {i end : ℕ} (by : ℕ) {a : A} → Overwritten d old i (end - i) (λ j. get_or old (i + j - by) d) new → 0 < i → i ≤ end
      → end ≤ length old
      → by ≤ i - 1 → a ≡ get_or new (i - 1 - by) d → Overwritten d old (i - 1) (end - (i - 1)) (λ j. get_or old (i - 1 + j - by) d) (set new (i - 1) a)
  shifted_up {old} {new} {i} {end} by p q r t b e =
      over-before p q r t
      (e ∙ (p.below (i - 1 - by) (omega arith) ∙ (let z : i - 1 - by ≡ i - 1 + 0 - by = omega arith in ap (λ (x : ℕ). get_or old x d) z)))
      (λ j l. let z : i + j - by ≡ i - 1 + (j + 1) - by = omega arith in ap (λ (x : ℕ). get_or old x d) z)

  -- The element that stood `by` behind.
  pub shifted_down : {old new : List A} {first i : ℕ} (by : ℕ) {a : A} → Overwritten d old first (i - first) (λ j. get_or old (first + j + by) d) new
      → first ≤ i
      → a ≡ get_or new (i + by) d → a ≡ get_or old (first + (i - first) + by) d
  shifted_down {old} {new} {first} {i} by p q e =
      e ∙ (p.behind (i + by) (omega arith) ∙ (let z : i + by ≡ first + (i - first) + by = omega arith in ap (λ (x : ℕ). get_or old x d) z))

  -- The part behind, then the part before it.
  pub over-both : {old mid new : List A} {at b end n : ℕ} {v u w : ℕ → A} → Overwritten d old b (end - b) u mid → Overwritten d mid at n v new → b ≡ at + n
      → b ≤ end
      → ((i : ℕ) → i < n → v i ≡ w i) → ((i : ℕ) → b + i < end → u i ≡ w (n + i)) → Overwritten d old at (end - at) w new
  over-both {old} {mid} {new} {at} {b} {end} {n} {v} {u} {w} p q e l f g = record {
    long = q.long ∙ p.long;
    inside = go;
    below = λ i r. q.below i r ∙ p.below i (omega arith);
    behind = λ i r. q.behind i (omega arith) ∙ p.behind i (omega arith);
  }
    where
      there : (i : ℕ) → n ≤ i → i < end - at → get_or new (at + i) d ≡ w i
      there i r s =
          let z : at + i ≡ b + (i - n) = omega arith in
          let y : n + (i - n) ≡ i = omega arith in
          q.behind (at + i) (omega arith) ∙ (rw z (p.inside (i - n) (omega arith)) ∙ (g (i - n) (omega arith) ∙ ap w y))

      go : (i : ℕ) → i < end - at → get_or new (at + i) d ≡ w i
      go i s = near (ltb i n) refl
        where
          near : (x : Bool) → ltb i n ≡ x → get_or new (at + i) d ≡ w i
          near true t = let r = ltb-true i n t in q.inside i r ∙ f i r
          near false t = there i (ltb-false i n t) s

  -- The same words, told by another function.
  pub over-alike : {old new : List A} {at n : ℕ} {v u : ℕ → A} → Overwritten d old at n v new → ((i : ℕ) → v i ≡ u i) → Overwritten d old at n u new
  over-alike p f = record { long = p.long; inside = λ i l. p.inside i l ∙ f i; below = p.below; behind = p.behind }

-- ---- the words of the edited table

module _ {B B₁ : List ℤ} (h : Sections) (p m k : ℕ) (X : List ℤ) (fits : Fits h p m k)
    (room : table_end (edited_sections h m k) ≤ length B)
    (copied : Overwritten (pos 0) B (statement_start h p) (table_end (edited_sections h m k) - statement_start h p)
    (λ i. edited_word B h p m k X (statement_start h p + i)) B₁)
    {five six : ℤ} (e₅ : five ≡ edited_word B h p m k X 5) (e₆ : six ≡ edited_word B h p m k X 6) where
  abbrev g : Sections
  g = edited_sections h m k

  abbrev f : ℕ → ℤ
  f = edited_word B h p m k X

  long : 14 ≤ statement_start h p
  long = omega (arith, start-least h fits.limits, (limits h fits.limits).some)

  -- Before the statements only two words change.
  stays : (i : ℕ) → i < statement_start h p → (i ≡ 5 → ⊥) → (i ≡ 6 → ⊥) → f i ≡ get_or B i (pos 0)
  unfolding edited_word
  stays i q r s = rw (ne_eqb i 5 r, ne_eqb i 6 s, lt-ltb i (statement_start h p) q)

  copied-word : (i : ℕ) → i < table_end g → (i ≡ 5 → ⊥) → (i ≡ 6 → ⊥) → get_or B₁ i (pos 0) ≡ f i
  copied-word i q r s = go (ltb i (statement_start h p)) refl
    where
      go : (x : Bool) → ltb i (statement_start h p) ≡ x → get_or B₁ i (pos 0) ≡ f i
      go true t = let l = ltb-true i (statement_start h p) t in copied.below i l ∙ sym (stays i l r s)
      go false t =
          let l = ltb-false i (statement_start h p) t in
          let z : i ≡ statement_start h p + (i - statement_start h p) = omega arith in
          rw z (copied.inside (i - statement_start h p) (omega arith))

  word-here : (i : ℕ) → i < table_end g → get_or (set (set B₁ 5 five) 6 six) i (pos 0) ≡ f i
  word-here i q = go (eqb i 6) refl (eqb i 5) refl
    where
      go : (x : Bool) → eqb i 6 ≡ x → (y : Bool) → eqb i 5 ≡ y → get_or (set (set B₁ 5 five) 6 six) i (pos 0) ≡ f i
      go true t y u =
          let z = eqb-true i 6 t in
          rw z (get_or-set_same (set B₁ 5 five) 6 six (pos 0) (omega (arith, length-set B₁ 5 five, copied.long)) ∙ e₆)
      go false t true u =
          let z = eqb-true i 5 u in
          rw z (get_or-set_other (set B₁ 5 five) 6 5 six (pos 0) (λ o. omega arith) ∙ (get_or-set_same B₁ 5 five (pos 0) (omega (arith, copied.long)) ∙ e₅))
      go false t false u =
          get_or-set_other (set B₁ 5 five) 6 i six (pos 0) (eqb-false i 6 t) ∙ (get_or-set_other B₁ 5 i five (pos 0) (eqb-false i 5 u)
          ∙ copied-word i q (eqb-false i 5 u) (eqb-false i 6 t))

  word-behind : (i : ℕ) → table_end g ≤ i → get_or (set (set B₁ 5 five) 6 six) i (pos 0) ≡ get_or B i (pos 0)
  word-behind i q =
      let l = long in
      let w = fits.within in
      get_or-set_other (set B₁ 5 five) 6 i six (pos 0) (λ o. omega arith) ∙ (get_or-set_other B₁ 5 i five (pos 0) (λ o. omega arith)
      ∙ copied.behind i (omega arith))

  edited-size : length (edited B h p m k X) ≡ table_end g
  unfolding edited
  edited-size = length-tabulate (table_end g) f

  both_words : (i : ℕ) → get_or (edited B h p m k X ++ drop (table_end g) B) i (pos 0) ≡ get_or (set (set B₁ 5 five) 6 six) i (pos 0)
  unfolding edited
  both_words i = go (ltb i (table_end g)) refl
    where
      go : (x : Bool) → ltb i (table_end g) ≡ x → get_or (tabulate (table_end g) f ++ drop (table_end g) B) i (pos 0)
          ≡ get_or (set (set B₁ 5 five) 6 six) i (pos 0)
      go true t =
          let l = ltb-true i (table_end g) t in
          get_or-append (tabulate (table_end g) f) (drop (table_end g) B) (pos 0) i (omega (arith, length-tabulate (table_end g) f))
          ∙ (get_d_tabulate (table_end g) f i (pos 0) l ∙ sym (word-here i l))
      go false t =
          let l = ltb-false i (table_end g) t in
          let z : i ≡ length (tabulate (table_end g) f) + (i - table_end g) = omega (arith, length-tabulate (table_end g) f) in
          let y : table_end g + (i - table_end g) ≡ i = omega arith in
          ap (λ (j : ℕ). get_or (tabulate (table_end g) f ++ drop (table_end g) B) j (pos 0)) z
          ∙ (get_or-append-add (tabulate (table_end g) f) (drop (table_end g) B) (i - table_end g) (pos 0)
          ∙ (get_or-drop (table_end g) B (i - table_end g) (pos 0) ∙ (ap (λ (j : ℕ). get_or B j (pos 0)) y ∙ sym (word-behind i l))))

  pub rewritten : set (set B₁ 5 five) 6 six ≡ edited B h p m k X ++ drop (table_end g) B
  rewritten =
      ext_get_or (pos 0) _ _
      (length-set (set B₁ 5 five) 6 six ∙ (length-set B₁ 5 five ∙ (copied.long
      ∙ omega (arith, room, edited-size, length-append (edited B h p m k X) (drop (table_end g) B), length-drop (table_end g) B))))
      (λ i l. sym (both_words i))

-- The words behind the text are moved, then the text is put.
pub moved-and-put : {B B₁ B₂ : List ℤ} (h : Sections) (p m k : ℕ) (X : List ℤ) {t s end n : ℕ} → Fits h p m k → s ≡ statement_start h p → n ≡ 7 * k → t ≡ s + n
    → end ≡ table_end (edited_sections h m k)
    → Overwritten (pos 0) B t (end - t) (λ i. get_or B (t + i + 7 * m - 7 * k) (pos 0)) B₁ → Overwritten (pos 0) B₁ s n (λ i. get_or X i (pos 0)) B₂
    → Overwritten (pos 0) B (statement_start h p) (table_end (edited_sections h m k) - statement_start h p)
    (λ i. edited_word B h p m k X (statement_start h p + i)) B₂
unfolding edited_word
moved-and-put {B} {B₁} {B₂} h p m k X {t} {s} {end} {n} fits es en et ee tail text =
    rw (es, ee) at (over-both tail text et (omega (arith, fits.within)) near far)
  where
    least : 14 ≤ statement_start h p
    least = omega (arith, start-least h fits.limits, (limits h fits.limits).some)

    near : (i : ℕ) → i < n → get_or X i (pos 0) ≡ edited_word B h p m k X (s + i)
    near i l =
        let z : s + i - statement_start h p ≡ i = omega arith in
        sym (rw (
          ne_eqb (s + i) 5 (λ o. omega (arith, least)),
          ne_eqb (s + i) 6 (λ o. omega (arith, least)),
          le-ltb (s + i) (statement_start h p) (omega arith),
          lt-ltb (s + i) (statement_start h (p + k)) (omega arith),
          z,
        ))

    far : (i : ℕ) → t + i < end → get_or B (t + i + 7 * m - 7 * k) (pos 0) ≡ edited_word B h p m k X (s + (n + i))
    far i l =
        let z : s + (n + i) + 7 * m - 7 * k ≡ t + i + 7 * m - 7 * k = omega arith in
        sym (rw (
          ne_eqb (s + (n + i)) 5 (λ o. omega (arith, least)),
          ne_eqb (s + (n + i)) 6 (λ o. omega (arith, least)),
          le-ltb (s + (n + i)) (statement_start h p) (omega arith),
          le-ltb (s + (n + i)) (statement_start h (p + k)) (omega arith),
          z,
        ))
