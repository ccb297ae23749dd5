-- The words of a table with the objects of routine 0 put in (rules/Sets).
use Rattle.std.specs.Prelude.{ℕ, ◌+◌, ◌*◌, ◌≤◌, ◌<◌, min, ◌≡◌, refl, Bool, true, false, List, ◌++◌, ℤ, pos, get_or, set, take}
use Rattle.std.proofs.Common.{sym, ◌∙◌, arith, get_or-set_same, get_or-set_other, get_or-append-add}
use Rattle.std.proofs.Math.Path.{ap}
use Rattle.std.proofs.Math.ListN.{length, drop, length-take, length-drop, length-set, length-append, get_or-append}
use Rattle.std.proofs.Math.Seq.{get_or-take, get_or-drop}
use Rattle.words.specs.Sections.{variables_start, statements_start, rows_start}
use Rattle.words.specs.SectionsLaws.{limits}
use Rattle.words.specs.declared.sections.Sections.{Sections}
use Rattle.table.specs.Form.{sections_of, head_right}
use Rattle.table.specs.FormLaws.{start-least, head-limits, head-long, second-offset, third-offset, fourth-offset}
use Rattle.rules.specs.Sets.{object_words, further, offset_moved, head_for, with_objects}

moved_other : (n : ℕ) (l : List ℤ) (i j : ℕ) → (j ≡ i → ⊥) → get_or (offset_moved n l i) j (pos 0) ≡ get_or l j (pos 0)
moved_other n l i j e = get_or-set_other l i j (further n (get_or l i (pos 0))) (pos 0) e

moved_here : (n : ℕ) (l : List ℤ) (i : ℕ) → i < length l → get_or (offset_moved n l i) i (pos 0) ≡ further n (get_or l i (pos 0))
moved_here n l i p = get_or-set_same l i (further n (get_or l i (pos 0))) (pos 0) p

least : (k n : ℕ) → k ≤ n → min k n ≡ k
least k n l = omega arith

module _ (os T : List ℤ) (whole : (sections_of T).start ≤ length T) where
  abbrev s : ℕ
  s = (sections_of T).start

  abbrev H : List ℤ
  H = take s T

  abbrev n : ℕ
  n = length os

  -- The directory as the objects are counted, and as the first, the second and the third offset behind them are moved.
  abbrev counted : List ℤ
  counted = set H 1 (pos n)

  abbrev second : List ℤ
  second = offset_moved n counted 2

  abbrev third : List ℤ
  third = offset_moved n second 4

  abbrev head : List ℤ
  head = head_for n H

  abbrev full : List ℤ
  full = with_objects os T

  length_taken : length H ≡ s
  length_taken = length-take s T ∙ least s (length T) whole

  length-head : length head ≡ s
  unfolding head_for
  length-head = simp length-set length_taken

  pub length-put : length full ≡ length T + n
  unfolding with_objects
  length-put =
      length-append head (os ++ drop s T)
      ∙ omega (arith, length-head, length-append os (drop s T), length-drop s T)

  -- A word of the directory is one of the whole,
  in_head : (j : ℕ) → j < s → get_or full j (pos 0) ≡ get_or head j (pos 0)
  unfolding with_objects
  in_head j l = get_or-append head (os ++ drop s T) (pos 0) j (omega (arith, length-head))

  taken : (j : ℕ) → j < s → get_or H j (pos 0) ≡ get_or T j (pos 0)
  taken j l = get_or-take s T j (pos 0) l

  unmoved : (j : ℕ) → (j ≡ 2 → ⊥) → (j ≡ 4 → ⊥) → (j ≡ 6 → ⊥) → get_or head j (pos 0) ≡ get_or counted j (pos 0)
  unfolding head_for
  unmoved j p q r = moved_other n third 6 j r ∙ (moved_other n second 4 j q ∙ moved_other n counted 2 j p)

  -- the count of objects, the offsets behind the objects further on, and every other word as it was.
  pub put-kept : (j : ℕ) → (j ≡ 1 → ⊥) → (j ≡ 2 → ⊥) → (j ≡ 4 → ⊥) → (j ≡ 6 → ⊥) → j < s → get_or full j (pos 0) ≡ get_or T j (pos 0)
  put-kept j o p q r l = in_head j l ∙ (unmoved j p q r ∙ (get_or-set_other H 1 j (pos n) (pos 0) o ∙ taken j l))

  pub put_count : get_or full 1 (pos 0) ≡ pos n
  put_count =
      in_head 1 (omega (arith, start-least T)) ∙ (unmoved 1 (λ e. omega arith) (λ e. omega arith) (λ e. omega arith)
      ∙ get_or-set_same H 1 (pos n) (pos 0) (omega (arith, length_taken, start-least T)))

  counted-at : (j : ℕ) → (j ≡ 1 → ⊥) → j < s → get_or counted j (pos 0) ≡ get_or T j (pos 0)
  counted-at j o l = get_or-set_other H 1 j (pos n) (pos 0) o ∙ taken j l

  pub put_second : get_or full 2 (pos 0) ≡ further n (get_or T 2 (pos 0))
  unfolding head_for
  put_second =
      let l : 2 < s = omega (arith, start-least T) in
      let m : 2 < length counted = simp length-set (omega (arith, length_taken, start-least T)) in
      in_head 2 l ∙ (moved_other n third 6 2 (λ e. omega arith) ∙ (moved_other n second 4 2 (λ e. omega arith)
      ∙ (moved_here n counted 2 m ∙ ap (further n) (counted-at 2 (λ e. omega arith) l))))

  pub put-third : get_or full 4 (pos 0) ≡ further n (get_or T 4 (pos 0))
  unfolding head_for
  put-third =
      let l : 4 < s = omega (arith, start-least T) in
      let m : 4 < length second = simp length-set (omega (arith, length_taken, start-least T)) in
      in_head 4 l ∙ (moved_other n third 6 4 (λ e. omega arith) ∙ (moved_here n second 4 m
      ∙ ap (further n) (moved_other n counted 2 4 (λ e. omega arith) ∙ counted-at 4 (λ e. omega arith) l)))

  pub put-fourth : 6 < s → get_or full 6 (pos 0) ≡ further n (get_or T 6 (pos 0))
  unfolding head_for
  put-fourth l =
      let m : 6 < length third = simp length-set (omega (arith, length_taken)) in
      in_head 6 l ∙ (moved_here n third 6 m
      ∙ ap (further n) (moved_other n second 4 6 (λ e. omega arith) ∙ (moved_other n counted 2 6 (λ e. omega arith) ∙ counted-at 6 (λ e. omega arith) l)))

  pub put-object : (o : ℕ) → o < n → get_or full (s + o) (pos 0) ≡ get_or os o (pos 0)
  unfolding with_objects
  put-object o l =
      let e : s + o ≡ length head + o = omega (arith, length-head) in
      rw e (get_or-append-add head (os ++ drop s T) o (pos 0) ∙ get_or-append os (drop s T) (pos 0) o l)

  pub put-behind : (j : ℕ) → get_or full (s + n + j) (pos 0) ≡ get_or T (s + j) (pos 0)
  unfolding with_objects
  put-behind j =
      let e : s + n + j ≡ length head + (n + j) = omega (arith, length-head) in
      rw e (get_or-append-add head (os ++ drop s T) (n + j) (pos 0) ∙ (get_or-append-add os (drop s T) j (pos 0) ∙ get_or-drop s T j (pos 0)))

-- ---- of tables that causes 1 and 2 do not refuse

pub head-whole : (T : List ℤ) → head_right T ≡ true → (sections_of T).start ≤ length T
head-whole T right = omega (arith, head-long T right)

module _ (T : List ℤ) (right : head_right T ≡ true) where
  pub objects-long : length (object_words T) ≡ (sections_of T).objects
  unfolding object_words
  objects-long =
      length-take (sections_of T).objects (drop (sections_of T).start T)
      ∙ least _ _ (omega (arith, length-drop (sections_of T).start T, head-long T right))

  pub objects-few : length (object_words T) ≤ 16
  objects-few = omega (arith, objects-long, (limits (sections_of T) (head-limits T right)).objects)

  pub object-word : (o : ℕ) → o < (sections_of T).objects → get_or (object_words T) o (pos 0) ≡ get_or T ((sections_of T).start + o) (pos 0)
  unfolding object_words
  object-word o l = get_or-take (sections_of T).objects (drop (sections_of T).start T) o (pos 0) l ∙ get_or-drop (sections_of T).start T o (pos 0)

-- The offsets of a table that lists no objects, with some put in.
module _ (os T : List ℤ) (right : head_right T ≡ true) (none : (sections_of T).objects ≡ 0) where
  abbrev h : Sections
  h = sections_of T

  pub put-second-offset : get_or (with_objects os T) 2 (pos 0) ≡ pos (h.start + length os)
  put-second-offset =
      let e : variables_start h + length os ≡ h.start + length os = omega (arith, none) in
      put_second os T (head-whole T right) ∙ (ap (further (length os)) (second-offset T right) ∙ ap pos e)

  pub put-third-offset : get_or (with_objects os T) 4 (pos 0) ≡ pos (h.start + length os + 8 * h.variables)
  put-third-offset =
      let e : statements_start h + length os ≡ h.start + length os + 8 * h.variables = omega (arith, none) in
      put-third os T (head-whole T right) ∙ (ap (further (length os)) (third-offset T right) ∙ ap pos e)

  pub put-fourth-offset : h.start ≡ 8 → get_or (with_objects os T) 6 (pos 0) ≡ pos (h.start + length os + 8 * h.variables + 7 * h.statements)
  put-fourth-offset f =
      let e : rows_start h + length os ≡ h.start + length os + 8 * h.variables + 7 * h.statements = omega (arith, none) in
      put-fourth os T (head-whole T right) (omega (arith, f)) ∙ (ap (further (length os)) (fourth-offset T right f) ∙ ap pos e)
