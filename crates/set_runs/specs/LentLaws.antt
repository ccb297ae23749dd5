-- The table that a run reads is decoded as the one that was checked, and its ends are the same.
use Prim.Native.Nat.{ℕ, zero, suc, ◌+◌, ◌-◌, ◌*◌, ◌/◌, ◌%◌, ◌≤◌, ◌<◌, min}
use Rattle.std.specs.Prelude.{◌≡◌, Bool, true, false, ◌&&◌, ltb, eqb, ℤ, pos, take, drop}
use Rattle.std.proofs.Math.Path.{refl, ap, ap₂}
use Rattle.std.proofs.Common.{sym, ◌∙◌, arith, ne_eqb, length-drop, get_or-drop, drop-drop}
use Rattle.std.proofs.Math.Bool.{cond}
use mathlib.Core.List.{List, [], ◌∷◌}
use Rattle.std.proofs.Math.Decide.{ℕ_discrete}
use Rattle.std.proofs.Math.ListN.{length, get_or, length-take}
use Rattle.std.proofs.Math.Seq.{take-nil}
use Rattle.arrays.specs.TabulateLaws.{tabulate-alike}
use Rattle.words.specs.Words.{biased, word, fields_at}
use Rattle.words.specs.Sections.{Limits, in_limits, variables_start, row_start, statement_start}
use Rattle.words.specs.SectionsLaws.{limits}
use Rattle.words.specs.declared.sections.Sections.{Sections}
use Rattle.statements.specs.Decode.{decoded, decoded_at}
use Rattle.table.specs.Form.{sections_of, head_right}
use Rattle.table.specs.FormLaws.{head-long, start-least}
use Rattle.table.specs.Variables.{row_words_at, row_of, row_at, end_words_at}
use Rattle.rules.specs.BoundsRules.{nothing_known, sized, row_bound, in_force}
use Rattle.rules.specs.Verdict.{environment_of, bounds_of, variable_size, row_bounds}
use Rattle.rules.specs.Sets.{object_words, with_objects, members, member_of, AllAccepted}
use Rattle.rules.specs.PutLaws.{length-put, put-behind, head-whole, objects-long}
use Rattle.rules.proofs.SetLaws.{put-start, put-objects, lists-none, lent-head}
use Rattle.rules.specs.declared.Bounds.{Bounds}
use Rattle.rules.specs.declared.Environment.{Environment}
use Rattle.entry.specs.Ends.{bounds_number, place_bounds, place_number, ends_of}
use Rattle.parts.specs.Parts.{length_at, start_at, window, part_of, span_of}
use Rattle.parts.specs.PartsLaws.{between-part, starts-order}
use Rattle.sets.specs.Tables.{tables_in}
use Rattle.sets.specs.TableLaws.{length-tables, table_at}
use Rattle.sets.specs.SignatureLaws.{SameVariables, string-same, end-same, read_same, variables-same, statements-same, rows_same}
use Rattle.sets.specs.JudgedLaws.{member-put}
use Rattle.set_runs.specs.Lent.{lent_of, shared_objects, shift, part_in, read_in, sections_in}

-- ---- ends by what they are made of

module _ (E G : Environment) (d : E.declared ≡ G.declared) (r : E.rows ≡ G.rows) (s : E.sizes ≡ G.sizes) (t : E.strings ≡ G.strings) (R : List ℕ) where
  row-bound : (k p : ℕ) → row_bound E k p ≡ row_bound G k p
  unfolding row_bound
  row-bound zero p = ap (λ (x : List Bounds). get_or x p nothing_known) d
  row-bound (suc k) p = ap₂ (λ (x : List ℕ) (y : List Bounds). sized (get_or x p 1) (get_or y k nothing_known)) s r

  forced-same : (in_force E R).declared ≡ (in_force G R).declared
  forced-same = tabulate-alike 16 (λ p l. row-bound (get_or R p 0) p)

  place_same : (j : ℕ) → place_bounds E R j ≡ place_bounds G R j
  unfolding place_bounds
  place_same j =
      ap₂ (λ (x y : List Bounds). cond (ltb j 16) (get_or x j nothing_known) (get_or y (j - 16) nothing_known)) forced-same r

  number_same : (i : ℕ) → place_number E R i ≡ place_number G R i
  number_same i = rw (place_same (i / 6), s, t) refl

  ends-alike : ends_of E R ≡ ends_of G R
  unfolding ends_of
  ends-alike = tabulate-alike 512 (λ i l. number_same i)

-- ---- two tables that have the same words from the variables on

module _ (X M : List ℤ) (h : Sections) (within : in_limits h ≡ true) (words : (j : ℕ) → word X (variables_start h + j) ≡ word M (variables_start h + j)) where
  same : SameVariables X h M h
  same = record { limits = within; limits-other = within; count = refl; words = words }

  word_same : (i : ℕ) → variables_start h ≤ i → word X i ≡ word M i
  word_same i l = let e : variables_start h + (i - variables_start h) ≡ i = omega arith in rw e at (words (i - variables_start h))

  pub decoded-same : (a : ℕ) → decoded_at X h a ≡ decoded_at M h a
  unfolding decoded_at fields_at
  decoded-same a =
      let i = statement_start h a in
      let few = limits h within in
      let l : variables_start h ≤ i = omega (arith, few.start, few.objects) in
      rw (
        word_same i l,
        word_same (i + 1) (omega arith),
        word_same (i + 2) (omega arith),
        word_same (i + 3) (omega arith),
        word_same (i + 4) (omega arith),
        word_same (i + 5) (omega arith),
        word_same (i + 6) (omega arith),
      ) refl

  end-words : (i : ℕ) → variables_start h ≤ i → end_words_at X i ≡ end_words_at M i
  unfolding end_words_at
  end-words i l = rw (word_same i l, word_same (i + 1) (omega arith), word_same (i + 2) (omega arith)) refl

  row_same : (r : ℕ) → row_at X h r ≡ row_at M h r
  unfolding row_at row_of row_words_at
  row_same r =
      let i = row_start h r in
      rw (end-words i (omega arith), end-words (i + 3) (omega arith), end-same same M i, end-same same M (i + 3)) refl

  declared_same : (environment_of X h).declared ≡ (environment_of M h).declared
  unfolding environment_of
  declared_same = tabulate-alike 16 (λ v l. ap bounds_of (read_same same v))

  rows_alike : (environment_of X h).rows ≡ (environment_of M h).rows
  unfolding environment_of
  rows_alike = tabulate-alike 64 (λ r l. ap row_bounds (row_same r))

  sizes-same : (environment_of X h).sizes ≡ (environment_of M h).sizes
  unfolding environment_of
  sizes-same = tabulate-alike 16 (λ v l. ap variable_size (read_same same v))

  strings-same : (environment_of X h).strings ≡ (environment_of M h).strings
  unfolding environment_of
  strings-same = tabulate-alike 17 (λ v l. string-same same v)

  pub ends_same : (R : List ℕ) → ends_of (environment_of X h) R ≡ ends_of (environment_of M h) R
  ends_same R = ends-alike (environment_of X h) (environment_of M h) declared_same rows_alike sizes-same strings-same R

-- ---- where it is read

drop-window : {A : Type 0} (k c b : ℕ) (l : List A) → drop k (window b c l) ≡ window (b + k) (c - k) l
drop-window k c b l = go k c (drop b l) ∙ ap (take (c - k)) (drop-drop k b l)
  where
    go : {A : Type 0} (k c : ℕ) (l : List A) → drop k (take c l) ≡ take (c - k) (drop k l)
    go zero c l = let e : c - 0 ≡ c = omega arith in rw e refl
    go (suc k) zero l = let e : 0 - suc k ≡ 0 = omega arith in rw e refl
    go (suc k) (suc c) [] = sym (take-nil (suc c - suc k))
    go (suc k) (suc c) (x ∷ l) = let e : suc c - suc k ≡ c - k = omega arith in rw e (go k c l)

module _ (W : List ℤ) (L : List ℕ) (accepted : AllAccepted (tables_in W L)) (n : ℕ) (l : n < length L) where
  abbrev Ts : List (List ℤ)
  Ts = tables_in W L

  abbrev M : List ℤ
  M = member_of Ts n

  known : n < length Ts
  known = omega (arith, length-tables W L)

  first : 0 < length Ts
  first = omega (arith, known)

  lent_is : get_or Ts n [] ≡ lent_of W L n
  lent_is = table_at W L n l

  first-is : get_or Ts 0 [] ≡ lent_of W L 0
  first-is = table_at W L 0 (omega arith)

  pub right : head_right (lent_of W L n) ≡ true
  right = ap head_right (sym lent_is) ∙ lent-head Ts n (accepted.each n known)

  pub first-right : head_right (lent_of W L 0) ≡ true
  first-right = ap head_right (sym first-is) ∙ lent-head Ts 0 (accepted.each 0 first)

  -- Routine 0 is its own table; one behind it has the objects put in.
  own-table : (Us : List (List ℤ)) → member_of Us 0 ≡ get_or Us 0 []
  unfolding members
  own-table [] = refl
  own-table (T ∷ Us) = refl

  pub member-first : n ≡ 0 → M ≡ lent_of W L n
  member-first e = rw e (own-table Ts ∙ first-is)

  pub member-later : (n ≡ 0 → ⊥) → M ≡ with_objects (object_words (lent_of W L 0)) (lent_of W L n)
  member-later z = member-put Ts n z known ∙ ap₂ (λ (F T : List ℤ). with_objects (object_words F) T) first-is lent_is

  pub none-listed : (n ≡ 0 → ⊥) → (sections_of (lent_of W L n)).objects ≡ 0
  none-listed z = ap (λ (T : List ℤ). (sections_of T).objects) (sym lent_is) ∙ lists-none Ts n (accepted.each n known) z

  sections-made : (g : Sections) → g.start ≡ (sections_of (lent_of W L n)).start → g.objects ≡ shared_objects W L
      → g.variables ≡ (sections_of (lent_of W L n)).variables
      → g.statements ≡ (sections_of (lent_of W L n)).statements → g.rows ≡ (sections_of (lent_of W L n)).rows → sections_in W L n ≡ g
  sections-made g a b c d e = rw (sym a, sym b, sym c, sym d, sym e) refl

  abbrev os : List ℤ
  os = object_words (lent_of W L 0)

  whole : (sections_of (lent_of W L n)).start ≤ length (lent_of W L n)
  whole = head-whole (lent_of W L n) right

  -- Its sections are those of the member,
  pub sections-are : sections_in W L n ≡ sections_of M
  sections-are = go (ℕ_discrete n 0)
    where
      go : Dec (n ≡ 0) → sections_in W L n ≡ sections_of M
      go (yes e) =
          let q = member-first e in
          sections-made (sections_of M) (ap (λ (T : List ℤ). (sections_of T).start) q)
          (ap (λ (T : List ℤ). (sections_of T).objects) q ∙ ap (λ (k : ℕ). (sections_of (lent_of W L k)).objects) e)
          (ap (λ (T : List ℤ). (sections_of T).variables) q)
          (ap (λ (T : List ℤ). (sections_of T).statements) q) (ap (λ (T : List ℤ). (sections_of T).rows) q)
      go (no z) =
          let q = member-later z in
          sections-made (sections_of M) (ap (λ (T : List ℤ). (sections_of T).start) q ∙ put-start os (lent_of W L n) whole)
          (ap (λ (T : List ℤ). (sections_of T).objects) q ∙ (put-objects os (lent_of W L n) whole ∙ objects-long (lent_of W L 0) first-right))
          (ap (λ (T : List ℤ). (sections_of T).variables) q ∙ variables-same os (lent_of W L n) whole)
          (ap (λ (T : List ℤ). (sections_of T).statements) q ∙ statements-same os (lent_of W L n) whole)
          (ap (λ (T : List ℤ). (sections_of T).rows) q ∙ rows_same os (lent_of W L n) whole)

  -- ---- its words

  abbrev begins : ℕ
  begins = (span_of L 1 0 n (length W)).start

  abbrev ends : ℕ
  ends = (span_of L 1 0 n (length W)).end

  read_first : n ≡ 0 → read_in W L n ≡ lent_of W L n
  read_first e =
      let z : shift W L n ≡ 0 = rw e refl in
      let a : begins - shift W L n ≡ begins = omega arith in
      rw a (between-part L 1 0 n (length W) W refl)

  -- The words of routine 0, which stand before those of a later one, are more than its objects.
  shared-before : (n ≡ 0 → ⊥) → shared_objects W L ≤ begins
  unfolding start_at
  shared-before z =
      let a : length (lent_of W L 0) ≡ min (length_at L 1 0 0) (length (drop 0 W)) = length-take (length_at L 1 0 0) (drop 0 W) in
      omega (arith, a, head-long (lent_of W L 0) first-right, starts-order L 1 0 0 n (omega arith))

  read-later : (n ≡ 0 → ⊥) → drop (shared_objects W L) (read_in W L n) ≡ lent_of W L n
  read-later z =
      let s : shift W L n ≡ shared_objects W L = rw (ne_eqb n 0 z) refl in
      let k = shared_objects W L in
      let a : begins - k + k ≡ begins = omega (arith, shared-before z) in
      let b : ends - (begins - k) - k ≡ ends - begins = omega (arith, shared-before z) in
      ap (λ (x : ℕ). drop k (window (begins - x) (ends - (begins - x)) W)) s
      ∙ (drop-window k (ends - (begins - k)) (begins - k) W ∙ (rw (a, b) (between-part L 1 0 n (length W) W refl)))

  pub words_are : (j : ℕ) → word (read_in W L n) (variables_start (sections_in W L n) + j) ≡ word M (variables_start (sections_in W L n) + j)
  unfolding word
  words_are j = go (ℕ_discrete n 0)
    where
      i : ℕ
      i = variables_start (sections_in W L n) + j

      go : Dec (n ≡ 0) → biased (get_or (read_in W L n) (variables_start (sections_in W L n) + j) (pos 0))
          ≡ biased (get_or M (variables_start (sections_in W L n) + j) (pos 0))
      go (yes e) = ap (λ (T : List ℤ). biased (get_or T (variables_start (sections_in W L n) + j) (pos 0))) (read_first e ∙ sym (member-first e))
      go (no z) =
          let k = shared_objects W L in
          let s = (sections_of (lent_of W L n)).start in
          let c : length os ≡ k = objects-long (lent_of W L 0) first-right in
          let a : variables_start (sections_in W L n) + j ≡ k + (s + j) = omega arith in
          let b : variables_start (sections_in W L n) + j ≡ s + length os + j = omega arith in
          ap biased (ap (λ (x : ℕ). get_or (read_in W L n) x (pos 0)) a
          ∙ (sym (get_or-drop k (read_in W L n) (s + j) (pos 0))
          ∙ (ap (λ (T : List ℤ). get_or T (s + j) (pos 0)) (read-later z)
          ∙ (sym (put-behind os (lent_of W L n) whole j)
          ∙ (ap (λ (T : List ℤ). get_or T (s + length os + j) (pos 0)) (sym (member-later z)) ∙ ap (λ (x : ℕ). get_or M x (pos 0)) (sym b))))))

  -- and its statements lie in it.
  pub statements-inside : statement_start (sections_in W L n) (sections_in W L n).statements ≤ length (read_in W L n)
  statements-inside = go (ℕ_discrete n 0)
    where
      go : Dec (n ≡ 0) → statement_start (sections_in W L n) (sections_in W L n).statements ≤ length (read_in W L n)
      go (yes e) =
          let o : shared_objects W L ≡ (sections_of (lent_of W L n)).objects = ap (λ (k : ℕ). (sections_of (lent_of W L k)).objects) (sym e) in
          omega (arith, head-long (lent_of W L n) right, ap length (read_first e))
      go (no z) =
          omega (
            arith,
            head-long (lent_of W L n) right,
            none-listed z,
            ap length (read-later z),
            length-drop (shared_objects W L) (read_in W L n),
            start-least
                (lent_of W L n),
          )
