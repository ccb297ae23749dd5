-- Laws of the check of a lent set: each of its answers is the verdict.
use Rattle.std.specs.Prelude.{ℕ, ◌+◌, ◌≤◌, ◌<◌, ◌≡◌, Bool, true, false, ◌&&◌, leb, eqb, ℤ, length, get_or, take, Err, None, Ok, Result, Some}
use Rattle.std.proofs.Math.Path.{refl, ap}
use Rattle.std.proofs.Common.{sym, ◌∙◌, ⊎_elim, eq-or-lt_of_le, arith}
use mathlib.Core.List.{List, [], ◌∷◌}
use borrow.Author.Tests.{le-leb, lt-leb, eq-eqb, ne_eqb}
use Rattle.answers.specs.declared.refusals.Refusal.{Refusal}
use Rattle.answers.specs.declared.refusals.Refusal.TheVariants.{RoutineCount, ObjectLength}
use Rattle.table.specs.Form.{sections_of, head_right}
use Rattle.parts.specs.Parts.{part_of, span_of, between}
use Rattle.parts.specs.PartsLaws.{between-part}
use Rattle.parts.specs.declared.Span.{Span}
use Rattle.rules.specs.Calls.{Routine}
use Rattle.rules.specs.Sets.{object_words, with_objects, count_right, RoutineJudged, FirstRefused, AllAccepted, SetJudged}
use Rattle.rules.proofs.SetLaws.{lent-head}
use Rattle.rules.specs.Stored.{faults}
use Rattle.rules.specs.Verdict.{verdict_of}
use Rattle.declared.specs.Callee.{callees_in, none-called}
use Rattle.sets.specs.Tables.{tables_in}
use Rattle.sets.specs.TableLaws.{length-tables, table_at, callees-count, callee-lent}
use Rattle.sets.specs.Member.{later_faults}
use Rattle.sets.specs.JudgedLaws.{said-first, said-later}
use Rattle.sets.specs.Checked.{member_words, SetAnswered}

-- ---- a routine behind the first

module _ (rs : List Routine) (F T : List ℤ) where
  pub later-wrong : {qs : List Routine} {v : Result (Unit {0}) Refusal} → head_right T ≡ false → qs ≡ [] → v ≡ verdict_of (faults qs T [])
      → v ≡ verdict_of (later_faults rs F T)
  unfolding later_faults
  later-wrong {qs} {v} h n e = rw h (e ∙ ap (λ (xs : List Routine). verdict_of (faults xs T [])) n)

  pub later-lists : head_right T ≡ true → ((sections_of T).objects ≡ 0 → ⊥) → Err (ObjectLength 0) ≡ verdict_of (later_faults rs F T)
  unfolding later_faults verdict_of
  later-lists h o = rw (h, ne_eqb (sections_of T).objects 0 o) refl

  pub later-put : {U : List ℤ} {v : Result (Unit {0}) Refusal} → head_right T ≡ true → (sections_of T).objects ≡ 0 → U ≡ with_objects (object_words F) T
      → v ≡ verdict_of (faults rs U []) → v ≡ verdict_of (later_faults rs F T)
  unfolding later_faults
  later-put {U} {v} h o u e = rw (h, eq-eqb (sections_of T).objects 0 o) (e ∙ ap (λ (X : List ℤ). verdict_of (faults rs X [])) u)

-- ---- a routine by its number

module _ (W : List ℤ) (L : List ℕ) (n : ℕ) (within : n < length L) {t : Span} (p : t ≡ span_of L 1 0 n (length W)) where
  -- The part of the words is the table.
  pub span-table : between t W ≡ get_or (tables_in W L) n []
  span-table = ap (λ (x : Span). between x W) p ∙ (between-part L 1 0 n (length W) W refl ∙ sym (table_at W L n within))

  pub judged-first : {v : Result (Unit {0}) Refusal} → n ≡ 0 → v ≡ verdict_of (faults (callees_in W []) (between t W) []) → RoutineJudged (tables_in W L) n v
  judged-first {v} z e =
      let j = said-first (tables_in W L) {v = v} (omega (arith, length-tables W L)) (none-called W [] refl)
      (e ∙ ap (λ (T : List ℤ). verdict_of (faults (callees_in W []) T [])) (span-table ∙ ap (λ (m : ℕ). get_or (tables_in W L) m []) z)) in
      rw z j

  module _ (few : length L ≤ 8) (earlier : (m : ℕ) → m < n → RoutineJudged (tables_in W L) m (Ok tt)) (z : n ≡ 0 → ⊥)
      {f : Span} (q : f ≡ span_of L 1 0 0 (length W)) where
    first-table : between f W ≡ get_or (tables_in W L) 0 []
    first-table = ap (λ (x : Span). between x W) q ∙ (between-part L 1 0 0 (length W) W refl ∙ sym (table_at W L 0 (omega arith)))

    pub first-right : head_right (between f W) ≡ true
    first-right = rw first-table (lent-head (tables_in W L) 0 (earlier 0 (positive n z)))
      where
        positive : (n : ℕ) → (n ≡ 0 → ⊥) → 0 < n
        positive n z = ⊎_elim (λ (e : 0 ≡ n). absurd (z (sym e))) (λ (l : 0 < n). l) (eq-or-lt_of_le (omega arith))

    pub judged-later : {v : Result (Unit {0}) Refusal} → v ≡ verdict_of (later_faults (callees_in W (take n L)) (between f W) (between t W))
        → RoutineJudged (tables_in W L) n v
    judged-later {v} e =
        said-later (tables_in W L) n (omega (arith, length-tables W L)) earlier (callees_in W (take n L))
        (callees-count W L n (omega arith) (omega arith)) (callee-lent W L n (omega arith) (omega arith)) {v = v} z (omega (arith, length-tables W L))
        (e ∙ rw (first-table, span-table))

-- ---- the set

module _ (W : List ℤ) (L : List ℕ) (room : ℕ) where
  pub no_room : room < member_words → SetAnswered room (tables_in W L) None
  unfolding SetAnswered
  no_room l = l

  module _ (roomy : member_words ≤ room) where
    pub wrong-few : length L < 1 → SetAnswered room (tables_in W L) (Some (Err (record { routine = 0; refusal = RoutineCount })))
    unfolding SetAnswered SetJudged count_right
    wrong-few l = (roomy, rw (length-tables W L, lt-leb 1 (length L) l) (refl, refl))

    pub wrong-many : 1 ≤ length L → 8 < length L → SetAnswered room (tables_in W L) (Some (Err (record { routine = 0; refusal = RoutineCount })))
    unfolding SetAnswered SetJudged count_right
    wrong-many l m = (roomy, rw (length-tables W L, le-leb 1 (length L) l, lt-leb (length L) 8 m) (refl, refl))

    module _ (some : 1 ≤ length L) (few : length L ≤ 8) where
      right-count : count_right (tables_in W L) ≡ true
      unfolding count_right
      right-count = rw (length-tables W L, le-leb 1 (length L) some, le-leb (length L) 8 few) refl

      pub answer-refused : (n : ℕ) (r : Refusal) {v : Result (Unit {0}) Refusal} → n < length L → ((m : ℕ) → m < n → RoutineJudged (tables_in W L) m (Ok tt))
          → RoutineJudged (tables_in W L) n v → v ≡ Err r → SetAnswered room (tables_in W L) (Some (Err (record { routine = n; refusal = r })))
      unfolding SetAnswered SetJudged
      answer-refused n r l earlier j e =
          let k : RoutineJudged (tables_in W L) n (Err r) = rw e at j in
          let f : FirstRefused (tables_in W L) n r =
          record { count = right-count; below = omega (arith, length-tables W L); refused-it = k; earlier = earlier } in
          (roomy, rw right-count f)

      pub answer-accepted : (n : ℕ) → length L ≤ n → ((m : ℕ) → m < n → RoutineJudged (tables_in W L) m (Ok tt))
          → SetAnswered room (tables_in W L) (Some (Ok tt))
      unfolding SetAnswered SetJudged
      answer-accepted n l earlier = (roomy, record { count = right-count; each = λ m k. earlier m (omega (arith, length-tables W L)) })

-- One more routine is accepted.
pub earlier_more : (Ts : List (List ℤ)) (n : ℕ) {v : Result (Unit {0}) Refusal} → ((m : ℕ) → m < n → RoutineJudged Ts m (Ok tt)) → RoutineJudged Ts n v
    → v ≡ Ok tt
    → (m : ℕ) → m < n + 1 → RoutineJudged Ts m (Ok tt)
earlier_more Ts n {v} earlier j e m l =
    let k : RoutineJudged Ts n (Ok tt) = rw e at j in
    ⊎_elim (λ (s : m ≡ n). rw s k) (λ (s : m < n). earlier m s) (eq-or-lt_of_le (omega arith))
