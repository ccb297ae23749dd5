-- Laws of an accepted set: each routine is well formed, its walk has no fault by the store, and all have the objects of routine 0.
use Rattle.std.specs.Prelude.{ℕ, zero, suc, ◌+◌, ◌≤◌, ◌<◌, ◌≡◌, Bool, ◌&&◌, ltb, eqb, ℤ, pos, length, get_or, Err, Ok, Result}
use Rattle.std.proofs.Math.Path.{refl}
use Rattle.std.proofs.Common.{sym, ap, ◌∙◌, arith}
use Rattle.std.proofs.Math.Bool.{true, false, not, cond}
use Rattle.std.proofs.lemmas.Bool.{false≢true}
use mathlib.Core.List.{List, [], ◌∷◌, map}
use borrow.Author.Tests.{eqb-true, ltb-true, ne_eqb}
use Rattle.std.proofs.lemmas.List.{length-map}
use Rattle.arrays.specs.TabulateLaws.{tabulate-alike}
use Rattle.answers.specs.declared.refusals.Refusal.{Refusal}
use Rattle.answers.specs.declared.refusals.Refusal.TheVariants.{ObjectLength}
use Rattle.words.specs.Words.{biased, word}
use Rattle.words.specs.Fields.{plain}
use Rattle.words.specs.Sections.{object_start, object_terminated}
use Rattle.words.specs.declared.sections.Sections.{Sections}
use Rattle.table.specs.Form.{sections_of, four_pairs, is_number, head_right, form_of}
use Rattle.table.specs.FormLaws.{well-formed, formed-sections, formed-head, head-limits, start-same, start-least}
use Rattle.table.specs.Variables.{object_at}
use Rattle.rules.specs.FactSets.{FactSets}
use Rattle.rules.specs.Calls.{Routine, routine_at}
use Rattle.rules.specs.CallLaws.{AllFormed}
use Rattle.rules.specs.Verdict.{environment_of, form_faults, faults}
use Rattle.rules.specs.ByChains.{by_chains}
use Rattle.rules.proofs.Agreement.{none_first, faults-agree}
use Rattle.rules.proofs.Decidable.{decider, decider-decides}
use Rattle.rules.specs.AcceptedLaws.{accepted-clear, clear, Clear}
use Rattle.rules.specs.PutLaws.{put-kept, put_count, put-object, head-whole, objects-long, object-word}
use Rattle.rules.specs.Sets.{object_words, with_objects, members, member_of, routine_of, routines_of, before}
use Rattle.rules.specs.Sets.{lists_objects, member_faults, RoutineJudged, AllAccepted}

-- ---- lists

map_at : (Ts : List (List ℤ)) (n : ℕ) → n < length Ts → routine_at (map routine_of Ts) n ≡ routine_of (get_or Ts n [])
map_at [] n l = absurd (omega arith)
map_at (T ∷ Ts) zero l = refl
map_at (T ∷ Ts) (suc n) l = map_at Ts n (omega arith)

-- Routine n of a set behind the first.
pub put-at : (os : List ℤ) (Ts : List (List ℤ)) (n : ℕ) → n < length Ts → get_or (map (with_objects os) Ts) n [] ≡ with_objects os (get_or Ts n [])
put-at os [] n l = absurd (omega arith)
put-at os (T ∷ Ts) zero l = refl
put-at os (T ∷ Ts) (suc n) l = put-at os Ts n (omega arith)

pub length-members : (Ts : List (List ℤ)) → length (members Ts) ≡ length Ts
unfolding members
length-members [] = refl
length-members (T ∷ Ts) = ap suc (length-map Ts (with_objects (object_words T)))

pub length-routines : (Ts : List (List ℤ)) → length (routines_of Ts) ≡ length Ts
unfolding routines_of
length-routines Ts = length-map (members Ts) routine_of ∙ length-members Ts

pub routine-at : (Ts : List (List ℤ)) (n : ℕ) → n < length Ts → routine_at (routines_of Ts) n ≡ routine_of (member_of Ts n)
unfolding routines_of
routine-at Ts n l = map_at (members Ts) n (omega (arith, length-members Ts))

pub before-short : (n : ℕ) (rs : List Routine) → length (before n rs) ≤ n
unfolding before
before-short zero rs = omega arith
before-short (suc n) [] = omega arith
before-short (suc n) (r ∷ rs) = omega (arith, before-short n rs)

pub before-within : (n : ℕ) (rs : List Routine) → length (before n rs) ≤ length rs
unfolding before
before-within zero rs = omega arith
before-within (suc n) [] = omega arith
before-within (suc n) (r ∷ rs) = omega (arith, before-within n rs)

pub before_at : (n : ℕ) (rs : List Routine) (k : ℕ) → k < length (before n rs) → routine_at (before n rs) k ≡ routine_at rs k
unfolding before
before_at zero rs k l = absurd (omega arith)
before_at (suc n) [] k l = absurd (omega arith)
before_at (suc n) (r ∷ rs) zero l = refl
before_at (suc n) (r ∷ rs) (suc k) l = before_at n rs k (omega arith)

pub before-formed : (n : ℕ) (rs : List Routine) → AllFormed rs → AllFormed (before n rs)
before-formed n rs g k l = let e = before_at n rs k l in rw e (g k (omega (arith, l, before-within n rs)))

-- A table without faults, by any facts, is well formed.
pub faults-formed : (S : FactSets) (callees : List Routine) (T L : List ℤ) → faults S callees T L ≡ [] → form_of T ≡ Ok (sections_of T)
unfolding faults
faults-formed S callees T L e = go (form_of T) refl e
  where
    go : (f : Result Sections Refusal) → form_of T ≡ f → form_faults S callees T L f ≡ [] → form_of T ≡ Ok (sections_of T)
    go (Err r) q z = let o : ◌≡◌ {A = ℕ} 0 1 = cc in absurd (omega arith)
    go (Ok h) q z = let i = formed-sections T h q in rw i at q

-- ---- a routine of an accepted set

first-clear : (b : Bool) (r : Refusal) (xs : List Refusal) → cond b (r ∷ []) xs ≡ [] → (b ≡ false) × (xs ≡ [])
first-clear true r xs e = let o : ◌≡◌ {A = ℕ} 0 1 = cc in absurd (omega arith)
first-clear false r xs e = (refl, e)

module _ (Ts : List (List ℤ)) (n : ℕ) (j : RoutineJudged Ts n (Ok tt)) where
  abbrev lent : List ℤ
  lent = get_or Ts n []

  abbrev M : List ℤ
  M = member_of Ts n

  chain-clear : member_faults (by_chains (decider M)) Ts n ≡ []
  unfolding RoutineJudged
  chain-clear = accepted-clear _ (j.by-each (decider M) (decider-decides M)).verdict refl

  record Passed : Type 0 where
    own : lists_objects n lent ≡ false
    head : head_right lent ≡ true
    walked : faults (by_chains (decider M)) (before n (routines_of Ts)) M [] ≡ []

  passed : Passed
  unfolding member_faults
  passed =
      let a = first-clear (lists_objects n lent) (ObjectLength 0) _ chain-clear in
      go (head_right lent) refl a.0 a.1
    where
      go : (b : Bool) → head_right lent ≡ b → lists_objects n lent ≡ false
          → cond b (faults (by_chains (decider M)) (before n (routines_of Ts)) M []) (faults (by_chains (decider M)) [] lent []) ≡ [] → Passed
      go true q o e = record { own = o; head = q; walked = e }
      go false q o e =
          let f = faults-formed (by_chains (decider M)) [] lent [] e in
          absurd (false≢true (sym q ∙ formed-head lent (sections_of lent) f))

  -- Its table is well formed.
  pub member-formed : form_of M ≡ Ok (sections_of M)
  member-formed = faults-formed (by_chains (decider M)) (before n (routines_of Ts)) M [] passed.walked

  -- It lists no objects, unless it is routine 0.
  pub lists-none : (n ≡ 0 → ⊥) → (sections_of lent).objects ≡ 0
  unfolding lists_objects
  lists-none z =
      let e : (not false && true && not (eqb (sections_of lent).objects 0)) ≡ false = rw (ne_eqb n 0 z, passed.head) at passed.own in
      eqb-true _ _ (not-true (eqb (sections_of lent).objects 0) e)
    where
      not-true : (b : Bool) → not b ≡ false → b ≡ true
      not-true true e = refl
      not-true false e = absurd (false≢true (sym e))

  pub lent-head : head_right lent ≡ true
  lent-head = passed.head

  -- By the store its walk has no fault.
  pub member-clear : AllFormed (routines_of Ts) → Clear (before n (routines_of Ts)) M (sections_of M) []
  member-clear g =
      clear (before n (routines_of Ts)) M (sections_of M) [] member-formed
      (none_first _ _ (faults-agree (before n (routines_of Ts)) (before-formed n (routines_of Ts) g) M [] (decider M) (decider-decides M)) passed.walked)

pub all-formed : (Ts : List (List ℤ)) → AllAccepted Ts → AllFormed (routines_of Ts)
all-formed Ts a n l =
    let k : n < length Ts = omega (arith, l, length-routines Ts) in
    let e = routine-at Ts n k in
    rw e (record { formed = well-formed _ _ (member-formed Ts n (a.each n k)); environment = refl })

-- ---- all have the objects of routine 0

pub record SameObjects (T : List ℤ) (U : List ℤ) : Type 0 where
  pub count : (sections_of T).objects ≡ (sections_of U).objects
  pub terminated : (environment_of T (sections_of T)).terminated ≡ (environment_of U (sections_of U)).terminated
  pub lengths : (environment_of T (sections_of T)).lengths ≡ (environment_of U (sections_of U)).lengths

module _ (T U : List ℤ) (p : head_right T ≡ true) (q : head_right U ≡ true) (c : (sections_of T).objects ≡ (sections_of U).objects)
    (w : (o : ℕ) → o < (sections_of U).objects → word T (object_start (sections_of T) o) ≡ word U (object_start (sections_of U) o)) where
  ended-alike : (o : ℕ) (b : Bool) → ltb o (sections_of U).objects ≡ b → object_terminated T (sections_of T) o ≡ object_terminated U (sections_of U) o
  unfolding object_terminated
  ended-alike o true e = rw (head-limits T p, head-limits U q, c, e, w o (ltb-true o (sections_of U).objects e)) refl
  ended-alike o false e = rw (head-limits T p, head-limits U q, c, e) refl

  long-alike : (o : ℕ) (b : Bool) → ltb o (sections_of U).objects ≡ b → object_at T (sections_of T) o ≡ object_at U (sections_of U) o
  unfolding object_at
  long-alike o true e = rw (head-limits T p, head-limits U q, c, e, w o (ltb-true o (sections_of U).objects e)) refl
  long-alike o false e = rw (head-limits T p, head-limits U q, c, e) refl

  -- Tables with the same objects' words declare the same objects.
  same-objects : SameObjects T U
  unfolding environment_of
  same-objects =
      record {
        count = c;
        terminated = tabulate-alike 16 (λ o l. ended-alike o (ltb o (sections_of U).objects) refl);
        lengths = tabulate-alike 16 (λ o l. long-alike o (ltb o (sections_of U).objects) refl);
      }

-- ---- a table with objects put in

-- It has the directory's first word, and so the sections' start, that it had.
pub put-start : (os T : List ℤ) → (sections_of T).start ≤ length T → (sections_of (with_objects os T)).start ≡ (sections_of T).start
unfolding four_pairs word
put-start os T whole =
    start-same (with_objects os T) T (ap (λ (z : ℤ). is_number 8 (biased z))
    (put-kept os T whole 0 (λ e. omega arith) (λ e. omega arith) (λ e. omega arith) (λ e. omega arith) (omega (arith, start-least T))))

pub put-objects : (os T : List ℤ) → (sections_of T).start ≤ length T → (sections_of (with_objects os T)).objects ≡ length os
unfolding sections_of word biased
put-objects os T whole = ap (λ (z : ℤ). plain (biased z)) (put_count os T whole) ∙ omega arith

-- A table with the objects of T put in has the objects of T.
put_same : (T U : List ℤ) → head_right T ≡ true → head_right U ≡ true → head_right (with_objects (object_words T) U) ≡ true
    → SameObjects (with_objects (object_words T) U) T
unfolding word
put_same T U right r f =
    let os = object_words T in
    let w = head-whole U r in
    same-objects (with_objects os U) T f right (put-objects os U w ∙ objects-long T right)
    (λ o l.
    let e : object_start (sections_of (with_objects os U)) o ≡ (sections_of U).start + o = omega (arith, put-start os U w) in
    ap biased (ap (λ (i : ℕ). get_or (with_objects os U) i (pos 0)) e
    ∙ (put-object os U w o (omega (arith, l, objects-long T right)) ∙ object-word T right o l)))

-- All routines of an accepted set have the objects of routine 0.
pub members-same : (Ts : List (List ℤ)) → AllAccepted Ts → (n : ℕ) → n < length Ts → SameObjects (member_of Ts n) (member_of Ts 0)
unfolding members
members-same [] a n l = absurd (omega arith)
members-same (T ∷ Us) a zero l = record { count = refl; terminated = refl; lengths = refl }
members-same (T ∷ Us) a (suc n) l =
    let e = put-at (object_words T) Us n (omega arith) in
    let f : form_of (with_objects (object_words T) (get_or Us n [])) ≡ Ok (sections_of (with_objects (object_words T) (get_or Us n []))) =
    rw e at (member-formed (T ∷ Us) (suc n) (a.each (suc n) l)) in
    rw e (put_same T (get_or Us n []) (lent-head (T ∷ Us) 0 (a.each 0 (omega arith))) (lent-head (T ∷ Us) (suc n) (a.each (suc n) l))
    (formed-head _ _ f))
