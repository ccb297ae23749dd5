-- What the check of a set answers is small: the place and the pointer of a refusal, and the number of the routine.
use Rattle.rules.specs.declared.SetRefusal.{SetRefusal}
use Prim.Native.Nat.{ℕ, zero, suc, ◌^◌, ◌<◌, ◌≤◌}
use Rattle.std.specs.Prelude.{◌≡◌, ◌⊎◌, Bool, true, false, cond, List, [], ◌∷◌, leb, ℤ, length, get_or, Err, Ok, Result}
use Rattle.std.proofs.Math.Path.{refl}
use Rattle.std.proofs.Common.{◌∙◌, eq-or-lt_of_le, arith, leb-true}
use Rattle.std.proofs.Math.Logic.{inl, inr, ⊎_elim}
use Rattle.answers.specs.declared.refusals.Refusal.{Refusal}
use Rattle.answers.specs.declared.refusals.Refusal.TheVariants.{ObjectLength, RoutineCount}
use Rattle.words.specs.SectionsLaws.{both}
use Rattle.table.specs.Form.{head_right}
use Rattle.table.specs.FormLaws.{well-formed}
use Rattle.rules.specs.FactSets.{FactSets}
use Rattle.rules.specs.CallLaws.{AllFormed}
use Rattle.rules.specs.ByChains.{by_chains}
use Rattle.rules.specs.Verdict.{faults, verdict_of, verdict_reads}
use Rattle.rules.specs.Stored.{store}
use Rattle.rules.specs.Sets.{member_of, routines_of, before, lists_objects, member_faults, RoutineJudged, count_right}
use Rattle.rules.specs.Sets.{FirstRefused, AllAccepted, SetRefused, SetJudged}
use Rattle.rules.proofs.SetLaws.{member-formed, routine-at, before_at, before-short}
use Rattle.rules.specs.Small.{RefusalSmall, FirstSmall, ReadingSmall, one-small, verdict-small}
use Rattle.rules.proofs.SmallLaws.{faults-small}
use Rattle.sets.specs.Checked.{verdict_in, routine_in}
use Rattle.sets.specs.JudgedLaws.{routine-judged}

-- ---- the verdict on a set

member-small : (S : FactSets) (Ts : List (List ℤ)) (n : ℕ) → FirstSmall (member_faults S Ts n)
unfolding member_faults
member-small S Ts n = go (lists_objects n (get_or Ts n [])) (head_right (get_or Ts n []))
  where
    go : (a b : Bool)
        → FirstSmall (cond a (ObjectLength 0 ∷ []) (cond b (faults S (before n (routines_of Ts)) (member_of Ts n) []) (faults S [] (get_or Ts n []) [])))
    go true b = one-small (record { place-small = omega arith; pointer-small = omega arith })
    go false true = faults-small S (before n (routines_of Ts)) (member_of Ts n) []
    go false false = faults-small S [] (get_or Ts n []) []

judged-small : (Ts : List (List ℤ)) (n : ℕ) (r : Refusal) → RoutineJudged Ts n (Err r) → RefusalSmall r
unfolding RoutineJudged
judged-small Ts n r j =
    let S = by_chains j.decider in
    let t = verdict-small (member_faults S Ts n) (Err r) (member-small S Ts n) (j.by-each j.decider j.decides).verdict in
    record { place-small = t.0; pointer-small = t.1 }

pub count-few : (Ts : List (List ℤ)) → count_right Ts ≡ true → length Ts ≤ 8
unfolding count_right
count-few Ts e = leb-true (length Ts) 8 (both (leb 1 (length Ts)) (leb (length Ts) 8) e).1

pub count-some : (Ts : List (List ℤ)) → count_right Ts ≡ true → 1 ≤ length Ts
unfolding count_right
count-some Ts e = leb-true 1 (length Ts) (both (leb 1 (length Ts)) (leb (length Ts) 8) e).0

pub first_small : (Ts : List (List ℤ)) (n : ℕ) (r : Refusal) → FirstRefused Ts n r → RefusalSmall r × (n < 2 ^ 32)
first_small Ts n r f = (judged-small Ts n r f.refused-it, omega (arith, f.below, count-few Ts f.count))

pub count_small : RefusalSmall RoutineCount
count_small = record { place-small = omega arith; pointer-small = omega arith }

refused-small : (b : Bool) (Ts : List (List ℤ)) (n : ℕ) (r : Refusal) → SetRefused b Ts n r → RefusalSmall r × (n < 2 ^ 32)
refused-small false Ts n r j = let p = j.0 in let q = j.1 in rw (p, q) (count_small, omega arith)
refused-small true Ts n r j = first_small Ts n r j

-- WHAT THE CHECK OF A SET ANSWERS.
pub set-small : (Ts : List (List ℤ)) (v : Result (Unit {0}) SetRefusal) → SetJudged Ts v → ReadingSmall (verdict_reads (verdict_in v)) × (routine_in v < 2 ^ 32)
unfolding SetJudged
set-small Ts (Ok _) j = (tt, omega arith)
set-small Ts (Err x) j = let s = refused-small (count_right Ts) Ts x.routine x.refusal j in ((s.0.place-small, s.0.pointer-small), s.1)

-- ---- of a set of the right count either a first routine is refused, or all are accepted

module _ (Ts : List (List ℤ)) (count : count_right Ts ≡ true) where
  Found : Type 0
  Found = (n : ℕ) × (r : Refusal) × FirstRefused Ts n r

  AllTo : ℕ → Type 0
  AllTo k = (m : ℕ) → m < k → RoutineJudged Ts m (Ok tt)

  earlier-formed : (k : ℕ) → k ≤ length Ts → AllTo k → AllFormed (before k (routines_of Ts))
  unfolding AllTo
  earlier-formed k l a m b =
      let i : m < k = omega (arith, b, before-short k (routines_of Ts)) in
      let e = before_at k (routines_of Ts) m b ∙ routine-at Ts m (omega arith) in
      rw e (record { formed = well-formed _ _ (member-formed Ts m (a m i)); environment = refl })

  one_more : (k : ℕ) → k < length Ts → AllTo k → Found ⊎ AllTo (suc k)
  unfolding AllTo Found
  one_more k l a = go (verdict_of (member_faults store Ts k)) (routine-judged Ts k _ (earlier-formed k (omega arith) a) refl)
    where
      go : (v : Result (Unit {0}) Refusal) → RoutineJudged Ts k v → Found ⊎ AllTo (suc k)
      go (Err r) j = inl (k, r, record { count = count; below = l; refused-it = j; earlier = a })
      go (Ok tt) j = inr (λ m b. ⊎_elim (λ (e : m ≡ k). rw e j) (λ (e : m < k). a m e) (eq-or-lt_of_le (omega arith)))

  search-to : (k : ℕ) → k ≤ length Ts → Found ⊎ AllTo k
  unfolding AllTo
  search-to zero l = inr (λ m b. absurd (omega arith))
  search-to (suc k) l = ⊎_elim (λ (f : Found). inl f) (λ (a : AllTo k). one_more k (omega arith) a) (search-to k (omega arith))

  -- The first routine that is refused, or all are accepted.
  pub refused-or-accepted : ((n : ℕ) × (r : Refusal) × FirstRefused Ts n r) ⊎ AllAccepted Ts
  unfolding AllTo Found
  refused-or-accepted =
      ⊎_elim (λ (f : Found). inl f) (λ (a : AllTo (length Ts)). inr (record { count = count; each = a })) (search-to (length Ts) (omega arith))
