-- The verdict on a routine of a set, from what the check of its table answers.
use Prim.Native.Nat.{ℕ, zero, suc, ◌≤◌, ◌<◌}
use Rattle.std.specs.Prelude.{◌≡◌, Bool, not, ◌&&◌, eqb, ℤ, length, get_or, Err, Ok, Result}
use Rattle.std.proofs.Math.Path.{refl, ap}
use Rattle.std.proofs.Common.{sym, ◌∙◌, arith, ne_eqb}
use Rattle.std.proofs.Math.Bool.{true, false, cond}
use Rattle.std.proofs.lemmas.Bool.{false≢true}
use mathlib.Core.List.{List, [], ◌∷◌}
use Rattle.facts.specs.declared.FactSet.{FactSet}
use Rattle.answers.specs.declared.refusals.Refusal.{Refusal}
use Rattle.answers.specs.declared.refusals.Refusal.TheVariants.{Length, Directory, ObjectLength}
use Rattle.words.specs.declared.sections.Sections.{Sections}
use Rattle.statements.specs.declared.CallSite.{CallSite}
use Rattle.table.specs.Form.{sections_of, length_right, directory_right, head_right, items_form, form_of}
use Rattle.table.specs.FormLaws.{well-formed, head-limits}
use Rattle.rules.specs.FactSets.{FactSets}
use Rattle.rules.specs.Calls.{Routine, routine_at}
use Rattle.rules.specs.CallLaws.{AllFormed, none-formed}
use Rattle.rules.specs.Verdict as verdict_rules
use Rattle.rules.specs.Verdict.{verdict_of, Says}
use Rattle.rules.specs.Stored.{store, call_faults, section_faults, form_faults, faults}
use Rattle.rules.specs.ByChains.{Decider, by_chains, DecidesTable}
use Rattle.rules.proofs.Agreement.{same-verdict, faults-agree}
use Rattle.rules.proofs.Decidable.{decided, says}
use Rattle.rules.specs.Sets.{object_words, with_objects, members, member_of, routine_of, routines_of, before, lists_objects, member_faults, RoutineJudged}
use Rattle.rules.specs.PutLaws.{head-whole, objects-few}
use Rattle.rules.proofs.SetLaws.{put-at, lists-none, lent-head, member-formed, routine-at, length-routines, before_at}
use Rattle.rules.specs.declared.Bounds.{Bounds}
use Rattle.rules.specs.declared.Environment.{Environment}
use Rattle.declared.specs.Callee.{signature_of, signed-faults}
use Rattle.sets.specs.Member.{later_faults}
use Rattle.sets.specs.SignatureLaws.{sections-same, signature-same, put-variables}

-- ---- a table and its callees

module _ (T : List ℤ) {f : Result Sections Refusal} (e : f ≡ form_of T) (rs : List Routine) where
  pub routine-refused : {r : Refusal} → f ≡ Err r → Err r ≡ verdict_of (faults rs T [])
  unfolding verdict_rules.faults verdict_of
  routine-refused p = ap (λ (g : Result Sections Refusal). verdict_of (form_faults rs T [] g)) (sym p ∙ e)

  pub routine-checked : {h : Sections} {v : Result (Unit {0}) Refusal} → f ≡ Ok h → v ≡ verdict_of (section_faults rs T h []) → v ≡ verdict_of (faults rs T [])
  unfolding verdict_rules.faults
  routine-checked p q = q ∙ ap (λ (g : Result Sections Refusal). verdict_of (form_faults rs T [] g)) (sym p ∙ e)

pub faults-same : (T : List ℤ) (rs qs : List Routine)
    → ((E : Environment) (f : FactSet) (K : List Bounds) (c : CallSite) (a : ℕ) → call_faults rs E a c f K ≡ call_faults qs E a c f K)
    → faults rs T [] ≡ faults qs T []
unfolding verdict_rules.faults
faults-same T rs qs e = go (form_of T)
  where
    go : (f : Result Sections Refusal) → form_faults rs T [] f ≡ form_faults qs T [] f
    go (Err r) = refl
    go (Ok h) = sections-same T h [] rs qs (λ a c f K. e _ f K c a)

-- ---- the verdict on routine n, by the paper's chains

-- Causes 1 and 2 do not ask the facts.
head-faults : (S : FactSets) (T : List ℤ) → head_right T ≡ false → verdict_rules.faults S [] T [] ≡ verdict_rules.faults store [] T []
unfolding verdict_rules.faults form_of head_right
head-faults S T e = go (length_right T) (directory_right T (sections_of T)) e
  where
    go : (a b : Bool) → (a && b) ≡ false
        → verdict_rules.form_faults S [] T [] (cond a (cond b (items_form T (sections_of T)) (Err Directory)) (Err Length))
        ≡ form_faults [] T [] (cond a (cond b (items_form T (sections_of T)) (Err Directory)) (Err Length))
    go false b z = refl
    go true false z = refl
    go true true z = absurd (false≢true (sym z))

module _ (Ts : List (List ℤ)) (n : ℕ) (g : AllFormed (before n (routines_of Ts))) (d : Decider) (r : DecidesTable (member_of Ts n) d) where
  member-agrees : verdict_of (member_faults store Ts n) ≡ verdict_of (member_faults (by_chains d) Ts n)
  unfolding member_faults
  member-agrees = go (lists_objects n (get_or Ts n [])) (head_right (get_or Ts n [])) refl
    where
      go : (a b : Bool) → head_right (get_or Ts n []) ≡ b
          → verdict_of (cond a (ObjectLength 0 ∷ []) (cond b (faults (before n (routines_of Ts)) (member_of Ts n) []) (faults [] (get_or Ts n []) [])))
          ≡ verdict_of (cond a (ObjectLength 0 ∷ [])
          (cond b (verdict_rules.faults (by_chains d) (before n (routines_of Ts)) (member_of Ts n) [])
          (verdict_rules.faults (by_chains d) [] (get_or Ts n []) [])))
      go true b q = refl
      go false true q = same-verdict _ _ (faults-agree (before n (routines_of Ts)) g (member_of Ts n) [] d r)
      go false false q = ap verdict_of (sym (head-faults (by_chains d) (get_or Ts n []) q))

pub routine-judged : (Ts : List (List ℤ)) (n : ℕ) (v : Result (Unit {0}) Refusal) → AllFormed (before n (routines_of Ts))
    → v ≡ verdict_of (member_faults store Ts n)
    → RoutineJudged Ts n v
unfolding RoutineJudged
routine-judged Ts n v g e =
    decided (member_of Ts n) (λ d. Says (member_faults (by_chains d) Ts n) v)
    (λ d r. says (member_faults (by_chains d) Ts n) v (e ∙ member-agrees Ts n g d r))

-- ---- the callees of routine n, as they are lent, are enough

-- An accepted routine of a set has the signature of its table as it is lent.
pub lent-signature : (Ts : List (List ℤ)) (k : ℕ) → k < length Ts → ((m : ℕ) → m ≤ k → RoutineJudged Ts m (Ok tt))
    → signature_of (routine_of (get_or Ts k [])) ≡ signature_of (routine_of (member_of Ts k))
unfolding members
lent-signature [] k l a = absurd (omega arith)
lent-signature (T ∷ Us) zero l a = refl
lent-signature (T ∷ Us) (suc k) l a =
    let U = get_or Us k [] in
    let right : head_right U ≡ true = lent-head (T ∷ Us) (suc k) (a (suc k) (omega arith)) in
    let none : (sections_of U).objects ≡ 0 = lists-none (T ∷ Us) (suc k) (a (suc k) (omega arith)) (λ z. omega arith) in
    let first : head_right T ≡ true = lent-head (T ∷ Us) 0 (a 0 (omega arith)) in
    let e = put-at (object_words T) Us k (omega arith) in
    rw e (sym (signature-same (put-variables (object_words T) U (head-whole U right) (objects-few T first) (head-limits U right) none)))

-- ---- the faults of a routine, as the code finds them

-- Routine 0 is its table as it is.
first-faults : (Ts : List (List ℤ)) → 0 < length Ts → member_faults store Ts 0 ≡ faults [] (get_or Ts 0 []) []
unfolding member_faults lists_objects members before
first-faults [] l = absurd (omega arith)
first-faults (T ∷ Us) l = go (head_right T)
  where
    go : (b : Bool) → cond b (faults [] T []) (faults [] T []) ≡ faults [] T []
    go true = refl
    go false = refl

none_before : (rs : List Routine) → AllFormed (before 0 rs)
unfolding before
none_before rs = none-formed

pub said-first : (Ts : List (List ℤ)) {rs : List Routine} {v : Result (Unit {0}) Refusal} → 0 < length Ts → rs ≡ []
    → v ≡ verdict_of (faults rs (get_or Ts 0 []) [])
    → RoutineJudged Ts 0 v
said-first Ts {rs} {v} l n e =
    routine-judged Ts 0 v (none_before (routines_of Ts)) (e ∙ (ap (λ (qs : List Routine). verdict_of (faults qs (get_or Ts 0 []) [])) n
    ∙ ap verdict_of (sym (first-faults Ts l))))

-- A later one has the objects of routine 0.
pub member-put : (Ts : List (List ℤ)) (n : ℕ) → (n ≡ 0 → ⊥) → n < length Ts → member_of Ts n ≡ with_objects (object_words (get_or Ts 0 [])) (get_or Ts n [])
unfolding members
member-put [] n z l = absurd (omega arith)
member-put (T ∷ Us) zero z l = absurd (z refl)
member-put (T ∷ Us) (suc n) z l = put-at (object_words T) Us n (omega arith)

later-faults : (Ts : List (List ℤ)) (n : ℕ) → (n ≡ 0 → ⊥) → n < length Ts
    → member_faults store Ts n ≡ later_faults (before n (routines_of Ts)) (get_or Ts 0 []) (get_or Ts n [])
unfolding member_faults lists_objects later_faults
later-faults Ts n z l =
    rw (ne_eqb n 0 z, member-put Ts n z l)
    (go (head_right (get_or Ts n [])) (eqb (sections_of (get_or Ts n [])).objects 0)
    (faults (before n (routines_of Ts)) (with_objects (object_words (get_or Ts 0 [])) (get_or Ts n [])) []) (faults [] (get_or Ts n []) []))
  where
    go : (a b : Bool) (xs ys : List Refusal)
        → cond (not false && a && not b) (ObjectLength 0 ∷ []) (cond a xs ys) ≡ cond a (cond b xs (ObjectLength 0 ∷ [])) ys
    go true true xs ys = refl
    go true false xs ys = refl
    go false b xs ys = refl

-- Where the callees are the tables as they are lent, the faults are those of routine n of the set.
module _ (Ts : List (List ℤ)) (n : ℕ) (within : n ≤ length Ts) (earlier : (m : ℕ) → m < n → RoutineJudged Ts m (Ok tt))
    (rs : List Routine) (count : length rs ≡ n) (each : (k : ℕ) → k < n → routine_at rs k ≡ routine_of (get_or Ts k [])) where
  before-long : (m : ℕ) (qs : List Routine) → m ≤ length qs → length (before m qs) ≡ m
  unfolding before
  before-long zero qs l = refl
  before-long (suc m) [] l = absurd (omega arith)
  before-long (suc m) (q ∷ qs) l = ap suc (before-long m qs (omega arith))

  long : length (before n (routines_of Ts)) ≡ n
  long = before-long n (routines_of Ts) (omega (arith, length-routines Ts))

  signed : (k : ℕ) → k < length (before n (routines_of Ts)) → signature_of (routine_at rs k) ≡ signature_of (routine_at (before n (routines_of Ts)) k)
  signed k l =
      let i : k < n = omega (arith, long) in
      ap signature_of (each k i) ∙ (lent-signature Ts k (omega arith) (λ m j. earlier m (omega arith))
      ∙ ap signature_of (sym (before_at n (routines_of Ts) k l ∙ routine-at Ts k (omega arith))))

  pub lent-faults : (T : List ℤ) → faults rs T [] ≡ faults (before n (routines_of Ts)) T []
  lent-faults T = faults-same T rs (before n (routines_of Ts)) (signed-faults rs (before n (routines_of Ts)) (count ∙ sym long) signed)

  -- ---- what the check of routine n finds is its verdict

  prefix-formed : AllFormed (before n (routines_of Ts))
  prefix-formed k l =
      let i : k < n = omega (arith, long) in
      let e = before_at n (routines_of Ts) k l ∙ routine-at Ts k (omega arith) in
      rw e (record { formed = well-formed _ _ (member-formed Ts k (earlier k i)); environment = refl })

  later-alike : (F T : List ℤ) → later_faults rs F T ≡ later_faults (before n (routines_of Ts)) F T
  unfolding later_faults
  later-alike F T =
      ap (λ (fs : List Refusal). cond (head_right T) (cond (eqb (sections_of T).objects 0) fs (ObjectLength 0 ∷ [])) (faults [] T []))
      (lent-faults (with_objects (object_words F) T))

  -- Routine n behind the first.
  pub said-later : {v : Result (Unit {0}) Refusal} → (n ≡ 0 → ⊥) → n < length Ts → v ≡ verdict_of (later_faults rs (get_or Ts 0 []) (get_or Ts n []))
      → RoutineJudged Ts n v
  said-later {v} z l e = routine-judged Ts n v prefix-formed (e ∙ ap verdict_of (later-alike (get_or Ts 0 []) (get_or Ts n []) ∙ sym (later-faults Ts n z l)))
