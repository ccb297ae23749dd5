-- The promise of a run of a set from its verdict: exactly one of the four cases applies.
use Rattle.rules.specs.declared.SetRefusal.{SetRefusal}
use Rattle.std.specs.Prelude.{ℕ, ◌≤◌, ◌<◌, ◌≡◌, Bool, ◌&&◌, List, ℤ, Err, None, Ok, Option, Result, Some}
use Rattle.std.proofs.Math.Path.{refl}
use Rattle.std.proofs.Common.{sym, ap, ◌∙◌, ⊎_elim, eq-or-lt_of_le, arith, le-leb, leb-true, leb-false}
use Rattle.std.proofs.Math.Bool.{true, false}
use Rattle.std.proofs.lemmas.Bool.{false≢true, lt-leb}
use Rattle.std.proofs.Math.Dec.{leb}
use Rattle.answers.specs.Answers.{reads}
use Rattle.answers.specs.declared.refusals.Refusal.{Refusal}
use Rattle.answers.specs.declared.refusals.Refusal.TheVariants.{RoutineCount}
use Rattle.answers.specs.declared.stops.Outcome.TheVariants as outcome
use Rattle.rules.proofs.Decidable.{decider, decider-decides}
use Rattle.rules.specs.Sets.{member_of, RoutineJudged, count_right, FirstRefused, AllAccepted, SetRefused, SetJudged}
use Rattle.interpreter.specs.Claim.{Lent, Leaves, NotBegun, SetRunJudged}
use Rattle.sets.specs.Checked.{member_words, SetAnswered}
use Rattle.set_runs.specs.SetRuns.{leaves, RunsAccepted, room_enough, SetRunAnswered}
use Rattle.set_runs.specs.declared.SetOutcome.{SetOutcome}

never : {A : Type 0} → ◌≡◌ {A = ℕ} 0 1 → A
never z = absurd (omega arith)

-- A routine has one verdict.
judged-same : (Ts : List (List ℤ)) (n : ℕ) (v w : Result (Unit {0}) Refusal) → RoutineJudged Ts n v → RoutineJudged Ts n w → v ≡ w
unfolding RoutineJudged
judged-same Ts n v w a b =
    let M = member_of Ts n in
    (a.by-each (decider M) (decider-decides M)).verdict ∙ sym (b.by-each (decider M) (decider-decides M)).verdict

not-both : (Ts : List (List ℤ)) (n : ℕ) (r : Refusal) → RoutineJudged Ts n (Err r) → RoutineJudged Ts n (Ok tt) → ⊥
not-both Ts n r a b = let e : Err r ≡ (Ok tt) = judged-same Ts n (Err r) (Ok tt) a b in let z : ◌≡◌ {A = ℕ} 0 1 = cc in omega arith

one-refusal : (Ts : List (List ℤ)) (n : ℕ) (r s : Refusal) → RoutineJudged Ts n (Err r) → RoutineJudged Ts n (Err s) → r ≡ s
one-refusal Ts n r s a b = let e : Err r ≡ Err s = judged-same Ts n (Err r) (Err s) a b in cc

-- One routine is the first that is refused.
first-same : (Ts : List (List ℤ)) (n m : ℕ) (r s : Refusal) → FirstRefused Ts n r → FirstRefused Ts m s → (n ≡ m) × (r ≡ s)
first-same Ts n m r s a b = go (leb n m) (leb-true n m) (leb-false n m)
  where
    same : n ≡ m → (n ≡ m) × (r ≡ s)
    same e = (e, one-refusal Ts m r s (rw e at a.refused-it) b.refused-it)

    go : (x : Bool) → (x ≡ true → n ≤ m) → (x ≡ false → m < n) → (n ≡ m) × (r ≡ s)
    go true p q = ⊎_elim (λ (e : n ≡ m). same e) (λ (e : n < m). absurd (not-both Ts n r a.refused-it (b.earlier n e))) (eq-or-lt_of_le (p refl))
    go false p q = absurd (not-both Ts m s b.refused-it (a.earlier m (q refl)))

module _ (Ts : List (List ℤ)) (l : Lent) (limit : ℕ) where
  abbrev answered : ℕ → Refusal → Leaves
  answered n r = leaves (record { outcome = outcome.Refused r; routine = n }) l.values l.cells

  not-begun : (n m : ℕ) (r s : Refusal) → n ≡ m → r ≡ s → NotBegun m s l (answered n r)
  not-begun n m r s e f = record { answer = ap outcome.Refused f; routine = e; values = refl; cells = refl }

  -- The set is accepted.
  accepted-judged : (m : Leaves) → AllAccepted Ts → RunsAccepted Ts l limit m → SetRunJudged Ts l limit m
  accepted-judged m a r = record {
    wrong-count = λ e. absurd (false≢true (sym e ∙ a.count));
    refused = λ n x f. absurd (not-both Ts n x f.refused-it (a.each n f.below));
    not_entered = λ b f fs e. r.not_entered f fs e;
    ran = λ b e. r.ran e;
  }

  -- It is refused.
  refused-by : (b : Bool) (n : ℕ) (r : Refusal) → count_right Ts ≡ b → SetRefused b Ts n r → SetRunJudged Ts l limit (answered n r)
  refused-by false n r e j = record {
    wrong-count = λ f. not-begun n 0 r RoutineCount j.0 j.1;
    refused = λ m s f. absurd (false≢true (sym e ∙ f.count));
    not_entered = λ a f fs q. absurd (false≢true (sym e ∙ a.count));
    ran = λ a q. absurd (false≢true (sym e ∙ a.count));
  }
  refused-by true n r e j = record {
    wrong-count = λ f. absurd (false≢true (sym f ∙ e));
    refused = λ m s f. let q = first-same Ts n m r s j f in not-begun n m r s q.0 q.1;
    not_entered = λ a f fs q. absurd (not-both Ts n r j.refused-it (a.each n j.below));
    ran = λ a q. absurd (not-both Ts n r j.refused-it (a.each n j.below));
  }

  -- ---- in the words of the code

  module _ (mem ends succ : ℕ) where
    room_small : ends < 4096 → room_enough mem ends succ ≡ false
    room_small q = ap (λ (b : Bool). leb member_words mem && b && leb 16384 succ) (lt-leb 4096 ends q) ∙ middle (leb member_words mem) (leb 16384 succ)
      where
        middle : (a b : Bool) → (a && false && b) ≡ false
        middle true b = refl
        middle false b = refl

    pub no-ends : ends < 4096 → SetRunAnswered (room_enough mem ends succ) Ts l limit None l.values l.cells
    unfolding SetRunAnswered
    no-ends q = (room_small q, refl, refl)

    pub no-successors : succ < 16384 → SetRunAnswered (room_enough mem ends succ) Ts l limit None l.values l.cells
    unfolding SetRunAnswered
    no-successors q =
        (ap (λ (b : Bool). leb member_words mem && leb 4096 ends && b) (lt-leb 16384 succ q) ∙ and-two (leb member_words mem) (leb 4096 ends), refl, refl)
      where
        and-two : (a b : Bool) → (a && b && false) ≡ false
        and-two true true = refl
        and-two true false = refl
        and-two false b = refl

    module _ (p : 4096 ≤ ends) (q : 16384 ≤ succ) where
      pub no_member : {c : Option (Result (Unit {0}) SetRefusal)} → SetAnswered mem Ts c → c ≡ None
          → SetRunAnswered (room_enough mem ends succ) Ts l limit None l.values l.cells
      unfolding SetRunAnswered SetAnswered
      no_member a e =
          let s : mem < member_words = rw e at a in (ap (λ (b : Bool). b && leb 4096 ends && leb 16384 succ) (lt-leb member_words mem s), refl, refl)

      enough : member_words ≤ mem → room_enough mem ends succ ≡ true
      enough m = rw (le-leb member_words mem m, le-leb 4096 ends p, le-leb 16384 succ q) refl

      module _ {c : Option (Result (Unit {0}) SetRefusal)} {v : Result (Unit {0}) SetRefusal} (a : SetAnswered mem Ts c) (e : c ≡ Some v) where
        judged : (member_words ≤ mem) × SetJudged Ts v
        unfolding SetAnswered
        judged = rw e at a

        pub member-enough : member_words ≤ mem
        member-enough = judged.0

        pub set-accepted : v ≡ Ok tt → AllAccepted Ts
        unfolding SetJudged
        set-accepted f = rw f at judged.1

        pub ran-accepted : {o : SetOutcome} {us ds : List ℕ} → v ≡ Ok tt → RunsAccepted Ts l limit (leaves o us ds)
            → SetRunAnswered (room_enough mem ends succ) Ts l limit (Some o) us ds
        unfolding SetRunAnswered
        ran-accepted f r = (enough member-enough, accepted-judged _ (set-accepted f) r)

        pub ran-refused : {n : ℕ} {r : Refusal} → v ≡ Err (record { routine = n; refusal = r })
            → SetRunAnswered (room_enough mem ends succ) Ts l limit (Some (record { outcome = outcome.Refused r; routine = n })) l.values l.cells
        unfolding SetRunAnswered SetJudged
        ran-refused {n} {r} f = (enough member-enough, refused-by (count_right Ts) n r refl (rw f at judged.1))
