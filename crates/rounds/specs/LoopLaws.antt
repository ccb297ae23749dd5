-- The dispatcher's loop: its start, one turn, its end.
use Rattle.std.specs.Prelude.{ℕ, ◌+◌, ◌-◌, ◌*◌, ◌^◌, ◌≤◌, ◌<◌, min, ◌≡◌, refl, Bool, true, false, cond, List, eqb, length, get_or, set}
use Rattle.std.proofs.Common.{sym, ap, subst, ◌∙◌, arith, mul-le-mul, eqb-true, eq-eqb, ne_eqb, get_or-set_same}
use Rattle.answers.specs.Answers.{reads}
use Rattle.answers.specs.declared.stops.Outcome.{Outcome}
use Rattle.turns.specs.Turns.{Routines, Runs, Schedule, sum, following, granted, after, received, Idle}
use Rattle.turns.specs.TurnsLaws.{after-start, after_next, after-received, after-within, after-long, served-both, sum_step, sum-within, sum_zeros, idle-none}
use Rattle.turns.specs.TurnsLaws.{idle-more, idle-ends, turns-end}
use Rattle.seats.specs.Lends.{Lends, count_of}
use Rattle.rounds.specs.Rounds.{routines_of, steps_of, AllRan}
use Rattle.seats.specs.SeatAt.{seat_at, nobody}
use Rattle.rounds.specs.Standing.{seated, Standing, InPlace, MayTurn, Turned, TurnsAsk, Looping, idle_after}
use Rattle.overlaps.specs.OverlapLaws.{AllApart, all_apart}
use Rattle.rounds.specs.StandingLaws.{routines-run, in_place, may-turn, one-turn, seat-steps}
use Rattle.rounds.specs.SharedLaws.{standing-ran}
use Rattle.seats.specs.declared.Seat.{Seat}

-- The steps of a turn.
abbrev pub made_in : Outcome → Outcome → ℕ
made_in was o = steps_of (reads o) - steps_of (reads was)

pub idle-again : (idle made : ℕ) → made ≡ 0 → idle + 1 ≡ idle_after idle made
idle-again idle made e = rw (eq-eqb made 0 e)

pub idle-no-more : (idle made : ℕ) → (made ≡ 0 → ⊥) → 0 ≡ idle_after idle made
idle-no-more idle made d = rw (ne_eqb made 0 d)

pub product-fits : (a b : ℕ) → a ≤ 8 → b < 2 ^ 32 → a * b < 2 ^ 36
product-fits a b l m = let x : b ≤ 4294967295 = omega arith in let p : a * b ≤ 8 * 4294967295 = mul-le-mul l x in omega arith

module _ {l : Lends} {S : List ℕ} {count quantum total : ℕ} {seats₀ : List Seat} {ends₀ : List ℕ} (A : TurnsAsk l S count quantum total seats₀ ends₀) where
  abbrev R : Routines
  R = routines_of l

  runs : Runs R
  runs = routines-run l S A.launched

  apart : AllApart l
  apart = all_apart l A.no-overlap

  abbrev at : ℕ → Schedule
  at = after R quantum total

  pub loop-starts : Looping l quantum total 0 0 total 0 seats₀ ends₀ l.values l.cells
  loop-starts = record {
    standing = A.standing;
    next-is = ap (λ (P : Schedule). P.next) (sym (after-start R runs quantum total));
    left_is = omega (arith, ap (λ (P : Schedule). sum P.received) (after-start R runs quantum total), sum_zeros (count_of l));
    idle-so-far = idle-none R runs quantum total A.some A.quanta 0;
    within = omega arith;
  }

  module _ {taken next left idle : ℕ} {seats : List Seat} {ends vs cs : List ℕ} (P : Looping l quantum total taken next left idle seats ends vs cs) where
    next-within : (at taken).next < count_of l
    next-within = after-within R runs quantum total A.some taken

    pub turn-within : next < count
    turn-within = omega (arith, P.next-is, A.counted, next-within)

    granted-is : min quantum left ≡ granted R quantum total (at taken).received
    granted-is = ap (min quantum) P.left_is

    -- What a turn asks.
    pub turn-asks : total < 2 ^ 32 → InPlace l.tables l.directories S (seat_at seats next) next ends vs
        × MayTurn l.tables l.directories S (seat_at seats next) next (min quantum left) (seat_at seats next).outcome ends vs cs
    turn-asks small = rw (P.next-is, granted-is) (
      in_place l S A.launched apart quantum total A.some A.few taken seats ends vs cs P.standing A.successors-long,
      may-turn l S A.launched apart quantum total A.some A.few taken seats ends vs cs P.standing small,
    )

    module _ (o : Outcome) (ends' vs' cs' : List ℕ)
        (x : Turned l.tables l.directories S (seat_at seats next) next (min quantum left) (seat_at seats next).outcome ends vs cs o ends' vs' cs') where
      stands : Standing l quantum total (taken + 1) (set seats next (seated (seat_at seats next) o)) ends' vs' cs'
      stands = subst (λ (r : ℕ). Standing l quantum total (taken + 1) (set seats r (seated (seat_at seats r) o)) ends' vs' cs') (sym P.next-is)
          (one-turn l S A.launched apart quantum total A.some A.few taken seats ends vs cs P.standing o ends' vs' cs' (rw
          (P.next-is, granted-is) at x))

      room : next < length seats
      room = omega (arith, turn-within, A.counted, A.few, P.standing.seats-long)

      before-is : steps_of (reads (seat_at seats next).outcome) ≡ get_or (at taken).received next 0
      before-is = seat-steps l S A.launched apart quantum total A.some A.few taken seats ends vs cs P.standing next (omega
          (arith, turn-within, A.counted))

      after_is : steps_of (reads o) ≡ get_or (at (taken + 1)).received next 0
      after_is = ap (λ (y : Seat). steps_of (reads y.outcome)) (sym (get_or-set_same seats next (seated (seat_at seats next) o) nobody room))
          ∙ seat-steps l S A.launched apart quantum total A.some A.few (taken + 1) (set seats next (seated
          (seat_at seats next) o)) ends' vs' cs' stands next
          (omega (arith, turn-within, A.counted))

      both : sum (at (taken + 1)).received + get_or (at taken).received next 0 ≡ sum (at taken).received + get_or (at (taken + 1)).received next 0
      both = rw (after-received R runs quantum total taken, ← P.next-is)
          (served-both R runs quantum total (at taken).received next (omega (arith, turn-within, A.counted, after-long R runs quantum total taken)))

      grown : sum (at taken).received ≤ sum (at (taken + 1)).received
      grown = (sum_step R runs quantum total A.some taken).0

      bounded : sum (at (taken + 1)).received ≤ total
      bounded = sum-within R runs quantum total A.some (taken + 1)

      -- The steps of a turn: what it answers less what it had, at most what is left.
      pub turn-grows : steps_of (reads (seat_at seats next).outcome) ≤ steps_of (reads o)
      turn-grows = omega (arith, before-is, after_is, both, grown)

      pub turn-made : made_in (seat_at seats next).outcome o ≤ left
      turn-made = omega (arith, before-is, after_is, both, grown, bounded, P.left_is)

      idle_then : Idle R quantum total (taken + 1) (idle_after idle (made_in (seat_at seats next).outcome o))
      idle_then = go (eqb (made_in (seat_at seats next).outcome o) 0) (eqb-true (made_in (seat_at seats next).outcome o) 0)
        where
          go : (b : Bool) → (b ≡ true → made_in (seat_at seats next).outcome o ≡ 0) → Idle R quantum total (taken + 1) (cond b (idle + 1) 0)
          go true f = idle-more R runs quantum total A.some A.quanta taken idle P.idle-so-far (omega (arith, f refl, before-is, after_is, both, grown))
          go false f = idle-none R runs quantum total A.some A.quanta (taken + 1)

      pub loop-turns : taken < count * total
          → Looping l quantum total (taken + 1) (following count next) (left - made_in (seat_at seats next).outcome o) (idle_after idle (made_in
          (seat_at seats next).outcome o)) (set seats next (seated (seat_at seats next) o)) ends' vs' cs'
      loop-turns b = record {
        standing = stands;
        next-is = sym (after_next R runs quantum total taken ∙ rw (← P.next-is, ← A.counted) refl);
        left_is = omega (arith, before-is, after_is, both, grown, bounded, P.left_is);
        idle-so-far = idle_then;
        within = let y : taken < count_of l * total = rw (← A.counted) b in omega arith;
      }

    -- The loop may end after an idle round,
    pub loop-idle : count ≤ idle → AllRan l quantum total (λ r. (seat_at seats r).outcome) vs cs
    loop-idle b = standing-ran l S A.launched apart quantum total A.some A.few A.quanta taken P.within seats ends vs cs A.no-overlap
        (idle-ends R runs quantum total A.some A.quanta taken idle P.idle-so-far (omega (arith, A.counted)) P.within) P.standing

    -- and ends after all turns.
    pub loop-ends : count * total ≤ taken → AllRan l quantum total (λ r. (seat_at seats r).outcome) vs cs
    loop-ends b =
        let y : count_of l * total ≤ taken = rw (← A.counted) b in
        standing-ran l S A.launched apart quantum total A.some A.few A.quanta taken P.within seats ends vs cs A.no-overlap
        (turns-end R runs quantum total A.some A.quanta taken (omega (arith, P.within))) P.standing

    -- ---- the same in the words of the code: q is what the turn was granted, b and s are the steps before and after it

    pub code-asks : {q : ℕ} → q ≡ min quantum left → total < 2 ^ 32 → InPlace l.tables l.directories S (seat_at seats next) next ends vs
        × MayTurn l.tables l.directories S (seat_at seats next) next q (seat_at seats next).outcome ends vs cs
    code-asks e small = rw e (turn-asks small)

    module _ {q s b : ℕ} (o : Outcome) (ends' vs' cs' : List ℕ) (e : q ≡ min quantum left) (g : s ≡ steps_of (reads o))
        (f : b ≡ steps_of (reads (seat_at seats next).outcome))
        (x : Turned l.tables l.directories S (seat_at seats next) next q (seat_at seats next).outcome ends vs cs o ends' vs' cs') where
      pub code-grows : b ≤ s
      code-grows = rw (f, g) (turn-grows o ends' vs' cs' (rw e at x))

      pub code-made : s - b ≤ left
      code-made = rw (f, g) (turn-made o ends' vs' cs' (rw e at x))

      pub code-turns : {i k : ℕ} → i ≡ idle_after idle (s - b) → k ≡ following count next → taken < count * total
          → Looping l quantum total (taken + 1) k (left - (s - b)) i (set seats next (seated (seat_at seats next) o)) ends' vs' cs'
      code-turns u v w = rw (u, v, f, g) (loop-turns o ends' vs' cs' (rw e at x) w)
