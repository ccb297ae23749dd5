-- The shared memory: at each point a routine stands as its run by itself does; and the end of the turns.
use Rattle.std.specs.Prelude.{ℕ, zero, suc, ◌+◌, ◌-◌, ◌*◌, ◌≤◌, ◌<◌, ◌≡◌, ◌≢◌, Bool, true, false, List, [], ◌∷◌, set}
use Rattle.std.proofs.Math.Path.{refl, sym, ap}
use Rattle.std.proofs.Common.{◌∙◌, add-one, get_or-set_same, get_or-set_other}
use native.Mathlib.Omega.{arith}
use Rattle.std.proofs.Math.Decide.{ℕ_discrete}
use Rattle.std.proofs.Math.ListN.{get_or, get_or-replicate}
use Rattle.machine.specs.Machine.{start}
use Rattle.machine.specs.AlonePoints.{point_after}
use Rattle.machine.specs.SetMachine.{stack_after}
use Rattle.machine.specs.Frame.{Own, SameCells}
use Rattle.machine.specs.FrameLaws.{same-trans}
use Rattle.interpreter.specs.Claim.{answer_at}
use Rattle.turns.specs.Turns.{Routines, Runs, Schedule, sum, granted, after, received}
use Rattle.turns.specs.TurnsLaws.{after-start, after-received, after-within, after-long, sum-set, sum-grows, sum_step, served-waiting, served-ended}
use Rattle.turns.specs.TurnsLaws.{served-again, all-served}
use Rattle.seats.specs.Lends.{Lends, table_at, lent_to, sections_at, count_of}
use Rattle.rounds.specs.Rounds.{routines_of, steps_of, AllRan, goes_on, memory_after, EachPoint}
use Rattle.overlaps.specs.Overlaps.{first_overlap}
use Rattle.interpreter.specs.ClaimLaws.{launched-begins}
use Rattle.rounds.specs.InTurn.{point_from}
use Rattle.rounds.specs.InTurnLaws.{in_turns, goes-alike, goes-leaves, made_cells, others_same}
use Rattle.seats.specs.SeatAt.{seat_at}
use Rattle.rounds.specs.Standing.{AllLaunched, Standing}
use Rattle.overlaps.specs.OverlapLaws.{AllApart}
use Rattle.rounds.specs.StandingLaws.{routines-run, memory-gone, memory-skipped}
use Rattle.seats.specs.declared.Seat.{Seat}

module _ (l : Lends) (S : List ℕ) (L : AllLaunched l S) (apart : AllApart l) (quantum total : ℕ) (count : 0 < count_of l) (few : count_of l ≤ 8) where
  abbrev R : Routines
  R = routines_of l

  runs : Runs R
  runs = routines-run l S L

  abbrev at : ℕ → Schedule
  at = after R quantum total

  abbrev st : ℕ → ℕ → ℕ
  st k r = get_or (at k).received r 0

  abbrev memory : ℕ → List ℕ
  memory = memory_after l quantum total

  within : (k : ℕ) → (at k).next < count_of l
  within k = after-within R runs quantum total count k

  -- ---- each routine's own cells

  abbrev OwnCells : ℕ → ℕ → Type 0
  OwnCells k r = SameCells (lent_to l r).directory (Own (sections_at l r)) (point_from (table_at l r) (lent_to l r) (st k r)).cells (memory k)

  own-start : (r : ℕ) → r < count_of l → OwnCells 0 r
  unfolding memory_after start point_after
  own-start r b =
      let z : st 0 r ≡ 0 = ap (λ (P : Schedule). get_or P.received r 0) (after-start R runs quantum total) ∙ get_or-replicate (count_of l) r 0 0 b in
      rw z (record { long = refl; cells = λ i c. refl })

  module _ (k : ℕ) (h : (r : ℕ) → r < count_of l → OwnCells k r) where
    abbrev n : ℕ
    n = (at k).next

    abbrev q : ℕ
    q = granted R quantum total (at k).received

    -- It waits: it goes on.
    module _ (w : R.waits n (st k n) ≡ true) where
      received_is : (at (k + 1)).received ≡ set (at k).received n (steps_of (answer_at (table_at l n ∷ []) (lent_to l n) (st k n + q)))
      received_is = after-received R runs quantum total k ∙ served-waiting R runs quantum total (at k).received n w

      memory-is : memory (k + 1) ≡ (goes_on l quantum total n (st k n) q (memory k)).point.cells
      memory-is = memory-gone l quantum total k w

      own-mine : OwnCells (k + 1) n
      own-mine =
          let z : st (k + 1) n ≡ steps_of (answer_at (table_at l n ∷ []) (lent_to l n) (st k n + q)) = ap (λ (y : List ℕ). get_or y n 0) received_is
          ∙ get_or-set_same (at k).received n _ 0 (omega (arith, within k, after-long R runs quantum total k)) in
          rw (z, memory-is) (made_cells (L n (within k)) (st k n) q (memory k) (h n (within k)))

      own-other : (r : ℕ) → r < count_of l → r ≢ n → OwnCells (k + 1) r
      own-other r b d =
          let z : st (k + 1) r ≡ st k r = ap (λ (y : List ℕ). get_or y r 0) received_is ∙ get_or-set_other (at k).received n r _ 0 d in
          let f = goes-leaves (L n (within k)) (st k n) q (memory k) (h n (within k)) in
          rw (z, memory-is) (same-trans (lent_to l r).directory (Own (sections_at l r)) _ (memory k) _ (h r b)
          (others_same (sections_at l n) (sections_at l r) (lent_to l n).directory (lent_to l r).directory (memory k) _ (apart n r (within k) b (λ e. d
          (sym e))) f))

      own-gone : (r : ℕ) → r < count_of l → Dec (r ≡ n) → OwnCells (k + 1) r
      own-gone r b (yes e) = rw e own-mine
      own-gone r b (no d) = own-other r b d

    own-next : (r : ℕ) → r < count_of l → OwnCells (k + 1) r
    own-next r b = go (R.waits n (st k n)) refl
      where
        go : (x : Bool) → R.waits n (st k n) ≡ x → OwnCells (k + 1) r
        go true w = own-gone w r b (ℕ_discrete r n)
        go false w =
            let z : (at (k + 1)).received ≡ (at k).received = after-received R runs quantum total k ∙ served-ended R runs quantum total (at k).received n w in
            rw (z, memory-skipped l quantum total k w) (h r b)

  -- After k turns the memory has each routine's own cells as its run by itself leaves them.
  pub own-cells : (k r : ℕ) → r < count_of l → OwnCells k r
  own-cells zero r b = own-start r b
  own-cells (suc k) r b = rw (add-one k) at (own-next k (own-cells k) r b)

  -- THE POINTS IN THE SHARED MEMORY.
  pub each-point : EachPoint l quantum total
  each-point k s = goes-alike (L (at k).next (within k)) (st k (at k).next) s (memory k) (own-cells k (at k).next (within k))

  -- ---- turns in which nothing is received leave the memory

  none-goes : (r t p : ℕ) (M : List ℕ) → p ≡ 0 → (goes_on l quantum total r t p M).point.cells ≡ M
  unfolding stack_after
  none-goes r t p M e = rw e

  still : (k : ℕ) → sum (at (k + 1)).received ≡ sum (at k).received → memory (k + 1) ≡ memory k
  still k e = go (R.waits (at k).next (st k (at k).next)) refl
    where
      go : (x : Bool) → R.waits (at k).next (st k (at k).next) ≡ x → memory (k + 1) ≡ memory k
      go false w = memory-skipped l quantum total k w
      go true w = memory-gone l quantum total k w ∙ none-goes (at k).next (st k (at k).next) _ (memory k) (none (granted R quantum total
          (at k).received) refl)
        where
          none : (p : ℕ) → granted R quantum total (at k).received ≡ p → granted R quantum total (at k).received ≡ 0
          none zero f = f
          none (suc p) f = absurd (omega (
            arith,
            e,
            ap sum (after-received R runs quantum total k ∙ served-waiting R runs quantum total (at k).received (at k).next w),
            sum-set (at k).received (at k).next (R.made (at k).next (st k (at k).next + granted R quantum total (at k).received))
                (omega (arith, within k, after-long R runs quantum total k)),
            runs.goes_on (at k).next (st k (at k).next) (granted R quantum total (at k).received) (within k) w (omega arith),
          ))

  still-on : (k d m : ℕ) → d ≤ m → sum (at (k + m)).received ≡ sum (at k).received → memory (k + d) ≡ memory k
  still-on k zero m b e = let z : k + 0 ≡ k = omega arith in ap memory z
  still-on k (suc d) m b e =
      let z : k + suc d ≡ k + d + 1 = omega arith in
      let y : k + d + 1 + (m - (d + 1)) ≡ k + m = omega arith in
      ap memory z ∙ still (k + d) (omega (
        arith,
        e,
        sum-grows R runs quantum total count k d,
        (sum_step R runs quantum total count (k + d)).0,
        sum-grows R runs quantum total count (k + d + 1) (m - (d + 1)),
        ap (λ (i : ℕ). sum (at i).received) y,
      )) ∙ still-on k d m (omega arith) e

  pub memory-ends : (k : ℕ) → k ≤ count_of l * total → (at k).received ≡ received R quantum total → memory k ≡ memory (count_of l * total)
  unfolding received
  memory-ends k b e =
      let z : k + (count_of l * total - k) ≡ count_of l * total = omega arith in
      sym (still-on k (count_of l * total - k) (count_of l * total - k) (omega arith) (ap (λ (i : ℕ). sum (at i).received) z ∙ ap sum (sym e))) ∙ ap memory z

  -- ---- the end

  pub standing-ran : 1 ≤ quantum → (k : ℕ) → k ≤ count_of l * total → (seats : List Seat) (ends vs cs : List ℕ) → first_overlap l ≡ count_of l
      → (at k).received ≡ received R quantum total
      → Standing l quantum total k seats ends vs cs → AllRan l quantum total (λ r. (seat_at seats r).outcome) vs cs
  standing-ran quanta k b seats ends vs cs f e s = record {
    begin = λ r b. launched-begins (L r b);
    apart = f;
    as-alone = λ r b. rw (← e) (record {
      alone = (point_from (table_at l r) (lent_to l r) (st k r)).cells;
      run = in_turns (L r b) (s.each r b);
      own-cells = (s.each r b).memory;
    });
    memory = s.memory ∙ memory-ends k b e;
    each-point = each-point;
    served-again = λ j r b. served-again R runs quantum total count quanta j r b;
    all-served = all-served R runs quantum total count quanta;
    nobodys-cells = s.nobodys-cells;
    nobodys-values = s.nobodys-values;
    cells-long = s.cells-long;
    values-long = s.values-long;
  }
