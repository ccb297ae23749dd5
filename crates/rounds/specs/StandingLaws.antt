-- Laws of where all routines stand: at the start, after one more turn, and in the end.
use Rattle.std.specs.Prelude.{ℕ, ◌+◌, ◌-◌, ◌*◌, ◌^◌, ◌≤◌, ◌<◌, min, ◌≡◌, refl, ◌≢◌, Bool, true, false, cond, List, [], ◌∷◌, length, get_or, set, drop}
use Rattle.std.proofs.Common.{sym, subst, ◌∙◌, arith, add-one, length-set, get_or-set_same, get_or-set_other}
use Rattle.std.proofs.Math.Path.{ap, ap₂}
use Rattle.std.proofs.Math.Decide.{ℕ_discrete}
use Rattle.answers.specs.Answers.{reads}
use Rattle.answers.specs.declared.stops.Outcome.{Outcome}
use Rattle.answers.specs.declared.stops.Outcome.TheVariants.{Spent, Done, Stopped, Refused}
use Rattle.words.specs.declared.sections.Sections.{Sections}
use Rattle.table.specs.FormLaws.{well-formed}
use Rattle.machine.specs.FrameLaws.{outside-own}
use Rattle.interpreter.specs.BareRun.{Ends, bare_run}
use Rattle.interpreter.specs.Claim.{answer_at}
use Rattle.interpreter.specs.StartLaws.{admitted}
use Rattle.turns.specs.Turns.{Routines, Runs, Schedule, granted, after, received}
use Rattle.turns.specs.TurnsLaws.{by_order, after-received, after-within, after-long, sum-least, sum-within, served-waiting, served-ended}
use Rattle.parts.specs.Parts.{part_of, start_at, length_at, between}
use Rattle.seats.specs.Parts.{kinds, table_kind, directory_kind, values_kind}
use Rattle.parts.specs.Parts.{Replaced}
use Rattle.parts.specs.PartsLaws.{between-part, starts-order}
use Rattle.parts.specs.ReplacedLaws.{window-before, window-behind, drop-behind}
use Rattle.seats.specs.PartsLaws.{part-new, part-other}
use Rattle.seats.specs.Lends.{Lends, table_at, lent_to, sections_at, count_of}
use Rattle.rounds.specs.Rounds.{routines_of, is_spent, steps_of, steps_after, next_after, goes_on, memory_after}
use Rattle.overlaps.specs.Overlaps.{some}
use Rattle.rounds.specs.InTurn.{InTurn, LeftOthers}
use Rattle.rounds.specs.InTurnLaws.{made-most, made_all, made_more, values-count, others-turn, turn-reads, turn-steps, turn-laid, turn-safe}
use Rattle.rounds.specs.InTurnLaws.{turn-taken, turn-cells, turn-leaves, others_same, answer-made}
use Rattle.seats.specs.SeatAt.{seat_at, nobody}
use Rattle.seats.specs.Seats.{places_of, ends_at, successors_at}
use Rattle.rounds.specs.Standing.{seated, InPlace, MayGoOn, MayTurn, AllLaunched, Standing, GoneOn, Skipped, Turned}
use Rattle.overlaps.specs.OverlapLaws.{AllApart}
use Rattle.seats.specs.declared.Seat.{Seat}
use Rattle.seats.specs.declared.Places.{Places}

picked : (b : Bool) (x y : List ℕ) → b ≡ true → cond b x y ≡ x
picked b x y e = ap (λ (c : Bool). cond c x y) e

passed : (b : Bool) (x y : List ℕ) → b ≡ false → cond b x y ≡ y
passed b x y e = ap (λ (c : Bool). cond c x y) e

-- ---- the routines by themselves

pub routines-run : (l : Lends) (S : List ℕ) → AllLaunched l S → Runs (routines_of l)
routines-run l S L = record {
  at_most = λ r t b. made-most (L r b) t;
  used = λ r t b w. made_all (L r b) t w;
  goes_on = λ r t q b w p. made_more (L r b) t q w p;
}

-- ---- the memory after one more turn

module _ (l : Lends) (quantum total k : ℕ) where
  pub memory-gone : (routines_of l).waits (next_after l quantum total k) (steps_after l quantum total k (next_after l quantum total k)) ≡ true
      → memory_after l quantum total (k + 1)
      ≡ (goes_on l quantum total (next_after l quantum total k) (steps_after l quantum total k (next_after l quantum total k))
      (granted (routines_of l) quantum total (after (routines_of l) quantum total k).received) (memory_after l quantum total k)).point.cells
  unfolding memory_after
  memory-gone e = ap (memory_after l quantum total) (add-one k) ∙ picked _ _ _ e

  pub memory-skipped : (routines_of l).waits (next_after l quantum total k) (steps_after l quantum total k (next_after l quantum total k)) ≡ false
      → memory_after l quantum total (k + 1) ≡ memory_after l quantum total k
  unfolding memory_after
  memory-skipped e = ap (memory_after l quantum total) (add-one k) ∙ passed _ _ _ e

-- ---- one turn

-- A seat that is taken again by who sat there.
set_same : (seats : List Seat) (r : ℕ) (y : Seat) → r < length seats → y ≡ seat_at seats r → (j : ℕ) → seat_at (set seats r y) j ≡ seat_at seats j
set_same seats r y b e j = go (ℕ_discrete j r)
  where
    go : Dec (j ≡ r) → seat_at (set seats r y) j ≡ seat_at seats j
    go (yes d) = rw d (get_or-set_same seats r y nobody b ∙ e)
    go (no d) = get_or-set_other seats r j y nobody d

module _ (l : Lends) (S : List ℕ) (L : AllLaunched l S) (apart : AllApart l) (quantum total : ℕ) (count : 0 < count_of l) (few : count_of l ≤ 8) where
  abbrev R : Routines
  R = routines_of l

  runs : Runs R
  runs = routines-run l S L

  abbrev at : ℕ → Schedule
  at = after R quantum total

  abbrev st : ℕ → ℕ → ℕ
  st k r = get_or (at k).received r 0

  module _ (k : ℕ) (seats : List Seat) (ends vs cs : List ℕ) (s : Standing l quantum total k seats ends vs cs) where
    abbrev r : ℕ
    r = (at k).next

    within : r < count_of l
    within = after-within R runs quantum total count k

    room : r < length seats
    room = omega (arith, within, s.seats-long)

    abbrev q : ℕ
    q = granted R quantum total (at k).received

    -- What the outcome of the routine's seat reads as.
    seat-reads : (j : ℕ) → j < count_of l → reads (seat_at seats j).outcome ≡ answer_at (table_at l j ∷ []) (lent_to l j) (st k j)
    seat-reads j b = turn-reads (L j b) (s.each j b)

    pub seat-steps : (j : ℕ) → j < count_of l → steps_of (reads (seat_at seats j).outcome) ≡ st k j
    seat-steps j b = ap steps_of (seat-reads j b) ∙ answer-made (L j b) (st k j) ∙ (s.each j b).made

    table-part : (j : ℕ) → between (places_of l j).table l.tables ≡ table_at l j
    table-part j = between-part l.lengths kinds table_kind j (length l.tables) l.tables refl

    directory-part : (j : ℕ) → between (places_of l j).directory l.directories ≡ (lent_to l j).directory
    directory-part j = between-part l.lengths kinds directory_kind j (length l.directories) l.directories refl

    values-part : (j : ℕ) → between (places_of l j).values vs ≡ part_of l.lengths kinds values_kind j vs
    values-part j = between-part l.lengths kinds values_kind j (length l.values) vs (sym s.values-long)

    -- ---- what a turn asks

    seat-of : Sections → Places → Seat
    seat-of h p = record { sections = h; places = p; outcome = (seat_at seats r).outcome }

    seat-is : seat_at seats r ≡ record { sections = sections_at l r; places = places_of l r; outcome = (seat_at seats r).outcome }
    unfolding seat-of
    seat-is = ap₂ seat-of (s.sections r within) (s.places r within)

    pub in_place : length S ≡ 16384 → InPlace l.tables l.directories S (seat_at seats r) r ends vs
    in_place n = subst (λ (y : Seat). InPlace l.tables l.directories S y r ends vs) (sym seat-is) (record {
      few = omega (arith, within);
      table-order = omega arith;
      table-within = omega arith;
      directory-order = omega arith;
      directory-within = omega arith;
      values-order = omega arith;
      values-within = omega (arith, s.values-long);
      ends-long = s.ends-long;
      successors-long = n;
    })

    may-go-on : total < 2 ^ 32 → {n a : ℕ} → (seat_at seats r).outcome ≡ Spent n a → MayGoOn l.tables l.directories S (seat_at seats r) r q n a ends vs cs
    may-go-on small {n} {a} e =
        let i : InTurn (table_at l r) (lent_to l r) (st k r) (Spent n a) (ends_at ends r) (part_of l.lengths kinds values_kind r vs) cs = rw e at
        (s.each r within) in
        subst (λ (y : Seat). MayGoOn l.tables l.directories S y r q n a ends vs cs) (sym seat-is) (record {
          laid = rw (table-part r, directory-part r, values-part r) (turn-laid (L r within) i);
          safe = rw (table-part r, directory-part r, values-part r) (turn-safe (L r within) i q);
          fits = omega (arith, turn-steps (L r within) i, sum-least (at k).received r, sum-within R runs quantum total count k);
        })

    pub may-turn : total < 2 ^ 32 → MayTurn l.tables l.directories S (seat_at seats r) r q (seat_at seats r).outcome ends vs cs
    may-turn small = go (seat_at seats r).outcome refl
      where
        go : (o : Outcome) → (seat_at seats r).outcome ≡ o → MayTurn l.tables l.directories S (seat_at seats r) r q o ends vs cs
        go (Spent n a) e = may-go-on small e
        go (Done n) e = tt
        go (Stopped n c) e = tt
        go (Refused f) e = tt

    -- ---- skipped

    skip-received : is_spent (reads (seat_at seats r).outcome) ≡ false → (at (k + 1)).received ≡ (at k).received
    skip-received e = after-received R runs quantum total k ∙ served-ended R runs quantum total (at k).received r (sym (ap is_spent (seat-reads r within)) ∙ e)

    skipped : (o : Outcome) (ends' vs' cs' : List ℕ) → is_spent (reads (seat_at seats r).outcome) ≡ false
        → Skipped (seat_at seats r).outcome ends vs cs o ends' vs' cs' → Standing l quantum total (k + 1) (set seats r (seated
        (seat_at seats r) o)) ends' vs' cs'
    skipped o ends' vs' cs' e x =
        let same : (j : ℕ) → seat_at (set seats r (seated (seat_at seats r) o)) j ≡ seat_at seats j =
        set_same seats r _ room (ap (λ (y : Outcome). seated (seat_at seats r) y) x.outcome) in
        rw (x.ends_same, x.values_same, x.cells_same) (record {
          seats-long = length-set seats r _ ∙ s.seats-long;
          sections = λ j b. ap (λ (y : Seat). y.sections) (same j) ∙ s.sections j b;
          places = λ j b. ap (λ (y : Seat). y.places) (same j) ∙ s.places j b;
          each = λ j b. rw (same j, skip-received e) (s.each j b);
          memory = s.memory ∙ sym (memory-skipped l quantum total k (sym (ap is_spent (seat-reads r within)) ∙ e));
          nobodys-cells = s.nobodys-cells;
          nobodys-values = s.nobodys-values;
          cells-long = s.cells-long;
          values-long = s.values-long;
          ends-long = s.ends-long;
        })

    -- ---- served

    module _ {n a : ℕ} {o : Outcome} {ends' vs' cs' : List ℕ} (w : (seat_at seats r).outcome ≡ Spent n a)
        (x : GoneOn l.tables l.directories S (seat_at seats r) r q n a ends vs cs o ends' vs' cs') where
      mine : InTurn (table_at l r) (lent_to l r) (st k r) (Spent n a) (ends_at ends r) (part_of l.lengths kinds values_kind r vs) cs
      mine = rw w at (s.each r within)

      ran : Ends (bare_run (table_at l r) (sections_at l r) (ends_at ends r) (lent_to l r).directory (successors_at S r) q n a
          (part_of l.lengths kinds values_kind r vs) cs) o x.ends-then x.values-then cs'
      ran = rw (s.sections r within, s.places r within, table-part r, directory-part r, values-part r) at x.run

      kept : Replaced (min (start_at l.lengths kinds values_kind r) (length vs))
          (min (start_at l.lengths kinds values_kind r + length_at l.lengths kinds values_kind r)
          (length vs)) vs
          x.values-then vs'
      kept = rw (s.places r within, ← s.values-long) at x.values-kept

      as_many : length x.values-then ≡ length (part_of l.lengths kinds values_kind r vs)
      as_many = rw (s.places r within, values-part r) at x.values-count

      waiting : R.waits r (st k r) ≡ true
      waiting = sym (ap is_spent (seat-reads r within)) ∙ ap (λ (y : Outcome). is_spent (reads y)) w

      gone-received : (at (k + 1)).received ≡ set (at k).received r (steps_of (answer_at (table_at l r ∷ []) (lent_to l r) (st k r + q)))
      gone-received = after-received R runs quantum total k ∙ served-waiting R runs quantum total (at k).received r waiting

      gone-mine : st (k + 1) r ≡ steps_of (answer_at (table_at l r ∷ []) (lent_to l r) (st k r + q))
      gone-mine = ap (λ (y : List ℕ). get_or y r 0) gone-received
          ∙ get_or-set_same (at k).received r _ 0 (omega (arith, within, after-long R runs quantum total k))

      gone-other : (j : ℕ) → j ≢ r → st (k + 1) j ≡ st k j
      gone-other j d = ap (λ (y : List ℕ). get_or y j 0) gone-received ∙ get_or-set_other (at k).received r j _ 0 d

      some-values : 0 < length (part_of l.lengths kinds values_kind r vs)
      some-values =
          let v = (admitted _ _ _ _ _ _ (L r within).none).values in
          let z : length (part_of l.lengths kinds values_kind r vs) ≡ (sections_at l r).variables = ap length mine.values
          ∙ values-count (L r within) (st k r) in
          omega (arith, (well-formed _ _ (L r within).formed).limits.some)

      abbrev seat : Seat
      seat = seated (seat_at seats r) o

      turned-mine : InTurn (table_at l r) (lent_to l r) (st (k + 1) r) o (ends_at ends' r) (part_of l.lengths kinds values_kind r vs') cs'
      turned-mine =
          let here : ends_at ends' r ≡ x.ends-then = rw x.ends-count at x.ends-kept.here in
          rw (gone-mine, here, part-new l.lengths kinds values_kind r vs x.values-then vs' some-values as_many kept) (turn-taken (L r within) mine q ran)

      left : LeftOthers (sections_at l r) (lent_to l r).directory cs cs'
      left = turn-leaves (L r within) mine q ran

      ends-other : (j : ℕ) → j ≢ r → ends_at ends' j ≡ ends_at ends j
      ends-other j d = by_order j r
          (λ u. window-before (512 * r) (512 * j) 512 ends ends' (omega arith) x.ends-kept.front)
          (λ u. by_order r j (λ v. window-behind (512 * r + 512) (512 * j) 512 ends ends' (omega arith) x.ends-kept.back) (λ v. absurd (d (omega arith))))

      turned-other : (j : ℕ) → j < count_of l → j ≢ r
          → InTurn (table_at l j) (lent_to l j) (st (k + 1) j) (seat_at seats j).outcome (ends_at ends' j) (part_of l.lengths kinds values_kind j vs') cs'
      turned-other j b d =
          rw (gone-other j d, ends-other j d, part-other l.lengths kinds values_kind r vs x.values-then vs' some-values as_many kept j d)
          (others-turn (L j b) cs' (others_same (sections_at l r) (sections_at l j) (lent_to l r).directory (lent_to l j).directory cs cs'
          (apart r j within b (λ e. d (sym e))) left) (s.each j b))

      gone : Standing l quantum total (k + 1) (set seats r seat) ends' vs' cs'
      gone = record {
        seats-long = length-set seats r seat ∙ s.seats-long;
        sections = λ j b. sections-kept j b (ℕ_discrete j r);
        places = λ j b. places-kept j b (ℕ_discrete j r);
        each = λ j b. turned j b (ℕ_discrete j r);
        memory = turn-cells (L r within) mine q ran ∙ ap (λ (M : List ℕ). (goes_on l quantum total r (st k r) q M).point.cells) s.memory
            ∙ sym (memory-gone l quantum total k waiting);
        nobodys-cells = λ i y. left.elsewhere i (outside-own (sections_at l r) (lent_to l r).directory i (y r within)) ∙ s.nobodys-cells i y;
        nobodys-values = values-behind ∙ s.nobodys-values;
        cells-long = left.long ∙ s.cells-long;
        values-long = x.values-kept.long ∙ s.values-long;
        ends-long = x.ends-kept.long ∙ s.ends-long;
      }
        where
          sections-kept : (j : ℕ) → j < count_of l → Dec (j ≡ r) → (seat_at (set seats r seat) j).sections ≡ sections_at l j
          sections-kept j b (yes d) = rw d (ap (λ (y : Seat). y.sections) (get_or-set_same seats r seat nobody room) ∙ s.sections r within)
          sections-kept j b (no d) = ap (λ (y : Seat). y.sections) (get_or-set_other seats r j seat nobody d) ∙ s.sections j b

          places-kept : (j : ℕ) → j < count_of l → Dec (j ≡ r) → (seat_at (set seats r seat) j).places ≡ places_of l j
          places-kept j b (yes d) = rw d (ap (λ (y : Seat). y.places) (get_or-set_same seats r seat nobody room) ∙ s.places r within)
          places-kept j b (no d) = ap (λ (y : Seat). y.places) (get_or-set_other seats r j seat nobody d) ∙ s.places j b

          turned : (j : ℕ) → j < count_of l → Dec (j ≡ r)
              → InTurn (table_at l j) (lent_to l j) (st (k + 1) j) (seat_at (set seats r seat) j).outcome (ends_at ends' j) (part_of
              l.lengths kinds values_kind j vs') cs'
          turned j b (yes d) = rw (d, get_or-set_same seats r seat nobody room) turned-mine
          turned j b (no d) = rw (get_or-set_other seats r j seat nobody d) (turned-other j b d)

          behind : min (start_at l.lengths kinds values_kind r + length_at l.lengths kinds values_kind r) (length vs) ≤ start_at l.lengths kinds values_kind
              (count_of l)
          behind = omega (arith, starts-order l.lengths kinds values_kind r (count_of l) within)

          values-behind : drop (start_at l.lengths kinds values_kind (count_of l)) vs' ≡ drop (start_at l.lengths kinds values_kind (count_of l)) vs
          values-behind = drop-behind _ (start_at l.lengths kinds values_kind (count_of l)) vs vs' behind kept.back

    -- ---- THE LAW OF ONE TURN

    pub one-turn : (o : Outcome) (ends' vs' cs' : List ℕ) → Turned l.tables l.directories S (seat_at seats r) r q
        (seat_at seats r).outcome ends vs cs o ends' vs' cs'
        → Standing l quantum total (k + 1) (set seats r (seated (seat_at seats r) o)) ends' vs' cs'
    one-turn o ends' vs' cs' x = go (seat_at seats r).outcome refl x
      where
        go : (old : Outcome) → (seat_at seats r).outcome ≡ old → Turned l.tables l.directories S (seat_at seats r) r q old ends vs cs o ends' vs' cs'
            → Standing l quantum total (k + 1) (set seats r (seated (seat_at seats r) o)) ends' vs' cs'
        go (Spent n a) e x = gone e x
        go (Done n) e x = skipped o ends' vs' cs' (ap (λ (y : Outcome). is_spent (reads y)) e) (rw e x)
        go (Stopped n c) e x = skipped o ends' vs' cs' (ap (λ (y : Outcome). is_spent (reads y)) e) (rw e x)
        go (Refused f) e x = skipped o ends' vs' cs' (ap (λ (y : Outcome). is_spent (reads y)) e) (rw e x)
