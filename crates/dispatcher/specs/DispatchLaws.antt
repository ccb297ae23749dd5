-- Laws of the whole call.
use Rattle.rules.specs.declared.SetRefusal.{SetRefusal}
use Rattle.std.specs.Prelude.{ℕ, ◌/◌, ◌%◌, ◌≤◌, ◌<◌, ◌≡◌, Bool, true, false, not, ◌&&◌, List, leb, eqb, length, get_or, Ok, Err, Result}
use Rattle.std.proofs.Math.Path.{refl}
use Rattle.std.proofs.Common.{sym, ap, ◌∙◌, leb-true}
use native.Mathlib.Omega.{arith}
use Rattle.std.proofs.lemmas.List.{get_or-replicate}
use Rattle.answers.specs.declared.refusals.Refusal.{Refusal}
use Rattle.answers.specs.declared.stops.Outcome.{Outcome}
use Rattle.words.specs.SectionsLaws.{both}
use Rattle.table.specs.FormLaws.{well-formed}
use Rattle.turns.specs.Turns.{Schedule, after}
use Rattle.turns.specs.TurnsLaws.{after-start}
use Rattle.seats.specs.Lends.{Lends, table_at, listed_at, lent_to, count_of}
use Rattle.dispatcher.specs.Dispatch.{count_right, room_right, Promised}
use Rattle.rounds.specs.Rounds.{routines_of, AllRan, memory_after}
use Rattle.overlaps.specs.Overlaps.{lowest, first_overlap}
use Rattle.overlaps.specs.SeatOverlaps.{SeatsRight, seat_overlaps}
use Rattle.overlaps.specs.OverlapLaws.{overlaps-lent, lowest-most}
use Rattle.interpreter.specs.ClaimLaws.{launched-begins, refused-alone}
use Rattle.rounds.specs.InTurnLaws.{turn-begins, relaid}
use Rattle.seats.specs.SeatAt.{seat_at}
use Rattle.seats.specs.Seats.{start_seat, Ready, ReadyTo, RefusedAt, AllSeatedAs, CountIs}
use Rattle.rounds.specs.Standing.{AllLaunched, Standing, TurnsAsk}
use Rattle.rounds.specs.StandingLaws.{routines-run}
use Rattle.seats.specs.declared.Seat.{Seat}
use Rattle.dispatcher.specs.declared.Said.{Said}
use Rattle.dispatcher.specs.declared.Said.TheVariants as said

-- ---- the count

pub record Counted (l : Lends) (quantum : ℕ) : Type 0 where
  pub some : 1 ≤ count_of l
  pub few : count_of l ≤ 8
  pub quanta : 1 ≤ quantum

pub count-facts : (l : Lends) (quantum : ℕ) → count_right l quantum ≡ true → Counted l quantum
unfolding count_right
count-facts l quantum e =
    let a = both (eqb (length l.lengths % 5) 0 && leb 1 (count_of l) && leb (count_of l) 8 && leb 1 quantum) (leb quantum 1000) e in
    let b = both (eqb (length l.lengths % 5) 0 && leb 1 (count_of l) && leb (count_of l) 8) (leb 1 quantum) a.0 in
    let c = both (eqb (length l.lengths % 5) 0 && leb 1 (count_of l)) (leb (count_of l) 8) b.0 in
    let d = both (eqb (length l.lengths % 5) 0) (leb 1 (count_of l)) c.0 in
    record { some = leb-true _ _ d.1; few = leb-true _ _ c.1; quanta = leb-true _ _ b.1 }

room-facts : (ends S : List ℕ) → room_right ends S ≡ true → (4096 ≤ length ends) × (16384 ≤ length S)
unfolding room_right
room-facts ends S e = let a = both (leb 4096 (length ends)) (leb 16384 (length S)) e in (leb-true _ _ a.0, leb-true _ _ a.1)

-- ---- all routines are ready

no-turns : (l : Lends) (quantum total : ℕ) → l.cells ≡ memory_after l quantum total 0
unfolding memory_after
no-turns l quantum total = refl

module _ {l : Lends} {quantum : ℕ} {seats : List Seat} {ends S : List ℕ} (c : Counted l quantum) (R : ReadyTo l (count_of l) seats ends S) where
  seat : (r : ℕ) → r < count_of l → seat_at seats r ≡ start_seat l r
  seat r b = (R.ready r b).seat

  pub ready-right : SeatsRight l.directories seats (count_of l)
  ready-right r b = rw (seat r b) (record {
    order = omega arith;
    within = omega arith;
    few = (well-formed _ _ (R.ready r b).laid_out.formed).limits.objects;
  })

  -- The first routine that overlaps, in the words of the code.
  pub ready-overlap : {count m : ℕ} → count ≡ count_of l → m ≡ lowest (seat_overlaps l.directories seats) count → m ≡ first_overlap l
  ready-overlap {count} e f =
      f ∙ overlaps-lent l seats count e (λ r b. ap (λ (s : Seat). s.sections) (seat r b)) (λ r b. ap (λ (s : Seat). s.places) (seat r b))

  launched : AllLaunched l S
  launched r b = relaid (R.ready r b).laid_out

  none-received : (total r : ℕ) → r < count_of l → get_or (after (routines_of l) quantum total 0).received r 0 ≡ 0
  none-received total r b =
      ap (λ (P : Schedule). get_or P.received r 0) (after-start (routines_of l) (routines-run l S launched) quantum total)
      ∙ get_or-replicate (count_of l) r 0 0 b

  standing : (total : ℕ) → Standing l quantum total 0 seats ends l.values l.cells
  standing total = record {
    seats-long = R.seats-long;
    sections = λ r b. ap (λ (s : Seat). s.sections) (seat r b);
    places = λ r b. ap (λ (s : Seat). s.places) (seat r b);
    each = λ r b. rw (none-received total r b, seat r b) (turn-begins (R.ready r b).laid_out);
    memory = no-turns l quantum total;
    nobodys-cells = λ i y. refl;
    nobodys-values = refl;
    cells-long = refl;
    values-long = refl;
    ends-long = R.ends-long;
  }

  -- What the loop of turns asks.
  pub ready-turns : {count m : ℕ} (total : ℕ) → count ≡ count_of l → m ≡ lowest (seat_overlaps l.directories seats) count → count ≤ m
      → TurnsAsk l S count quantum total seats ends
  ready-turns {count} {m} total e f a = record {
    counted = e;
    some = omega (arith, c.some);
    few = c.few;
    quanta = c.quanta;
    launched = launched;
    no-overlap = let q : m ≡ count = omega (arith, lowest-most (seat_overlaps l.directories seats) count) in sym (ready-overlap e f) ∙ q ∙ e;
    successors-long = R.flow-long;
    standing = standing total;
  }

  -- 14.
  pub ready-overlaps : {count m : ℕ} (total : ℕ) (outcomes : ℕ → Outcome) → count_right l quantum ≡ true → count ≡ count_of l
      → m ≡ lowest (seat_overlaps l.directories seats) count
      → m < count → Promised true l quantum total (said.Overlaps m) outcomes l.values l.cells
  unfolding Promised
  ready-overlaps total outcomes x e f b =
      (refl, x, (λ k i. launched-begins (R.ready k i).laid_out), omega arith, ready-overlap e f, record { values = refl; cells = refl })

-- ---- a routine that is refused

pub first-refusal : (l : Lends) (quantum total : ℕ) (outcomes : ℕ → Outcome) {r : ℕ} {f : Refusal} → count_right l quantum ≡ true → RefusedAt l r f
    → Promised true l quantum total (said.Refused r f) outcomes l.values l.cells
unfolding Promised
first-refusal l quantum total outcomes {r} {f} x y = (
  refl,
  x,
  record { within = y.within; earlier = y.earlier; refuses = λ limit. refused-alone (table_at l r) (listed_at l r) (lent_to l r) f y.first limit },
  record { values = refl; cells = refl },
)

-- ---- in the words of the code

module _ {l : Lends} {count : ℕ} {seats : List Seat} {ends S : List ℕ} (quantum : ℕ) (x : count_right l quantum ≡ true) (e : count ≡ count_of l)
    (R : ReadyTo l count seats ends S) where
  all-ready : ReadyTo l (count_of l) seats ends S
  all-ready = rw e at R

  pub code-right : (count ≤ 8) × SeatsRight l.directories seats count
  code-right = (
    (let c = count-facts l quantum x in omega (arith, c.few)),
    (λ r b. ready-right (count-facts l quantum x) all-ready r (omega arith)),
  )

  pub code-turns-ask : (total m : ℕ) → m ≡ lowest (seat_overlaps l.directories seats) count → count ≤ m → TurnsAsk l S count quantum total seats ends
  code-turns-ask total m f a = ready-turns (count-facts l quantum x) all-ready total e f a

  pub code-overlaps : (total : ℕ) (outcomes : ℕ → Outcome) (m : ℕ) → m ≡ lowest (seat_overlaps l.directories seats) count → m < count
      → Promised true l quantum total (said.Overlaps m) outcomes l.values l.cells
  code-overlaps total outcomes m f b = ready-overlaps (count-facts l quantum x) all-ready total outcomes x e f b

-- All ran.
pub all-promised : (l : Lends) (quantum total : ℕ) (outcomes : ℕ → Outcome) (vs cs : List ℕ) → count_right l quantum ≡ true
    → AllRan l quantum total outcomes vs cs → Promised true l quantum total said.Ran outcomes vs cs
unfolding Promised
all-promised l quantum total outcomes vs cs x a = (refl, x, a)

-- ---- the count, the room and the first routine that is refused, in the words of the code

pub count-is : (l : Lends) (quantum : ℕ) → count_right l quantum ≡ true → CountIs (length l.lengths / 5) l.lengths
count-is l quantum x = record { counted = refl; few = (count-facts l quantum x).few }

pub seated-ready : (y : Result (Unit {0}) SetRefusal) (l : Lends) (seats : List Seat) (ends S : List ℕ) → y ≡ Ok tt → AllSeatedAs y l seats ends S
    → ReadyTo l (count_of l) seats ends S
seated-ready y l seats ends S e x = rw e at x

pub seated-refused : (y : Result (Unit {0}) SetRefusal) (l : Lends) (seats : List Seat) (ends S : List ℕ) {r : ℕ} {f : Refusal}
    → y ≡ Err (record { routine = r; refusal = f })
    → AllSeatedAs y l seats ends S
    → RefusedAt l r f
seated-refused y l seats ends S e x = rw e at x

pub was-false : (b : Bool) → not b ≡ true → b ≡ false
was-false true e = let z : ◌≡◌ {A = ℕ} 0 1 = cc in absurd (omega arith)
was-false false e = refl

pub was-true : (b : Bool) → not b ≡ false → b ≡ true
was-true true e = refl
was-true false e = let z : ◌≡◌ {A = ℕ} 0 1 = cc in absurd (omega arith)

pub answers-no-room : (l : Lends) (ends S : List ℕ) (quantum total : ℕ) (s : Said) (outcomes : ℕ → Outcome) → room_right ends S ≡ false → s ≡ said.NoRoom
    → Promised (room_right ends S) l quantum total s outcomes l.values l.cells
unfolding Promised
answers-no-room l ends S quantum total s outcomes e f = rw f (e, record { values = refl; cells = refl })

pub answers-count : (l : Lends) (ends S : List ℕ) (quantum total : ℕ) (s : Said) (outcomes : ℕ → Outcome) → room_right ends S ≡ true
    → count_right l quantum ≡ false
    → s ≡ said.WrongCount → Promised (room_right ends S) l quantum total s outcomes l.values l.cells
unfolding Promised
answers-count l ends S quantum total s outcomes r e f = rw f (r, e, record { values = refl; cells = refl })

pub room-is : (ends S : List ℕ) (b : Bool) → b ≡ (leb 4096 (length ends) && leb 16384 (length S)) → b ≡ room_right ends S
unfolding room_right
room-is ends S b e = e

-- Where the code goes on, there is room: it lends the part that the set-up takes.
pub room_cut : (ends S : List ℕ) (b : Bool) → b ≡ (leb 4096 (length ends) && leb 16384 (length S)) → not b ≡ false
    → (4096 ≤ length ends) × (16384 ≤ length S)
room_cut ends S b e t = room-facts ends S (sym (room-is ends S b e) ∙ was-true b t)

pub count-test : (l : Lends) (quantum : ℕ) (b : Bool)
    → b ≡ (eqb (length l.lengths % 5) 0 && leb 1 (length l.lengths / 5) && leb (length l.lengths / 5) 8 && leb 1 quantum && leb quantum 1000)
    → b ≡ count_right l quantum
unfolding count_right
count-test l quantum b e = e
