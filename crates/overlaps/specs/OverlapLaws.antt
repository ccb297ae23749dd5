-- Laws of the loops that look for objects that overlap.
use Rattle.std.specs.Prelude.{ℕ, zero, suc, ◌+◌, ◌*◌, ◌≤◌, ◌<◌, min, max, ◌≡◌, refl, ◌≢◌, Bool, true, false, not, cond, List, ltb, length, get_or}
use Rattle.std.proofs.Common.{ap, ◌∙◌, arith, le-ltb, ltb-false}
use Rattle.machine.specs.Machine.{low, high}
use Rattle.table.specs.Form.{lowest_from}
use Rattle.table.specs.Searches.{holds-below}
use Rattle.machine.specs.Points.{CellOf}
use Rattle.machine.specs.Frame.{Elsewhere, Own}
use Rattle.interpreter.specs.AnswerLaws.{never}
use Rattle.turns.specs.TurnsLaws.{by_order}
use Rattle.parts.specs.Parts.{between}
use Rattle.seats.specs.Parts.{kinds}
use Rattle.parts.specs.PartsLaws.{between-part}
use Rattle.seats.specs.Lends.{Lends, lent_to, sections_at, count_of}
use Rattle.overlaps.specs.Overlaps.{lowest, some, share_cell, overlap, overlaps_earlier, first_overlap}
use Rattle.overlaps.specs.SeatOverlaps.{seats_overlap, seat_overlaps}
use Rattle.seats.specs.SeatAt.{seat_at}
use Rattle.seats.specs.Seats.{places_of}
use Rattle.seats.specs.declared.Seat.{Seat}

-- The same of the same numbers.
from-alike : (f g : ℕ → Bool) (n i : ℕ) → ((k : ℕ) → i ≤ k → k < i + n → f k ≡ g k) → lowest_from f i n ≡ lowest_from g i n
unfolding lowest_from
from-alike f g zero i e = refl
from-alike f g (suc n) i e =
    ap (λ (b : Bool). cond b (lowest_from f (i + 1) n) i) (e i (omega arith) (omega arith))
    ∙ ap (λ (m : ℕ). cond (g i) m i) (from-alike f g n (i + 1) (λ k a b. e k (omega arith) (omega arith)))

pub lowest-alike : (f g : ℕ → Bool) (n : ℕ) → ((k : ℕ) → k < n → f k ≡ g k) → lowest f n ≡ lowest g n
lowest-alike f g n e = from-alike (λ k. not (f k)) (λ k. not (g k)) n 0 (λ k a b. ap not (e k (omega arith)))

-- No more than n.
from-most : (f : ℕ → Bool) (n i : ℕ) → lowest_from f i n ≤ i + n
unfolding lowest_from
from-most f zero i = omega arith
from-most f (suc n) i = go (f i) (from-most f n (i + 1))
  where
    go : (b : Bool) → lowest_from f (i + 1) n ≤ i + 1 + n → cond b (lowest_from f (i + 1) n) i ≤ i + suc n
    go true h = omega arith
    go false h = omega arith

pub lowest-most : (f : ℕ → Bool) (n : ℕ) → lowest f n ≤ n
lowest-most f n = omega (arith, from-most (λ k. not (f k)) n 0)

-- The code's tests.
pub is_some : (f : ℕ → Bool) (n : ℕ) {m : ℕ} → m ≡ lowest f n → ltb m n ≡ some f n
is_some f n e = ap (λ (k : ℕ). ltb k n) e

pub is_shared : (D F : List ℕ) (o n s e m : ℕ) → s ≡ get_or D (2 * o) 0 → e ≡ get_or D (2 * o + 1) 0
    → m ≡ lowest (λ k. ltb (max s (low F k)) (min (s + e) (high F k))) n → ltb m n ≡ some (λ k. share_cell D o F k) n
is_shared D F o n s e m p q x = is_some (λ k. share_cell D o F k) n (x ∙ rw (p, q) refl)

pub is-overlap : (F : List ℕ) (s u : Seat) {m : ℕ}
    → m ≡ lowest (λ o. some (λ k. share_cell (between s.places.directory F) o (between u.places.directory F) k) u.sections.objects)
    s.sections.objects
    → ltb m s.sections.objects ≡ seats_overlap F s u
unfolding seats_overlap overlap
is-overlap F s u e = ap (λ (k : ℕ). ltb k s.sections.objects) e

pub is-earlier : (F : List ℕ) (seats : List Seat) (r : ℕ) {m : ℕ} → m ≡ lowest (λ e. seats_overlap F (seat_at seats r) (seat_at seats e)) r
    → ltb m r ≡ seat_overlaps F seats r
unfolding seat_overlaps
is-earlier F seats r e = ap (λ (k : ℕ). ltb k r) e

-- By seats it is the same as by what is lent.
pub overlaps-lent : (l : Lends) (seats : List Seat) (count : ℕ) → count ≡ count_of l → ((r : ℕ) → r < count_of l → (seat_at seats r).sections ≡ sections_at l r)
    → ((r : ℕ) → r < count_of l → (seat_at seats r).places ≡ places_of l r) → lowest (seat_overlaps l.directories seats) count ≡ first_overlap l
unfolding first_overlap overlaps_earlier seat_overlaps seats_overlap
overlaps-lent l seats count c s p = rw c (lowest-alike (seat_overlaps l.directories seats) (overlaps_earlier l) (count_of l) (λ r b.
    ap (λ (m : ℕ). ltb m r) (lowest-alike _ _ r (λ e d. pair r e b (omega arith)))))
  where
    pair : (r e : ℕ) → r < count_of l → e < count_of l
        → overlap (between (seat_at seats r).places.directory l.directories) (seat_at seats r).sections.objects
        (between (seat_at seats e).places.directory l.directories) (seat_at seats e).sections.objects
        ≡ overlap (lent_to l r).directory (sections_at l r).objects (lent_to l e).directory (sections_at l e).objects
    pair r e b d = rw (
      s r b,
      s e d,
      p r b,
      p e d,
      between-part l.lengths kinds 2 r (length l.directories) l.directories refl,
      between-part l.lengths kinds 2 e (length l.directories) l.directories refl,
    )

-- ---- objects that do not overlap

none_below : (f : ℕ → Bool) (n : ℕ) → some f n ≡ false → (i : ℕ) → i < n → f i ≡ false
none_below f n e i l = go (f i) (holds-below (λ j. not (f j)) n (ltb-false (lowest f n) n e) i l)
  where
    go : (b : Bool) → not b ≡ true → b ≡ false
    go true q = let z : ◌≡◌ {A = ℕ} 0 1 = cc in never z
    go false q = refl

objects-apart : (D F : List ℕ) (n m : ℕ) → overlap D n F m ≡ false → (o k i : ℕ) → o < n → k < m → low D o ≤ i → i < high D o → low F k ≤ i → i < high F k → ⊥
unfolding overlap
objects-apart D F n m e o k i a b c d f g =
    let x = none_below (λ j. share_cell D o F j) m (none_below (λ j. some (λ p. share_cell D j F p) m) n e o a) k b in
    omega (arith, ltb-false (max (low D o) (low F k)) (min (high D o) (high F k)) x)

-- 14 does not refuse: no cell is of objects of two routines.
abbrev pub AllApart : Lends → Type 0
AllApart l = (r k : ℕ) → r < count_of l → k < count_of l → r ≢ k
    → (i : ℕ) → CellOf (lent_to l k).directory (Own (sections_at l k)) i → Elsewhere (lent_to l r).directory (Own (sections_at l r)) i

-- No routine overlaps an earlier one: no cell is of objects of two.
pub all_apart : (l : Lends) → first_overlap l ≡ count_of l → AllApart l
unfolding first_overlap overlaps_earlier
all_apart l e r k a b d i c x = by_order r k
    (λ u. objects-apart (lent_to l k).directory (lent_to l r).directory (sections_at l k).objects (sections_at l r).objects (pair k r b u)
    c.object x.object i c.chosen x.chosen c.above c.below x.above x.below)
    (λ u. objects-apart (lent_to l r).directory (lent_to l k).directory (sections_at l r).objects (sections_at l k).objects
    (pair r k a (by_order k r (λ (v : k < r). v) (λ v. absurd (d (omega arith)))))
    x.object c.object i x.chosen c.chosen x.above x.below c.above c.below)
  where
    pair : (p q : ℕ) → p < count_of l → q < p
        → overlap (lent_to l p).directory (sections_at l p).objects (lent_to l q).directory (sections_at l q).objects ≡ false
    pair p q a b =
        none_below (λ j. overlap (lent_to l p).directory (sections_at l p).objects (lent_to l j).directory (sections_at l j).objects) p
        (none_below (overlaps_earlier l) (count_of l) (le-ltb (first_overlap l) (count_of l) (omega arith)) p a) q b
