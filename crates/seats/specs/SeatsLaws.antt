-- Laws of what is laid out before the turns.
use Rattle.std.specs.Prelude.{ℕ, ◌+◌, ◌-◌, ◌*◌, ◌≤◌, ◌<◌, ◌≡◌, refl, List, length, set, Err, Ok, Result}
use Rattle.std.proofs.Common.{sym, ◌∙◌, arith, lt-ltb, le-ltb, length-set, get_or-set_same, get_or-set_other}
use Rattle.std.proofs.Math.Decide.{ℕ_discrete}
use borrow.Rule.Slice.PartMut.{put_mid, take_put, mid_len}
use Rattle.answers.specs.declared.refusals.Refusal.{Refusal}
use Rattle.answers.specs.declared.stops.Outcome.{Outcome}
use Rattle.answers.specs.declared.stops.Outcome.TheVariants.{Spent, Done}
use Rattle.words.specs.declared.sections.Sections.{Sections}
use Rattle.table.specs.FormLaws.{formed-sections}
use Rattle.machine.specs.Machine.{going}
use Rattle.interpreter.specs.Claim.{Lent}
use Rattle.interpreter.specs.Starts.{Launched, Starts}
use Rattle.interpreter.specs.Outcomes.{outcome_shown}
use Rattle.turns.specs.TurnsLaws.{by_order}
use Rattle.parts.specs.Parts.{window, between, span_of}
use Rattle.seats.specs.Parts.{kinds}
use Rattle.parts.specs.PartsLaws.{between-part}
use Rattle.parts.specs.ReplacedLaws.{window-before, put-replaced}
use Rattle.seats.specs.Lends.{Lends, table_at, listed_at, lent_to, sections_at, count_of}
use Rattle.interpreter.specs.ClaimLaws.{launched-begins}
use Rattle.seats.specs.SeatAt.{nobody}
use Rattle.seats.specs.Seats.{ends_at, successors_at, start_seat, LaidOut, SeatedAs, SeatResult, Ready, ReadyTo, RefusedAt}
use Rattle.seats.specs.declared.Seat.{Seat}
use Rattle.parts.specs.declared.Span.{Span}

pub first-spent : (h : Sections) → 0 < h.statements → Spent 0 0 ≡ outcome_shown h going 0 0
first-spent h l = rw (lt-ltb 0 h.statements l)

pub first_done : (h : Sections) → h.statements ≤ 0 → Done 0 ≡ outcome_shown h going 0 0
first_done h l = rw (le-ltb 0 h.statements l)

-- ---- one routine

ends-size : (r : ℕ) → 512 * r + 512 - 512 * r ≡ 512
ends-size r = omega arith

flow-size : (r : ℕ) → 2048 * r + 2048 - 2048 * r ≡ 2048
flow-size r = omega arith

-- Its scratch has the length that its run asks.
pub scratch-long : (r : ℕ) (ends S : List ℕ) → r < 8 → length ends ≡ 4096 → length S ≡ 16384
    → (length (window (512 * r) (512 * r + 512 - 512 * r) ends) ≡ 512) × (length (window (2048 * r) (2048 * r + 2048 - 2048 * r) S) ≡ 2048)
scratch-long r ends S b e f = (
  mid_len (512 * r) (512 * r + 512) ends (omega arith) ∙ ends-size r,
  mid_len (2048 * r) (2048 * r + 2048) S (omega arith) ∙ flow-size r,
)

abbrev lent_parts : Lends → Span → Span → Span → Lent
lent_parts l d v o = record {
  directory = between d l.directories;
  cells = l.cells;
  values = between v l.values;
  origins = between o l.origins;
}

module _ (l : Lends) (r : ℕ) (few : r < 8) {t i d v o : Span} (table : t ≡ span_of l.lengths kinds 0 r (length l.tables))
    (listed : i ≡ span_of l.lengths kinds 1 r (length l.listed))
    (directory : d ≡ span_of l.lengths kinds 2 r (length l.directories)) (values : v ≡ span_of l.lengths kinds 3 r (length l.values))
    (origins : o ≡ span_of l.lengths kinds 4 r (length l.origins)) where
  abbrev StartsIn : Result Sections Refusal → List ℕ → List ℕ → Type 0
  StartsIn x W X = Starts x (between t l.tables) (between i l.listed) (lent_parts l d v o) W X

  parts-lent : (x : Result Sections Refusal) (W X : List ℕ) → StartsIn x W X → Starts x (table_at l r) (listed_at l r) (lent_to l r) W X
  parts-lent x W X y = rw (
    table,
    listed,
    directory,
    values,
    origins,
    between-part l.lengths kinds 0 r (length l.tables) l.tables refl,
    between-part l.lengths kinds 1 r (length l.listed) l.listed refl,
    between-part l.lengths kinds 2 r (length l.directories) l.directories refl,
    between-part l.lengths kinds 3 r (length l.values) l.values refl,
    between-part l.lengths kinds 4 r (length l.origins) l.origins refl,
  ) at y

  module _ (ends S W X : List ℕ) (ends-long : length ends ≡ 4096) (flow-long : length S ≡ 16384)
      (n : length W ≡ length (window (512 * r) (512 * r + 512 - 512 * r) ends)) (m : length X ≡ length (window (2048 * r) (2048 * r + 2048 - 2048 * r) S)) where
    abbrev ends' : List ℕ
    ends' = put_mid (512 * r) (512 * r + 512 - 512 * r) ends W

    abbrev S' : List ℕ
    S' = put_mid (2048 * r) (2048 * r + 2048 - 2048 * r) S X

    ends-here : ends_at ends' r ≡ W
    ends-here =
        let k : length W ≡ 512 = n ∙ (scratch-long r ends S few ends-long flow-long).0 in
        rw k at (put-replaced (512 * r) (512 * r + 512) ends W (omega arith) (omega arith) (k ∙ sym (ends-size r))).here

    flow-here : successors_at S' r ≡ X
    flow-here =
        let k : length X ≡ 2048 = m ∙ (scratch-long r ends S few ends-long flow-long).1 in
        rw k at (put-replaced (2048 * r) (2048 * r + 2048) S X (omega arith) (omega arith) (k ∙ sym (flow-size r))).here

    fronts : (s : Result Seat Refusal) → SeatedAs s l r ends' S' → SeatResult l r s ends S ends' S'
    fronts s x = record {
      seated-as = x;
      ends-front = take_put (512 * r) (512 * r + 512 - 512 * r) ends W (omega arith);
      flow-front = take_put (2048 * r) (2048 * r + 2048 - 2048 * r) S X (omega arith);
    }

    pub seat-refused : {x : Result Sections Refusal} {f : Refusal} → x ≡ Err f → StartsIn x W X → SeatResult l r (Err f) ends S ends' S'
    seat-refused {x} {f} e y = fronts (Err f) (rw e at (parts-lent x W X y))

    pub seat-begun : {x : Result Sections Refusal} {h : Sections} {u : Outcome} → x ≡ Ok h → StartsIn x W X → u ≡ outcome_shown h going 0 0
        → SeatResult l r (Ok (record { sections = h; places = record { table = t; directory = d; values = v }; outcome = u })) ends S ends' S'
    seat-begun {x} {h} {u} e y z = fronts (Ok _) (begun-as (rw e at (parts-lent x W X y)))
      where
        begun-as : Launched (table_at l r) h (listed_at l r) (lent_to l r).directory l.cells (lent_to l r).values (lent_to l r).origins W X
            → (◌≡◌ {A = Seat} (record { sections = h; places = record { table = t; directory = d; values = v }; outcome = u }) (start_seat l r))
            × LaidOut l r ends' S'
        begun-as L =
            let s : h ≡ sections_at l r = formed-sections (table_at l r) h L.formed in (
              rw (z, table, directory, values, s),
              rw (ends-here, flow-here, ← s) L,
            )

-- ---- all routines

pub ready-none : (l : Lends) (seats : List Seat) (ends S : List ℕ) → length seats ≡ 8 → length ends ≡ 4096 → length S ≡ 16384 → ReadyTo l 0 seats ends S
ready-none l seats ends S a b c = record { seats-long = a; ends-long = b; flow-long = c; ready = λ k i. absurd (omega arith) }

module _ {l : Lends} {r : ℕ} {seats : List Seat} {ends S : List ℕ} (R : ReadyTo l r seats ends S) where
  pub ready-more : {s : Seat} {x : Result Seat Refusal} {ends' S' : List ℕ} → r < 8 → x ≡ Ok s → SeatResult l r x ends S ends' S' → length ends' ≡ length ends
      → length S' ≡ length S → ReadyTo l (r + 1) (set seats r s) ends' S'
  ready-more {s} {x} {ends'} {S'} few e y n m = record {
    seats-long = length-set seats r s ∙ R.seats-long;
    ends-long = n ∙ R.ends-long;
    flow-long = m ∙ R.flow-long;
    ready = λ k b. go k b (ℕ_discrete k r);
  }
    where
      room : r < length seats
      room = omega (arith, R.seats-long)

      mine : (s ≡ start_seat l r) × LaidOut l r ends' S'
      mine = rw e at y.seated-as

      go : (k : ℕ) → k < r + 1 → Dec (k ≡ r) → Ready l (set seats r s) ends' S' k
      go k b (yes d) = rw d (record { seat = get_or-set_same seats r s nobody room ∙ mine.0; laid_out = mine.1 })
      go k b (no d) =
          let i : k < r = omega (arith, below k r b d) in
          let q = R.ready k i in
          let u : ends_at ends' k ≡ ends_at ends k = window-before (512 * r) (512 * k) 512 ends ends' (omega arith) y.ends-front in
          let w : successors_at S' k ≡ successors_at S k = window-before (2048 * r) (2048 * k) 2048 S S' (omega arith) y.flow-front in
          record { seat = get_or-set_other seats r k s nobody d ∙ q.seat; laid_out = rw (u, w) q.laid_out }
        where
          below : (k r : ℕ) → k < r + 1 → (k ≡ r → ⊥) → k < r
          below k r b d = by_order k r (λ (z : k < r). z) (λ z. absurd (d (omega arith)))

  pub ready_refused : {f : Refusal} {x : Result Seat Refusal} {ends' S' : List ℕ} → r < count_of l → x ≡ Err f → SeatResult l r x ends S ends' S'
      → RefusedAt l r f
  ready_refused b e y = record {
    within = b;
    earlier = λ k i. launched-begins (R.ready k i).laid_out;
    first = rw e at y.seated-as;
  }

  pub ready-all : r ≤ count_of l → count_of l ≤ r → ReadyTo l (count_of l) seats ends S
  ready-all a b = let q : r ≡ count_of l = omega arith in rw (← q) R
