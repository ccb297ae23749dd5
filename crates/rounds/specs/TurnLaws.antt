-- A turn in the words of the code: the parts that are lent and come back.
use Rattle.std.specs.Prelude.{ℕ, ◌+◌, ◌-◌, ◌*◌, ◌≤◌, ◌≡◌, refl, List, ℤ, length}
use Rattle.std.proofs.Common.{◌∙◌, arith}
use borrow.Rule.Slice.PartMut.{put_mid, mid_len}
use Rattle.answers.specs.declared.stops.Outcome.{Outcome}
use Rattle.answers.specs.declared.stops.Outcome.TheVariants.{Spent}
use Rattle.interpreter.specs.Slots.{Laid}
use Rattle.interpreter.specs.BareRun.{Ends, bare_run, SafeRun}
use Rattle.parts.specs.Parts.{window, between}
use Rattle.parts.specs.ReplacedLaws.{put-replaced}
use Rattle.rounds.specs.Standing.{InPlace, MayGoOn, MayTurn, GoneOn, Turned}
use Rattle.seats.specs.declared.Seat.{Seat}

abbrev lent_ends : ℕ → List ℕ → List ℕ
lent_ends r ends = window (512 * r) (512 * r + 512 - 512 * r) ends

abbrev lent_flow : ℕ → List ℕ → List ℕ
lent_flow r S = window (2048 * r) (2048 * r + 2048 - 2048 * r) S

ends-size : (r : ℕ) → 512 * r + 512 - 512 * r ≡ 512
ends-size r = omega arith

flow-size : (r : ℕ) → 2048 * r + 2048 - 2048 * r ≡ 2048
flow-size r = omega arith

more-size : (n q : ℕ) → n + q - n ≡ q
more-size n q = omega arith

module _ {T : List ℤ} {F S : List ℕ} {s : Seat} {r q n a : ℕ} {ends vs cs : List ℕ} where
  -- What `resume` asks.
  pub may-raw : MayGoOn T F S s r q n a ends vs cs
      → Laid (between s.places.table T) s.sections (lent_ends r ends) (between s.places.directory F) (lent_flow r S) (between
      s.places.values vs)
      × ((n ≤ n + q) × SafeRun (between s.places.table T) s.sections (lent_ends r ends) (between s.places.directory F) (lent_flow r S) (n + q - n) a
      (between s.places.values vs) cs)
  may-raw m = rw (ends-size r, flow-size r, more-size n q) (m.laid, (omega arith, m.safe))

  -- What it leaves.
  pub gone-raw : {o : Outcome} {W us ds : List ℕ} → InPlace T F S s r ends vs → length W ≡ length (lent_ends r ends)
      → length us ≡ length (between s.places.values vs)
      → Ends (bare_run (between s.places.table T) s.sections (lent_ends r ends) (between s.places.directory F) (lent_flow r S) (n + q - n) n a
      (between s.places.values vs) cs) o W us ds
      → GoneOn T F S s r q n a ends vs cs o (put_mid (512 * r) (512 * r + 512 - 512 * r) ends W)
      (put_mid s.places.values.start (s.places.values.end - s.places.values.start) vs us) ds
  gone-raw {o} {W} {us} {ds} p e f x =
      let k : length W ≡ 512 * r + 512 - 512 * r = e ∙ mid_len (512 * r) (512 * r + 512) ends (omega (arith, p.few, p.ends-long)) in
      let m : length us ≡ s.places.values.end - s.places.values.start = f
      ∙ mid_len s.places.values.start s.places.values.end vs p.values-within in
      record {
        ends-then = W;
        values-then = us;
        run = rw (ends-size r, flow-size r, more-size n q) at x;
        ends-kept = put-replaced (512 * r) (512 * r + 512) ends W (omega arith) (omega (arith, p.few, p.ends-long)) k;
        ends-count = k ∙ ends-size r;
        values-kept = put-replaced s.places.values.start s.places.values.end vs us p.values-order p.values-within m;
        values-count = f;
      }

  pub may-spent : (o : Outcome) → o ≡ Spent n a → MayTurn T F S s r q o ends vs cs → MayGoOn T F S s r q n a ends vs cs
  may-spent o e m = rw e at m

  pub turned-spent : {o : Outcome} {e' v' c' : List ℕ} (old : Outcome) → old ≡ Spent n a → GoneOn T F S s r q n a ends vs cs o e' v' c'
      → Turned T F S s r q old ends vs cs o e' v' c'
  turned-spent old e x = rw e x
