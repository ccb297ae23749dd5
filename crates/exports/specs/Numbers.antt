-- The reported statements put into a slice, one after the other, as the code does.
use Rattle.answers.specs.declared.refusals.Refusal.{Refusal}
use Rattle.std.specs.Prelude.{ℕ, zero, suc, ◌+◌, ◌-◌, ◌≤◌, ◌<◌, ◌≡◌, refl, Bool, true, false, cond, ◌&&◌, List, [], ◌∷◌, leb, ℤ, length, set, Result}
use Rattle.std.proofs.Common.{sym, ap, ap₂, ◌∙◌, arith, le-leb, length-set}
use Rattle.std.proofs.lemmas.Bool.{lt-leb}
use Rattle.reports.specs.Reports.{reported}
use Rattle.rules.specs.BoundsRules.{cons_if}
use Rattle.rules.specs.Report.{reported_at}
use Rattle.rules.specs.Verdict.{Reading, verdict_reads, first_reads}
use Rattle.rules.specs.Verdict as reading
use Rattle.rules.specs.ByChains.{by_chains, chain_faults, Judged, Reported}
use Rattle.rules.proofs.Decidable.{decided}
use Rattle.exports.specs.Words.{put_three, verdict_words, chosen, put_numbers, report_numbers, CheckReport}

-- One statement.
pub record PutReported (ws : List ℕ) (a i : ℕ) (p : List ℕ) (r : ℕ) (p' : List ℕ) : Type 0 where
  pub words : p' ≡ cond (reported ws a) (set p i a) p
  pub count : r ≡ cond (reported ws a) (i + 1) i

pub put_some : (ws : List ℕ) (a i : ℕ) (p : List ℕ) → reported ws a ≡ true → PutReported ws a i p (i + 1) (set p i a)
put_some ws a i p e = record { words = rw e refl; count = rw e refl }

pub put-skip : (ws : List ℕ) (a i : ℕ) (p : List ℕ) → reported ws a ≡ false → PutReported ws a i p i p
put-skip ws a i p e = record { words = rw e refl; count = rw e refl }

-- All of them.
pub record PutAll (ws p : List ℕ) (r : ℕ) (p' : List ℕ) : Type 0 where
  pub words : p' ≡ put_numbers p 0 (chosen (reported ws) 0 1024)
  pub count : r ≡ length (chosen (reported ws) 0 1024)

-- ---- the numbers, one at a time

more : (ws : List ℕ) (a n m : ℕ) → n ≡ suc m → chosen (reported ws) a n ≡ cons_if (reported ws a) a (chosen (reported ws) (a + 1) m)
unfolding chosen
more ws a n m e = ap (chosen (reported ws) a) e

none : (ws : List ℕ) (a n : ℕ) → n ≡ 0 → chosen (reported ws) a n ≡ []
unfolding chosen
none ws a n e = ap (chosen (reported ws) a) e

put-more : (p : List ℕ) (i n : ℕ) (ns : List ℕ) → put_numbers p i (n ∷ ns) ≡ put_numbers (set p i n) (i + 1) ns
unfolding put_numbers
put-more p i n ns = refl

put-none : (p : List ℕ) (i : ℕ) → put_numbers p i [] ≡ p
unfolding put_numbers
put-none p i = refl

chosen-alike : (f g : ℕ → Bool) (n a : ℕ) → ((k : ℕ) → a ≤ k → k < a + n → f k ≡ g k) → chosen f a n ≡ chosen g a n
unfolding chosen
chosen-alike f g zero a e = refl
chosen-alike f g (suc n) a e =
    ap₂ (λ (b : Bool) (xs : List ℕ). cons_if b a xs) (e a (omega arith) (omega arith)) (chosen-alike f g n (a + 1) (λ k l u. e k (omega arith) (omega arith)))

-- The loop's invariant: what is left to put, from here, is the whole.
pub record Putting (ws p₀ : List ℕ) (a i : ℕ) (p : List ℕ) : Type 0 where
  pub words : put_numbers p₀ 0 (chosen (reported ws) 0 1024) ≡ put_numbers p i (chosen (reported ws) a (1024 - a))
  pub count : length (chosen (reported ws) 0 1024) ≡ i + length (chosen (reported ws) a (1024 - a))
  pub fewer : i ≤ a
  pub within : a ≤ 1024
  pub long : length p ≡ length p₀

pub putting-none : (ws p : List ℕ) → Putting ws p 0 0 p
putting-none ws p = record { words = refl; count = omega arith; fewer = omega arith; within = omega arith; long = refl }

module _ {ws p₀ : List ℕ} {a i : ℕ} {p : List ℕ} (k : Putting ws p₀ a i p) where
  pub putting-more : {r : ℕ} {p' : List ℕ} → a < 1024 → PutReported ws a i p r p' → Putting ws p₀ (a + 1) r p'
  putting-more {r} {p'} l q = go (reported ws a) refl
    where
      left : 1024 - a ≡ suc (1024 - (a + 1))
      left = omega arith

      unfoldings : (b : Bool) → reported ws a ≡ b → chosen (reported ws) a (1024 - a) ≡ cons_if b a (chosen (reported ws) (a + 1) (1024 - (a + 1)))
      unfoldings b e = more ws a (1024 - a) (1024 - (a + 1)) left ∙ ap (λ (x : Bool). cons_if x a (chosen (reported ws) (a + 1) (1024 - (a + 1)))) e

      go : (b : Bool) → reported ws a ≡ b → Putting ws p₀ (a + 1) r p'
      go true e =
          let w : p' ≡ set p i a = q.words ∙ ap (λ (x : Bool). cond x (set p i a) p) e in
          let n : r ≡ i + 1 = q.count ∙ ap (λ (x : Bool). cond x (i + 1) i) e in
          let u = unfoldings true e in
          record {
            words = k.words ∙ (ap (put_numbers p i) u ∙ (put-more p i a (chosen (reported ws) (a + 1) (1024 - (a + 1)))
                ∙ ap₂ (λ (x : List ℕ) (y : ℕ). put_numbers x y (chosen (reported ws) (a + 1) (1024 - (a + 1)))) (sym w) (sym n)));
            count = let m = ap (λ (x : List ℕ). length x) u in omega (arith, k.count);
            fewer = omega (arith, k.fewer);
            within = omega arith;
            long = ap (λ (x : List ℕ). length x) w ∙ (length-set p i a ∙ k.long);
          }
      go false e =
          let w : p' ≡ p = q.words ∙ ap (λ (x : Bool). cond x (set p i a) p) e in
          let n : r ≡ i = q.count ∙ ap (λ (x : Bool). cond x (i + 1) i) e in
          let u = unfoldings false e in
          record {
            words = k.words ∙ (ap (put_numbers p i) u
                ∙ ap₂ (λ (x : List ℕ) (y : ℕ). put_numbers x y (chosen (reported ws) (a + 1) (1024 - (a + 1)))) (sym w) (sym n));
            count = let m = ap (λ (x : List ℕ). length x) u in omega (arith, k.count);
            fewer = omega (arith, k.fewer);
            within = omega arith;
            long = ap (λ (x : List ℕ). length x) w ∙ k.long;
          }

  pub putting-all : {r : ℕ} → 1024 ≤ a → r ≡ i → PutAll ws p₀ r p
  putting-all l n =
      let z : 1024 - a ≡ 0 = omega arith in
      let e = none ws a (1024 - a) z in
      record {
        words = sym (k.words ∙ (ap (put_numbers p i) e ∙ put-none p i));
        count = let m = ap (λ (x : List ℕ). length x) e in omega (arith, k.count);
      }

-- ---- the whole answer

-- The words of a verdict are as many as before.
three-long : (w : List ℕ) (a b c : ℕ) → length (put_three w a b c) ≡ length w
three-long w a b c = length-set (set (set w 0 a) 1 b) 2 c ∙ (length-set (set w 0 a) 1 b ∙ length-set w 0 a)

pub verdict-long : (r : Reading) (w : List ℕ) → length (verdict_words r w) ≡ length w
unfolding verdict_words
verdict-long reading.accepted w = three-long w 0 0 0
verdict-long (reading.refused n a p) w = three-long w n a p

both_true : (a b : Bool) → a ≡ true → b ≡ true → (a && b) ≡ true
both_true a b p q = rw (p, q)

pub report-words : {T L : List ℤ} {w w₁ w' p p' ws : List ℕ} {n : ℕ} (v : Result (Unit {0}) Refusal) → 4 ≤ length w → 1024 ≤ length p → Judged [] T L v
    → Reported T L ws
    → w₁ ≡ verdict_words (verdict_reads v) w → PutAll ws p n p' → w' ≡ set w₁ 3 n → CheckReport T L w p true w' p'
unfolding Judged Reported
report-words {T} {L} {w} {w₁} {w'} {p} {p'} {ws} {n} v h k a r e q u =
    let t = both_true (leb 4 (length w)) (leb 1024 (length p)) (le-leb 4 (length w) h) (le-leb 1024 (length p) k) in
    record {
      room = sym t;
      words = rw t (decided T (λ d. (w' ≡ set (verdict_words (first_reads (chain_faults d [] T L)) w) 3 (length (report_numbers d T L)))
          × (p' ≡ put_numbers p 0 (report_numbers d T L))) (λ d c.
          let same : chosen (reported ws) 0 1024 ≡ report_numbers d T L = chosen-alike (reported ws) (reported_at (by_chains d) T L) 1024 0
          (λ x l y. r.by-each d c x (omega arith)) in (
            u ∙ ap₂ (λ (x : List ℕ) (y : ℕ). set x 3 y) (e ∙ ap (λ (x : Reading). verdict_words x w) (a.by-each d c).reads)
                (q.count ∙ ap (λ (x : List ℕ). length x) same),
            q.words ∙ ap (put_numbers p 0) same,
          )));
    }

pub no-room-answer : {T L : List ℤ} {w p : List ℕ} → length w < 4 → CheckReport T L w p false w p
no-room-answer {w = w} {p = p} h =
    let t : (leb 4 (length w) && leb 1024 (length p)) ≡ false = rw (lt-leb 4 (length w) h) in record { room = sym t; words = rw t (refl, refl) }

pub no-room-report : {T L : List ℤ} {w p : List ℕ} → 4 ≤ length w → length p < 1024 → CheckReport T L w p false w p
no-room-report {w = w} {p = p} h k =
    let t : (leb 4 (length w) && leb 1024 (length p)) ≡ false = rw (le-leb 4 (length w) h, lt-leb 1024 (length p) k) in
    record { room = sym t; words = rw t (refl, refl) }
