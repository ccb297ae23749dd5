-- Marks change the second successor of a reported statement alone.
use Prim.Native.Nat.{ℕ, zero, suc, ◌+◌, ◌*◌, ◌<◌}
use Rattle.std.specs.Prelude.{◌≡◌, Bool, true, false, cond, List, ℤ, length, get_or, set}
use Rattle.std.proofs.Math.Path.{refl}
use Rattle.std.proofs.Common.{sym, ap, ap₂, ◌∙◌, add-one, arith, length-set, get_or-set_other}
use Rattle.std.proofs.lemmas.Bool.{false≢true}
use Rattle.reports.specs.Reports.{reported}
use Rattle.blocks.specs.Flow.{successors}
use Rattle.blocks.specs.Shape.{entries_at}
use Rattle.steps.specs.Bare.{mark, Marked}
use Rattle.rules.specs.ByChains.{Reported}
use Rattle.rules.proofs.Decidable.{decider, decider-decides}
use Rattle.rules.proofs.ReportLaws.{report-agrees}
use Rattle.interpreter.specs.Marks.{marks, Reports}

-- The report of the checker is that by the store's facts.
pub stored-report : (T L : List ℤ) (M : List ℕ) → Reported T L M → Reports T L M
unfolding Reported
stored-report T L M r a l = let d = decider-decides T in r.by-each (decider T) d a l ∙ sym (report-agrees T L (decider T) d a)

module _ (M S : List ℕ) where
  -- One more.
  pub marks-more : (n : ℕ) {b : Bool} {s t : List ℕ} → s ≡ marks M n S → b ≡ reported M n → t ≡ cond b (set s (2 * n + 1) mark) s → t ≡ marks M (n + 1) S
  unfolding marks
  marks-more n e f g = rw (add-one n) (rw (f, e) at g)

  length-one : (b : Bool) (n : ℕ) → length (cond b (set (marks M n S) (2 * n + 1) mark) (marks M n S)) ≡ length (marks M n S)
  length-one true n = length-set (marks M n S) (2 * n + 1) mark
  length-one false n = refl

  pub length-marks : (n : ℕ) → length (marks M n S) ≡ length S
  unfolding marks
  length-marks zero = refl
  length-marks (suc n) = length-one (reported M n) n ∙ length-marks n

  next_one : (b : Bool) (n a : ℕ) → get_or (cond b (set (marks M n S) (2 * n + 1) mark) (marks M n S)) (2 * a) 0 ≡ get_or (marks M n S) (2 * a) 0
  next_one true n a = get_or-set_other (marks M n S) (2 * n + 1) (2 * a) mark 0 (λ e. omega (arith, e))
  next_one false n a = refl

  pub marks-next : (n a : ℕ) → get_or (marks M n S) (2 * a) 0 ≡ get_or S (2 * a) 0
  unfolding marks
  marks-next zero a = refl
  marks-next (suc n) a = next_one (reported M n) n a ∙ marks-next n a

  other-one : (b : Bool) (n a : ℕ) → reported M n ≡ b → reported M a ≡ false
      → get_or (cond b (set (marks M n S) (2 * n + 1) mark) (marks M n S)) (2 * a + 1) 0 ≡ get_or (marks M n S) (2 * a + 1) 0
  other-one true n a e f =
      get_or-set_other (marks M n S) (2 * n + 1) (2 * a + 1) mark 0 (λ q. let z : a ≡ n = omega (arith, q) in false≢true (sym f ∙ (ap (reported M) z ∙ e)))
  other-one false n a e f = refl

  marks-other : (n a : ℕ) → reported M a ≡ false → get_or (marks M n S) (2 * a + 1) 0 ≡ get_or S (2 * a + 1) 0
  unfolding marks
  marks-other zero a f = refl
  marks-other (suc n) a f = other-one (reported M n) n a refl f ∙ marks-other n a f

  pub marks-entries : (n a : ℕ) → reported M a ≡ false → entries_at (marks M n S) a ≡ entries_at S a
  marks-entries n a f = ap₂ (λ (y z : ℕ). successors a y z) (marks-next n a) (marks-other n a f)

  -- A mark is that of a reported statement, where the entry was that of a statement.
  pub marked-reported : (n a : ℕ) → get_or S (2 * a + 1) 0 < mark → Marked (marks M n S) a → reported M a ≡ true
  marked-reported n a l m = go (reported M a) refl
    where
      go : (b : Bool) → reported M a ≡ b → b ≡ true
      go true e = refl
      go false e = absurd (omega (arith, l, m, marks-other n a e))
