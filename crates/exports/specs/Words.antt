-- Answers as words in a lent slice, as include/mizzengrape.h tells them.
use Rattle.std.specs.Prelude.{ℕ, zero, suc, ◌+◌, ◌≡◌, Bool, true, false, ◌&&◌, List, [], ◌∷◌, leb, ℤ, length, set}
use Rattle.rules.specs.Verdict.{Reading, first_reads}
use Rattle.rules.specs.Verdict as reading
use Rattle.rules.specs.BoundsRules.{cons_if}
use Rattle.rules.specs.Report.{reported_at}
use Rattle.rules.specs.ByChains.{Decider, by_chains, Decided, chain_faults}
use Rattle.answers.specs.Answers.{Answer, done, spent, stopped, refused, reads}
use Rattle.interpreter.specs.Claim.{Lent, RunJudged}
use Rattle.answers.specs.declared.stops.Outcome.{Outcome}

-- The version of this release, 0.2.0: 10,000 times its major number, 100 times its minor number, and its patch.
abbrev pub version_number : ℕ
version_number = 200

abbrev pub put_three : List ℕ → ℕ → ℕ → ℕ → List ℕ
put_three w a b c = set (set (set w 0 a) 1 b) 2 c

abbrev pub put_four : List ℕ → ℕ → ℕ → ℕ → ℕ → List ℕ
put_four w a b c d = set (put_three w a b c) 3 d

-- What a verdict reads as: 0 for accepted, else the refusal's number; its place; its pointer. The words behind stay.
unfoldable pub verdict_words : Reading → List ℕ → List ℕ
verdict_words reading.accepted w = put_three w 0 0 0
verdict_words (reading.refused n a p) w = put_three w n a p

-- What an answer reads as. 0 done: steps. 1 spent: steps, statement. 2 stopped: steps, statement, check. 3 refused: number, place, pointer.
unfoldable pub answer_words : Answer → List ℕ → List ℕ
answer_words (done n) w = put_four w 0 n 0 0
answer_words (spent n a) w = put_four w 1 n a 0
answer_words (stopped n a k) w = put_four w 2 n a k
answer_words (refused n a p) w = put_four w 3 n a p

-- Where there is room for an answer, the words of what the first fault of the table, with the list L of loop facts, reads as, by the paper's chains; else
-- nothing is written.
abbrev pub CheckedIf : Bool → List ℤ → List ℤ → List ℕ → List ℕ → Type 0
CheckedIf true T L w w' = Decided T (λ d. w' ≡ verdict_words (first_reads (chain_faults d [] T L)) w)
CheckedIf false T L w w' = w' ≡ w

pub record CheckAnswer (T L : List ℤ) (w : List ℕ) (r : Bool) (w' : List ℕ) : Type 0 where
  pub room : r ≡ leb 3 (length w)
  pub words : CheckedIf (leb 3 (length w)) T L w w'

-- ---- the report (document 02, point 9)

-- Of n statements from number a on, those that a test chooses, "lowest statement first".
unfoldable pub chosen : (ℕ → Bool) → ℕ → ℕ → List ℕ
chosen test a zero = []
chosen test a (suc n) = cons_if (test a) a (chosen test (a + 1) n)

-- The numbers put one after the other from index i on; the words behind stay.
unfoldable pub put_numbers : List ℕ → ℕ → List ℕ → List ℕ
put_numbers w i [] = w
put_numbers w i (n ∷ ns) = put_numbers (set w i n) (i + 1) ns

-- The statements that are reported, by the paper's chains.
abbrev pub report_numbers : Decider → List ℤ → List ℤ → List ℕ
report_numbers d T L = chosen (reported_at (by_chains d) T L) 0 1024

-- Where there is room, the words of the verdict and the number of statements reported, and these statements; else nothing is written.
abbrev pub ReportedTo : Bool → List ℤ → List ℤ → List ℕ → List ℕ → List ℕ → List ℕ → Type 0
ReportedTo true T L w p w' p' = Decided T (λ d. (w' ≡ set (verdict_words (first_reads (chain_faults d [] T L)) w) 3 (length (report_numbers d T L)))
    × (p' ≡ put_numbers p 0 (report_numbers d T L)))
ReportedTo false T L w p w' p' = (w' ≡ w) × (p' ≡ p)

-- w and p: the words that are lent for the answer and for the report, as they were; w' and p': what they hold then.
pub record CheckReport (T L : List ℤ) (w p : List ℕ) (r : Bool) (w' p' : List ℕ) : Type 0 where
  pub room : r ≡ (leb 4 (length w) && leb 1024 (length p))
  pub words : ReportedTo (leb 4 (length w) && leb 1024 (length p)) T L w p w' p'

-- ---- a run

-- Where there is room for an answer, the words of an outcome for which, with the values and cells then, the claim about a run holds; else nothing is written.
abbrev pub RanIf : Bool → List ℤ → List ℤ → Lent → ℕ → List ℕ → List ℕ → List ℕ → List ℕ → Type 0
RanIf true T L l limit w vs cs w' =
    (o : Outcome) × RunJudged T L l limit (record { answer = o; routine = 0; values = vs; cells = cs }) × (w' ≡ answer_words (reads o) w)
RanIf false T L l limit w vs cs w' = (vs ≡ l.values) × (cs ≡ l.cells) × (w' ≡ w)

-- w: the words that are lent for the answer, as they were; vs, cs and w': what values, cells and words hold then.
pub record RunWords (T L : List ℤ) (l : Lent) (limit : ℕ) (w : List ℕ) (r : Bool) (vs cs w' : List ℕ) : Type 0 where
  pub room : r ≡ leb 4 (length w)
  pub words : RanIf (leb 4 (length w)) T L l limit w vs cs w'
