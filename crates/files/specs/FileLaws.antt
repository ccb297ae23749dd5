-- The verdict on a file.
use Rattle.answers.specs.declared.refusals.Refusal.{Refusal}
use Rattle.std.specs.Prelude.{ℕ, ◌*◌, ◌/◌, ◌%◌, ◌≤◌, ◌<◌, ◌≡◌, refl, Bool, true, false, cond, List, [], ◌∷◌, leb, ℤ, length, take, Err, Result}
use Rattle.std.proofs.Common.{ap, ◌∙◌, arith, eq-eqb, ne_eqb}
use Rattle.std.proofs.Math.Bool.{and-false}
use Rattle.std.proofs.lemmas.Bool.{lt-leb}
use Rattle.arrays.specs.Tabulate.{tabulate}
use Rattle.arrays.specs.TabulateLaws.{length-tabulate}
use Rattle.answers.specs.declared.refusals.Refusal.TheVariants.{Length}
use Rattle.table.specs.Form.{length_right, form_of, four_pairs}
use Rattle.rules.specs.FactSets.{FactSets}
use Rattle.rules.specs.Verdict.{faults, verdict_of}
use Rattle.rules.specs.ByChains.{by_chains, Judged}
use Rattle.rules.proofs.Decidable.{decided, says}
use Rattle.files.specs.Files.{word_at, words_of, file_faults, FileJudged}
use Rattle.files.specs.Reading.{WordsRead}

-- "above 7,318 words", or, with a fourth section, "7,704".
above-both : (b : Bool) (n : ℕ) → 7704 < n → leb n (cond b 7704 7318) ≡ false
above-both true n h = lt-leb n 7704 h
above-both false n h = lt-leb n 7318 (omega arith)

pub faults-long : (S : FactSets) (T : List ℤ) → 7704 < length T → faults S [] T [] ≡ Length ∷ []
unfolding faults form_of length_right
faults-long S T h = rw (above-both (four_pairs T) (length T) h, and-false (leb 6 (length T)))

pub odd_refused : (bytes : List ℕ) → (length bytes % 4 ≡ 0 → ⊥) → FileJudged bytes (Err Length)
unfolding FileJudged file_faults verdict_of
odd_refused bytes n = decided _ _ (λ d r. says _ _ (rw (ne_eqb (length bytes % 4) 0 n) refl))

pub long-refused : (bytes : List ℕ) → length bytes % 4 ≡ 0 → 7704 < length bytes / 4 → FileJudged bytes (Err Length)
unfolding FileJudged file_faults verdict_of words_of
long-refused bytes e h =
    decided _ _ (λ d r. says _ _ (rw (
      eq-eqb (length bytes % 4) 0 e,
      faults-long (by_chains d) (tabulate (length bytes / 4) (λ i. word_at bytes (4 * i)))
          (rw (length-tabulate (length bytes / 4) (λ i. word_at bytes (4 * i))) h),
    ) refl))

pub file-answered : (bytes : List ℕ) {table old L : List ℤ} {count : ℕ} (v : Result (Unit {0}) Refusal) → length bytes % 4 ≡ 0 → length bytes / 4 ≤ length old
    → WordsRead bytes old count table
    → L ≡ [] → Judged [] (take count table) L v → FileJudged bytes v
unfolding FileJudged Judged file_faults words_of
file-answered bytes {table} {count = count} v e h p n a =
    let q : count ≡ length bytes / 4 = omega (arith, p.many) in
    let t : take count table ≡ tabulate (length bytes / 4) (λ j. word_at bytes (4 * j)) = p.filled.front
    ∙ ap (λ (n : ℕ). tabulate n (λ j. word_at bytes (4 * j))) q in
    let j : Judged [] (tabulate (length bytes / 4) (λ j. word_at bytes (4 * j))) [] v = rw (t, n) at a in
    decided _ _ (λ d r. rw (eq-eqb (length bytes % 4) 0 e) (j.by-each d r))
