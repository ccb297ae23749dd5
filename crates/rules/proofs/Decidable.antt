-- There is a decider of the paper's sentences about a table, the store's; and the verdict by the store is the one by the paper's chains.
use Rattle.words.specs.declared.sections.Sections.{Sections}
use Rattle.std.specs.Prelude.{ℕ, ◌+◌, ◌*◌, ◌≡◌, refl, ◌↔◌, Bool, true, false, cond, List, [], ◌∷◌, leb, ℤ, Err, Ok, Result}
use Rattle.std.proofs.Common.{sym, ◌∙◌, ap, arith, leb-true, le-leb, mul-zero}
use Rattle.sums.specs.Numbers.{bias}
use Rattle.sums.specs.Scale.{scale-sums}
use Rattle.facts.specs.Store.{sum_at, shown, contradictory}
use Rattle.facts.specs.declared.FactSet.{FactSet}
use Rattle.chains.specs.Facts.{Variables, Node, Known, EndShown}
use Rattle.chains.specs.LeastSums.{LeastSums}
use Rattle.chains.proofs.Chains.{sinks, two-chains}
use Rattle.chains.proofs.Exact.{Exact}
use Rattle.chains.specs.History.{known}
use Rattle.chains.proofs.HistoryLaws.{made, exact, shows-exactly}
use Rattle.answers.specs.declared.refusals.Refusal.{Refusal}
use Rattle.table.specs.Form.{form_of}
use Rattle.rules.specs.BoundsRules.{is_pointer}
use Rattle.rules.specs.Verdict.{environment_of, faults, verdict_of, verdict_reads, first_reads, Says}
use Rattle.rules.specs.Calls.{Routine}
use Rattle.rules.specs.CallLaws.{AllFormed}
use Rattle.rules.specs.Stored.{store}
use Rattle.rules.specs.ByChains.{Decider, Decides, variables, DecidesTable, Decided, chain_faults, Judged}
use Rattle.rules.proofs.Agreement.{verdict-agrees}

-- Two least sums, the second one times the size, and a constant, by plain addition, whatever the constant and the size.
abbrev end_test : FactSet → ℕ → ℕ → ℕ → ℕ → ℕ → ℕ → ℕ → Bool
end_test f s q n k r m j = cond (contradictory f) true (leb (sum_at f q r + s * sum_at f n m + k) (j + bias + s * bias))

end-test : (vars : Variables) (f : FactSet) (K : Known) → Exact vars f K → (s q n k r m j : ℕ) → Node vars q → Node vars n → Node vars r → Node vars m
    → (end_test f s q n k r m j ≡ true) ↔ EndShown K s q n k r m j
end-test vars f K h s q n k r m j hq hn hr hm = go f.contradiction refl
  where
    go : (b : Bool) → f.contradiction ≡ b → (cond b true (leb (sum_at f q r + s * sum_at f n m + k) (j + bias + s * bias)) ≡ true) ↔ EndShown K s q n k r m j
    go true e = (
      (λ t. two-chains s k j (sinks vars K h.sane (h.clash e) q r k hq hr) (sinks vars K h.sane (h.clash e) n m 0 hn hm) (omega (arith, mul-zero s))),
      (λ t. refl),
    )
    go false e =
        let l : LeastSums vars (sum_at f) K = h.least e in (
          (λ t. two-chains s k j (l.attained q r hq hr) (l.attained n m hn hm)
              (omega (arith, leb-true (sum_at f q r + s * sum_at f n m + k) (j + bias + s * bias) t))),
          (λ t. le-leb (sum_at f q r + s * sum_at f n m + k) (j + bias + s * bias)
              (omega (arith, l.lowest hq hr t.first, scale-sums s (sum_at f n m) t.down₂ t.up₂ bias (l.lowest hn hm t.second), t.within))),
        )

abbrev store_decider : (ℕ → Bool) → Decider
store_decider pointer = record {
  shown = λ h. shown (made pointer h);
  end_shown = λ h. end_test (made pointer h);
}

stored-decides : (vars : Variables) → Decides vars (store_decider vars.pointer)
stored-decides vars = record {
  shown = shows-exactly vars;
  end_shown = λ h l. end-test vars (made vars.pointer h) (known vars h) (exact vars h l);
}

decider-of : List ℤ → Result Sections Refusal → Decider
decider-of T (Err r) = store_decider (λ v. false)
decider-of T (Ok h) = store_decider (is_pointer (environment_of T h))

-- A decider of the paper's sentences about a table.
pub decider : List ℤ → Decider
decider T = decider-of T (form_of T)

pub decider-decides : (T : List ℤ) → DecidesTable T (decider T)
unfolding decider decider-of
decider-decides T h w e = rw e (stored-decides (variables T h w))

-- What is so by each decider of a table's sentences is so by the paper's chains: there is one.
pub decided : (T : List ℤ) (P : Decider → Type 0) → ((d : Decider) → DecidesTable T d → P d) → Decided T P
decided T P each = record { decider = decider T; decides = decider-decides T; by-each = each }

-- A verdict that is that of the first fault reads as its numbers.
pub says : (fs : List Refusal) (v : Result (Unit {0}) Refusal) → v ≡ verdict_of fs → Says fs v
unfolding verdict_of
says fs v e = record { verdict = e; reads = ap verdict_reads e ∙ go fs }
  where
    go : (rs : List Refusal) → verdict_reads (verdict_of rs) ≡ first_reads rs
    go [] = refl
    go (r ∷ rs) = refl

-- The rules over the store give the verdict that the paper gives.
pub judged : (callees : List Routine) → AllFormed callees → (T L : List ℤ) (v : Result (Unit {0}) Refusal) → v ≡ verdict_of (faults store callees T L)
    → Judged callees T L v
unfolding Judged
judged callees g T L v e =
    decided T (λ d. Says (chain_faults d callees T L) v) (λ d r. says (chain_faults d callees T L) v (e ∙ verdict-agrees callees g T L d r))

pub stored-verdict : (callees : List Routine) → AllFormed callees → (T L : List ℤ) (v : Result (Unit {0}) Refusal) → Judged callees T L v
    → v ≡ verdict_of (faults store callees T L)
unfolding Judged
stored-verdict callees g T L v j = let d = decider-decides T in (j.by-each (decider T) d).verdict ∙ sym (verdict-agrees callees g T L (decider T) d)
