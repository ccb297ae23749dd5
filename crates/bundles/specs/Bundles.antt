-- The answer of a walk over a bundle, in terms of the rules.
use Rattle.std.specs.Prelude.{ℕ, ◌+◌, ◌≡◌, List, [], ◌∷◌}
use Rattle.facts.specs.declared.FactSet.{FactSet}
use Rattle.statements.specs.declared.Simple.{Simple}
use Rattle.rules.specs.FactSets.{State}
use Rattle.rules.specs.Stored.{bundle_bounds, bundle_faults, unshown_in, bundle_after, state_after, safe_in}
use Rattle.reports.specs.Reports.{marked_if}
use Rattle.answers.specs.declared.refusals.Refusal.{Refusal}
use Rattle.blocks.specs.Layout.{also}
use Rattle.rules.specs.Rules.{bounds_at}
use Rattle.rules.specs.Verdict.{verdict_of}
use Rattle.rules.specs.declared.Bounds.{Bounds}
use Rattle.rules.specs.declared.Environment.{Environment}
use Rattle.declared.specs.Force.{state_of}
use Rattle.bundles.specs.declared.Walked.{Walked}

-- The words of the report after the statements of a bundle, from number a on (point 9).
unfoldable pub line_marks : Environment → ℕ → List Simple → State FactSet → List ℕ → List ℕ
line_marks E a [] w M = M
line_marks E a (s ∷ ss) w M = line_marks E (a + 1) ss (state_after s w) (marked_if (safe_in E w s) M a)

-- The verdict is that of the faults; where there is none, the facts and the rows in force are these, and the words of the report.
pub record Passes (faults : List Refusal) (after : State FactSet) (words : List ℕ) (r : Walked) : Type 0 where
  pub said : r.verdict ≡ verdict_of faults
  pub kept : faults ≡ [] → state_of r.facts r.rows.each ≡ after
  pub marked : faults ≡ [] → r.report.words ≡ words

-- The walk over a bundle with its head at `head` and its statements ss: their faults, then the question about all declared bounds.
abbrev pub WalksBundle : Environment → ℕ → List Simple → State FactSet → List Bounds → List ℕ → Walked → Type 0
WalksBundle E head ss w K M r =
    Passes (also (bundle_faults E (head + 1) ss w K) (bounds_at head (unshown_in E (bundle_after ss w) (bundle_bounds E ss w K)))) (bundle_after ss w)
    (line_marks E (head + 1) ss w M) r
