-- What a check answers, in terms of the rules over the store.
use Rattle.std.specs.Prelude.{ℕ, ◌<◌, ◌≡◌, List, ℤ, Result, Ok, Err}
use Rattle.answers.specs.declared.refusals.Refusal.{Refusal}
use Rattle.words.specs.declared.sections.Sections.{Sections}
use Rattle.reports.specs.Reports.{no_words, reported}
use Rattle.reports.specs.declared.Report.{Report}
use Rattle.rules.specs.Stored.{store, section_faults}
use Rattle.rules.specs.Verdict.{verdict_of}
use Rattle.rules.specs.Calls.{Routine}
use Rattle.rules.specs.Report.{reported_if, safe_at}

-- The verdict that a check answers, and the words of its report: a refused routine has none.
abbrev pub verdict_in : Result Report Refusal → Result (Unit {0}) Refusal
verdict_in (Ok m) = Ok tt
verdict_in (Err f) = Err f

abbrev pub report_in : Result Report Refusal → List ℕ
report_in (Ok m) = m.words
report_in (Err f) = no_words

-- The verdict of the first fault of a well-formed table and its list, of a routine that may call the `callees`, and the report.
pub record ChecksSections (callees : List Routine) (T : List ℤ) (h : Sections) (L : List ℤ) (c : Result Report Refusal) : Type 0 where
  pub verdict : verdict_in c ≡ verdict_of (section_faults callees T h L)
  pub report : (a : ℕ) → a < 1024 → reported (report_in c) a ≡ reported_if (section_faults callees T h L) (safe_at store T h L a)
