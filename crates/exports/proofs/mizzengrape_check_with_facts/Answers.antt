-- `exports::mizzengrape_check_with_facts` meets its contract.
use Prim.Native.Nat.{ℕ, ◌≤◌, ◌<◌}
use mathlib.Core.List.{List}
use lib.ListN.{length}
use mathlib.Core.Path.{◌≡◌, refl, ap, ◌∙◌}
use native.Mathlib.Omega.{arith}
use Rattle.rules.proofs.SmallLaws.{judged-small}
use Rattle.exports.specs.Numbers.{verdict-long, report-words, no-room-answer, no-room-report}
use Rattle.exports.proofs.mizzengrape_check_with_facts.Goals as goal

pub returns-then-answer-lt4 : goal.returns-then-answer-lt4
returns-then-answer-lt4 c = no-room-answer c.if-answer-lt4.true

pub returns-then-report-lt1024 : goal.returns-then-report-lt1024
returns-then-report-lt1024 c = no-room-report c.if-answer-lt4.false c.if-report-lt1024.true

pub put_verdict-requires : goal.put_verdict-requires
put_verdict-requires c = (
  let q : 3 ≤ length c.args.answer.now = omega (arith, c.if-answer-lt4.false) in q,
  rw c.verdict_of.ensures (judged-small _ _ _ _ c.check-checked.ensures.0),
)

pub put_report-requires : goal.put_report-requires
put_report-requires c = let q : 1024 ≤ length c.args.report.now = c.if-report-lt1024.false in q

pub bounds-answer-3 : goal.bounds-answer-3
bounds-answer-3 c = let e : length c.put_verdict.new.answer
    ≡ length c.args.answer.now = ap
    (λ (w : List ℕ). length w)
    c.put_verdict.ensures ∙ verdict-long _ _ in
    let q : 3 < length c.put_verdict.new.answer = omega
    (arith, c.if-answer-lt4.false) in q

pub returns : goal.returns
returns c = report-words _ c.if-answer-lt4.false
    c.if-report-lt1024.false
    c.check-checked.ensures.0
    c.check-checked.ensures.1
    (rw c.verdict_of.ensures at c.put_verdict.ensures) (rw c.report_of.ensures at c.put_report.ensures) refl
