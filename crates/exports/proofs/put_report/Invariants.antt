use Rattle.exports.specs.Numbers.{Putting}
use Rattle.exports.proofs.put_report.Given as goal

abbrev pub invariant-loop-at : goal.invariant-loop-at
invariant-loop-at l = Putting l.report.words l.initial.numbers l.at l.count l.numbers
