-- `declared::calls::check_callee` meets its contract.
use Rattle.declared.specs.Callee.{callee-high, callee-absent, arguments-refused, call_passes}
use Rattle.declared.proofs.calls.check_callee.Goals as goal

pub returns-then-call-ge8 : goal.returns-then-call-ge8
returns-then-call-ge8 c = callee-high _ _ _ _ _ _ _ c.if-call-ge8.true

pub returns-then-number-callees : goal.returns-then-number-callees
returns-then-number-callees c = callee-absent _ _ _ _ _ _ _ c.if-number-callees.true

pub returns-then-not-arguments_fit : goal.returns-then-not-arguments_fit
returns-then-not-arguments_fit c = arguments-refused _ _ _ _ _ _ _ c.if-number-callees.false
    c.if-call-ge8.false
    c.read_kinds.ensures c.span_of-span.ensures.value
    c.read_signature-callee.ensures c.arguments_fit.ensures (c.if-not-arguments_fit.true)

pub returns : goal.returns
returns c = call_passes _ _ _ _ _ _ _ c.if-number-callees.false
    c.if-call-ge8.false
    c.read_kinds.ensures c.span_of-span.ensures.value
    c.read_signature-callee.ensures c.arguments_fit.ensures (c.if-not-arguments_fit.false)
