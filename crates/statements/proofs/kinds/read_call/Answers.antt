use Rattle.statements.specs.Statements.{call_read}
use Rattle.statements.proofs.kinds.read_call.Goals as goal

pub returns-then-names_index-is_argument : goal.returns-then-names_index-is_argument
unfolding call_read
returns-then-names_index-is_argument c = simp (
  c.call_site.ensures,
  simp (
    c.is_argument-4.ensures,
    c.is_argument-3.ensures,
    c.is_argument-2.ensures,
    c.is_argument.ensures,
    c.names_index.ensures,
  ) at c.if-names_index-is_argument.true,
)

pub returns : goal.returns
unfolding call_read
returns c = simp (simp (
  c.is_argument-4.ensures,
  c.is_argument-3.ensures,
  c.is_argument-2.ensures,
  c.is_argument.ensures,
  c.names_index.ensures,
) at c.if-names_index-is_argument.false)
