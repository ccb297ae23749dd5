use Rattle.statements.specs.Statements.{call_site}
use Rattle.statements.proofs.kinds.call_site.Goals as goal

pub returns : goal.returns
unfolding call_site
returns c = simp (
  c.index_of-5.ensures,
  c.index_of-4.ensures,
  c.index_of-3.ensures,
  c.index_of-2.ensures,
  c.index_of.ensures,
  c.literal_value.ensures,
)
