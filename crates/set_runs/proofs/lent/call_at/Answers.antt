-- `set_runs::lent::call_at` meets its contract.
use Rattle.set_runs.specs.PartLaws.{decode-within, site-is}
use Rattle.set_runs.proofs.lent.call_at.Goals as goal

pub decode_call_at-requires : goal.decode_call_at-requires
decode_call_at-requires c = decode-within _ _ _ c.part_of-part.ensures.value _ c.requires.1

pub returns : goal.returns
returns c = site-is _ _ _ c.part_of-part.ensures.value _ c.decode_call_at.ensures
