-- `effects::asked::ask_sum` meets its contract.
use Rattle.effects.proofs.asked.ask_sum.Goals as goal

pub returns : goal.returns
returns c = simp c.room_above.ensures
