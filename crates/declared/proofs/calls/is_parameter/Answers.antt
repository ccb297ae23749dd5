use Rattle.declared.proofs.calls.is_parameter.Goals as goal

pub returns : goal.returns
returns c = simp c.argument.ensures
