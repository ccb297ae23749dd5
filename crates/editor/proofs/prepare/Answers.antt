use native.Mathlib.Omega.{arith}
use Rattle.editor.specs.EditLaws.{up-to-within, prepares}
use Rattle.editor.proofs.prepare.Goals as goal

pub place_before-from-requires : goal.place_before-from-requires
place_before-from-requires c = omega (arith, c.up_to-held.ensures, up-to-within c.args.store.now c.args.at)

pub returns : goal.returns
returns c = prepares _ _ _ _ _ _ _ c.up_to-held.ensures c.place_before-from.ensures c.plan_edit-plan.ensures
