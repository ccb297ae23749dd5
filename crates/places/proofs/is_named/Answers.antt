use Rattle.std.proofs.Common.{rules, tests, ◌∙◌, eqb}
use Rattle.std.proofs.lemmas.Iterator.{YieldsList-from_slice}
use Rattle.std.proofs.lemmas.Iterator.Search.{any_from_yields_List}
use Rattle.places.specs.StoreLaws.{named-any}
use Rattle.places.proofs.is_named.Goals as goal

pub returns : goal.returns
returns c = any_from_yields_List (λ k. eqb k c.args.at) _ _ _ c.any.ensures.ran (YieldsList-from_slice c.args.keep.now cc)
    (λ x b q k. search (rules, tests))
    ∙ named-any _ _
