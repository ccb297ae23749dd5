use Rattle.std.proofs.Common.{rules, ◌∙◌, leb}
use Rattle.table.specs.Searches.{lowest-is}
use Rattle.places.specs.Positions.{position_at}
use Rattle.places.specs.StoreLaws.{place-kept, up-to-words}
use Rattle.places.proofs.up_to.Goals as goal

pub lowest-requires : goal.lowest-requires
lowest-requires c = search (rules, place-kept)

pub returns : goal.returns
returns c = lowest-is (λ j. leb (position_at c.args.store.now j) c.args.p) (rw c.place_count.ensures at c.lowest.ensures) (search rules) ∙ up-to-words _ _
