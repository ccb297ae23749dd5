use mathlib.Core.Path.{refl}
use borrow.Author.Rules.{rules}
use Rattle.arrays.specs.Overwritten.{over-part}
use Rattle.facts.specs.Words.{row-whole}
use Rattle.facts.proofs.rows.save_row.Goals as goal

pub returns : goal.returns
returns c = record { words = over-part _ _ _ _ _ (search rules) (search rules) (search rules) (λ i l. search rules); row = row-whole c.args.row (search rules) }
