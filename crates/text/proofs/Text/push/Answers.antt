-- `text::Text::push` meets its contract.
use mathlib.Core.Path.{refl}
use native.Mathlib.Numerals.{add-one}
use lib.Seq.{take-suc-set}
use borrow.Author.Rules.{rules}
use Rattle.text.proofs.Text.push.Goals as goal

pub returns : goal.returns
returns c = record { text = rw add-one (take-suc-set c.args.self.bytes c.args.self.len c.args.b (search rules)); long = refl }
