-- `files::encoding::word_at` meets its contract.
use mathlib.Core.Path.{ap, ◌∙◌}
use native.Mathlib.Omega.{arith}
use mir.Syntax.{w32}
use mir.Facts.{to_z-of_z}
use Rattle.files.specs.Files.{signed_of, word_at}
use Rattle.files.proofs.Laws.{signed}
use Rattle.files.proofs.encoding.word_at.Goals as goal

pub returns : goal.returns
unfolding word_at
returns c = to_z-of_z {w = w32} {z = c.from_le_bytes.result} (record { sfits = c.from_le_bytes.type_inv }) ∙ c.from_le_bytes.ensures ∙ signed _
    ∙ ap signed_of (omega arith)
