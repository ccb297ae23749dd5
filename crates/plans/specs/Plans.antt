-- Which edits are made, and why the others are refused (point 13): of the table T with the sections h, at the position `at`, in a buffer of `room` words.
use Rattle.answers.specs.declared.refusals.Refusal.{Refusal}
use Rattle.edits.specs.declared.TextFault.TheVariants.{Record, Layout}
use Rattle.std.specs.Prelude.{ℕ, ◌+◌, ◌-◌, ◌*◌, ◌/◌, Bool, ◌&&◌, ◌||◌, cond, List, ℤ, length, eqb, leb, Ok, Err, Result}
use Rattle.answers.specs.declared.refusals.Refusal.TheVariants.{StatementRecord, BlockLayout, EditPosition}
use Rattle.words.specs.declared.sections.Sections.{Sections}
use Rattle.statements.specs.Statements.{statement_at}
use Rattle.blocks.specs.Tree.{tree}
use Rattle.edits.specs.TopLevel.{top_level, span_of}
use Rattle.edits.specs.Edited.{text_sections, text_table, text_of}
use Rattle.edits.specs.declared.TextFault.{TextFault}
use Rattle.plans.specs.declared.Edit.{Edit}
use Rattle.plans.specs.declared.Edit.TheVariants.{Insert, Replace, Remove, Unknown}
use Rattle.plans.specs.declared.Splice.{Splice}

-- "insert, replace or remove one top-level statement with its blocks": how many statements go, of a statement of s, and how many words come, of a text of n.
abbrev pub removed_by : Edit → ℕ → ℕ
removed_by Insert s = 0
removed_by Replace s = s
removed_by Remove s = s
removed_by Unknown s = s

abbrev pub words_by : Edit → ℕ → ℕ
words_by Insert n = n
words_by Replace n = n
words_by Remove n = 0
words_by Unknown n = 0

-- "when that names no top-level statement (an insertion may follow the last)"
abbrev pub is_position : Edit → List ℤ → Sections → ℕ → Bool
is_position Insert T h at = top_level (tree T h) at || eqb at h.statements
is_position Replace T h at = top_level (tree T h) at
is_position Remove T h at = top_level (tree T h) at
is_position Unknown T h at = top_level (tree T h) at

abbrev pub splice : ℕ → ℕ → Splice
splice m k = record { removed = m; added = k }

-- "Then a new text that breaks 5, is not exactly one statement with its blocks (6) or breaks 6 is refused with that number and the position."
abbrev pub text_plan : ℕ → Result (Unit {0}) TextFault → ℕ → ℕ → Result Splice Refusal
text_plan at (Ok _) m k = Ok (splice m k)
text_plan at (Err Record) m k = Err (StatementRecord at)
text_plan at (Err Layout) m k = Err (BlockLayout at)

abbrev pub kind_plan : ℕ → Edit → Result (Unit {0}) TextFault → ℕ → ℕ → Result Splice Refusal
kind_plan at Insert t m k = text_plan at t m k
kind_plan at Replace t m k = text_plan at t m k
kind_plan at Remove t m k = Ok (splice m 0)
kind_plan at Unknown t m k = Err (EditPosition at)

-- "It refuses with 18, giving the position, when that names no top-level statement [`there` is false] .. or the table would exceed 1,024 statements or its
-- buffer." (The words of a text count as they are; what is replaced makes room.)
unfoldable pub plan_of : Bool → List ℤ → ℕ → Sections → ℕ → Edit → List ℤ → Result Splice Refusal
plan_of there T room h at e X =
    let m = removed_by e (span_of (statement_at T h at)) in
    let u = words_by e (length X) in
    cond (there && (leb (7 * (h.statements - m) + u) 7168 && leb (length T - 7 * m + u) room))
    (kind_plan at e (text_of (text_table T h X) (text_sections h X) (length X)) m (length X / 7)) (Err (EditPosition at))
