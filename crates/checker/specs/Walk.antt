-- What is asked of a walk over a block, and its answer in terms of the rules.
use Rattle.std.specs.Prelude.{ℕ, ◌+◌, List, ℤ}
use Rattle.facts.specs.declared.FactSet.{FactSet}
use Rattle.words.specs.declared.sections.Sections.{Sections}
use Rattle.conditions.specs.Conditions.{negated_of}
use Rattle.blocks.specs.Tree.{Block, nil, plain, branch, loop, bundle, call, unread, assigned}
use Rattle.listed.specs.Entries.{entries_of}
use Rattle.reports.specs.Reports.{marked_if}
use Rattle.blocks.specs.Shape.{Numbered, Reads}
use Rattle.rules.specs.FactSets.{State}
use Rattle.rules.specs.Calls.{Routine}
use Rattle.rules.specs.Stored.{block_after, block_faults, state_after, called_state, assumed, at_head, safe_in, sides_joined, bundle_after}
use Rattle.rules.specs.declared.Environment.{Environment}
use Rattle.bundles.specs.Bundles.{line_marks, Passes}
use Rattle.bundles.specs.declared.Walked.{Walked}

-- A block in its place: it is numbered from a on, and each of its nodes is the record at its number. Where cause 6 refuses nothing, every block is.
pub record InPlace (T : List ℤ) (h : Sections) (a : ℕ) (b : Block) : Type 0 where
  pub numbered : Numbered b a
  pub reads : Reads T h b

-- The words of the report after a block (point 9).
unfoldable pub block_marks : Environment → List ℤ → Block → State FactSet → List ℕ → List ℕ
block_marks E L nil w M = M
block_marks E L (plain a s r) w M = block_marks E L r (state_after s w) (marked_if (safe_in E w s) M a)
block_marks E L (branch a c t e r) w M =
    block_marks E L r (sides_joined E (block_after E L t (assumed w c)) (block_after E L e (assumed w (negated_of c))))
    (block_marks E L e (assumed w (negated_of c)) (block_marks E L t (assumed w c) M))
block_marks E L (loop a c t r) w M =
    block_marks E L r (assumed (at_head (entries_of L a) (assigned t) w) (negated_of c))
    (block_marks E L t (assumed (at_head (entries_of L a) (assigned t) w) c) M)
block_marks E L (bundle a ss r) w M = block_marks E L r (bundle_after ss w) (line_marks E (a + 1) ss w M)
block_marks E L (call a c r) w M = block_marks E L r (called_state c w) M
block_marks E L (unread a) w M = M

-- The walk over a block b from the state w, beside the list L of loop facts, of a routine that may call the `callees`, with the words M of the report so far.
abbrev pub Walks : Environment → List ℤ → List Routine → Block → State FactSet → List ℕ → Walked → Type 0
Walks E L callees b w M r = Passes (block_faults E L callees b w) (block_after E L b w) (block_marks E L b w M) r
