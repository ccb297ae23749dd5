-- The walk over a routine (document 01, "Facts", "Bounds in force"): what is handed on after each block, and the faults of each block in table order.
use Rattle.std.specs.Prelude.{ℕ, ◌+◌, Bool, true, false, not, ◌&&◌, List, [], ◌∷◌, eqb, ℤ}
use Rattle.answers.specs.declared.refusals.Refusal.{Refusal}
use Rattle.answers.specs.declared.refusals.Refusal.TheVariants.{StatementRecord, BoundsNotShown, BundleAccess, RowsDiffer, LoopFact}
use Rattle.conditions.specs.Conditions.{negated_of}
use Rattle.conditions.specs.declared.Condition.{Condition}
use Rattle.statements.specs.declared.CallSite.{CallSite}
use Rattle.statements.specs.declared.Simple.{Simple}
use Rattle.blocks.specs.Tree.{Block, nil, plain, branch, loop, bundle, call, unread, assigned}
use Rattle.blocks.specs.Layout.{also, when}
use Rattle.listed.specs.Entries.{entries_of}
use Rattle.listed.specs.declared.Entry.{Entry}
use Rattle.rules.specs.FactSets.{FactSets, State}
use Rattle.rules.specs.FactRules.{facts_after, condition_facts, loop_facts, entry_facts}
use Rattle.rules.specs.BoundsRules.{is_pointer, effect, bounds_after, unshown, access_shown, access_safe, own_rows, in_force, rows_after, row_unshown}
use Rattle.rules.specs.Calls.{Routine, result_facts, result_effect, call_faults}
use Rattle.rules.specs.declared.Bounds.{Bounds}
use Rattle.rules.specs.declared.Environment.{Environment}

-- The faults of a walk are refusals, listed in table order; the first counts.

-- "access in a bundle, bounds not shown"
unfoldable pub access_at : Bool → ℕ → List Refusal
access_at true a = []
access_at false a = BundleAccess a ∷ []

-- "declared bounds not shown", of the pointers that are not shown, lowest first. Point 6: "Refusal 8 gives the lowest-numbered one not shown".
unfoldable pub bounds_at : ℕ → List ℕ → List Refusal
bounds_at a [] = []
bounds_at a (p ∷ ps) = BoundsNotShown a p ∷ []

-- ---- point 2: "when the two sides of an if, or the head and end of a while body, leave rows of different numbers in force"

unfoldable pub same_rows : List ℕ → List ℕ → Bool
same_rows [] [] = true
same_rows [] (y ∷ ys) = false
same_rows (x ∷ xs) [] = false
same_rows (x ∷ xs) (y ∷ ys) = eqb x y && same_rows xs ys

unfoldable pub rows_at : ℕ → List ℕ → List ℕ → List Refusal
rows_at a R Q = when (not (same_rows R Q)) (RowsDiffer a)

module _ (S : FactSets) where
  open S use {Facts, new, joined, shown}

  -- Point 9, 17: "its fact is not shown before the loop (found before the body) or at the body's end", lowest entry first.
  unfoldable pub entries_unshown : List Entry → Facts → List Refusal
  entries_unshown [] f = []
  entries_unshown (e ∷ es) f = also (when (not (shown f e.left e.right e.offset)) (LoopFact e.number)) (entries_unshown es f)

  -- ---- what is handed on

  -- Where the walk begins: what is always known, and "at entry the variable's own".
  abbrev pub new_state : State Facts
  new_state = record { facts = new; rows = own_rows }

  -- What a statement of kinds 1 to 10 and 14 leaves.
  abbrev pub state_after : Simple → State Facts → State Facts
  state_after s w = record { facts = facts_after S s w.facts; rows = rows_after s w.rows }

  -- Point 14: what a call leaves: its result is set.
  abbrev pub called_state : CallSite → State Facts → State Facts
  called_state c w = record { facts = result_facts S c w.facts; rows = w.rows }

  -- Where a condition holds.
  abbrev pub assumed : State Facts → Condition → State Facts
  assumed w c = record { facts = condition_facts S w.facts c; rows = w.rows }

  -- At the head of a loop whose body assigns the targets. Point 9: the dropped facts with all entries of the loop.
  abbrev pub at_head : List Entry → List ℕ → State Facts → State Facts
  at_head entries targets w = record { facts = entry_facts S entries (loop_facts S targets w.facts); rows = w.rows }

  -- What is asked of the declared bounds in force.
  abbrev pub unshown_in : Environment → State Facts → List Bounds → List ℕ
  unshown_in E w K = unshown S (in_force E w.rows) w.facts K

  abbrev pub access_in : Environment → State Facts → List Bounds → Simple → Bool
  access_in E w K s = access_shown S (in_force E w.rows) w.facts K s

  -- Point 9: the access is shown safe, by the declared ends in force.
  abbrev pub safe_in : Environment → State Facts → Simple → Bool
  safe_in E w s = access_safe S (in_force E w.rows) w.facts s

  -- Outside a bundle the known bounds are the declared ones.
  abbrev pub declared_in : Environment → State Facts → List Bounds
  declared_in E w = (in_force E w.rows).declared

  -- ---- the statements of a bundle, from number a on

  unfoldable pub bundle_after : List Simple → State Facts → State Facts
  bundle_after [] w = w
  bundle_after (s ∷ ss) w = bundle_after ss (state_after s w)

  unfoldable pub bundle_bounds : Environment → List Simple → State Facts → List Bounds → List Bounds
  bundle_bounds E [] w K = K
  bundle_bounds E (s ∷ ss) w K = bundle_bounds E ss (state_after s w) (bounds_after S (effect S E w.facts s) K)

  unfoldable pub bundle_faults : Environment → ℕ → List Simple → State Facts → List Bounds → List Refusal
  bundle_faults E a [] w K = []
  bundle_faults E a (s ∷ ss) w K =
      also (access_at (access_in E w K s) a)
      (also (bounds_at a (row_unshown S E w.facts K s))
      (bundle_faults E (a + 1) ss (state_after s w) (bounds_after S (effect S E w.facts s) K)))

  -- ---- blocks. Outside a bundle the known bounds are the declared ones: "all declared bounds must be shown and become the known ones".

  module _ (E : Environment) where
    -- Where the sides of an if meet: the rows in force are those of both sides (else refusal 13).
    abbrev pub sides_joined : State Facts → State Facts → State Facts
    sides_joined w v = record { facts = joined (is_pointer E) w.facts v.facts; rows = w.rows }

  -- L is the list of loop facts (point 9): "The list is lent beside the routine".
  module _ (E : Environment) (L : List ℤ) where
    -- What a block leaves. "If: the negated condition holds in the else block; afterwards what both sides show. While: variables assigned in the
    -- body are dropped first; then the condition holds in the body and its negation after it."
    unfoldable pub block_after : Block → State Facts → State Facts
    block_after nil w = w
    block_after (plain a s r) w = block_after r (state_after s w)
    block_after (branch a c t e r) w = block_after r (sides_joined E (block_after t (assumed w c)) (block_after e (assumed w (negated_of c))))
    block_after (loop a c t r) w = block_after r (assumed (at_head (entries_of L a) (assigned t) w) (negated_of c))
    block_after (bundle a ss r) w = block_after r (bundle_after ss w)
    block_after (call a c r) w = block_after r (called_state c w)
    block_after (unread a) w = w

    -- The faults of a block, "statements in table order": 9, then the statement, then 8. Point 11: "A statement whose facts contradict is now walked like any
    -- other, with every fact shown." Point 2: "13 comes after all inside the blocks". Point 9: an entry "not shown before the loop (found before the body) or
    -- at the body's end (before 13)".
    -- `callees` are the routines that it may call, those with a number below its own. Point 14: 19 and 20 "come just before the call's own 8, 19 first".
    module _ (callees : List Routine) where
      unfoldable pub block_faults : Block → State Facts → List Refusal
      block_faults nil w = []
      block_faults (plain a s r) w =
          also (bounds_at a (row_unshown S E w.facts (declared_in E w) s))
          (also (bounds_at a (unshown_in E (state_after s w) (bounds_after S (effect S E w.facts s) (declared_in E w))))
          (block_faults r (state_after s w)))
      block_faults (branch a c t e r) w =
          also (block_faults t (assumed w c))
          (also (block_faults e (assumed w (negated_of c)))
          (also (rows_at a (block_after t (assumed w c)).rows (block_after e (assumed w (negated_of c))).rows)
          (block_faults r (sides_joined E (block_after t (assumed w c)) (block_after e (assumed w (negated_of c)))))))
      block_faults (loop a c t r) w =
          also (entries_unshown (entries_of L a) w.facts)
          (also (block_faults t (assumed (at_head (entries_of L a) (assigned t) w) c))
          (also (entries_unshown (entries_of L a) (block_after t (assumed (at_head (entries_of L a) (assigned t) w) c)).facts)
          (also (rows_at a w.rows (block_after t (assumed (at_head (entries_of L a) (assigned t) w) c)).rows)
          (block_faults r (assumed (at_head (entries_of L a) (assigned t) w) (negated_of c))))))
      block_faults (bundle a ss r) w =
          also (bundle_faults E (a + 1) ss w (declared_in E w))
          (also (bounds_at a (unshown_in E (bundle_after ss w) (bundle_bounds E ss w (declared_in E w))))
          (block_faults r (bundle_after ss w)))
      block_faults (call a c r) w =
          also (call_faults S callees E a c w.facts (declared_in E w))
          (also (bounds_at a (unshown_in E (called_state c w) (bounds_after S (result_effect c) (declared_in E w))))
          (block_faults r (called_state c w)))
      block_faults (unread a) w = StatementRecord a ∷ []
