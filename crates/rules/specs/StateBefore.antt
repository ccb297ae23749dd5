-- What the walk hands on to a statement as it comes to it: the facts are what point 11 calls the statement's facts.
use Rattle.std.specs.Prelude.{ℕ, ◌+◌, cond, List, [], ◌∷◌, ltb, eqb, ℤ, length}
use Rattle.conditions.specs.Conditions.{negated_of}
use Rattle.statements.specs.declared.Simple.{Simple}
use Rattle.blocks.specs.Tree.{Block, nil, plain, branch, loop, bundle, call, unread, assigned}
use Rattle.blocks.specs.Shape.{size}
use Rattle.listed.specs.Entries.{entries_of}
use Rattle.rules.specs.FactSets.{FactSets, State}
use Rattle.rules.specs.Rules.{state_after, called_state, assumed, at_head, bundle_after, sides_joined, block_after}
use Rattle.rules.specs.declared.Environment.{Environment}

module _ (S : FactSets) where
  open S use {Facts}

  -- Before statement d, of a bundle's statements from number a on.
  unfoldable pub line_before : ℕ → List Simple → State Facts → ℕ → State Facts
  line_before a [] w d = w
  line_before a (s ∷ ss) w d = cond (eqb d a) w (line_before (a + 1) ss (state_after S s w) d)

  module _ (E : Environment) (L : List ℤ) where
    -- Before statement d of a block that is entered with the state w.
    unfoldable pub state_before : Block → State Facts → ℕ → State Facts
    state_before nil w d = w
    state_before (plain a s r) w d = cond (eqb d a) w (state_before r (state_after S s w) d)
    state_before (branch a c t e r) w d =
        cond (eqb d a) w
        (cond (ltb d (a + 1 + size t)) (state_before t (assumed S w c) d)
        (cond (ltb d (a + 1 + size t + size e)) (state_before e (assumed S w (negated_of c)) d)
        (state_before r (sides_joined S E (block_after S E L t (assumed S w c)) (block_after S E L e (assumed S w (negated_of c)))) d)))
    state_before (loop a c t r) w d =
        cond (eqb d a) w
        (cond (ltb d (a + 1 + size t)) (state_before t (assumed S (at_head S (entries_of L a) (assigned t) w) c) d)
        (state_before r (assumed S (at_head S (entries_of L a) (assigned t) w) (negated_of c)) d))
    state_before (bundle a ss r) w d =
        cond (eqb d a) w (cond (ltb d (a + 1 + length ss)) (line_before (a + 1) ss w d) (state_before r (bundle_after S ss w) d))
    state_before (call a c r) w d = cond (eqb d a) w (state_before r (called_state S c w) d)
    state_before (unread a) w d = w
