-- Where a point stands in a block of an accepted routine, and what then holds there.
use Rattle.std.specs.Prelude.{ℕ, ◌+◌, ◌≡◌, ◌⊎◌, List, [], ◌∷◌, ℤ, length, Some}
use Rattle.chains.proofs.Sound.{InRange, Holds}
use Rattle.facts.specs.declared.FactSet.{FactSet}
use Rattle.words.specs.declared.sections.Sections.{Sections}
use Rattle.conditions.specs.Conditions.{negated_of}
use Rattle.statements.specs.Statements.{statement_at}
use Rattle.statements.specs.declared.Simple.{Simple}
use Rattle.statements.specs.declared.Statement.TheVariants.{Plain, If, While, Bundle, Call}
use Rattle.blocks.specs.Tree.{Block, nil, plain, branch, loop, bundle, call, unread, assigned}
use Rattle.blocks.specs.Flow.{Successors, successors, entry, lead}
use Rattle.blocks.specs.Shape.{size, ReadsLine, Reads, RightLine, Right}
use Rattle.rules.specs.FactSets.{State}
use Rattle.rules.specs.Stored.{effect, sides_joined, bounds_after, state_after, called_state, assumed, at_head, declared_in, bundle_after, block_after}
use Rattle.rules.specs.FactsTrue.{Agree}
use Rattle.listed.specs.Entries.{entries_of}
use Rattle.rules.proofs.ListedLaws.{EntriesTrue}
use Rattle.rules.specs.declared.Bounds.{Bounds}
use Rattle.rules.specs.declared.Environment.{Environment}
use Rattle.machine.specs.Machine.{value, Memory}
use Rattle.machine.specs.Good.{Good}

-- ---- a block in its place: each node is the record of its number and has the successors of the flow

module _ (T : List ℤ) (h : Sections) (f : ℕ → Successors) where
  abbrev pub LinkedLine : ℕ → List Simple → ℕ → Type 0
  LinkedLine a [] after = Unit {0}
  LinkedLine a (s ∷ ss) after =
      (statement_at T h a ≡ Some (Plain s)) × (f a ≡ successors a (lead (a + 1) (length ss) after) (lead (a + 1) (length ss) after))
      × LinkedLine (a + 1) ss after

  abbrev pub Linked : Block → ℕ → Type 0
  Linked nil after = Unit {0}
  Linked (plain a s r) after = (statement_at T h a ≡ Some (Plain s)) × (f a ≡ successors a (entry r after) (entry r after)) × Linked r after
  Linked (branch a c t e r) after =
      (statement_at T h a ≡ Some (If c (size t) (size e))) × (f a ≡ successors a (entry t (entry r after)) (entry e (entry r after)))
      × Linked t (entry r after) × Linked e (entry r after) × Linked r after
  Linked (loop a c t r) after =
      (statement_at T h a ≡ Some (While c (size t))) × (f a ≡ successors a (entry t a) (entry r after)) × Linked t a × Linked r after
  Linked (bundle a ss r) after =
      (statement_at T h a ≡ Some (Bundle (length ss)))
      × (f a ≡ successors a (lead (a + 1) (length ss) (entry r after)) (lead (a + 1) (length ss) (entry r after)))
      × LinkedLine (a + 1) ss (entry r after) × Linked r after
  Linked (call a c r) after = (statement_at T h a ≡ Some (Call c)) × (f a ≡ successors a (entry r after) (entry r after)) × Linked r after
  Linked (unread a) after = ⊥

  linked-line : (a : ℕ) (ss : List Simple) (after : ℕ) → ReadsLine T h a ss → RightLine f a ss after → LinkedLine a ss after
  linked-line a [] after r l = tt
  linked-line a (s ∷ ss) after r l = (r.0, l.0, linked-line (a + 1) ss after r.1 l.1)

  pub linked : (b : Block) (after : ℕ) → Reads T h b → Right f b after → Linked b after
  linked nil after r l = tt
  linked (plain a s u) after r l = (r.0, l.0, linked u after r.1 l.1)
  linked (branch a c t e u) after r l =
      (r.0, l.0, linked t (entry u after) r.1 l.1, linked e (entry u after) r.2 l.2, linked u after r.3 l.3)
  linked (loop a c t u) after r l = (r.0, l.0, linked t a r.1 l.1, linked u after r.2 l.2)
  linked (bundle a ss u) after r l = (r.0, l.0, linked-line (a + 1) ss (entry u after) r.1 l.1, linked u after r.2 l.2)
  linked (call a c u) after r l = (r.0, l.0, linked u after r.1 l.1)
  linked (unread a) after r l = absurd r

-- ---- the places

-- Some values made F true before the loop, and those now differ from them only at what the body assigns.
pub record Framed (A : List ℕ) (F : FactSet) (m : Memory) : Type 0 where
  pub old : ℕ → ℕ
  pub held : Holds F old
  pub range : InRange old
  pub agree : Agree A old (value m.values)

module _ (h : Sections) (E : Environment) (D : List ℕ) (room : ℕ) where
  -- The statement a is due, and F and K are true.
  abbrev pub Stands : ℕ → State FactSet → List Bounds → ℕ → Memory → Type 0
  Stands a F K d m = (d ≡ a) × Good h E D room F K m

  -- At one of the statements of a bundle, the first of which is a.
  abbrev pub AtLine : ℕ → List Simple → State FactSet → List Bounds → ℕ → Memory → Type 0
  AtLine a [] F K d m = ⊥
  AtLine a (s ∷ ss) F K d m = Stands a F K d m ⊎ AtLine (a + 1) ss (state_after s F) (bounds_after (effect E F.facts s) K) d m

  -- At a statement outside a bundle: the known bounds are the declared ones.
  abbrev pub StandsAt : ℕ → State FactSet → ℕ → Memory → Type 0
  StandsAt a F d m = Stands a F (declared_in E F) d m

-- Beside the list L of loop facts (point 9).
module _ (h : Sections) (E : Environment) (D : List ℕ) (room : ℕ) (L : List ℤ) where
  -- The state at the head of a loop, and the test of a loop: its entries are true there.
  abbrev pub head_state : ℕ → Block → State FactSet → State FactSet
  head_state a t F = at_head (entries_of L a) (assigned t) F

  abbrev pub Tests : ℕ → Block → State FactSet → ℕ → Memory → Type 0
  Tests a t F d m = StandsAt h E D room a (head_state a t F) d m × EntriesTrue (entries_of L a) (value m.values)

  -- At a statement of the block, which was entered with the facts and rows F.
  abbrev pub At : Block → State FactSet → ℕ → Memory → Type 0
  At nil F d m = ⊥
  At (plain a s r) F d m = StandsAt h E D room a F d m ⊎ At r (state_after s F) d m
  At (branch a c t e r) F d m =
      StandsAt h E D room a F d m
      ⊎ (At t (assumed F c) d m
      ⊎ (At e (assumed F (negated_of c)) d m
      ⊎ At r (sides_joined E (block_after E L t (assumed F c)) (block_after E L e (assumed F (negated_of c)))) d m))
  At (loop a c t r) F d m =
      (Framed (assigned t) F.facts m × (Tests a t F d m ⊎ At t (assumed (head_state a t F) c) d m))
      ⊎ At r (assumed (head_state a t F) (negated_of c)) d m
  At (bundle a ss r) F d m = StandsAt h E D room a F d m ⊎ (AtLine h E D room (a + 1) ss F (declared_in E F) d m ⊎ At r (bundle_after ss F) d m)
  At (call a c r) F d m = StandsAt h E D room a F d m ⊎ At r (called_state c F) d m
  At (unread a) F d m = ⊥
