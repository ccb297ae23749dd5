-- What the walk knows before a statement by the store represents what it knows by the paper's chains.
use Rattle.std.specs.Prelude.{ℕ, ◌+◌, ltb, eqb, ℤ}
use mathlib.Core.List.{List, [], ◌∷◌}
use Rattle.std.proofs.Math.ListN.{length}
use Rattle.listed.specs.Entries.{entries_of}
use Rattle.facts.specs.declared.FactSet.{FactSet}
use Rattle.chains.specs.Facts.{Variables}
use Rattle.chains.specs.History.{History}
use Rattle.words.specs.Sections.{Limits}
use Rattle.words.specs.declared.sections.Sections.{Sections}
use Rattle.statements.specs.StatementLaws.{read-typed}
use Rattle.statements.specs.declared.Simple.{Simple}
use Rattle.statements.specs.declared.Statement.TheVariants.{Plain, If, While, Call}
use Rattle.blocks.specs.Tree.{Block, nil, plain, branch, loop, bundle, call, unread}
use Rattle.blocks.specs.Shape.{size, ReadsLine, Reads}
use Rattle.rules.specs.FactSets.{State}
use Rattle.rules.specs.Rules.{bundle_after, block_after}
use Rattle.rules.specs.StateBefore.{line_before, state_before}
use Rattle.rules.specs.Verdict.{environment_of}
use Rattle.rules.specs.Stored.{store}
use Rattle.rules.specs.ByChains.{Decider, Decides, by_chains, variables}
use Rattle.rules.proofs.ListedLaws.{EntriesRight}
use Rattle.rules.proofs.StateRepresentation.{StateRepresents, either, meets, state-after, state-called, state-assumed, state-negated, state-at-head}
use Rattle.rules.specs.declared.Environment.{Environment}

module _ (T : List ℤ) (h : Sections) (w : Limits h) (L : List ℤ) (listed : (a : ℕ) → EntriesRight T h w (entries_of L a)) (q : Decider)
    (right : Decides (variables T h w) q) where
  abbrev vars : Variables
  vars = variables T h w

  abbrev E : Environment
  E = environment_of T h

  -- ---- after a bundle and after a block

  line-represented : (a : ℕ) (ss : List Simple) {U : State History} {W : State FactSet} → ReadsLine T h a ss → StateRepresents vars U W
      → StateRepresents vars (bundle_after (by_chains q) ss U) (bundle_after store ss W)
  unfolding bundle_after
  line-represented a [] r t = t
  line-represented a (s ∷ ss) r t = line-represented (a + 1) ss r.1 (state-after T h w q right t s (read-typed T h a (Plain s) r.0))

  block-represented : (b : Block) {U : State History} {W : State FactSet} → Reads T h b → StateRepresents vars U W
      → StateRepresents vars (block_after (by_chains q) E L b U) (block_after store E L b W)
  unfolding block_after
  block-represented nil r t = t
  block-represented (plain a s u) r t = block-represented u r.1 (state-after T h w q right t s (read-typed T h a (Plain s) r.0))
  block-represented (branch a c x y u) r t =
      let s = (read-typed T h a (If c (size x) (size y)) r.0).condition.sides in
      block-represented u r.3
      (meets T h w q right (block-represented x r.1 (state-assumed T h w q right t c s)) (block-represented y r.2 (state-negated T h w q right t c s)))
  block-represented (loop a c x u) r t =
      let s = (read-typed T h a (While c (size x)) r.0).condition.sides in
      block-represented u r.2 (state-negated T h w q right (state-at-head T h w q right t (entries_of L a) (listed a) x r.1) c s)
  block-represented (bundle a ss u) r t = block-represented u r.2 (line-represented (a + 1) ss r.1 t)
  block-represented (call a c u) r t = block-represented u r.1 (state-called T h w q right t c (read-typed T h a (Call c) r.0))
  block-represented (unread a) r t = absurd r

  -- ---- before a statement

  line-before : (a : ℕ) (ss : List Simple) (d : ℕ) {U : State History} {W : State FactSet} → ReadsLine T h a ss → StateRepresents vars U W
      → StateRepresents vars (line_before (by_chains q) a ss U d) (line_before store a ss W d)
  unfolding line_before
  line-before a [] d r t = t
  line-before a (s ∷ ss) d r t = either (eqb d a) t (line-before (a + 1) ss d r.1 (state-after T h w q right t s (read-typed T h a (Plain s) r.0)))

  pub before-represented : (b : Block) (d : ℕ) {U : State History} {W : State FactSet} → Reads T h b → StateRepresents vars U W
      → StateRepresents vars (state_before (by_chains q) E L b U d) (state_before store E L b W d)
  unfolding state_before
  before-represented nil d r t = t
  before-represented (plain a s u) d r t =
      either (eqb d a) t (before-represented u d r.1 (state-after T h w q right t s (read-typed T h a (Plain s) r.0)))
  before-represented (branch a c x y u) d r t =
      let s = (read-typed T h a (If c (size x) (size y)) r.0).condition.sides in
      let then = state-assumed T h w q right t c s in
      let other = state-negated T h w q right t c s in
      either (eqb d a) t
      (either (ltb d (a + 1 + size x)) (before-represented x d r.1 then)
      (either (ltb d (a + 1 + size x + size y)) (before-represented y d r.2 other)
      (before-represented u d r.3 (meets T h w q right (block-represented x r.1 then) (block-represented y r.2 other)))))
  before-represented (loop a c x u) d r t =
      let s = (read-typed T h a (While c (size x)) r.0).condition.sides in
      let head = state-at-head T h w q right t (entries_of L a) (listed a) x r.1 in
      either (eqb d a) t
      (either (ltb d (a + 1 + size x)) (before-represented x d r.1 (state-assumed T h w q right head c s))
      (before-represented u d r.2 (state-negated T h w q right head c s)))
  before-represented (bundle a ss u) d r t =
      either (eqb d a) t
      (either (ltb d (a + 1 + length ss)) (line-before (a + 1) ss d r.1 t) (before-represented u d r.2 (line-represented (a + 1) ss r.1 t)))
  before-represented (call a c u) d r t =
      either (eqb d a) t (before-represented u d r.1 (state-called T h w q right t c (read-typed T h a (Call c) r.0)))
  before-represented (unread a) d r t = absurd r
