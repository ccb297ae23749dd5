-- The blocks of a block that stands in its place stand in theirs; what a while's body assigns is what its records assign.
use Rattle.std.specs.Prelude.{ℕ, ◌+◌, ◌≡◌, List, ℤ, length, Some}
use Rattle.words.specs.declared.sections.Sections.{Sections}
use Rattle.conditions.specs.declared.Condition.{Condition}
use Rattle.statements.specs.declared.CallSite.{CallSite}
use Rattle.statements.specs.declared.Simple.{Simple}
use Rattle.statements.specs.declared.Statement.TheVariants.{If, While, Bundle}
use Rattle.statements.specs.Statements.{statement_at}
use Rattle.blocks.specs.Tree.{Block, plain, branch, loop, bundle, call, assigned}
use Rattle.blocks.specs.Shape.{size}
use Rattle.effects.specs.Marks.{targets_from}
use Rattle.effects.specs.AssignedLaws.{assigned-targets}
use Rattle.checker.specs.Walk.{InPlace}

module _ {T : List ℤ} {h : Sections} {a : ℕ} where
  pub after-plain : {s : Simple} {r : Block} → InPlace T h a (plain a s r) → InPlace T h (a + 1) r
  after-plain p = record { numbered = p.numbered.1; reads = p.reads.1 }

  pub after_call : {c : CallSite} {r : Block} → InPlace T h a (call a c r) → InPlace T h (a + 1) r
  after_call p = record { numbered = p.numbered.1; reads = p.reads.1 }

  module _ {c : Condition} {n m : ℕ} {t e r : Block} (q : statement_at T h a ≡ Some (If c n m)) (p : InPlace T h a (branch a c t e r)) where
    counts : (n ≡ size t) × (m ≡ size e)
    counts = let i = p.reads.0 in (cc, cc)

    pub then-placed : InPlace T h (a + 1) t
    then-placed = record { numbered = p.numbered.1; reads = p.reads.1 }

    pub else-placed : InPlace T h (a + 1 + n) e
    else-placed = let x = counts.0 in record { numbered = rw x p.numbered.2; reads = p.reads.2 }

    pub after-if : InPlace T h (a + 1 + n + m) r
    after-if = let x = counts.0 in let y = counts.1 in record { numbered = rw (x, y) p.numbered.3; reads = p.reads.3 }

  module _ {c : Condition} {n : ℕ} {t r : Block} (q : statement_at T h a ≡ Some (While c n)) (p : InPlace T h a (loop a c t r)) where
    count : n ≡ size t
    count = let i = p.reads.0 in cc

    pub body-placed : InPlace T h (a + 1) t
    body-placed = record { numbered = p.numbered.1; reads = p.reads.1 }

    pub after-while : InPlace T h (a + 1 + n) r
    after-while = record { numbered = rw count p.numbered.2; reads = p.reads.2 }

    pub body-assigned : assigned t ≡ targets_from T h (a + 1) n
    body-assigned = rw count (assigned-targets T h t (a + 1) p.numbered.1 p.reads.1)

  pub after-bundle : {n : ℕ} {ss : List Simple} {r : Block} → statement_at T h a ≡ Some (Bundle n) → InPlace T h a (bundle a ss r) → InPlace T h (a + 1 + n) r
  after-bundle {n} {ss} q p = let i = p.reads.0 in let x : n ≡ length ss = cc in record { numbered = rw x p.numbered.1; reads = p.reads.2 }
