-- The frame of a run: it reads and writes only the cells of a set R of objects, where R holds every object that its pointers can lead to.
use Rattle.std.specs.Prelude.{ℕ, suc, ◌<◌, ◌≡◌, List, ℤ, length, get_or, Some}
use Rattle.words.specs.declared.sections.Sections.{Sections}
use Rattle.statements.specs.Statements.{statement_at}
use Rattle.statements.specs.declared.Simple.TheVariants.{Address}
use Rattle.statements.specs.declared.Statement.TheVariants.{Plain}
use Rattle.machine.specs.Machine.{Point}
use Rattle.machine.specs.Points.{CellOf}

-- Cell i is in none of the objects R.
abbrev pub Elsewhere : List ℕ → (ℕ → Type 0) → ℕ → Type 0
Elsewhere D R i = CellOf D R i → ⊥

-- "some kind 5 statement names it": every such object is one of R.
abbrev pub Names : List ℤ → Sections → (ℕ → Type 0) → Type 0
Names T h R = (a p o : ℕ) → statement_at T h a ≡ Some (Plain (Address p o)) → R o

-- Every origin is one of R.
abbrev pub Origins : (ℕ → Type 0) → List ℕ → Type 0
Origins R os = (v o : ℕ) → get_or os v 0 ≡ suc o → R o

-- Two memories, of equal length, with the same cells of R's objects.
pub record SameCells (D : List ℕ) (R : ℕ → Type 0) (cs ds : List ℕ) : Type 0 where
  pub long : length cs ≡ length ds
  pub cells : (i : ℕ) → CellOf D R i → get_or cs i 0 ≡ get_or ds i 0

-- The point P with the cells ds.
abbrev pub with_cells : Point → List ℕ → Point
with_cells P ds = record { cells = ds; values = P.values; origins = P.origins; rows = P.rows; due = P.due; steps = P.steps; status = P.status }

-- Two points that differ only in cells elsewhere.
pub record Alike (D : List ℕ) (R : ℕ → Type 0) (P Q : Point) : Type 0 where
  pub rest : with_cells P Q.cells ≡ Q
  pub memory : SameCells D R P.cells Q.cells

-- What was done from P to Q left the length of the memory and the cells elsewhere as they were, and all origins are of R.
pub record Framed (D : List ℕ) (R : ℕ → Type 0) (P Q : Point) : Type 0 where
  pub origins : Origins R Q.origins
  pub long : length Q.cells ≡ length P.cells
  pub elsewhere : (i : ℕ) → Elsewhere D R i → get_or Q.cells i 0 ≡ get_or P.cells i 0

-- All objects of the routine.
abbrev pub Own : Sections → ℕ → Type 0
Own h o = o < h.objects
