-- What is claimed of every point of a begun run: the paper's demand on the checker and the plain machine together.
use Rattle.std.specs.Prelude.{ℕ, ◌+◌, ◌*◌, ◌^◌, ◌≤◌, ◌<◌, ◌≡◌, ◌≢◌, true, false, List, ℤ, length, get_or, Some}
use Rattle.sums.specs.Numbers.{bias, max_value}
use Rattle.words.specs.declared.sections.Sections.{Sections}
use Rattle.blocks.specs.Tree.{tree}
use Rattle.conditions.specs.declared.Condition.{Condition}
use Rattle.statements.specs.Statements.{statement_at}
use Rattle.statements.specs.declared.Simple.{Simple}
use Rattle.statements.specs.declared.Statement.TheVariants.{Plain, While}
use Rattle.listed.specs.Entries.{entries_of}
use Rattle.rules.proofs.ListedLaws.{EntriesTrue}
use Rattle.rules.specs.Stored.{store, new_state, safe_in}
use Rattle.rules.specs.StateBefore.{state_before}
use Rattle.rules.specs.BoundsRules.{is_pointer, object_length, in_force}
use Rattle.rules.specs.declared.Environment.{Environment}
use Rattle.machine.specs.Machine.{value, low, high, bounds_true, in_origin, none, failing, stuck, Point}
use Rattle.machine.specs.Points.{in_bundle, Access, no_access, access, access_from, LastZero}

-- ---- where a run is begun

-- "pair at cell 0, .. outside memory, other length": object o of the directory has none of these in a memory of n cells.
pub record Placed (E : Environment) (D : List ℕ) (n o : ℕ) : Type 0 where
  pub first : 1 ≤ low D o
  pub long : get_or D (2 * o + 1) 0 ≡ object_length E o
  pub inside : high D o ≤ n

-- No cell is in two objects: the pairs are "sorted by offset" and none is "overlapping".
abbrev pub Apart : List ℕ → ℕ → Type 0
Apart D objects = (o k i : ℕ) → o < objects → k < objects → low D o ≤ i → i < high D o → low D k ≤ i → i < high D k → o ≡ k

-- "A run is begun when no cause refuses it": what soundness needs of causes 10 to 12 and 16, and of the words of 32 bits.
-- Every origin is 0 or that of an object; of a pointer that is not null it is not 0, since origin 0 has no true bounds.
pub record Begun (h : Sections) (E : Environment) (D cs vs os : List ℕ) : Type 0 where
  pub pairs : length D ≡ 2 * h.objects
  pub placed : (o : ℕ) → o < h.objects → Placed E D (length cs) o
  pub apart : Apart D h.objects
  pub memory : length cs ≤ 2 ^ 24
  pub values-long : length vs ≡ h.variables
  pub origins-long : length os ≡ h.variables
  pub values-small : (x : ℕ) → get_or vs x 0 ≤ max_value
  pub cells-small : (i : ℕ) → get_or cs i 0 ≤ max_value
  pub bounds : (p : ℕ) → is_pointer E p ≡ true → bounds_true E D vs os p ≡ true
  pub origins : (v : ℕ) → get_or os v 0 ≤ h.objects
  pub last-zero : LastZero E D h.objects cs

-- ---- what holds at a point

-- An access of a memory of n cells: in the origin object of its pointer, and at one of the cells from 1 on.
pub record AccessRight (D : List ℕ) (n a origin : ℕ) : Type 0 where
  pub inside : in_origin D origin a ≡ true
  pub first : bias + 1 ≤ a
  pub last : a < bias + n

abbrev pub AccessAllowed : List ℕ → ℕ → Access → Type 0
AccessAllowed D n no_access = Unit {0}
AccessAllowed D n (access a origin) = AccessRight D n a origin

-- The claim for a point P of a run that was begun in a memory of `room` cells. (That no cell outside the objects is touched is the frame law.)
pub record Sound (T : List ℤ) (h : Sections) (E : Environment) (D : List ℕ) (room : ℕ) (L : List ℤ) (P : Point) : Type 0 where
  -- The machine is not without a step: no access that the checks let pass is outside its pointer's origin object.
  pub has-step : P.status ≢ stuck
  -- Outside bundles the declared bounds of every pointer are true; also where nothing is due, and where a check has stopped the run.
  pub bounds : in_bundle (tree T h) P.due ≡ false → (p : ℕ) → is_pointer E p ≡ true → bounds_true (in_force E P.rows) D P.values P.origins p ≡ true
  -- The access that the step from here performs is inside the origin object of its pointer, and at a cell of the memory.
  pub access-allowed : AccessAllowed D (length P.cells) (access_from T h E P.status P)
  -- Point 7: "At every point of a run the last cell of each terminated object is 0."
  pub last-zero : LastZero E D h.objects P.cells
  -- Point 9: each entry means "x <= y + k at every test", where its while is due.
  pub listed : (c : Condition) (n : ℕ) → statement_at T h P.due ≡ Some (While c n) → EntriesTrue (entries_of L P.due) (value P.values)
  -- Point 9: an access that is shown safe fails no check.
  pub safe : (s : Simple) → statement_at T h P.due ≡ Some (Plain s) → safe_in E (state_before store E L (tree T h) new_state P.due) s ≡ true
      → failing (in_force E P.rows) P.values s ≡ none
  -- The statement due is one of the table, or the number past the last.
  pub due-within : P.due ≤ h.statements
  pub cells-long : length P.cells ≡ room
  pub values-long : length P.values ≡ h.variables
  pub origins-long : length P.origins ≡ h.variables
  pub rows_long : length P.rows ≡ 16
  pub cells-small : (i : ℕ) → get_or P.cells i 0 ≤ max_value
  pub values-small : (x : ℕ) → get_or P.values x 0 ≤ max_value
