-- Causes of refusal 10 to 12 and 16: "A run checks the routine first, then 10 to 12 in the table's row order", then 16.
use Rattle.std.specs.Prelude.{ℕ, zero, suc, ◌+◌, ◌*◌, ◌-◌, Bool, true, false, not, ◌&&◌, cond, ◌||◌, List, [], ◌∷◌, ◌++◌, leb, eqb, length, get_or}
use Rattle.answers.specs.declared.refusals.Refusal.{Refusal}
use Rattle.answers.specs.declared.refusals.Refusal.TheVariants.{MemorySize, DirectoryPair, EntryLengths, EntryValue, LastCell}
use Rattle.words.specs.declared.sections.Sections.{Sections}
use Rattle.rules.specs.BoundsRules.{is_pointer, object_length, is_terminated}
use Rattle.rules.specs.declared.Environment.{Environment}
use Rattle.machine.specs.Machine.{value, low, high, bounds_true}

-- "memory above 16,777,216 cells, wrong number of pairs": one pair per object.
unfoldable pub memory_right : Sections → List ℕ → List ℕ → Bool
memory_right h D cs = leb (length cs) 16777216 && eqb (length D) (2 * h.objects)

-- Where the objects before object o end: cell 1 before the first, since "cell 0 is in no object".
unfoldable pub end_before : List ℕ → ℕ → ℕ
end_before D zero = 1
end_before D (suc o) = high D o

-- "pair at cell 0, out of order, overlapping, outside memory, other length"; "touching objects are allowed".
unfoldable pub pair_right : Environment → List ℕ → List ℕ → ℕ → Bool
pair_right E D cs o = leb (end_before D o) (low D o) && leb (high D o) (length cs) && eqb (get_or D (2 * o + 1) 0) (object_length E o)

-- "values or origins of another length": "one value per variable and one origin per variable".
unfoldable pub lengths_right : Sections → List ℕ → List ℕ → Bool
lengths_right h vs os = eqb (length vs) h.variables && eqb (length os) h.variables

-- "entry origin or bounds untrue": "0 for integers and null, else object number plus 1", which true bounds say of a pointer that is not null.
unfoldable pub entry_right : Environment → List ℕ → List ℕ → List ℕ → ℕ → Bool
entry_right E D vs os v = cond (is_pointer E v && not (eqb (value vs v) 0)) (bounds_true E D vs os v) (eqb (get_or os v 0) 0)

-- Point 7: "It refuses with 16, after 12, when such a last cell is not 0 at entry": the last cell of a terminated object.
unfoldable pub last_right : Environment → List ℕ → List ℕ → ℕ → Bool
last_right E D cs o = not (is_terminated E o) || eqb (get_or cs (high D o - 1) 0) 0

abbrev pub cons_unless : Bool → Refusal → List Refusal → List Refusal
cons_unless true r rs = rs
cons_unless false r rs = r ∷ rs

-- The refusals for the numbers from i on at which the test fails, lowest first.
unfoldable pub failures : (ℕ → Bool) → (ℕ → Refusal) → ℕ → ℕ → List Refusal
failures right r zero i = []
failures right r (suc n) i = cons_unless (right i) (r i) (failures right r n (i + 1))

-- The refusals of an entry in the order of the paper; the first counts, and a run with none is begun.
unfoldable pub entry_refusals : Sections → Environment → List ℕ → List ℕ → List ℕ → List ℕ → List Refusal
entry_refusals h E D cs vs os =
    cons_unless (memory_right h D cs) MemorySize
    (failures (pair_right E D cs) DirectoryPair h.objects 0
    ++ cons_unless (lengths_right h vs os) EntryLengths
    (failures (entry_right E D vs os) EntryValue h.variables 0 ++ failures (last_right E D cs) LastCell h.objects 0))
