-- Laws of the reading of variables.
use Rattle.table.specs.declared.variables.BoundsRow.{BoundsRow}
use Rattle.std.specs.Prelude.{ℕ, ◌+◌, ◌<◌, ◌≤◌, ◌≡◌, Bool, ◌&&◌, cond, List, ℤ, leb, eqb, None, Option, Some}
use Rattle.std.proofs.Math.Path.{refl}
use Rattle.std.proofs.Math.Bool.{true, false}
use Rattle.std.proofs.Math.Dec.{ltb}
use Rattle.std.proofs.Common.{arith, leb-true}
use Rattle.sums.specs.Numbers.{bias}
use Rattle.words.specs.Fields.{is_zero, is_constant, plain}
use Rattle.words.specs.Sections.{is_variable, variable_start, kind_at, integer_at, pointer_at}
use Rattle.words.specs.Sections.{names_pointer, names_index, Limits, in_limits, row_start, kind_of, kind_is}
use Rattle.words.specs.SectionsLaws.{both, variable-limits}
use Rattle.words.specs.NameLaws.{constant-small, pointer-named, index-named}
use Rattle.words.specs.declared.sections.Sections.{Sections}
use Rattle.table.specs.Variables.{variable_words_at, end_zero, end_right, end_of, integer_record, pointer_record}
use Rattle.table.specs.Variables.{variable_of, variable_at, row_words_at, row_of, row_at, is_size, size_of}
use Rattle.table.specs.Typed.{EndTyped, PointerTyped, VariableTyped, RowTyped}
use Rattle.table.specs.declared.variables.Variable.{Variable}
use Rattle.table.specs.declared.variables.Variable.TheVariants.{Integer, Pointer}
use Rattle.table.specs.declared.variables.EndWords.{EndWords}
use Rattle.table.specs.declared.variables.End.{End}

-- A size is at most 8.
size_small : (w : ℕ) → is_size w ≡ true → size_of w ≤ 8
unfolding is_size size_of
size_small w t = go (eqb w bias)
  where
    go : (b : Bool) → cond b 1 (plain w) ≤ 8
    go true = omega arith
    go false = omega (arith, leb-true w (bias + 8) (both (leb bias w) (leb w (bias + 8)) t).1)

module _ (table : List ℤ) (h : Sections) where
  abbrev TypedRead : ℕ → Option Variable → Type 0
  TypedRead v (Some x) = VariableTyped table h v x
  TypedRead v None = Unit {0}

  end-typed : (e : EndWords) → end_right table h e ≡ true → EndTyped table h (end_of e)
  unfolding end_right end_of
  end-typed e t =
      let p = both (names_pointer table h e.pointer && names_index table h e.integer) (is_constant e.constant) t in
      let q = both (names_pointer table h e.pointer) (names_index table h e.integer) p.0 in
      record {
        pointer = pointer-named table h e.pointer q.0;
        integer = index-named table h e.integer q.1;
        constant = constant-small e.constant p.1;
      }

  -- The kind of a variable is that of the first word of its record.
  kind-word : (v : ℕ) → is_variable h v ≡ true → kind_at table h v ≡ kind_of (variable_words_at table (variable_start h v)).kind
  unfolding kind_at variable_words_at
  kind-word v e = simp e

  integer-kind : (v : ℕ) → is_variable h v ≡ true → integer_record (variable_words_at table (variable_start h v)) ≡ true → integer_at table h v ≡ true
  unfolding integer_at integer_record kind_of kind_is
  integer-kind v e t =
      let w = variable_words_at table (variable_start h v) in
      let p = both (is_zero w.kind && is_zero w.size && end_zero w.lower) (end_zero w.upper) t in
      let q = both (is_zero w.kind && is_zero w.size) (end_zero w.lower) p.0 in
      rw (kind-word v e, (both (is_zero w.kind) (is_zero w.size) q.0).0)

  pointer-kind : (v : ℕ) → is_variable h v ≡ true → pointer_record table h (variable_words_at table (variable_start h v)) ≡ true →
      PointerTyped table h v (size_of (variable_words_at table (variable_start h v)).size) (end_of (variable_words_at table (variable_start h v)).lower)
      (end_of (variable_words_at table (variable_start h v)).upper)
  unfolding pointer_at pointer_record
  pointer-kind v e t =
      let w = variable_words_at table (variable_start h v) in
      let p = both (kind_is false true true (kind_of w.kind) && is_size w.size && end_right table h w.lower) (end_right table h w.upper) t in
      let q = both (kind_is false true true (kind_of w.kind) && is_size w.size) (end_right table h w.lower) p.0 in
      record {
        kind = rw (kind-word v e) (both (kind_is false true true (kind_of w.kind)) (is_size w.size) q.0).0;
        few = size_small w.size (both (kind_is false true true (kind_of w.kind)) (is_size w.size) q.0).1;
        lower = end-typed w.lower q.1;
        upper = end-typed w.upper p.1;
      }

  record-typed : (v : ℕ) → is_variable h v ≡ true → TypedRead v (variable_of table h (variable_words_at table (variable_start h v)))
  unfolding variable_of
  record-typed v e =
      let w = variable_words_at table (variable_start h v) in
      go (integer_record w) (pointer_record table h w) (integer-kind v e) (pointer-kind v e)
    where
      go : (a b : Bool) →
          (a ≡ true → integer_at table h v ≡ true) →
          (b ≡ true → PointerTyped table h v (size_of (variable_words_at table (variable_start h v)).size)
          (end_of (variable_words_at table (variable_start h v)).lower) (end_of (variable_words_at table (variable_start h v)).upper)) →
          TypedRead v (cond a (Some Integer) (cond b (Some (Pointer (size_of (variable_words_at table (variable_start h v)).size)
          (end_of (variable_words_at table (variable_start h v)).lower) (end_of (variable_words_at table (variable_start h v)).upper))) None))
      go true b i p = i refl
      go false true i p = p refl
      go false false i p = tt

  variable-typed : (v : ℕ) → TypedRead v (variable_at table h v)
  unfolding variable_at
  variable-typed v = go (is_variable h v) (record-typed v)
    where
      go : (b : Bool) → (b ≡ true → TypedRead v (variable_of table h (variable_words_at table (variable_start h v)))) →
          TypedRead v (cond b (variable_of table h (variable_words_at table (variable_start h v))) None)
      go true k = k refl
      go false k = tt

-- A variable that was read is an integer, or a pointer whose ends name existing variables of the right kinds with constants in range.
-- A row that was read: what its ends name.
module _ (table : List ℤ) (h : Sections) where
  abbrev TypedRow : Option BoundsRow → Type 0
  TypedRow (Some b) = RowTyped table h b.lower b.upper
  TypedRow None = Unit {0}

  row_typed : (r : ℕ) → TypedRow (row_at table h r)
  unfolding row_at row_of
  row_typed r =
      let w = row_words_at table (row_start h r) in
      go (in_limits h && ltb r h.rows) (end_right table h w.lower) (end_right table h w.upper) (end-typed table h w.lower)
      (end-typed table h w.upper)
    where
      go : (a b c : Bool) {l u : End} → (b ≡ true → EndTyped table h l) → (c ≡ true → EndTyped table h u)
          → TypedRow (cond a (cond (b && c) (Some (record { lower = l; upper = u })) None) None)
      go true true true p q = record { lower = p refl; upper = q refl }
      go true true false p q = tt
      go true false c p q = tt
      go false b c p q = tt

pub row-read-typed : (table : List ℤ) (h : Sections) (r : ℕ) (l u : End) → row_at table h r ≡ Some (record { lower = l; upper = u }) → RowTyped table h l u
row-read-typed table h r l u e = rw e at (row_typed table h r)

pub variable-read-typed : (table : List ℤ) (h : Sections) (v : ℕ) (x : Variable) → variable_at table h v ≡ Some x → VariableTyped table h v x
variable-read-typed table h v x e = rw e at (variable-typed table h v)

pub variable-read-limits : (table : List ℤ) (h : Sections) (v : ℕ) (x : Variable) → variable_at table h v ≡ Some x → Limits h × (v < h.variables)
unfolding variable_at
variable-read-limits table h v x e = go (is_variable h v) refl e
  where
    go : (b : Bool) → is_variable h v ≡ b → cond b (variable_of table h (variable_words_at table (variable_start h v))) None ≡ Some x
        → Limits h × (v < h.variables)
    go true q g = variable-limits h v q
    go false q g = let z : ◌≡◌ {A = ℕ} 0 1 = cc in absurd (omega arith)
