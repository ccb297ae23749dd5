-- What the tests of a field say.
use Rattle.words.specs.declared.sections.Kind.{Kind}
use Rattle.std.specs.Prelude.{ℕ, ◌+◌, ◌-◌, ◌≤◌, ◌<◌, ◌≡◌, Bool, not, ◌&&◌, ◌||◌, cond, List, ◌⊎◌, ℤ, leb, ltb, eqb, None, Option, Some}
use Rattle.std.proofs.Math.Path.{refl}
use Rattle.std.proofs.Math.Bool.{true, false}
use Rattle.std.proofs.lemmas.Bool.{false≢true}
use Rattle.std.proofs.Common.{inl, inr, leb-true, ltb-true, arith}
use Rattle.sums.specs.Numbers.{bias, zero_var}
use Rattle.words.specs.Words.{word}
use Rattle.words.specs.Fields.{plain, index_of, literal_limit, literal_value, is_below, is_constant}
use Rattle.words.specs.Sections.{is_variable, variable_start, kind_at, integer_at, pointer_at, names_integer, names_pointer, names_index, Limits}
use Rattle.words.specs.Sections.{kind_of, kind_is, array_at, string_at, object_terminated, takes_pointer, takes_object, names_array, names_string}
use Rattle.words.specs.SectionsLaws.{both, variable-limits}
use Rattle.words.specs.Typed.{IsInteger, IsPointer, IsIndex, missing, given, IsSmall}
use Rattle.words.specs.declared.sections.Sections.{Sections}
use Rattle.words.specs.declared.sections.Kind.TheVariants.{Integer, Array, String}

pub either : (a b : Bool) → (a || b) ≡ true → (a ≡ true) ⊎ (b ≡ true)
either true b e = inl refl
either false b e = inr e

-- A test that holds only where another one does.
pub implied : (a b : Bool) → (not a || b) ≡ true → a ≡ true → b ≡ true
implied true b e g = e
implied false b e g = absurd (false≢true g)

pub below_holds : (n w : ℕ) → is_below n w ≡ true → plain w < n
unfolding is_below
below_holds n w e = ltb-true (plain w) n (both (leb bias w) (ltb (plain w) n) e).1

pub literal-small : (w : ℕ) → literal_value w < literal_limit
unfolding literal_value
literal-small w = omega arith

-- A word of 0 or more is its own value; a negative one, -m, means -m + 4,294,967,296.
pub literal-plain : (n : ℕ) → n < literal_limit → literal_value (bias + n) ≡ n
unfolding literal_value
literal-plain n l = omega arith

pub literal-negative : (m : ℕ) → 1 ≤ m → m ≤ literal_limit → literal_value (bias - m) + m ≡ literal_limit
unfolding literal_value
literal-negative m l h = omega arith

pub constant-small : (w : ℕ) → is_constant w ≡ true → IsSmall w
unfolding is_constant
constant-small w e =
    let p = both (leb (bias - 65536) w) (leb w (bias + 65536)) e in
    record { low = leb-true (bias - 65536) w p.0; high = leb-true w (bias + 65536) p.1 }

module _ (table : List ℤ) (h : Sections) where
  -- A test of a kind that holds is that of a variable.
  pub kind-within : (v : ℕ) (i a t : Bool) → kind_is i a t (kind_at table h v) ≡ true → is_variable h v ≡ true
  unfolding kind_at kind_is
  kind-within v i a t e = go (is_variable h v) refl e
    where
      go : (b : Bool) → is_variable h v ≡ b → kind_is i a t (cond b (kind_of (word table (variable_start h v))) None) ≡ true → is_variable h v ≡ true
      go true q g = q
      go false q g = absurd (false≢true g)

  pub integer-limits : (v : ℕ) → integer_at table h v ≡ true → Limits h × (v < h.variables)
  unfolding integer_at
  integer-limits v e = variable-limits h v (kind-within v true false false e)

  pub pointer-limits : (v : ℕ) → pointer_at table h v ≡ true → Limits h × (v < h.variables)
  unfolding pointer_at
  pointer-limits v e = variable-limits h v (kind-within v false true true e)

  -- An integer is no pointer; a pointer of either kind is one.
  pub integer-no-pointer : (v : ℕ) → integer_at table h v ≡ true → pointer_at table h v ≡ false
  unfolding integer_at pointer_at kind_is
  integer-no-pointer v e = go (kind_at table h v) e
    where
      go : (k : Option Kind) → kind_is true false false k ≡ true → kind_is false true true k ≡ false
      go (Some Integer) g = refl
      go (Some Array) g = absurd (false≢true g)
      go (Some String) g = absurd (false≢true g)
      go None g = refl

  either-kind : (b c : Bool) (k : Option Kind) → kind_is false b c k ≡ true → kind_is false true true k ≡ true
  unfolding kind_is
  either-kind b c (Some Integer) g = g
  either-kind b c (Some Array) g = refl
  either-kind b c (Some String) g = refl
  either-kind b c None g = g

  pub array-pointer : (v : ℕ) → array_at table h v ≡ true → pointer_at table h v ≡ true
  unfolding array_at pointer_at
  array-pointer v e = either-kind true false (kind_at table h v) e

  pub string-pointer : (v : ℕ) → string_at table h v ≡ true → pointer_at table h v ≡ true
  unfolding string_at pointer_at
  string-pointer v e = either-kind false true (kind_at table h v) e

  -- What a kind 2 pointer takes.
  pub takes-pointer : (v w : ℕ) → takes_pointer table h v w ≡ true → string_at table h (plain v) ≡ true → string_at table h (plain w) ≡ true
  unfolding takes_pointer
  takes-pointer v w e g = implied (string_at table h (plain v)) (string_at table h (plain w)) e g

  pub takes-object : (v w : ℕ) → takes_object table h v w ≡ true → string_at table h (plain v) ≡ true → object_terminated table h (plain w) ≡ true
  unfolding takes_object
  takes-object v w e g = implied (string_at table h (plain v)) (object_terminated table h (plain w)) e g

  pub integer-named : (w : ℕ) → names_integer table h w ≡ true → IsInteger table h (plain w)
  unfolding names_integer
  integer-named w e = let k = (both (leb bias w) (integer_at table h (plain w)) e).1 in record { below = (integer-limits (plain w) k).1; kind = k }

  pub pointer-named : (w : ℕ) → names_pointer table h w ≡ true → IsPointer table h (plain w)
  unfolding names_pointer
  pointer-named w e = let k = (both (leb bias w) (pointer_at table h (plain w)) e).1 in record { below = (pointer-limits (plain w) k).1; kind = k }

  both_true : (a b : Bool) → a ≡ true → b ≡ true → (a && b) ≡ true
  both_true true b p q = q
  both_true false b p q = p

  -- A field that names a pointer of one kind names a pointer.
  pub array-names : (w : ℕ) → names_array table h w ≡ true → names_pointer table h w ≡ true
  unfolding names_array names_pointer
  array-names w e = let p = both (leb bias w) (array_at table h (plain w)) e in
      both_true (leb bias w) (pointer_at table h (plain w)) p.0 (array-pointer (plain w) p.1)

  pub string-names : (w : ℕ) → names_string table h w ≡ true → names_pointer table h w ≡ true
  unfolding names_string names_pointer
  string-names w e = let p = both (leb bias w) (string_at table h (plain w)) e in
      both_true (leb bias w) (pointer_at table h (plain w)) p.0 (string-pointer (plain w) p.1)

  pub array-named : (w : ℕ) → names_array table h w ≡ true → IsPointer table h (plain w)
  array-named w e = pointer-named w (array-names w e)

  pub string-named : (w : ℕ) → names_string table h w ≡ true → IsPointer table h (plain w)
  string-named w e = pointer-named w (string-names w e)

  pub index-named : (w : ℕ) → names_index table h w ≡ true → IsIndex table h (index_of w)
  unfolding names_index index_of
  index-named w e = go (eqb w (bias - 1)) e
    where
      go : (b : Bool) → (b || names_integer table h w) ≡ true → IsIndex table h (cond b zero_var (plain w))
      go true g = missing refl
      go false g = given (integer-named w g)
