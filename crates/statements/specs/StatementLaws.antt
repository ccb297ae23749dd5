-- Laws of the reading of statements.
use Rattle.std.specs.Prelude.{ℕ, ◌-◌, ◌^◌, ◌<◌, ◌≡◌, refl, Bool, true, false, ◌&&◌, ◌||◌, cond, List, ℤ, eqb, None, Option, Some}
use Rattle.std.proofs.Math.Dec.{ltb}
use borrow.Author.Tests.{ltb-true}
use Rattle.std.proofs.Common.{arith}
use Rattle.words.specs.Words.{fields_at}
use Rattle.words.specs.declared.Fields.{Fields}
use Rattle.sums.specs.Numbers.{bias, zero_var}
use Rattle.words.specs.Fields.{plain, index_of, is_count, is_below, is_constant}
use Rattle.words.specs.Sections.{in_limits, statement_start, names_integer, names_pointer, names_index, Limits, takes_pointer, takes_object}
use Rattle.words.specs.SectionsLaws.{both, statement-limits}
use Rattle.words.specs.NameLaws.{below_holds, literal-small, constant-small, integer-named, pointer-named, index-named, takes-pointer, takes-object}
use Rattle.words.specs.declared.sections.Sections.{Sections}
use Rattle.conditions.specs.Conditions.{condition_right}
use Rattle.conditions.specs.ConditionLaws.{condition-typed}
use Rattle.conditions.specs.declared.Condition.{Condition}
use Rattle.statements.specs.Statements.{read_if, unused_from, literal_read, add_constant_read, arithmetic_read, null_read}
use Rattle.statements.specs.Statements.{address_read, pointer_offset_read, pointer_index_read, load_read, store_read}
use Rattle.statements.specs.Statements.{check_read, if_read, while_read, bundle_read, kind_read, statement_at, declare_read, is_argument, call_site, call_read}
use Rattle.statements.specs.Typed.{WellTyped, IsArgument, missing, given}
use Rattle.statements.specs.declared.Statement.{Statement}
use Rattle.statements.specs.declared.Statement.TheVariants.{If, While, Bundle}

argument-named : (h : Sections) (w : ℕ) → is_argument h w ≡ true → IsArgument h (index_of w)
unfolding is_argument index_of
argument-named h w e = go (eqb w (bias - 1)) e
  where
    go : (b : Bool) → (b || is_below h.variables w) ≡ true → IsArgument h (cond b zero_var (plain w))
    go true g = missing refl
    go false g = given (below_holds h.variables w g)

module _ (table : List ℤ) (h : Sections) where
  abbrev TypedRead : Option Statement → Type 0
  TypedRead (Some s) = WellTyped table h s
  TypedRead None = Unit {0}

  -- A record that is read where its tests hold is well typed if they make it so.
  typed₂ : (a b : Bool) (s : Statement) → (a ≡ true → b ≡ true → WellTyped table h s) → TypedRead (read_if (a && b) s)
  typed₂ true true s k = k refl refl
  typed₂ true false s k = tt
  typed₂ false b s k = tt

  typed₃ : (a b c : Bool) (s : Statement) → (a ≡ true → b ≡ true → c ≡ true → WellTyped table h s) → TypedRead (read_if (a && b && c) s)
  typed₃ a b c s k = typed₂ (a && b) c s (λ e. let p = both a b e in k p.0 p.1)

  typed₄ : (a b c d : Bool) (s : Statement) → (a ≡ true → b ≡ true → c ≡ true → d ≡ true → WellTyped table h s) → TypedRead (read_if (a && b && c && d) s)
  typed₄ a b c d s k = typed₃ (a && b) c d s (λ e. let p = both a b e in k p.0 p.1)

  typed₅ : (a b c d f : Bool) (s : Statement) → (a ≡ true → b ≡ true → c ≡ true → d ≡ true → f ≡ true → WellTyped table h s)
      → TypedRead (read_if (a && b && c && d && f) s)
  typed₅ a b c d f s k = typed₄ (a && b) c d f s (λ e. let p = both a b e in k p.0 p.1)

  -- Which of two readings is taken makes no difference.
  typed-pick : (b : Bool) (r s : Option Statement) → TypedRead r → TypedRead s → TypedRead (cond b r s)
  typed-pick true r s p q = p
  typed-pick false r s p q = q

  abbrev names-integer : ℕ → Bool
  names-integer w = names_integer table h w

  abbrev names-pointer : ℕ → Bool
  names-pointer w = names_pointer table h w

  module _ (f : Fields) where
    literal-typed : TypedRead (literal_read table h f)
    unfolding literal_read
    literal-typed =
        typed₂ (names-integer f.first) (unused_from 3 f) _
        (λ a b. record { target = integer-named table h f.first a; value = literal-small f.second })

    add-constant-typed : TypedRead (add_constant_read table h f)
    unfolding add_constant_read
    add-constant-typed =
        typed₄ (names-integer f.first) (names-integer f.second) (is_constant f.third) (unused_from 4 f) _
        (λ a b c d. record {
          target = integer-named table h f.first a;
          source = integer-named table h f.second b;
          constant = constant-small f.third c;
        })

    arithmetic-typed : TypedRead (arithmetic_read table h f)
    unfolding arithmetic_read
    arithmetic-typed =
        typed₅ (names-integer f.first) (names-integer f.second) (names-integer f.third) (is_below 3 f.fourth) (unused_from 5 f) _
        (λ a b c d e.
        record {
          target = integer-named table h f.first a;
          left = integer-named table h f.second b;
          right = integer-named table h f.third c;
          operation = below_holds 3 f.fourth d;
        })

    null-typed : TypedRead (null_read table h f)
    unfolding null_read
    null-typed = typed₂ (names-pointer f.first) (unused_from 2 f) _ (λ a b. pointer-named table h f.first a)

    address-typed : TypedRead (address_read table h f)
    unfolding address_read
    address-typed =
        typed₄ (names-pointer f.first) (is_below h.objects f.second) (takes_object table h f.first f.second) (unused_from 3 f) _
        (λ a b c d. record {
          target = pointer-named table h f.first a;
          object = below_holds h.objects f.second b;
          fits = takes-object table h f.first f.second c;
        })

    pointer-offset-typed : TypedRead (pointer_offset_read table h f)
    unfolding pointer_offset_read
    pointer-offset-typed =
        typed₅ (names-pointer f.first) (names-pointer f.second) (is_constant f.third) (takes_pointer table h f.first f.second) (unused_from 4 f) _
        (λ a b c d e.
        record {
          target = pointer-named table h f.first a;
          source = pointer-named table h f.second b;
          constant = constant-small f.third c;
          fits = takes-pointer table h f.first f.second d;
        })

    pointer-index-typed : TypedRead (pointer_index_read table h f)
    unfolding pointer_index_read
    pointer-index-typed =
        typed₅ (names-pointer f.first) (names-pointer f.second) (names-integer f.third)
        (takes_pointer table h f.first f.second) (unused_from 4 f) _
        (λ a b c d e.
        record {
          target = pointer-named table h f.first a;
          source = pointer-named table h f.second b;
          index = integer-named table h f.third c;
          fits = takes-pointer table h f.first f.second d;
        })

    load_typed : TypedRead (load_read table h f)
    unfolding load_read
    load_typed =
        typed₅ (names-integer f.first) (names-pointer f.second) (names_index table h f.third) (is_constant f.fourth) (unused_from 5 f) _
        (λ a b c d e.
        record {
          value = integer-named table h f.first a;
          pointer = pointer-named table h f.second b;
          index = index-named table h f.third c;
          constant = constant-small f.fourth d;
        })

    store-typed : TypedRead (store_read table h f)
    unfolding store_read
    store-typed =
        typed₅ (names-pointer f.first) (names_index table h f.second) (is_constant f.third) (names-integer f.fourth) (unused_from 5 f) _
        (λ a b c d e.
        record {
          value = integer-named table h f.fourth d;
          pointer = pointer-named table h f.first a;
          index = index-named table h f.second b;
          constant = constant-small f.third c;
        })

    check-typed : TypedRead (check_read table h f)
    unfolding check_read
    check-typed = typed₂ (condition_right table h f) (unused_from 5 f) _ (λ a b. condition-typed table h f a)

    declare-typed : TypedRead (declare_read table h f)
    unfolding declare_read
    declare-typed =
        typed₃ (names-pointer f.first) (is_below h.rows f.second) (unused_from 3 f) _
        (λ a b c. record { pointer = pointer-named table h f.first a; row = below_holds h.rows f.second b })

    if-typed : TypedRead (if_read table h f)
    unfolding if_read
    if-typed =
        typed₃ (condition_right table h f) (is_count f.fifth) (is_count f.sixth) _
        (λ a b c. record {
          condition = condition-typed table h f a;
          then-count = below_holds (2 ^ 31) f.fifth b;
          else-count = below_holds (2 ^ 31) f.sixth c;
        })

    while-typed : TypedRead (while_read table h f)
    unfolding while_read
    while-typed =
        typed₃ (condition_right table h f) (is_count f.fifth) (unused_from 6 f) _
        (λ a b c. record { condition = condition-typed table h f a; count = below_holds (2 ^ 31) f.fifth b })

    bundle-typed : TypedRead (bundle_read f)
    unfolding bundle_read
    bundle-typed = typed₂ (ltb (plain f.first) (2 ^ 31)) (unused_from 2 f) _ (λ a b. ltb-true (plain f.first) (2 ^ 31) a)

    call-typed : TypedRead (call_read table h f)
    unfolding call_read call_site
    call-typed =
        typed₅ (names_index table h f.second) (is_argument h f.third) (is_argument h f.fourth) (is_argument h f.fifth) (is_argument h f.sixth) _
        (λ a b c d e.
        record {
          result = index-named table h f.second a;
          first = argument-named h f.third b;
          second = argument-named h f.fourth c;
          third = argument-named h f.fifth d;
          fourth = argument-named h f.sixth e;
        })

    abbrev is : ℕ → Bool
    is n = eqb (plain f.kind) n

    kind-typed : TypedRead (kind_read table h f)
    unfolding kind_read
    kind-typed =
        typed-pick (is 1) (literal_read table h f) _ literal-typed
        (typed-pick (is 2) (add_constant_read table h f) _ add-constant-typed
        (typed-pick (is 3) (arithmetic_read table h f) _ arithmetic-typed
        (typed-pick (is 4) (null_read table h f) _ null-typed
        (typed-pick (is 5) (address_read table h f) _ address-typed
        (typed-pick (is 6) (pointer_offset_read table h f) _ pointer-offset-typed
        (typed-pick (is 7) (pointer_index_read table h f) _ pointer-index-typed
        (typed-pick (is 8) (load_read table h f) _ load_typed
        (typed-pick (is 9) (store_read table h f) _ store-typed
        (typed-pick (is 10) (check_read table h f) _ check-typed
        (typed-pick (is 11) (if_read table h f) _ if-typed
        (typed-pick (is 12) (while_read table h f) _ while-typed
        (typed-pick (is 13) (bundle_read f) _ bundle-typed
        (typed-pick (is 14) (declare_read table h f) _ declare-typed
        (typed-pick (is 15) (call_read table h f) None call-typed tt))))))))))))))

  statement-typed : (a : ℕ) → TypedRead (statement_at table h a)
  unfolding statement_at
  statement-typed a = typed-pick (in_limits h && ltb a h.statements) (kind_read table h (fields_at table (statement_start h a))) None
      (kind-typed (fields_at table (statement_start h a))) tt

-- A statement that was read is well typed.
pub read-typed : (table : List ℤ) (h : Sections) (a : ℕ) (s : Statement) → statement_at table h a ≡ Some s → WellTyped table h s
read-typed table h a s e = rw e at (statement-typed table h a)

-- A statement that was read has a number below the number of statements.
pub read-limits : (table : List ℤ) (h : Sections) (a : ℕ) (s : Statement) → statement_at table h a ≡ Some s → Limits h × (a < h.statements)
unfolding statement_at
read-limits table h a s e = go (in_limits h && ltb a h.statements) refl e
  where
    go : (b : Bool) → (in_limits h && ltb a h.statements) ≡ b → cond b (kind_read table h (fields_at table (statement_start h a))) None ≡ Some s
        → Limits h × (a < h.statements)
    go true q g = statement-limits h a q
    go false q g = let z : ◌≡◌ {A = ℕ} 0 1 = cc in absurd (omega arith)

pub read-within : (table : List ℤ) (h : Sections) (a : ℕ) (s : Statement) → statement_at table h a ≡ Some s → a < h.statements
read-within table h a s e = (read-limits table h a s e).1

-- The counts of a head that was read.
pub read-counts-if : (table : List ℤ) (h : Sections) (a : ℕ) (c : Condition) (n m : ℕ) → statement_at table h a ≡ Some (If c n m) → (n < 2 ^ 31) × (m < 2 ^ 31)
read-counts-if table h a c n m e = let t = read-typed table h a (If c n m) e in (t.then-count, t.else-count)

pub read-counts-while : (table : List ℤ) (h : Sections) (a : ℕ) (c : Condition) (n : ℕ) → statement_at table h a ≡ Some (While c n) → n < 2 ^ 31
read-counts-while table h a c n e = (read-typed table h a (While c n) e).count

pub read-counts-bundle : (table : List ℤ) (h : Sections) (a n : ℕ) → statement_at table h a ≡ Some (Bundle n) → n < 2 ^ 31
read-counts-bundle table h a n e = read-typed table h a (Bundle n) e
