-- A record that reads is decoded as the statement that it reads as.
use Rattle.std.specs.Prelude.{ℕ, ◌+◌, ◌-◌, ◌^◌, ◌≤◌, ◌<◌, Bool, ◌&&◌, ◌||◌, List, ◌⊎◌, ℤ, leb, ltb, None, Option, Some}
use Rattle.std.proofs.Math.Path.{◌≡◌, refl}
use Rattle.std.proofs.Common.{sym, ap, ◌∙◌, inl, inr, leb-true, ltb-true, eqb-true, arith}
use Rattle.std.proofs.Math.Bool.{true, false, cond}
use Rattle.std.proofs.lemmas.Bool.{false≢true}
use Rattle.std.proofs.Math.Logic.{⊎_elim}
use Rattle.std.proofs.Math.Dec.{eqb}
use Rattle.sums.specs.Numbers.{bias, zero_var}
use Rattle.words.specs.Words.{fields_at}
use Rattle.words.specs.declared.Fields.{Fields}
use Rattle.words.specs.Fields.{plain, index_of, literal_value, is_zero, is_count, is_below, is_constant}
use Rattle.words.specs.Sections.{in_limits, statement_start, integer_at, pointer_at, names_integer, names_pointer}
use Rattle.words.specs.Sections.{Limits, names_index, takes_pointer, takes_object, names_array, names_string}
use Rattle.words.specs.SectionsLaws.{both}
use Rattle.words.specs.NameLaws.{either, integer-limits, pointer-limits, array-names, string-names}
use Rattle.words.specs.declared.sections.Sections.{Sections}
use Rattle.conditions.specs.Conditions.{same_kind, beside_literal, condition_right, right_of, offset_of, condition_of}
use Rattle.conditions.specs.declared.Condition.{Condition}
use Rattle.statements.specs.Statements.{read_if, unused_from, literal_read, add_constant_read, arithmetic_read, null_read, address_read, pointer_offset_read}
use Rattle.statements.specs.Statements.{pointer_index_read, load_read, store_read, check_read, if_read}
use Rattle.statements.specs.Statements.{while_read, bundle_read, kind_read, statement_at, declare_read, is_argument, call_site, call_read}
use Rattle.statements.specs.StatementLaws.{read-limits}
use Rattle.statements.specs.declared.CallSite.{CallSite}
use Rattle.statements.specs.declared.Statement.{Statement}
use Rattle.statements.specs.declared.Statement.TheVariants.{Plain, If, While, Bundle, Call}
use Rattle.statements.specs.Decode.{unsigned, decoded_index, decoded_right, decoded_offset, decoded_condition, decoded_call, decoded_as}
use Rattle.statements.specs.Decode.{decoded_at, decoded_call_at}

-- ---- a field that the readers let pass is its 32 bits

below-unsigned : (n w : ℕ) → n ≤ 2 ^ 32 → is_below n w ≡ true → unsigned w ≡ plain w
unfolding is_below
below-unsigned n w l e =
    let p = both (leb bias w) (ltb (plain w) n) e in
    let a : bias ≤ w = leb-true bias w p.0 in
    let b : plain w < n = ltb-true (plain w) n p.1 in
    omega arith

condition-same : (a b c d x y z u : ℕ) → a ≡ x → b ≡ y → c ≡ z → d ≡ u →
    ◌≡◌ {A = Condition} (record { left = a; relation = b; right = c; offset = d }) (record { left = x; relation = y; right = z; offset = u })
condition-same a b c d x y z u p q r s = rw (p, q, r, s)

module _ (table : List ℤ) (h : Sections) where
  -- A field that names a variable, by a test that variables alone pass.
  variable-unsigned : (at : ℕ → Bool) → ((v : ℕ) → at v ≡ true → Limits h × (v < h.variables)) → (w : ℕ) → (leb bias w && at (plain w)) ≡ true
      → unsigned w ≡ plain w
  variable-unsigned at within w e =
      let p = both (leb bias w) (at (plain w)) e in
      let a : bias ≤ w = leb-true bias w p.0 in
      let l = within (plain w) p.1 in
      omega (arith, a, l.1, l.0.variables)

  integer-unsigned : (w : ℕ) → names_integer table h w ≡ true → unsigned w ≡ plain w
  unfolding names_integer
  integer-unsigned = variable-unsigned (integer_at table h) (integer-limits table h)

  pointer-unsigned : (w : ℕ) → names_pointer table h w ≡ true → unsigned w ≡ plain w
  unfolding names_pointer
  pointer-unsigned = variable-unsigned (pointer_at table h) (pointer-limits table h)

  -- An object or a row, beside a pointer.
  item-unsigned : (n v w : ℕ) → (Limits h → n ≤ 2 ^ 32) → names_pointer table h v ≡ true → is_below n w ≡ true → unsigned w ≡ plain w
  unfolding names_pointer
  item-unsigned n v w few e = below-unsigned n w (few (pointer-limits table h (plain v) (both (leb bias v) (pointer_at table h (plain v)) e).1).0)

  object-unsigned : (v w : ℕ) → names_pointer table h v ≡ true → is_below h.objects w ≡ true → unsigned w ≡ plain w
  object-unsigned v w = item-unsigned h.objects v w (λ l. omega (arith, l.objects))

  row-unsigned : (v w : ℕ) → names_pointer table h v ≡ true → is_below h.rows w ≡ true → unsigned w ≡ plain w
  row-unsigned v w = item-unsigned h.rows v w (λ l. omega (arith, l.rows))

  index-unsigned : (w : ℕ) → names_index table h w ≡ true → decoded_index w ≡ index_of w
  unfolding names_index index_of decoded_index
  index-unsigned w e = go (eqb w (bias - 1)) e
    where
      go : (b : Bool) → (b || names_integer table h w) ≡ true → cond b zero_var (unsigned w) ≡ cond b zero_var (plain w)
      go true g = refl
      go false g = integer-unsigned w g

  same-unsigned : (v w : ℕ) → same_kind table h v w ≡ true → (unsigned v ≡ plain v) × (unsigned w ≡ plain w)
  unfolding same_kind
  same-unsigned v w e =
      ⊎_elim
      (λ (j : (names_integer table h v && names_integer table h w || names_array table h v && names_array table h w) ≡ true).
      ⊎_elim
      (λ (i : (names_integer table h v && names_integer table h w) ≡ true).
      let p = both (names_integer table h v) (names_integer table h w) i in (integer-unsigned v p.0, integer-unsigned w p.1))
      (λ (i : (names_array table h v && names_array table h w) ≡ true).
      let p = both (names_array table h v) (names_array table h w) i in
      (pointer-unsigned v (array-names table h v p.0), pointer-unsigned w (array-names table h w p.1)))
      (either (names_integer table h v && names_integer table h w) (names_array table h v && names_array table h w) j))
      (λ (i : (names_string table h v && names_string table h w) ≡ true).
      let p = both (names_string table h v) (names_string table h w) i in
      (pointer-unsigned v (string-names table h v p.0), pointer-unsigned w (string-names table h w p.1)))
      (either (names_integer table h v && names_integer table h w || names_array table h v && names_array table h w)
      (names_string table h v && names_string table h w) e)

  beside-unsigned : (v w : ℕ) → beside_literal table h v w ≡ true → unsigned v ≡ plain v
  unfolding beside_literal
  beside-unsigned v w e =
      ⊎_elim (λ (i : names_integer table h v ≡ true). integer-unsigned v i)
      (λ (i : (names_pointer table h v && is_zero w) ≡ true). pointer-unsigned v (both (names_pointer table h v) (is_zero w) i).0)
      (either (names_integer table h v) (names_pointer table h v && is_zero w) e)

  -- The left variable, and the right side by its form.
  sides-unsigned : (form v w : ℕ) → (is_zero form && same_kind table h v w || eqb form (bias + 1) && beside_literal table h v w) ≡ true →
      (unsigned v ≡ plain v) × (decoded_right form w ≡ right_of form w) × (decoded_offset form w ≡ offset_of form w)
  unfolding decoded_right decoded_offset right_of offset_of
  sides-unsigned form v w e = go (is_zero form) (eqb form (bias + 1)) (eqb-true form bias) (eqb-true form (bias + 1)) (either _ _ e)
    where
      go : (z l : Bool) → (z ≡ true → form ≡ bias) → (l ≡ true → form ≡ bias + 1) →
          ((z && same_kind table h v w) ≡ true) ⊎ ((l && beside_literal table h v w) ≡ true) →
          (unsigned v ≡ plain v) × (cond z (unsigned w) zero_var ≡ cond z (plain w) zero_var) × (cond z 0 (literal_value w) ≡ cond z 0 (literal_value w))
      go true l p q (inl i) = let s = same-unsigned v w i in (s.0, s.1, refl)
      go true true p q (inr i) = let a = p refl in let b = q refl in absurd (omega arith)
      go true false p q (inr i) = absurd (false≢true i)
      go false l p q (inl i) = absurd (false≢true i)
      go false true p q (inr i) = (beside-unsigned v w i, refl, refl)
      go false false p q (inr i) = absurd (false≢true i)

  condition-unsigned : (f : Fields) → condition_right table h f ≡ true → decoded_condition f ≡ condition_of f
  unfolding condition_right decoded_condition condition_of
  condition-unsigned f e =
      let p = both (is_below 6 f.second)
      (is_zero f.third && same_kind table h f.first f.fourth || eqb f.third (bias + 1) && beside_literal table h f.first f.fourth) e in
      let s = sides-unsigned f.third f.first f.fourth p.1 in
      condition-same _ _ _ _ _ _ _ _ s.0 (below-unsigned 6 f.second (omega arith) p.0) s.1 s.2

  argument-unsigned : Limits h → (w : ℕ) → is_argument h w ≡ true → decoded_index w ≡ index_of w
  unfolding is_argument index_of decoded_index
  argument-unsigned l w e = go (eqb w (bias - 1)) e
    where
      go : (b : Bool) → (b || is_below h.variables w) ≡ true → cond b zero_var (unsigned w) ≡ cond b zero_var (plain w)
      go true g = refl
      go false g = below-unsigned h.variables w (omega (arith, l.variables)) g

call_same : (k a b c d e v w x y z : ℕ) → a ≡ v → b ≡ w → c ≡ x → d ≡ y → e ≡ z →
    ◌≡◌ {A = CallSite} (record { callee = k; result = a; first = b; second = c; third = d; fourth = e })
    (record { callee = k; result = v; first = w; second = x; third = y; fourth = z })
call_same k a b c d e v w x y z p q r s t = rw (p, q, r, s, t)

-- ---- records

read-if : (b : Bool) (s t : Statement) → read_if b s ≡ Some t → s ≡ t
read-if true s t e = cc
read-if false s t e = let z : ◌≡◌ {A = ℕ} 0 1 = cc in absurd (omega arith)

-- A record that is read where its tests hold, and decoded as the same then.
read_as : (b : Bool) (s u t : Statement) → (b ≡ true → u ≡ s) → read_if b s ≡ Some t → u ≡ t
read_as true s u t g e = g refl ∙ read-if true s t e
read_as false s u t g e = let z : ◌≡◌ {A = ℕ} 0 1 = cc in absurd (omega arith)

unread : (s t : Statement) → None ≡ Some t → s ≡ t
unread s t e = let z : ◌≡◌ {A = ℕ} 0 1 = cc in absurd (omega arith)

-- Which of two records it is makes no difference.
either-record : (b : Bool) (r q : Option Statement) (s u t : Statement) → (r ≡ Some t → s ≡ t) → (q ≡ Some t → u ≡ t) → cond b r q ≡ Some t → cond b s u ≡ t
either-record true r q s u t f g e = f e
either-record false r q s u t f g e = g e

within : (b : Bool) (r : Option Statement) (t : Statement) → cond b r None ≡ Some t → r ≡ Some t
within true r t e = e
within false r t e = let z : ◌≡◌ {A = ℕ} 0 1 = cc in absurd (omega arith)

-- The last kind is decoded in any case.
last : (b : Bool) (r : Option Statement) (s t : Statement) → (r ≡ Some t → s ≡ t) → cond b r None ≡ Some t → s ≡ t
last true r s t f e = f e
last false r s t f e = unread s t e

-- Tests that hold together.
both₃ : (a b c : Bool) → (a && b && c) ≡ true → (a ≡ true) × (b ≡ true)
both₃ a b c e = both a b (both (a && b) c e).0

both₄ : (a b c d : Bool) → (a && b && c && d) ≡ true → (a ≡ true) × (b ≡ true) × (c ≡ true)
both₄ a b c d e = let p = both₃ (a && b) c d e in let q = both a b p.0 in (q.0, q.1, p.1)

both₅ : (a b c d f : Bool) → (a && b && c && d && f) ≡ true → (a ≡ true) × (b ≡ true) × (c ≡ true) × (d ≡ true)
both₅ a b c d f e = let p = both₄ (a && b) c d f e in let q = both a b p.0 in (q.0, q.1, p.1, p.2)

-- A kind by which a record reads is its 32 bits.
known : (b : Bool) (r q : Option Statement) (t : Statement) (A : Type 0) → (b ≡ true → A) → (q ≡ Some t → A) → cond b r q ≡ Some t → A
known true r q t A f g e = f refl
known false r q t A f g e = g e

call-unsigned : (table : List ℤ) (h : Sections) → Limits h → (f : Fields)
    → (names_index table h f.second && is_argument h f.third && is_argument h f.fourth && is_argument h f.fifth && is_argument h f.sixth) ≡ true
    → decoded_call f ≡ call_site f
unfolding decoded_call call_site
call-unsigned table h l f e =
    let p = both₅ (names_index table h f.second) (is_argument h f.third) (is_argument h f.fourth) (is_argument h f.fifth) (is_argument h f.sixth) e in
    let q = both (names_index table h f.second && is_argument h f.third && is_argument h f.fourth && is_argument h f.fifth)
    (is_argument h f.sixth) e in
    call_same _ _ _ _ _ _ _ _ _ _ _ (index-unsigned table h f.second p.0) (argument-unsigned table h l f.third p.1)
    (argument-unsigned table h l f.fourth p.2) (argument-unsigned table h l f.fifth p.3) (argument-unsigned table h l f.sixth q.1)

module _ (table : List ℤ) (h : Sections) (limits : Limits h) (f : Fields) (t : Statement) where
  abbrev kind : ℕ
  kind = plain f.kind

  abbrev integer : ℕ → Bool
  integer w = names_integer table h w

  abbrev pointer : ℕ → Bool
  pointer w = names_pointer table h w

  kind-is : (n : ℕ) → 1 ≤ n → n ≤ 15 → eqb kind n ≡ true → unsigned f.kind ≡ kind
  kind-is n l u e = let a : kind ≡ n = eqb-true kind n e in omega arith

  kind-unsigned : kind_read table h f ≡ Some t → unsigned f.kind ≡ kind
  unfolding kind_read
  kind-unsigned =
      known (eqb kind 1) _ _ t _ (kind-is 1 (omega arith) (omega arith))
      (known (eqb kind 2) _ _ t _ (kind-is 2 (omega arith) (omega arith))
      (known (eqb kind 3) _ _ t _ (kind-is 3 (omega arith) (omega arith))
      (known (eqb kind 4) _ _ t _ (kind-is 4 (omega arith) (omega arith))
      (known (eqb kind 5) _ _ t _ (kind-is 5 (omega arith) (omega arith))
      (known (eqb kind 6) _ _ t _ (kind-is 6 (omega arith) (omega arith))
      (known (eqb kind 7) _ _ t _ (kind-is 7 (omega arith) (omega arith))
      (known (eqb kind 8) _ _ t _ (kind-is 8 (omega arith) (omega arith))
      (known (eqb kind 9) _ _ t _ (kind-is 9 (omega arith) (omega arith))
      (known (eqb kind 10) _ _ t _ (kind-is 10 (omega arith) (omega arith))
      (known (eqb kind 11) _ _ t _ (kind-is 11 (omega arith) (omega arith))
      (known (eqb kind 12) _ _ t _ (kind-is 12 (omega arith) (omega arith))
      (known (eqb kind 13) _ _ t _ (kind-is 13 (omega arith) (omega arith))
      (known (eqb kind 14) _ _ t _ (kind-is 14 (omega arith) (omega arith))
      (known (eqb kind 15) _ _ t _ (kind-is 15 (omega arith) (omega arith))
      (λ e. let z : ◌≡◌ {A = ℕ} 0 1 = cc in absurd (omega arith))))))))))))))))

  kind-decoded : kind_read table h f ≡ Some t → decoded_as kind f ≡ t
  unfolding kind_read decoded_as literal_read add_constant_read arithmetic_read null_read address_read pointer_offset_read pointer_index_read load_read
      store_read check_read
      if_read while_read bundle_read declare_read call_read
  kind-decoded =
      either-record (eqb kind 1) _ _ _ _ t (read_as (integer f.first && unused_from 3 f) _ _ t
      (λ e. let p = both (integer f.first) (unused_from 3 f) e in rw (integer-unsigned table h f.first p.0)))
      (either-record (eqb kind 2) _ _ _ _ t (read_as (integer f.first && integer f.second && is_constant f.third && unused_from 4 f) _ _ t
      (λ e. let p = both₄ (integer f.first) (integer f.second) (is_constant f.third) (unused_from 4 f) e in
      rw (integer-unsigned table h f.first p.0, integer-unsigned table h f.second p.1)))
      (either-record (eqb kind 3) _ _ _ _ t (read_as (integer f.first && integer f.second && integer f.third && is_below 3 f.fourth && unused_from 5
      f) _ _ t (λ e. let p = both₅ (integer f.first) (integer f.second) (integer f.third) (is_below 3 f.fourth) (unused_from 5 f) e in rw (
        integer-unsigned table h f.first p.0,
        integer-unsigned table h f.second p.1,
        integer-unsigned table h f.third p.2,
        below-unsigned 3 f.fourth (omega arith) p.3,
      )))
      (either-record (eqb kind 4) _ _ _ _ t (read_as (pointer f.first && unused_from 2 f) _ _ t
      (λ e. let p = both (pointer f.first) (unused_from 2 f) e in rw (pointer-unsigned table h f.first p.0)))
      (either-record (eqb kind 5) _ _ _ _ t (read_as (pointer f.first && is_below h.objects f.second && takes_object table h f.first f.second
      && unused_from 3 f) _ _ t (λ e. let p = both₄ (pointer f.first) (is_below h.objects f.second) (takes_object table h f.first f.second)
      (unused_from 3 f) e in rw (pointer-unsigned table h f.first p.0, object-unsigned table h f.first f.second p.0 p.1)))
      (either-record (eqb kind 6) _ _ _ _ t (read_as (pointer f.first && pointer f.second && is_constant f.third && takes_pointer table h f.first
      f.second && unused_from 4 f) _ _ t (λ e. let p = both₅ (pointer f.first) (pointer f.second) (is_constant f.third) (takes_pointer table h
      f.first f.second) (unused_from 4 f) e in rw (pointer-unsigned table h f.first p.0, pointer-unsigned table h f.second p.1)))
      (either-record (eqb kind 7) _ _ _ _ t
      (read_as (pointer f.first && pointer f.second && integer f.third && takes_pointer table h f.first f.second && unused_from 4 f) _ _ t
      (λ e. let p = both₅ (pointer f.first) (pointer f.second) (integer f.third) (takes_pointer table h f.first f.second) (unused_from 4 f)
      e in rw (pointer-unsigned table h f.first p.0, pointer-unsigned table h f.second p.1, integer-unsigned table h f.third p.2)))
      (either-record (eqb kind 8) _ _ _ _ t
      (read_as (integer f.first && pointer f.second && names_index table h f.third && is_constant f.fourth && unused_from 5 f) _ _ t
      (λ e. let p = both₅ (integer f.first) (pointer f.second) (names_index table h f.third) (is_constant f.fourth) (unused_from 5 f) e in
      rw (integer-unsigned table h f.first p.0, pointer-unsigned table h f.second p.1, index-unsigned table h f.third p.2)))
      (either-record (eqb kind 9) _ _ _ _ t
      (read_as (pointer f.first && names_index table h f.second && is_constant f.third && integer f.fourth && unused_from 5 f) _ _ t
      (λ e. let p = both₅ (pointer f.first) (names_index table h f.second) (is_constant f.third) (integer f.fourth) (unused_from 5 f) e in
      rw (pointer-unsigned table h f.first p.0, index-unsigned table h f.second p.1, integer-unsigned table h f.fourth p.3)))
      (either-record (eqb kind 10) _ _ _ _ t (read_as (condition_right table h f && unused_from 5 f) _ _ t
      (λ e. let p = both (condition_right table h f) (unused_from 5 f) e in rw (condition-unsigned table h f p.0)))
      (either-record (eqb kind 11) _ _ _ _ t (read_as (condition_right table h f && is_count f.fifth && is_count f.sixth) _ _ t
      (λ e. let p = both₃ (condition_right table h f) (is_count f.fifth) (is_count f.sixth) e in rw (condition-unsigned table h f p.0)))
      (either-record (eqb kind 12) _ _ _ _ t (read_as (condition_right table h f && is_count f.fifth && unused_from 6 f) _ _ t
      (λ e. let p = both₃ (condition_right table h f) (is_count f.fifth) (unused_from 6 f) e in rw (condition-unsigned table h f p.0)))
      (either-record (eqb kind 13) _ _ _ _ t (read-if (ltb (plain f.first) (2 ^ 31) && unused_from 2 f) _ t)
      (either-record (eqb kind 14) _ _ _ _ t (read_as (pointer f.first && is_below h.rows f.second && unused_from 3 f) _ _ t
      (λ e. let p = both₃ (pointer f.first) (is_below h.rows f.second) (unused_from 3 f) e in
      rw (pointer-unsigned table h f.first p.0, row-unsigned table h f.first f.second p.0 p.1)))
      (last (eqb kind 15) _ _ t (read_as (names_index table h f.second && is_argument h f.third && is_argument h f.fourth && is_argument h f.fifth
      && is_argument h f.sixth) _ _ t (λ e. rw (call-unsigned table h limits f e)))))))))))))))))

pub read-decoded : (table : List ℤ) (h : Sections) (a : ℕ) (s : Statement) → statement_at table h a ≡ Some s → decoded_at table h a ≡ s
unfolding statement_at decoded_at
read-decoded table h a s e =
    let f = fields_at table (statement_start h a) in
    let r = within (in_limits h && ltb a h.statements) _ s e in
    let l = read-limits table h a s e in
    ap (λ (k : ℕ). decoded_as k f) (kind-unsigned table h l.0 f s r) ∙ kind-decoded table h l.0 f s r

-- ---- of a statement that is decoded as a call, the call

abbrev is_call : Statement → Bool
is_call (Call c) = true
is_call (Plain s) = false
is_call (If c n m) = false
is_call (While c n) = false
is_call (Bundle n) = false

skip : (b : Bool) (s r : Statement) (c : CallSite) → cond b s r ≡ Call c → is_call s ≡ false → r ≡ Call c
skip true s r c e n = absurd (false≢true (sym n ∙ ap is_call e))
skip false s r c e n = e

pub call-decoded : (table : List ℤ) (h : Sections) (a : ℕ) (c : CallSite) → decoded_at table h a ≡ Call c → decoded_call_at table h a ≡ c
unfolding decoded_at decoded_as decoded_call_at
call-decoded table h a c e =
    let f = fields_at table (statement_start h a) in
    let k = unsigned f.kind in
    let g : Call (decoded_call f) ≡ Call c =
    skip (eqb k 14) _ _ c (skip (eqb k 13) _ _ c (skip (eqb k 12) _ _ c (skip (eqb k 11) _ _ c (skip (eqb k 10) _ _ c
    (skip (eqb k 9) _ _ c (skip (eqb k 8) _ _ c (skip (eqb k 7) _ _ c (skip (eqb k 6) _ _ c (skip (eqb k 5) _ _ c
    (skip (eqb k 4) _ _ c (skip (eqb k 3) _ _ c (skip (eqb k 2) _ _ c (skip (eqb k 1) _ _ c e refl) refl) refl) refl)
    refl) refl) refl) refl) refl) refl) refl) refl) refl) refl in
    cc
