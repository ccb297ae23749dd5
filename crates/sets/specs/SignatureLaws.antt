-- Laws for the check of a set: a table with objects put in has its own signature, and signatures are enough for a walk.
use Rattle.std.specs.Prelude.{ℕ, ◌+◌, ◌*◌, ◌/◌, ◌≤◌, ◌<◌, ◌≡◌, Bool, ◌&&◌, ◌||◌, List, ℤ, length}
use Rattle.std.proofs.Math.Path.{refl, ap}
use Rattle.std.proofs.Common.{sym, ◌∙◌}
use Rattle.std.proofs.Math.Bool.{true, false, cond}
use native.Mathlib.Omega.{arith}
use borrow.Author.Tests.{le-leb}
use Rattle.std.proofs.Math.Dec.{leb, eqb}
use Rattle.arrays.specs.TabulateLaws.{tabulate-alike}
use Rattle.facts.specs.declared.FactSet.{FactSet}
use Rattle.words.specs.Words.{biased, word}
use Rattle.words.specs.Fields.{plain}
use Rattle.words.specs.Sections.{in_limits, start_right, is_variable, variable_start, kind_at, kind_is, integer_at, pointer_at, string_at}
use Rattle.words.specs.Sections.{names_integer, names_pointer, names_index}
use Rattle.words.specs.declared.sections.Sections.{Sections}
use Rattle.statements.specs.declared.CallSite.{CallSite}
use Rattle.table.specs.Form.{sections_of, four_pairs, is_number}
use Rattle.table.specs.FormLaws.{start-least, start-eight}
use Rattle.table.specs.Variables.{end_right, pointer_record, variable_of, variable_at, variable_words_at, end_words_at}
use Rattle.blocks.specs.Tree.{Block, nil, plain as plain_block, branch, loop, bundle, call, unread, tree, assigned}
use Rattle.rules.specs.FactSets.{State}
use Rattle.rules.specs.Calls.{Routine}
use Rattle.rules.specs.Rules as walk_rules
use Rattle.rules.specs.Verdict as verdict_rules
use Rattle.rules.specs.Verdict.{environment_of, bounds_of}
use Rattle.rules.specs.Stored.{block_faults, call_faults, section_faults, block_after, state_after, assumed, at_head, sides_joined, bundle_after, called_state}
use Rattle.rules.specs.Stored.{declared_in, new_state}
use Rattle.conditions.specs.Conditions.{negated_of}
use Rattle.listed.specs.Entries.{entries_of}
use Rattle.rules.specs.Sets.{with_objects, routine_of}
use Rattle.rules.specs.PutLaws.{put-kept, put-behind}
use Rattle.rules.proofs.SetLaws.{put-start, put-objects}
use Rattle.rules.specs.declared.Bounds.{Bounds}
use Rattle.rules.specs.declared.Environment.{Environment}
use Rattle.declared.specs.Callee.{signature_of}

-- ---- a walk depends on its callees through the faults of calls alone

module _ (E : Environment) (L : List ℤ) (rs qs : List Routine)
    (same : (a : ℕ) (c : CallSite) (f : FactSet) (K : List Bounds) → call_faults rs E a c f K ≡ call_faults qs E a c f K) where
  pub block_same : (b : Block) (w : State FactSet) → block_faults E L rs b w ≡ block_faults E L qs b w
  unfolding walk_rules.block_faults
  block_same nil w = refl
  block_same (plain_block a s r) w = rw (block_same r (state_after s w)) refl
  block_same (branch a c t e r) w =
      rw (
        block_same t (assumed w c),
        block_same e (assumed w (negated_of c)),
        block_same r (sides_joined E (block_after E L t (assumed w c)) (block_after E L e (assumed w (negated_of c)))),
      ) refl
  block_same (loop a c t r) w =
      rw (block_same t (assumed (at_head (entries_of L a) (assigned t) w) c), block_same r (assumed (at_head (entries_of L a) (assigned t) w) (negated_of c)))
      refl
  block_same (bundle a ss r) w = rw (block_same r (bundle_after ss w)) refl
  block_same (call a c r) w = rw (same a c w.facts (declared_in E w), block_same r (called_state c w)) refl
  block_same (unread a) w = refl

pub sections-same : (T : List ℤ) (h : Sections) (L : List ℤ) (rs qs : List Routine)
    → ((a : ℕ) (c : CallSite) (f : FactSet) (K : List Bounds) → call_faults rs (environment_of T h) a c f K ≡ call_faults qs (environment_of T h) a c f K)
    → section_faults rs T h L ≡ section_faults qs T h L
unfolding verdict_rules.section_faults
sections-same T h L rs qs e = rw (block_same (environment_of T h) L rs qs e (tree T h) new_state) refl

-- ---- tables with the same variables' words

-- Two tables whose variables' words are the same, in sections within the limits.
pub record SameVariables (T : List ℤ) (h : Sections) (U : List ℤ) (g : Sections) : Type 0 where
  pub limits : in_limits h ≡ true
  pub limits-other : in_limits g ≡ true
  pub count : h.variables ≡ g.variables
  pub words : (j : ℕ) → word T (h.start + h.objects + j) ≡ word U (g.start + g.objects + j)

module _ {T : List ℤ} {h : Sections} {U : List ℤ} {g : Sections} (s : SameVariables T h U g) where
  variable-same : (v : ℕ) → is_variable h v ≡ is_variable g v
  unfolding is_variable
  variable-same v = rw (s.limits, s.limits-other, s.count) refl

  word_same : (v k : ℕ) → word T (variable_start h v + k) ≡ word U (variable_start g v + k)
  word_same v k =
      let a : variable_start h v + k ≡ h.start + h.objects + (8 * v + k) = omega arith in
      let b : variable_start g v + k ≡ g.start + g.objects + (8 * v + k) = omega arith in
      ap (word T) a ∙ (s.words (8 * v + k) ∙ ap (word U) (sym b))

  kind-same : (v : ℕ) → kind_at T h v ≡ kind_at U g v
  unfolding kind_at
  kind-same v = rw (variable-same v, s.words (8 * v)) refl

  pub pointer-same : (v : ℕ) → pointer_at T h v ≡ pointer_at U g v
  unfolding pointer_at
  pointer-same v = ap (kind_is false true true) (kind-same v)

  pub string-same : (v : ℕ) → string_at T h v ≡ string_at U g v
  unfolding string_at
  string-same v = ap (kind_is false false true) (kind-same v)

  integer-same : (v : ℕ) → integer_at T h v ≡ integer_at U g v
  unfolding integer_at
  integer-same v = ap (kind_is true false false) (kind-same v)

  pub end-same : (W : List ℤ) (i : ℕ) → end_right T h (end_words_at W i) ≡ end_right U g (end_words_at W i)
  unfolding end_right end_words_at names_pointer names_index names_integer
  end-same W i = rw (pointer-same (plain (word W i)), integer-same (plain (word W (i + 1)))) refl

  record_same : (W : List ℤ) (i : ℕ) → variable_of T h (variable_words_at W i) ≡ variable_of U g (variable_words_at W i)
  unfolding variable_of pointer_record variable_words_at
  record_same W i = rw (end-same W (i + 2), end-same W (i + 5)) refl

  first_word : (v : ℕ) → word T (variable_start h v) ≡ word U (variable_start g v)
  first_word v = s.words (8 * v)

  words_same : (v : ℕ) → variable_words_at T (variable_start h v) ≡ variable_words_at U (variable_start g v)
  unfolding variable_words_at end_words_at
  words_same v =
      let w = word_same v in
      rw (
        first_word v,
        w 1,
        w 2,
        shift h 2 1,
        shift g 2 1,
        w 3,
        shift h 2 2,
        shift g 2 2,
        w 4,
        w 5,
        shift h 5 1,
        shift g 5 1,
        w 6,
        shift h 5 2,
        shift g 5 2,
        w 7,
      ) refl
    where
      shift : (i : Sections) (a b : ℕ) → variable_start i v + a + b ≡ variable_start i v + (a + b)
      shift i a b = omega arith

  pub read_same : (v : ℕ) → variable_at T h v ≡ variable_at U g v
  unfolding variable_at
  read_same v =
      let e : variable_of T h (variable_words_at T (variable_start h v)) ≡ variable_of U g (variable_words_at U (variable_start g v)) =
      record_same T (variable_start h v) ∙ ap (variable_of U g) (words_same v) in
      rw (variable-same v, e) refl

-- What a call asks of a callee is read from its variables' words alone.
pub signature-same : {T U : List ℤ} → SameVariables T (sections_of T) U (sections_of U) → signature_of (routine_of T) ≡ signature_of (routine_of U)
unfolding environment_of
signature-same {T} {U} s =
    rw (
      tabulate-alike 17 (λ v l. pointer-same s v),
      tabulate-alike 17 (λ v l. string-same s v),
      tabulate-alike 16 (λ v l. ap bounds_of (read_same s v)),
      s.count,
    ) refl

-- ---- a table with objects put in

module _ (os T : List ℤ) (whole : (sections_of T).start ≤ length T) where
  abbrev full : List ℤ
  full = with_objects os T

  word_kept : (j : ℕ) → (j ≡ 1 → ⊥) → (j ≡ 2 → ⊥) → (j ≡ 4 → ⊥) → (j ≡ 6 → ⊥) → j < (sections_of T).start → word full j ≡ word T j
  unfolding word
  word_kept j o p q r l = ap biased (put-kept os T whole j o p q r l)

  pairs-same : four_pairs full ≡ four_pairs T
  unfolding four_pairs
  pairs-same = ap (is_number 8) (word_kept 0 (λ e. omega arith) (λ e. omega arith) (λ e. omega arith) (λ e. omega arith) (omega (arith, start-least T)))

  pub variables-same : (sections_of full).variables ≡ (sections_of T).variables
  unfolding sections_of
  variables-same =
      ap (λ (w : ℕ). plain w / 8) (word_kept 3 (λ e. omega arith) (λ e. omega arith) (λ e. omega arith) (λ e. omega arith) (omega (arith, start-least T)))

  pub statements-same : (sections_of full).statements ≡ (sections_of T).statements
  unfolding sections_of
  statements-same =
      ap (λ (w : ℕ). plain w / 7) (word_kept 5 (λ e. omega arith) (λ e. omega arith) (λ e. omega arith) (λ e. omega arith) (omega (arith, start-least T)))

  pub rows_same : (sections_of full).rows ≡ (sections_of T).rows
  unfolding sections_of
  rows_same = rw pairs-same (go (four_pairs T) refl)
    where
      go : (b : Bool) → four_pairs T ≡ b → cond b (plain (word full 7) / 6) 0 ≡ cond b (plain (word T 7) / 6) 0
      go true e = ap (λ (w : ℕ). plain w / 6)
          (word_kept 7 (λ e. omega arith) (λ e. omega arith) (λ e. omega arith) (λ e. omega arith) (omega (arith, start-eight T e)))
      go false e = refl

  limits-put : length os ≤ 16 → in_limits (sections_of T) ≡ true → (sections_of T).objects ≡ 0 → in_limits (sections_of full) ≡ true
  unfolding in_limits start_right
  limits-put l e z =
      let h = sections_of T in
      let q : (leb h.objects 16 && leb 1 h.variables && leb h.variables 16 && leb h.statements 1024
      && (eqb h.start 6 && eqb h.rows 0 || eqb h.start 8 && leb h.rows 64)) ≡ true = e in
      rw (put-start os T whole, put-objects os T whole, variables-same, statements-same, rows_same, le-leb (length os) 16 l)
      (rw (le-leb h.objects 16 (omega (arith, z))) at q)

  behind : (j : ℕ) → word full ((sections_of T).start + length os + j) ≡ word T ((sections_of T).start + j)
  unfolding word
  behind j = ap biased (put-behind os T whole j)

  -- "Only routine 0 lists objects, for all": a table with its objects put in has the variables that it had.
  pub put-variables : length os ≤ 16 → in_limits (sections_of T) ≡ true → (sections_of T).objects ≡ 0 → SameVariables full (sections_of full) T (sections_of T)
  put-variables l e z = record {
    limits = limits-put l e z;
    limits-other = e;
    count = variables-same;
    words = λ j.
        let s = (sections_of T).start in
        let a : (sections_of full).start + (sections_of full).objects + j ≡ s + length os + j = omega (arith, put-start os T whole, put-objects os T whole) in
        let b : s + (sections_of T).objects + j ≡ s + j = omega (arith, z) in
        ap (word full) a ∙ (behind j ∙ ap (word T) (sym b));
  }
