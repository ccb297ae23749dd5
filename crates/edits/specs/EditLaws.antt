-- Laws by which the code of an edit is proved.
use Rattle.edits.specs.declared.TextFault.TheVariants.{Record, Layout}
use Rattle.statements.specs.declared.Statement.{Statement}
use Rattle.std.specs.Prelude.{ℕ, zero, suc, ◌+◌, ◌-◌, ◌*◌, ◌/◌, ◌^◌, ◌<◌, ◌≤◌, ◌≡◌, refl, Bool, true, false, ◌&&◌, cond, List, [], ◌∷◌, ◌++◌, ℤ, pos, length}
use Rattle.std.specs.Prelude.{Ok, Err, Result}
use Rattle.std.specs.Prelude.{get_or, set, take, drop, eqb, ltb, Err, None, Ok, Option, Result, Some}
use Rattle.std.proofs.Common.{sym, ◌∙◌, ap, arith, sub-one, pos_of_ne-zero, length-append, length-set, length-take, length-drop, ext_get_or, get_or-take}
use Rattle.std.proofs.Common.{get_or-drop, get_or-append-add, get_or-set_same, get_or-set_other}
use borrow.Author.Tests.{eqb-true, eqb-false, eq-eqb, ne_eqb, ltb-true, ltb-false, lt-ltb, le-ltb}
use Rattle.std.proofs.Math.ListN.{get_or-append}
use Rattle.arrays.specs.Tabulate.{tabulate}
use Rattle.arrays.specs.TabulateLaws.{length-tabulate, get_d_tabulate, tabulate-alike}
use Rattle.arrays.specs.Overwritten.{Overwritten, over_none, over-more}
use Rattle.answers.specs.declared.refusals.Refusal.{Refusal}
use Rattle.words.specs.Sections.{in_limits, statement_start, rows_start, table_end}
use Rattle.words.specs.SectionsLaws.{limits}
use Rattle.words.specs.declared.sections.Sections.{Sections}
use Rattle.statements.specs.Statements.{statement_at}
use Rattle.statements.specs.StatementLaws.{read-counts-if, read-counts-while, read-counts-bundle}
use Rattle.conditions.specs.declared.Condition.{Condition}
use Rattle.statements.specs.declared.CallSite.{CallSite}
use Rattle.statements.specs.declared.Simple.{Simple}
use Rattle.statements.specs.declared.Statement.TheVariants.{Plain, If, While, Bundle, Call}
use Rattle.table.specs.Form.{lowest_statement}
use Rattle.blocks.specs.Tree.{Block, nil, plain, branch, loop, bundle, call, unread, parse, tree}
use Rattle.blocks.specs.Layout.{layout}
use Rattle.blocks.specs.LayoutLaws.{none-refused}
use Rattle.blocks.specs.Parts.{verdict}
use Rattle.blocks.specs.Shape.{size, Numbered, Laid}
use Rattle.blocks.specs.ShapeLaws.{table-laid}
use Rattle.edits.specs.TopLevel.{positions_of, single, span_of}
use Rattle.edits.specs.Cuts.{landing, first, span-laid}
use Rattle.edits.specs.Edited.{edited_sections, edited_word, edited, is_empty, text_of}
use Rattle.edits.specs.EditedLaws.{Fits, start-least}
use Rattle.edits.specs.declared.TextFault.{TextFault}

-- ---- a loop that writes at the index

pub over-at : {A : Type 0} {d : A} {old new : List A} {at i : ℕ} {v : ℕ → A} {a : A} → Overwritten d old at (i - at) v new → at ≤ i → i < length old
    → a ≡ v (i - at) → Overwritten d old at (i + 1 - at) v (set new i a)
over-at {A} {d} {old} {new} {at} {i} {v} {a} p q r e =
    let z : i ≡ at + (i - at) = omega arith in
    let y : i + 1 - at ≡ i - at + 1 = omega arith in
    let s : Overwritten d old at (i - at + 1) v (set new (at + (i - at)) a) = over-more p (omega arith) e in
    rw y (rw (sym z) at s)

-- ---- spans

pub span-least : (s : Option Statement) → 1 ≤ span_of s
span-least (Some (Plain s)) = omega arith
span-least (Some (Call s)) = omega arith
span-least (Some (If c n m)) = omega arith
span-least (Some (While c n)) = omega arith
span-least (Some (Bundle n)) = omega arith
span-least None = omega arith

-- ---- landing

pub landing-past : (l : ℕ) (T : List ℤ) (h : Sections) (a p : ℕ) → p ≤ a → landing l T h a p ≡ a
unfolding landing
landing-past zero T h a p q = refl
landing-past (suc l) T h a p q = rw (le-ltb a p q)

pub landing-none : (l : ℕ) (T : List ℤ) (h : Sections) (a p : ℕ) → l ≤ 0 → landing l T h a p ≡ a
unfolding landing
landing-none zero T h a p q = refl
landing-none (suc l) T h a p q = absurd (omega arith)

pub landing-next : (l : ℕ) (T : List ℤ) (h : Sections) (a p s : ℕ) → 0 < l → a < p → s ≡ span_of (statement_at T h a)
    → landing l T h a p ≡ landing (l - 1) T h (a + s) p
unfolding landing
landing-next zero T h a p s q r e = absurd (omega arith)
landing-next (suc l) T h a p s q r e = rw (lt-ltb a p r, e, sub-one)

-- ---- the text

same_test : (u v x y : ℕ) → (u ≡ v → x ≡ y) → (x ≡ y → u ≡ v) → eqb u v ≡ eqb x y
same_test u v x y f g = go (eqb u v) refl (eqb x y) refl
  where
    go : (a : Bool) → eqb u v ≡ a → (b : Bool) → eqb x y ≡ b → a ≡ b
    go true p true q = refl
    go true p false q = absurd (eqb-false x y q (f (eqb-true u v p)))
    go false p true q = absurd (eqb-false u v p (g (eqb-true x y q)))
    go false p false q = refl

some-top : (x y : ℕ) → 0 < y → eqb (suc x) 0 ≡ eqb y 0
some-top x y p = ne_eqb (suc x) 0 (λ e. omega arith) ∙ sym (ne_eqb y 0 (λ e. omega arith))

none-top : (r : Block) (a : ℕ) → Numbered r a → eqb (length (positions_of r)) 0 ≡ eqb (size r) 0
unfolding positions_of size
none-top nil a n = refl
none-top (plain x s r) a n = some-top (length (positions_of r)) (1 + size r) (omega arith)
none-top (call x s r) a n = some-top (length (positions_of r)) (1 + size r) (omega arith)
none-top (branch x c t e r) a n = some-top (length (positions_of r)) (1 + size t + size e + size r) (omega arith)
none-top (loop x c t r) a n = some-top (length (positions_of r)) (1 + size t + size r) (omega arith)
none-top (bundle x ss r) a n = some-top (length (positions_of r)) (1 + length ss + size r) (omega arith)
none-top (unread x) a n = absurd n

-- One statement, and none behind it.
one-top : (r : Block) (a k n : ℕ) → Numbered r a → n ≡ k + size r → eqb (suc (length (positions_of r))) 1 ≡ eqb k n
one-top r a k n m e =
    same_test (suc (length (positions_of r))) 1 (length (positions_of r)) 0 (λ i. omega arith) (λ i. omega arith)
    ∙ (none-top r a m ∙ same_test (size r) 0 k n (λ i. omega arith) (λ i. omega arith))

single-size : (t : Block) (a : ℕ) → Numbered t a → 0 < size t → single t ≡ eqb (size (first t)) (size t)
unfolding single positions_of first size
single-size nil a n q = absurd (omega arith)
single-size (plain x s r) a n q = one-top r (x + 1) (1 + 0) (1 + size r) n.1 (omega arith)
single-size (call x s r) a n q = one-top r (x + 1) (1 + 0) (1 + size r) n.1 (omega arith)
single-size (branch x c t e r) a n q =
    one-top r (x + 1 + size t + size e) (1 + size t + size e + 0) (1 + size t + size e + size r) n.3 (omega arith)
single-size (loop x c t r) a n q = one-top r (x + 1 + size t) (1 + size t + 0) (1 + size t + size r) n.2 (omega arith)
single-size (bundle x ss r) a n q = one-top r (x + 1 + length ss) (1 + length ss + 0) (1 + length ss + size r) n.1 (omega arith)
single-size (unread x) a n q = absurd n

-- A text with a layout is one statement exactly where its first statement has all records.
pub single-laid : (U : List ℤ) (g : Sections) → layout U g ≡ [] → 0 < g.statements → single (tree U g) ≡ eqb (span_of (statement_at U g 0)) g.statements
single-laid U g e q =
    let l = table-laid U g e in
    let z : size (tree U g) ≡ g.statements = omega (arith, l.ends) in
    single-size (tree U g) 0 l.numbered (omega arith) ∙ rw (z, span-laid (tree U g) l q)

pub single-none : (U : List ℤ) (g : Sections) → g.statements ≡ 0 → single (tree U g) ≡ false
unfolding tree parse single positions_of
single-none U g e = rw e

and-false : (x y : Bool) → y ≡ false → (x && y) ≡ false
and-false true y e = e
and-false false y e = refl

emptied : (xs : List Refusal) → is_empty xs ≡ true → xs ≡ []
unfolding is_empty
emptied [] e = refl
emptied (x ∷ xs) e = cc

no-empty : (xs : List Refusal) {l : Result (Unit {0}) Refusal} {r : Refusal} → l ≡ verdict xs → l ≡ Err r → is_empty xs ≡ false
unfolding verdict is_empty
no-empty [] e p = cc
no-empty (x ∷ xs) e p = refl

module _ (U : List ℤ) (g : Sections) (n : ℕ) where
  pub text-record : lowest_statement U g < g.statements → (Err Record) ≡ text_of U g n
  unfolding text_of
  text-record p = rw (lt-ltb (lowest_statement U g) g.statements p)

  module _ (reads : g.statements ≤ lowest_statement U g) where
    pub text-words : (n ≡ 7 * g.statements → ⊥) → (Err Layout) ≡ text_of U g n
    unfolding text_of
    text-words p = rw (le-ltb (lowest_statement U g) g.statements reads, ne_eqb n (7 * g.statements) p)

    module _ (words : n ≡ 7 * g.statements) where
      pub text-refused : {l : Result (Unit {0}) Refusal} {r : Refusal} → l ≡ verdict (layout U g) → l ≡ Err r → (Err Layout) ≡ text_of U g n
      unfolding text_of
      text-refused e p =
          rw (le-ltb (lowest_statement U g) g.statements reads, eq-eqb n (7 * g.statements) words, no-empty (layout U g) e p)

      module _ {l : Result (Unit {0}) Refusal} (e : l ≡ verdict (layout U g)) (p : l ≡ Ok tt) where
        empty : is_empty (layout U g) ≡ true
        unfolding is_empty
        empty = let z = none-refused (layout U g) l e p in rw z

        pub text-none : g.statements ≡ 0 → (Err Layout) ≡ text_of U g n
        unfolding text_of
        text-none z =
            rw (le-ltb (lowest_statement U g) g.statements reads, eq-eqb n (7 * g.statements) words, empty, single-none U g z)

        module _ (some : g.statements ≡ 0 → ⊥) {s : ℕ} (spans : s ≡ span_of (statement_at U g 0)) where
          one : single (tree U g) ≡ eqb s g.statements
          one = rw spans (single-laid U g (none-refused (layout U g) l e p) (pos_of_ne-zero some))

          pub text-more : (s ≡ g.statements → ⊥) → (Err Layout) ≡ text_of U g n
          unfolding text_of
          text-more q =
              rw (le-ltb (lowest_statement U g) g.statements reads, eq-eqb n (7 * g.statements) words, empty, one, ne_eqb s g.statements q)

          pub text-right : s ≡ g.statements → Ok tt ≡ text_of U g n
          unfolding text_of
          text-right q =
              rw (le-ltb (lowest_statement U g) g.statements reads, eq-eqb n (7 * g.statements) words, empty, one, eq-eqb s g.statements q)

-- What a right text is.
pub record TextRight (U : List ℤ) (g : Sections) (n : ℕ) : Type 0 where
  pub words : n ≡ 7 * g.statements
  pub reads : g.statements ≤ lowest_statement U g
  pub laid : layout U g ≡ []
  pub one : single (tree U g) ≡ true

pub right-text : (U : List ℤ) (g : Sections) (n : ℕ) → text_of U g n ≡ Ok tt → TextRight U g n
unfolding text_of
right-text U g n e = go (ltb (lowest_statement U g) g.statements) refl (eqb n (7 * g.statements)) refl (is_empty (layout U g)) refl (single (tree U g)) refl e
  where
    go : (a : Bool) → ltb (lowest_statement U g) g.statements ≡ a → (b : Bool) → eqb n (7 * g.statements) ≡ b → (c : Bool) → is_empty (layout U g) ≡ c
        → (d : Bool) → single (tree U g) ≡ d → cond a (Err Record) (cond (b && (c && d)) (Ok (tt {0})) (Err Layout)) ≡ Ok (tt {0}) → TextRight U g n
    go true p b q c r d s e = let z : ◌≡◌ {A = ℕ} 0 1 = cc in absurd (omega arith)
    go false p true q true r true s e = record {
      words = eqb-true n (7 * g.statements) q;
      reads = ltb-false (lowest_statement U g) g.statements p;
      laid = emptied (layout U g) r;
      one = s;
    }
    go false p false q c r d s e = let z : ◌≡◌ {A = ℕ} 0 1 = cc in absurd (omega arith)
    go false p true q false r d s e = let z : ◌≡◌ {A = ℕ} 0 1 = cc in absurd (omega arith)
    go false p true q true r false s e = let z : ◌≡◌ {A = ℕ} 0 1 = cc in absurd (omega arith)

-- ---- the words that are written

-- The first words of a list that was filled from its start.
pub filled-front : {A : Type 0} {d : A} {old new : List A} {n : ℕ} {v : ℕ → A} → Overwritten d old 0 n v new → n ≤ length old → take n new ≡ tabulate n v
filled-front {A} {d} {old} {new} {n} {v} p q =
    let z : length (take n new) ≡ n = length-take n new ∙ omega (arith, p.long) in
    ext_get_or d (take n new) (tabulate n v) (z ∙ sym (length-tabulate n v))
    (λ i l. let y : 0 + i ≡ i = omega arith in
    get_or-take n new i d (omega arith) ∙ ((rw y at (p.inside i (omega arith))) ∙ sym (get_d_tabulate n v i d (omega arith))))

pub over-start : {A : Type 0} {d : A} (l : List A) (at : ℕ) (v : ℕ → A) → Overwritten d l at (at - at) v l
over-start l at v = let z : at - at ≡ 0 = omega arith in rw z (over_none l at v)

-- ---- one word of the edited table

module _ (T : List ℤ) (h : Sections) (p m k : ℕ) (X : List ℤ) (i : ℕ) where
  pub word-five : i ≡ 5 → pos (7 * (h.statements - m + k)) ≡ edited_word T h p m k X i
  unfolding edited_word
  word-five e = rw (eq-eqb i 5 e)

  module _ (five : i ≡ 5 → ⊥) where
    pub word-six : (eqb i 6 && eqb h.start 8) ≡ true → pos (rows_start (edited_sections h m k)) ≡ edited_word T h p m k X i
    unfolding edited_word
    word-six e = rw (ne_eqb i 5 five, e)

    module _ (six : (eqb i 6 && eqb h.start 8) ≡ false) where
      pub word-before : i < statement_start h p → get_or T i (pos 0) ≡ edited_word T h p m k X i
      unfolding edited_word
      word-before q = rw (ne_eqb i 5 five, six, lt-ltb i (statement_start h p) q)

      module _ (behind : statement_start h p ≤ i) where
        pub word-new : i < statement_start h (p + k) → get_or X (i - statement_start h p) (pos 0) ≡ edited_word T h p m k X i
        unfolding edited_word
        word-new q = rw (ne_eqb i 5 five, six, le-ltb i (statement_start h p) behind, lt-ltb i (statement_start h (p + k)) q)

        pub word-old : statement_start h (p + k) ≤ i → get_or T (i + 7 * m - 7 * k) (pos 0) ≡ edited_word T h p m k X i
        unfolding edited_word
        word-old q = rw (ne_eqb i 5 five, six, le-ltb i (statement_start h p) behind, le-ltb i (statement_start h (p + k)) q)

-- ---- how many statements a statement is

module _ (T : List ℤ) (h : Sections) (a : ℕ) where
  abbrev pub Spans : ℕ → Type 0
  Spans r = (r ≡ span_of (statement_at T h a)) × (1 ≤ r) × (r < 2 ^ 33)

  pub span-unread : statement_at T h a ≡ None → Spans 1
  span-unread e = (rw e, omega arith, omega arith)

  pub span-plain : {s : Simple} → statement_at T h a ≡ Some (Plain s) → Spans 1
  span-plain e = (rw e, omega arith, omega arith)

  pub span-call : {c : CallSite} → statement_at T h a ≡ Some (Call c) → Spans 1
  span-call e = (rw e, omega arith, omega arith)

  pub span-if : {c : Condition} {n m : ℕ} → statement_at T h a ≡ Some (If c n m) → Spans (1 + n + m)
  span-if {c} {n} {m} e = let z = read-counts-if T h a c n m e in (rw e, omega arith, omega (arith, z.0, z.1))

  pub span-while : {c : Condition} {n : ℕ} → statement_at T h a ≡ Some (While c n) → Spans (1 + n)
  span-while {c} {n} e = let z = read-counts-while T h a c n e in (rw e, omega arith, omega arith)

  pub span-bundle : {n : ℕ} → statement_at T h a ≡ Some (Bundle n) → Spans (1 + n)
  span-bundle {n} e = let z = read-counts-bundle T h a n e in (rw e, omega arith, omega arith)

-- The text's table, made in an array.
pub text-made : (T : List ℤ) (h : Sections) (m k : ℕ) (X : List ℤ) {Z W : List ℤ} {end : ℕ}
    → Overwritten (pos 0) Z 0 (end - 0) (λ i. edited_word T h 0 m k X (0 + i)) W
    → end ≡ table_end (edited_sections h m k) → end ≤ length Z → take end W ≡ edited T h 0 m k X
unfolding edited
text-made T h m k X {end = end} p e q =
    let z : end - 0 ≡ end = omega arith in
    filled-front (rw z at p) q ∙ (tabulate-alike end (λ i l. let y : 0 + i ≡ i = omega arith in rw y) ∙ ap (λ (n : ℕ). tabulate n (edited_word T h 0 m k X)) e)

-- ---- the table in a buffer

-- What stands behind the table does not matter to the edit.
pub edited-take : (B : List ℤ) (L : ℕ) (h : Sections) (p m k : ℕ) (X : List ℤ) → Fits h p m k → L ≡ table_end h
    → edited (take L B) h p m k X ≡ edited B h p m k X
unfolding edited edited_word
edited-take B L h p m k X fits e = tabulate-alike (table_end (edited_sections h m k)) (λ i q. same i q)
  where
    same : (i : ℕ) → i < table_end (edited_sections h m k)
        → cond (eqb i 5) (pos (7 * (h.statements - m + k))) (cond (eqb i 6 && eqb h.start 8) (pos (rows_start (edited_sections h m k)))
        (cond (ltb i (statement_start h p)) (get_or (take L B) i (pos 0))
        (cond (ltb i (statement_start h (p + k))) (get_or X (i - statement_start h p) (pos 0)) (get_or (take L B) (i + 7 * m - 7 * k) (pos 0)))))
        ≡ cond (eqb i 5) (pos (7 * (h.statements - m + k))) (cond (eqb i 6 && eqb h.start 8) (pos (rows_start (edited_sections h m k)))
        (cond (ltb i (statement_start h p)) (get_or B i (pos 0))
        (cond (ltb i (statement_start h (p + k))) (get_or X (i - statement_start h p) (pos 0)) (get_or B (i + 7 * m - 7 * k) (pos 0)))))
    same i q =
        go (eqb i 5) (eqb i 6 && eqb h.start 8) (ltb i (statement_start h p)) refl (ltb i (statement_start h (p + k))) refl
      where
        go : (a b c : Bool) → ltb i (statement_start h p) ≡ c → (d : Bool) → ltb i (statement_start h (p + k)) ≡ d
            → cond a (pos (7 * (h.statements - m + k))) (cond b (pos (rows_start (edited_sections h m k)))
            (cond c (get_or (take L B) i (pos 0)) (cond d (get_or X (i - statement_start h p) (pos 0)) (get_or (take L B) (i + 7 * m - 7 * k) (pos 0)))))
            ≡ cond a (pos (7 * (h.statements - m + k))) (cond b (pos (rows_start (edited_sections h m k)))
            (cond c (get_or B i (pos 0)) (cond d (get_or X (i - statement_start h p) (pos 0)) (get_or B (i + 7 * m - 7 * k) (pos 0)))))
        go true b c x d y = refl
        go false true c x d y = refl
        go false false true x d y = get_or-take L B i (pos 0) (omega (arith, ltb-true i (statement_start h p) x, fits.within))
        go false false false x true y = refl
        go false false false x false y =
            get_or-take L B (i + 7 * m - 7 * k) (pos 0) (omega (arith, ltb-false i (statement_start h (p + k)) y, fits.within))
