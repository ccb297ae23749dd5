-- The place, the pointer and the statements walked that the editor answers are small, whatever the words of the store are.
use Rattle.edits.specs.declared.TextFault.TheVariants.{Record, Layout}
use Rattle.statements.specs.declared.Statement.{Statement}
use Rattle.std.specs.Prelude.{ℕ, ◌+◌, ◌-◌, ◌*◌, ◌/◌, ◌^◌, ◌<◌, ◌≤◌, ◌⊎◌, Bool, ◌&&◌, leb, ltb, ℤ, Err, None, Ok, Option, Result, Some}
use Rattle.std.proofs.Math.Path.{◌≡◌, refl}
use Rattle.std.proofs.Common.{sym, ap, ◌∙◌, inl, inr, eq-or-lt_of_le}
use Rattle.std.proofs.Math.Logic.{⊎_elim}
use Rattle.std.proofs.Math.Bool.{true, false, cond}
use Rattle.std.proofs.lemmas.Bool.{false≢true}
use mathlib.Core.List.{List, [], ◌∷◌}
use native.Mathlib.Omega.{arith}
use borrow.Author.Tests.{ltb-true, ltb-false}
use Rattle.std.proofs.Math.ListN.{length}
use Rattle.answers.specs.Refusals.{place}
use Rattle.answers.specs.declared.refusals.Refusal.{Refusal}
use Rattle.answers.specs.declared.refusals.Refusal.TheVariants.{StatementRecord, BlockLayout, EditPosition}
use Rattle.words.specs.Sections.{Limits, table_end}
use Rattle.words.specs.declared.sections.Sections.{Sections}
use Rattle.statements.specs.StatementLaws.{read-counts-if, read-counts-while, read-counts-bundle}
use Rattle.statements.specs.Statements.{statement_at}
use Rattle.statements.specs.declared.Simple.{Simple}
use Rattle.statements.specs.declared.Statement.TheVariants.{Plain, If, While, Bundle, Call}
use Rattle.table.specs.Form.{form_of}
use Rattle.table.specs.FormLaws.{well-formed}
use Rattle.blocks.specs.Tree.{Block, nil, plain, branch, loop, bundle, call, unread, tree}
use Rattle.blocks.specs.Layout.{block_layout, layout}
use Rattle.blocks.specs.Shape.{size, Numbered, ReadsLine, Reads, Laid}
use Rattle.blocks.specs.ShapeLaws.{laid, table-laid}
use Rattle.rules.specs.Stored.{store, block_faults}
use Rattle.rules.specs.Verdict.{environment_of, verdict_reads}
use Rattle.rules.specs.Small.{RefusalSmall, FirstSmall, ReadingSmall, one-small, also-small, verdict-small}
use Rattle.rules.proofs.SmallLaws.{block-layout-small, block-small, judged-small}
use Rattle.edits.specs.TopLevel.{span_of}
use Rattle.edits.specs.Edited.{is_empty, text_sections, text_table, text_of}
use Rattle.edits.specs.declared.TextFault.{TextFault}
use Rattle.plans.specs.Plans.{removed_by, words_by, kind_plan, plan_of}
use Rattle.plans.specs.declared.Edit.{Edit}
use Rattle.plans.specs.declared.Edit.TheVariants.{Insert, Replace, Remove, Unknown}
use Rattle.places.specs.Positions.{begun_to, walked_from}
use Rattle.places.specs.Places.{Place}
use Rattle.rewalks.specs.Walking.{rest_of}
use Rattle.rewalks.specs.Rewalks.{layout_from, RewalkedFrom}
use Rattle.rewalks.specs.declared.Rewalked.{Rewalked}
use Rattle.editor.specs.Editor.{Passing, Started, NumbersSmall}
use Rattle.editor.specs.declared.Answer.{Answer}

-- The words of a table with these sections.
pub within : (h : Sections) → Limits h → table_end h ≤ 7704
within h w = omega (arith, w.start, w.objects, w.variables, w.statements, w.rows)

-- ---- an edit that is not made: each refusal gives the position

pub plan-small : (there : Bool) (T : List ℤ) (room : ℕ) (h : Sections) (at : ℕ) (e : Edit) (X : List ℤ) (x : Refusal) → at < 2 ^ 32
    → plan_of there T room h at e X ≡ Err x → RefusalSmall x
unfolding plan_of
plan-small there T room h at e X x l p =
    let m = removed_by e (span_of (statement_at T h at)) in
    let u = words_by e (length X) in
    go (there && (leb (7 * (h.statements - m) + u) 7168 && leb (length T - 7 * m + u) room)) e (text_of (text_table T h X) (text_sections h X) (length X))
    m (length X / 7) p
  where
    at_position : EditPosition at ≡ x → RefusalSmall x
    at_position z = rw (sym z) (record { place-small = l; pointer-small = omega arith })

    at-record : StatementRecord at ≡ x → RefusalSmall x
    at-record z = rw (sym z) (record { place-small = l; pointer-small = omega arith })

    at-layout : BlockLayout at ≡ x → RefusalSmall x
    at-layout z = rw (sym z) (record { place-small = l; pointer-small = omega arith })

    go : (b : Bool) (e : Edit) (t : Result (Unit {0}) TextFault) (m k : ℕ) → cond b (kind_plan at e t m k) (Err (EditPosition at)) ≡ Err x → RefusalSmall x
    go false e t m k q = at_position (cc)
    go true Insert (Ok tt) m k q = let z : ◌≡◌ {A = ℕ} 0 1 = cc in absurd (omega arith)
    go true Insert (Err Record) m k q = at-record (cc)
    go true Insert (Err Layout) m k q = at-layout (cc)
    go true Replace (Ok tt) m k q = let z : ◌≡◌ {A = ℕ} 0 1 = cc in absurd (omega arith)
    go true Replace (Err Record) m k q = at-record (cc)
    go true Replace (Err Layout) m k q = at-layout (cc)
    go true Remove t m k q = let z : ◌≡◌ {A = ℕ} 0 1 = cc in absurd (omega arith)
    go true Unknown t m k q = at_position (cc)

-- ---- the statements walked

either_side : (x y : ℕ) → (x < y) ⊎ (y ≤ x)
either_side x y = go (ltb x y) (λ q. ltb-true x y q) (λ q. ltb-false x y q)
  where
    go : (b : Bool) → (b ≡ true → x < y) → (b ≡ false → y ≤ x) → (x < y) ⊎ (y ≤ x)
    go true p q = inl (p refl)
    go false p q = inr (q refl)

module _ (T : List ℤ) (h : Sections) where
  span-here : {a b : ℕ} {s : Option Statement} → b ≡ a → statement_at T h b ≡ s → span_of (statement_at T h a) ≡ span_of s
  span-here e r = ap span_of (ap (statement_at T h) (sym e) ∙ r)

  line-span : (ss : List Simple) (lo a : ℕ) → ReadsLine T h lo ss → lo ≤ a → a < lo + length ss → span_of (statement_at T h a) ≡ 1
  line-span [] lo a r p q = absurd (omega arith)
  line-span (s ∷ ss) lo a r p q =
      ⊎_elim (λ (e : lo ≡ a). span-here e r.0) (λ (e : lo < a). line-span ss (lo + 1) a r.1 (omega arith) (omega arith)) (eq-or-lt_of_le p)

  -- A statement with its blocks ends where its block ends, or before.
  span-within : (t : Block) (lo a : ℕ) → Numbered t lo → Reads T h t → lo ≤ a → a < lo + size t → a + span_of (statement_at T h a) ≤ lo + size t
  unfolding size
  span-within nil lo a n r p q = absurd (omega arith)
  span-within (plain b s t) lo a n r p q =
      let i : b ≡ lo = n.0 in
      ⊎_elim (λ (e : b ≡ a). omega (arith, span-here e r.0))
      (λ (e : b < a). omega (arith, span-within t (b + 1) a n.1 r.1 (omega arith) (omega arith))) (eq-or-lt_of_le (omega arith))
  span-within (call b c t) lo a n r p q =
      let i : b ≡ lo = n.0 in
      ⊎_elim (λ (e : b ≡ a). omega (arith, span-here e r.0))
      (λ (e : b < a). omega (arith, span-within t (b + 1) a n.1 r.1 (omega arith) (omega arith))) (eq-or-lt_of_le (omega arith))
  span-within (branch b c t e s) lo a n r p q =
      let i : b ≡ lo = n.0 in
      ⊎_elim (λ (z : b ≡ a). omega (arith, span-here z r.0))
      (λ (z : b < a).
      ⊎_elim (λ (x : a < b + 1 + size t). omega (arith, span-within t (b + 1) a n.1 r.1 (omega arith) x))
      (λ (x : b + 1 + size t ≤ a).
      ⊎_elim (λ (y : a < b + 1 + size t + size e). omega (arith, span-within e (b + 1 + size t) a n.2 r.2 x y))
      (λ (y : b + 1 + size t + size e ≤ a). omega (arith, span-within s (b + 1 + size t + size e) a n.3 r.3 y (omega arith)))
      (either_side a (b + 1 + size t + size e))) (either_side a (b + 1 + size t))) (eq-or-lt_of_le (omega arith))
  span-within (loop b c t s) lo a n r p q =
      let i : b ≡ lo = n.0 in
      ⊎_elim (λ (z : b ≡ a). omega (arith, span-here z r.0))
      (λ (z : b < a).
      ⊎_elim (λ (x : a < b + 1 + size t). omega (arith, span-within t (b + 1) a n.1 r.1 (omega arith) x))
      (λ (x : b + 1 + size t ≤ a). omega (arith, span-within s (b + 1 + size t) a n.2 r.2 x (omega arith)))
      (either_side a (b + 1 + size t))) (eq-or-lt_of_le (omega arith))
  span-within (bundle b ss t) lo a n r p q =
      let i : b ≡ lo = n.0 in
      ⊎_elim (λ (z : b ≡ a). omega (arith, span-here z r.0))
      (λ (z : b < a).
      ⊎_elim (λ (x : a < b + 1 + length ss). omega (arith, line-span ss (b + 1) a r.1 (omega arith) x))
      (λ (x : b + 1 + length ss ≤ a). omega (arith, span-within t (b + 1 + length ss) a n.1 r.2 x (omega arith)))
      (either_side a (b + 1 + length ss))) (eq-or-lt_of_le (omega arith))
  span-within (unread b) lo a n r p q = absurd n

  -- Its counts are 31-bit numbers.
  span-few : (a : ℕ) (s : Option Statement) → statement_at T h a ≡ s → span_of s < 2 ^ 32
  span-few a (Some (Plain s)) e = omega arith
  span-few a (Some (Call c)) e = omega arith
  span-few a (Some (If c n m)) e = let k = read-counts-if T h a c n m e in omega (arith, k.0, k.1)
  span-few a (Some (While c n)) e = omega (arith, read-counts-while T h a c n e)
  span-few a (Some (Bundle n)) e = omega (arith, read-counts-bundle T h a n e)
  span-few a None e = omega arith

  module _ (w : Limits h) where
    walked-small : (q : ℕ) (t : Block) (v : Result (Unit {0}) Refusal) → q ≤ h.statements → Laid T h 0 q h.statements t → walked_from T h q v < 2 ^ 32
    unfolding begun_to
    walked-small q t (Ok tt) l s = omega (arith, w.statements)
    walked-small q t (Err r) l s = go (ltb (place r) h.statements) (λ z. ltb-true _ _ z)
      where
        few : span_of (statement_at T h (place r)) < 2 ^ 32
        few = span-few (place r) (statement_at T h (place r)) refl

        inside : q ≤ place r → place r < h.statements → place r + span_of (statement_at T h (place r)) ≤ h.statements
        inside x y = omega (arith, span-within t q (place r) s.numbered s.reads x (omega (arith, s.ends)), s.ends)

        go : (b : Bool) → (b ≡ true → place r < h.statements)
            → cond b (place r + span_of (statement_at T h (place r))) h.statements - q < 2 ^ 32
        go true z =
            ⊎_elim (λ (x : place r < q). omega (arith, few)) (λ (x : q ≤ place r). omega (arith, inside x (z refl), w.statements)) (either_side (place r) q)
        go false z = omega (arith, w.statements)

    -- ---- a walk from a place, wherever it is

    from-small : (q : ℕ) → q < 2 ^ 32 → FirstSmall (layout_from T h q)
    unfolding layout_from
    from-small q l = go (ltb h.statements q)
      where
        go : (b : Bool) → FirstSmall (cond b (BlockLayout q ∷ []) (block_layout h.statements T h 0 q h.statements))
        go true = one-small (record { place-small = l; pointer-small = omega arith })
        go false = block-layout-small T h h.statements 0 q h.statements w.statements

    from-laid : (q : ℕ) → layout_from T h q ≡ [] → (q ≤ h.statements) × Laid T h 0 q h.statements (rest_of T h q)
    unfolding layout_from
    from-laid q e = go (ltb h.statements q) (λ z. ltb-false _ _ z) e
      where
        go : (b : Bool) → (b ≡ false → q ≤ h.statements) → cond b (BlockLayout q ∷ []) (block_layout h.statements T h 0 q h.statements) ≡ []
            → (q ≤ h.statements) × Laid T h 0 q h.statements (rest_of T h q)
        go true z p = let o : ◌≡◌ {A = ℕ} 0 1 = cc in absurd (omega arith)
        go false z p = (z refl, laid h.statements T h 0 q h.statements (z refl) (omega arith) p)

    pub rewalked-small : {K S : List ℕ} (p : Place) {r : Rewalked} {Q : List ℕ} → p.position < 2 ^ 32 → RewalkedFrom T h K S p r Q
        → ReadingSmall (verdict_reads r.verdict) × (r.walked < 2 ^ 32)
    unfolding is_empty
    rewalked-small p {r} l d =
        (verdict-small _ r.verdict (also-small (from-small p.position l) walk) d.verdict, go (layout_from T h p.position) refl d.walked)
      where
        walk : layout_from T h p.position ≡ [] → FirstSmall (block_faults (environment_of T h) [] [] (rest_of T h p.position) p.state)
        walk e =
            let t = (from-laid p.position e).1 in
            block-small store T h w (environment_of T h) [] (omega arith) [] (rest_of T h p.position) p.position p.state t.numbered
            (omega (arith, t.ends, w.statements)) t.reads

        go : (xs : List Refusal) → layout_from T h p.position ≡ xs → r.walked ≡ cond (is_empty xs) (walked_from T h p.position r.verdict) 0
            → r.walked < 2 ^ 32
        go [] e z = let t = from-laid p.position e in omega (arith, z, walked-small p.position (rest_of T h p.position) r.verdict t.0 t.1)
        go (x ∷ xs) e z = omega (arith, z)

-- ---- the first call

pub started-small : (T : List ℤ) {K S : List ℕ} (r : Answer) {Q : List ℕ} → Started T K S r Q → NumbersSmall r
started-small T r s = by_form (form_of T) refl
  where
    refused : ((h : Sections) → Passing T h → ⊥) → NumbersSmall r
    refused n =
        let p = s.refused n in
        record {
          verdict = judged-small [] T [] r.verdict p.0;
          walked = omega (arith, p.2);
          words = λ q. absurd (false≢true (sym p.1 ∙ q));
        }

    taken : (h : Sections) → Passing T h → NumbersSmall r
    taken h p =
        let k = (s.taken h p).1 in
        let f = well-formed T h p.form in
        let w = f.limits in
        record {
          verdict = judged-small [] T [] r.verdict k.judged;
          walked = omega (arith, k.walked, walked-small T h w 0 (tree T h) r.verdict (omega arith) (table-laid T h p.laid));
          words = λ q. omega (arith, s.words, f.long, within h w);
        }

    by_layout : (h : Sections) → form_of T ≡ Ok h → (fs : List Refusal) → layout T h ≡ fs → NumbersSmall r
    by_layout h f [] e = taken h (record { form = f; laid = e })
    by_layout h f (x ∷ xs) e =
        refused (λ g p.
        let z : Ok h ≡ Ok g = sym f ∙ p.form in
        let i : g ≡ h = cc in
        let y : layout T h ≡ [] = rw i at p.laid in
        let o : ◌≡◌ {A = ℕ} 0 1 = cc in absurd (omega arith))

    by_form : (f : Result Sections Refusal) → form_of T ≡ f → NumbersSmall r
    by_form (Err x) e =
        refused (λ g p. let z : Err x ≡ Ok g = sym e ∙ p.form in let o : ◌≡◌ {A = ℕ} 0 1 = cc in absurd (omega arith))
    by_form (Ok h) e = by_layout h e (layout T h) refl
