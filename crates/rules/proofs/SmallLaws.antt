-- The first fault of a table has a small place and a small pointer: statements, objects, variables, rows and entries are few, and those that are not are
-- refused before.
use Prim.Native.Nat.{ℕ, zero, suc, ◌+◌, ◌<◌, ◌≤◌}
use Rattle.std.specs.Prelude.{◌≡◌, Bool, true, false, ◌&&◌, cond, ltb, ℤ, Err, None, Ok, Option, Result, Some}
use Rattle.std.proofs.Math.Path.{refl}
use Rattle.std.proofs.Common.{sym}
use Rattle.std.proofs.Math.Bool.{not}
use mathlib.Core.List.{List, [], ◌∷◌}
use native.Mathlib.Omega.{arith}
use borrow.Author.Tests.{ltb-true, ltb-false}
use Rattle.std.proofs.Math.ListN.{length}
use Rattle.answers.specs.declared.refusals.Refusal.{Refusal}
use Rattle.answers.specs.declared.refusals.Refusal.TheVariants.{Length, Directory, ObjectLength, VariableRecord, StatementRecord, BlockLayout}
use Rattle.answers.specs.declared.refusals.Refusal.TheVariants.{LoopFact}
use Rattle.words.specs.Sections.{Limits}
use Rattle.words.specs.declared.sections.Sections.{Sections}
use Rattle.statements.specs.StatementLaws.{read-typed}
use Rattle.statements.specs.Statements.{statement_at}
use Rattle.statements.specs.Typed.{SimpleTyped}
use Rattle.statements.specs.declared.CallSite.{CallSite}
use Rattle.statements.specs.declared.Simple.{Simple}
use Rattle.statements.specs.declared.Simple.TheVariants.{Literal, AddConstant, Arithmetic, Null, Address}
use Rattle.statements.specs.declared.Simple.TheVariants.{PointerOffset, PointerIndex, Load, Store, Check, Declare}
use Rattle.statements.specs.declared.Statement.{Statement}
use Rattle.statements.specs.declared.Statement.TheVariants.{Plain, If, While, Bundle, Call}
use Rattle.table.specs.Form.{length_right, directory_right, sections_of, lowest_object, lowest_variable, lowest_row, lowest_statement, items_form, form_of}
use Rattle.table.specs.FormLaws.{directory-long, well-formed}
use Rattle.blocks.specs.Tree.{Block, nil, plain, branch, loop, bundle, call, unread, tree}
use Rattle.blocks.specs.Layout.{contents, contents_from, bundle_layout, kind_layout, node_layout, block_layout, layout}
use Rattle.blocks.specs.LayoutLaws.{passed}
use Rattle.blocks.specs.Shape.{size, Numbered, ReadsLine, Reads}
use Rattle.blocks.specs.ShapeLaws.{table-laid}
use Rattle.listed.specs.Entries.{entry_count, entry_at, entry_if, belongs, entries_from, entries_of}
use Rattle.listed.specs.ListForm.{lowest_entry, list_faults}
use Rattle.listed.specs.declared.Entry.{Entry}
use Rattle.rules.specs.FactSets.{FactSets, State}
use Rattle.rules.specs.BoundsRules.{is_pointer, declared, known, bounds_shown, cons_if, unshown_from, unshown, row_unshown, row_bound}
use Rattle.rules.specs.Calls.{Routine, call_faults}
use Rattle.rules.specs.Rules.{access_at, bounds_at, rows_at, entries_unshown, bundle_faults, block_faults}
use Rattle.rules.specs.Verdict.{environment_of, section_faults, form_faults, faults, verdict_reads}
use Rattle.rules.specs.ByChains.{by_chains, Judged}
use Rattle.rules.specs.Small.{RefusalSmall, FirstSmall, ReadingSmall, none-small, one-small, also-small, when-small, verdict-small}
use Rattle.rules.specs.declared.Bounds.{Bounds}
use Rattle.rules.specs.declared.Environment.{Environment}

-- ---- cause 6

at-layout : (a : ℕ) → a < 1024 → RefusalSmall (BlockLayout a)
at-layout a p = record { place-small = omega arith; pointer-small = omega arith }

at-record : (a : ℕ) → a < 1024 → RefusalSmall (StatementRecord a)
at-record a p = record { place-small = omega arith; pointer-small = omega arith }

module _ (T : List ℤ) (h : Sections) where
  contents-small : (n a x : ℕ) → a < 1024 → x + n ≤ 1024 → FirstSmall (contents n T h a x)
  unfolding contents
  contents-small zero a x p q = none-small
  contents-small (suc n) a x p q = go (statement_at T h x) (contents-small n a (x + 1) p (omega arith))
    where
      go : (s : Option Statement) → FirstSmall (contents n T h a (x + 1)) → FirstSmall (contents_from s a x (contents n T h a (x + 1)))
      go None i = one-small (at-record x (omega arith))
      go (Some (Plain s)) i = i
      go (Some (If c k m)) i = one-small (at-layout a p)
      go (Some (While c k)) i = one-small (at-layout a p)
      go (Some (Bundle k)) i = one-small (at-layout a p)
      go (Some (Call c)) i = one-small (at-layout a p)

  bundle-small : (a n b : ℕ) → a < b → b ≤ 1024 → FirstSmall (bundle_layout T h a n b)
  unfolding bundle_layout
  bundle-small a n b p q =
      also-small (when-small _ (at-layout a (omega arith))) (λ e.
      also-small (when-small _ (at-layout a (omega arith))) (λ e.
      let u : a + 1 + n ≤ b = ltb-false _ _ (passed _ _ e) in
      contents-small n a (a + 1) (omega arith) (omega arith)))

  module _ (l : ℕ) (ih : (d a b : ℕ) → b ≤ 1024 → FirstSmall (block_layout l T h d a b)) where
    kind-small : (d a b : ℕ) (s : Statement) → a < b → b ≤ 1024 → FirstSmall (kind_layout s (λ e x y. block_layout l T h e x y) T h d a b)
    kind-small d a b (Plain s) p q = ih d (a + 1) b q
    kind-small d a b (If c n m) p q =
        also-small (when-small _ (at-layout a (omega arith))) (λ e.
        let u : a + 1 + n + m ≤ b = ltb-false _ _ (passed _ _ e) in
        also-small (ih (d + 1) (a + 1) (a + 1 + n) (omega arith)) (λ e.
        also-small (ih (d + 1) (a + 1 + n) (a + 1 + n + m) (omega arith)) (λ e. ih d (a + 1 + n + m) b q)))
    kind-small d a b (While c n) p q =
        also-small (when-small _ (at-layout a (omega arith))) (λ e.
        let u : a + 1 + n ≤ b = ltb-false _ _ (passed _ _ e) in
        also-small (ih (d + 1) (a + 1) (a + 1 + n) (omega arith)) (λ e. ih d (a + 1 + n) b q))
    kind-small d a b (Bundle n) p q = also-small (bundle-small a n b p q) (λ e. ih d (a + 1 + n) b q)
    kind-small d a b (Call c) p q = ih d (a + 1) b q

    node-small : (d a b : ℕ) (x : Bool) (s : Option Statement) → ltb a b ≡ x → b ≤ 1024
        → FirstSmall (node_layout x s (λ e y z. block_layout l T h e y z) T h d a b)
    node-small d a b false s g q = none-small
    node-small d a b true None g q = let p = ltb-true a b g in one-small (at-record a (omega arith))
    node-small d a b true (Some s) g q =
        let p = ltb-true a b g in
        also-small (when-small _ (at-layout a (omega arith))) (λ e. kind-small d a b s p q)

  pub block-layout-small : (l d a b : ℕ) → b ≤ 1024 → FirstSmall (block_layout l T h d a b)
  unfolding block_layout
  block-layout-small zero d a b q = none-small
  block-layout-small (suc l) d a b q = node-small l (λ d a b q. block-layout-small l d a b q) d a b (ltb a b) (statement_at T h a) refl q

  pub layout-small : Limits h → FirstSmall (layout T h)
  unfolding layout
  layout-small w = block-layout-small h.statements 0 0 h.statements w.statements

-- ---- causes 1 to 5

items-small : (T : List ℤ) (h : Sections) (r : Refusal) → Limits h → items_form T h ≡ Err r → RefusalSmall r
unfolding items_form
items-small T h r w e =
    go (ltb (lowest_object T h) h.objects) (ltb (lowest_variable T h) h.variables) (ltb (lowest_row T h) h.rows)
    (ltb (lowest_statement T h) h.statements) (λ q. ltb-true _ _ q) (λ q. ltb-true _ _ q) (λ q. ltb-true _ _ q) (λ q. ltb-true _ _ q) e
  where
    go : (o v i a : Bool) → (o ≡ true → lowest_object T h < h.objects) → (v ≡ true → lowest_variable T h < h.variables)
        → (i ≡ true → lowest_row T h < h.rows) → (a ≡ true → lowest_statement T h < h.statements)
        → cond o (Err (ObjectLength (lowest_object T h)))
        (cond v (Err (VariableRecord (lowest_variable T h)))
        (cond i (Err (VariableRecord (h.variables + lowest_row T h)))
        (cond a (Err (StatementRecord (lowest_statement T h))) (Ok h))))
        ≡ Err r → RefusalSmall r
    go true v i a p q s t e =
        let n : ObjectLength (lowest_object T h) ≡ r = cc in
        let l = p refl in
        rw (sym n) (record { place-small = omega (arith, w.objects); pointer-small = omega arith })
    go false true i a p q s t e =
        let n : VariableRecord (lowest_variable T h) ≡ r = cc in
        let l = q refl in
        rw (sym n) (record { place-small = omega (arith, w.variables); pointer-small = omega arith })
    go false false true a p q s t e =
        let n : VariableRecord (h.variables + lowest_row T h) ≡ r = cc in
        let l = s refl in
        rw (sym n) (record { place-small = omega (arith, w.variables, w.rows); pointer-small = omega arith })
    go false false false true p q s t e =
        let n : StatementRecord (lowest_statement T h) ≡ r = cc in
        let l = t refl in
        rw (sym n) (record { place-small = omega (arith, w.statements); pointer-small = omega arith })
    go false false false false p q s t e = let z : ◌≡◌ {A = ℕ} 0 1 = cc in absurd (omega arith)

pub form_small : (T : List ℤ) (r : Refusal) → form_of T ≡ Err r → RefusalSmall r
unfolding form_of
form_small T r e = go (length_right T) (directory_right T (sections_of T)) (λ q. (directory-long T (sections_of T) q).0) e
  where
    go : (a b : Bool) → (b ≡ true → Limits (sections_of T))
        → cond a (cond b (items_form T (sections_of T)) (Err Directory)) (Err Length) ≡ Err r → RefusalSmall r
    go true true w e = items-small T (sections_of T) r (w refl) e
    go true false w e = let n : Directory ≡ r = cc in rw (sym n) (record { place-small = omega arith; pointer-small = omega arith })
    go false b w e = let n : Length ≡ r = cc in rw (sym n) (record { place-small = omega arith; pointer-small = omega arith })

-- ---- cause 17 by form

at_fact : (e : ℕ) → e ≤ 256 → RefusalSmall (LoopFact e)
at_fact e p = record { place-small = omega arith; pointer-small = omega arith }

pub list-small : (T : List ℤ) (h : Sections) (L : List ℤ) → FirstSmall (list_faults T h L)
unfolding list_faults
list-small T h L = go (ltb 1024 (length L)) (ltb (lowest_entry T h L) (entry_count L)) (λ q. ltb-false _ _ q) (λ q. ltb-true _ _ q)
  where
    go : (a b : Bool) → (a ≡ false → length L ≤ 1024) → (b ≡ true → lowest_entry T h L < entry_count L)
        → FirstSmall (cond a (LoopFact 256 ∷ []) (cond b (LoopFact (lowest_entry T h L) ∷ []) []))
    go true b p q = one-small (at_fact 256 (omega arith))
    go false true p q = let l = p refl in let u = q refl in one-small (at_fact (lowest_entry T h L) (omega arith))
    go false false p q = none-small

list-short : (T : List ℤ) (h : Sections) (L : List ℤ) → list_faults T h L ≡ [] → length L ≤ 1024
unfolding list_faults
list-short T h L e = go (ltb 1024 (length L)) (λ q. ltb-false _ _ q) e
  where
    go : (a : Bool) → (a ≡ false → length L ≤ 1024)
        → cond a (LoopFact 256 ∷ []) (cond (ltb (lowest_entry T h L) (entry_count L)) (LoopFact (lowest_entry T h L) ∷ []) []) ≡ [] → length L ≤ 1024
    go true p e = let z : ◌≡◌ {A = ℕ} 0 1 = cc in absurd (omega arith)
    go false p e = p refl

-- The entries of a list that is not too long.
abbrev pub EntriesFew : List Entry → Type 0
EntriesFew [] = Unit {0}
EntriesFew (e ∷ es) = (e.number ≤ 256) × EntriesFew es

entries-from : (L : List ℤ) (a n e : ℕ) → e + n ≤ 256 → EntriesFew (entries_from L a e n)
unfolding entries_from entry_at
entries-from L a zero e p = tt
entries-from L a (suc n) e p = go (belongs L a e) (entries-from L a n (e + 1) (omega arith))
  where
    go : (b : Bool) → EntriesFew (entries_from L a (e + 1) n) → EntriesFew (entry_if b (entry_at L e) (entries_from L a (e + 1) n))
    go true i = (omega arith, i)
    go false i = i

entries-few : (L : List ℤ) (a : ℕ) → length L ≤ 1024 → EntriesFew (entries_of L a)
unfolding entries_of
entries-few L a p = entries-from L a (entry_count L) 0 (omega arith)

-- ---- the walk

-- The first of the pointers is one of the 16.
pub record FirstFew (ps : List ℕ) : Type 0 where
  pub few : (p : ℕ) (qs : List ℕ) → ps ≡ p ∷ qs → p < 17

no_pointer : FirstFew []
no_pointer = record { few = λ p qs e. let z : ◌≡◌ {A = ℕ} 0 1 = cc in absurd (omega arith) }

this-pointer : {p : ℕ} {ps : List ℕ} → p < 17 → FirstFew (p ∷ ps)
this-pointer {p} l = record { few = λ q qs e. let i : p ≡ q = cc in omega arith }

if-pointer : (b : Bool) (p : ℕ) {ps : List ℕ} → p < 17 → FirstFew ps → FirstFew (cons_if b p ps)
if-pointer true p l f = this-pointer l
if-pointer false p l f = f

access-small : (b : Bool) (a : ℕ) → a < 1024 → FirstSmall (access_at b a)
unfolding access_at
access-small true a l = none-small
access-small false a l = one-small (record { place-small = omega arith; pointer-small = omega arith })

bounds-small : (a : ℕ) (ps : List ℕ) → a < 1024 → FirstFew ps → FirstSmall (bounds_at a ps)
unfolding bounds_at
bounds-small a [] l f = none-small
bounds-small a (p ∷ ps) l f = let q = f.few p ps refl in one-small (record { place-small = omega arith; pointer-small = omega arith })

rows-small : (a : ℕ) (R Q : List ℕ) → a < 1024 → FirstSmall (rows_at a R Q)
unfolding rows_at
rows-small a R Q l = when-small _ (record { place-small = omega arith; pointer-small = omega arith })

module _ (S : FactSets) where
  open S use {Facts}

  unshown-from : (E : Environment) (f : Facts) (K : List Bounds) (n p : ℕ) → p + n ≤ 16 → FirstFew (unshown_from S E f K n p)
  unfolding unshown_from
  unshown-from E f K zero p l = no_pointer
  unshown-from E f K (suc n) p l =
      if-pointer (is_pointer E p && not (bounds_shown S f p (known K p) (declared E p))) p (omega arith) (unshown-from E f K n (p + 1) (omega arith))

  unshown-few : (E : Environment) (f : Facts) (K : List Bounds) → FirstFew (unshown S E f K)
  unfolding unshown
  unshown-few E f K = unshown-from E f K 16 0 (omega arith)

  entries-small : (es : List Entry) (f : Facts) → EntriesFew es → FirstSmall (entries_unshown S es f)
  unfolding entries_unshown
  entries-small [] f p = none-small
  entries-small (e ∷ es) f p = also-small (when-small _ (at_fact e.number p.0)) (λ z. entries-small es f p.1)

  call-small : (rs : List Routine) (E : Environment) (a : ℕ) (c : CallSite) (f : Facts) (K : List Bounds) → a < 1024
      → FirstSmall (call_faults S rs E a c f K)
  unfolding call_faults
  call-small rs E a c f K l =
      also-small (when-small _ (record { place-small = omega arith; pointer-small = omega arith }))
      (λ z. when-small _ (record { place-small = omega arith; pointer-small = omega arith }))

  module _ (T : List ℤ) (h : Sections) (w : Limits h) (E : Environment) where
    row-few : (f : Facts) (K : List Bounds) (s : Simple) → SimpleTyped T h s → FirstFew (row_unshown S E f K s)
    unfolding row_unshown
    row-few f K (Literal x k) t = no_pointer
    row-few f K (AddConstant x y k) t = no_pointer
    row-few f K (Arithmetic x y z op) t = no_pointer
    row-few f K (Null p) t = no_pointer
    row-few f K (Address p o) t = no_pointer
    row-few f K (PointerOffset p q k) t = no_pointer
    row-few f K (PointerIndex p q i) t = no_pointer
    row-few f K (Load x p i k) t = no_pointer
    row-few f K (Store p i k x) t = no_pointer
    row-few f K (Check c) t = no_pointer
    row-few f K (Declare p r) t =
        if-pointer (not (bounds_shown S f p (known K p) (row_bound E (r + 1) p))) p (omega (arith, t.pointer.below, w.variables)) no_pointer

    bundle-faults-small : (ss : List Simple) (a : ℕ) (v : State Facts) (K : List Bounds) → a + length ss ≤ 1024 → ReadsLine T h a ss
        → FirstSmall (bundle_faults S E a ss v K)
    unfolding bundle_faults
    bundle-faults-small [] a v K l r = none-small
    bundle-faults-small (s ∷ ss) a v K l r =
        also-small (access-small _ a (omega arith)) (λ z.
        also-small (bounds-small a _ (omega arith) (row-few v.facts K s (read-typed T h a (Plain s) r.0))) (λ z.
        bundle-faults-small ss (a + 1) _ _ (omega arith) r.1))

    module _ (L : List ℤ) (short : length L ≤ 1024) (callees : List Routine) where
      pub block-small : (t : Block) (a : ℕ) (v : State Facts) → Numbered t a → a + size t ≤ 1024 → Reads T h t
          → FirstSmall (block_faults S E L callees t v)
      unfolding block_faults size
      block-small nil a v n l r = none-small
      block-small (plain b s t) a v n l r =
          let e : b ≡ a = n.0 in
          also-small (bounds-small b _ (omega arith) (row-few _ _ s (read-typed T h b (Plain s) r.0))) (λ z.
          also-small (bounds-small b _ (omega arith) (unshown-few _ _ _)) (λ z.
          block-small t (b + 1) _ n.1 (omega arith) r.1))
      block-small (branch b c t e s) a v n l r =
          let i : b ≡ a = n.0 in
          also-small (block-small t (b + 1) _ n.1 (omega arith) r.1) (λ z.
          also-small (block-small e (b + 1 + size t) _ n.2 (omega arith) r.2) (λ z.
          also-small (rows-small b _ _ (omega arith)) (λ z.
          block-small s (b + 1 + size t + size e) _ n.3 (omega arith) r.3)))
      block-small (loop b c t s) a v n l r =
          let i : b ≡ a = n.0 in
          also-small (entries-small _ _ (entries-few L b short)) (λ z.
          also-small (block-small t (b + 1) _ n.1 (omega arith) r.1) (λ z.
          also-small (entries-small _ _ (entries-few L b short)) (λ z.
          also-small (rows-small b _ _ (omega arith)) (λ z.
          block-small s (b + 1 + size t) _ n.2 (omega arith) r.2))))
      block-small (bundle b ss t) a v n l r =
          let i : b ≡ a = n.0 in
          also-small (bundle-faults-small ss (b + 1) _ _ (omega arith) r.1) (λ z.
          also-small (bounds-small b _ (omega arith) (unshown-few _ _ _)) (λ z.
          block-small t (b + 1 + length ss) _ n.1 (omega arith) r.2))
      block-small (call b c t) a v n l r =
          let i : b ≡ a = n.0 in
          also-small (call-small callees E b c _ _ (omega arith)) (λ z.
          also-small (bounds-small b _ (omega arith) (unshown-few _ _ _)) (λ z.
          block-small t (b + 1) _ n.1 (omega arith) r.1))
      block-small (unread b) a v n l r = absurd n

  -- ---- the whole table

  sections-small : (callees : List Routine) (T : List ℤ) (h : Sections) (L : List ℤ) → Limits h → FirstSmall (section_faults S callees T h L)
  unfolding section_faults
  sections-small callees T h L w =
      also-small (layout-small T h w) (λ e.
      also-small (list-small T h L) (λ q.
      let t = table-laid T h e in
      block-small T h w (environment_of T h) L (list-short T h L q) callees (tree T h) 0 _ t.numbered (omega (arith, t.ends, w.statements)) t.reads))

  -- THE FIRST FAULT OF A TABLE, by any facts, whatever it may call.
  pub faults-small : (callees : List Routine) (T L : List ℤ) → FirstSmall (faults S callees T L)
  unfolding faults
  faults-small callees T L = go (form_of T) refl
    where
      go : (f : Result Sections Refusal) → form_of T ≡ f → FirstSmall (form_faults S callees T L f)
      go (Err r) e = one-small (form_small T r e)
      go (Ok h) e = sections-small callees T h L (well-formed T h e).limits

-- THE VERDICT ON A TABLE.
pub judged-small : (callees : List Routine) (T L : List ℤ) (v : Result (Unit {0}) Refusal) → Judged callees T L v → ReadingSmall (verdict_reads v)
unfolding Judged
judged-small callees T L v j =
    let S = by_chains j.decider in
    verdict-small (faults S callees T L) v (faults-small S callees T L) (j.by-each j.decider j.decides).verdict
