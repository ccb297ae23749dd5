-- What each kind of statement leads to.
use Rattle.std.specs.Prelude.{ℕ, ◌+◌, ◌-◌, ◌<◌, ◌≤◌, ◌≡◌, refl, Bool, true, false, cond, List, ℤ, ltb, Err, None, Ok, Result, Some}
use Rattle.std.proofs.Common.{sym, ◌∙◌, ap, arith, lt-ltb, le-ltb}
use Rattle.answers.specs.declared.refusals.Refusal.{Refusal}
use Rattle.answers.specs.declared.refusals.Refusal.TheVariants.{StatementRecord, BlockLayout}
use Rattle.words.specs.declared.sections.Sections.{Sections}
use Rattle.conditions.specs.declared.Condition.{Condition}
use Rattle.statements.specs.declared.CallSite.{CallSite}
use Rattle.statements.specs.declared.Simple.{Simple}
use Rattle.statements.specs.declared.Statement.{Statement}
use Rattle.statements.specs.declared.Statement.TheVariants.{Plain, If, While, Bundle, Call}
use Rattle.statements.specs.Statements.{statement_at}
use Rattle.blocks.specs.declared.Parts.TheVariants.{Next, Blocks}
use Rattle.blocks.specs.Layout.{max_depth, bundle_layout, kind_layout, block_layout}
use Rattle.blocks.specs.LayoutLaws.{none-refused, skip, pass, refuse, refuse-part, block-end, block-some}
use Rattle.blocks.specs.Parts.{verdict, blocks_of, Leads, Parted}

pub blocks-past : (a n m b : ℕ) → b < a + 1 + n + m → Err (BlockLayout a) ≡ blocks_of a n m b
blocks-past a n m b p = rw (lt-ltb _ _ p)

pub blocks-within : (a n m b : ℕ) → a + 1 + n + m ≤ b → Ok (Blocks (a + 1 + n) (a + 1 + n + m)) ≡ blocks_of a n m b
blocks-within a n m b p = rw (le-ltb _ _ p)

module _ (T : List ℤ) (h : Sections) (d a b : ℕ) (within : a < b) where
  pub part-unread : statement_at T h a ≡ None → Parted T h d a b (Err (StatementRecord a))
  unfolding verdict
  part-unread e = record { leads = λ l some. rw (block-some l T h d a b _ some within e) }

  module _ {s : Statement} (e : statement_at T h a ≡ Some s) where
    pub part-deep : max_depth < d → Parted T h d a b (Err (BlockLayout a))
    part-deep p = record { leads = λ l some. refuse _ _ _ (lt-ltb _ _ p) ∙ ap verdict (sym (block-some l T h d a b _ some within e)) }

  module _ (shallow : d ≤ max_depth) where
    kind : (s : Statement) (l : ℕ) → 0 < l → statement_at T h a ≡ Some s
        → block_layout l T h d a b ≡ kind_layout s (λ e x y. block_layout (l - 1) T h e x y) T h d a b
    kind s l some e = block-some l T h d a b _ some within e ∙ skip _ _ _ (le-ltb _ _ shallow)

    pub part-plain : {p : Simple} → statement_at T h a ≡ Some (Plain p) → Parted T h d a b (Ok (Next (a + 1)))
    part-plain e = record { leads = λ l some. kind _ l some e }

    pub part-call : {c : CallSite} → statement_at T h a ≡ Some (Call c) → Parted T h d a b (Ok (Next (a + 1)))
    part-call e = record { leads = λ l some. kind _ l some e }

    if-leads : {c : Condition} {n m : ℕ} (t : Bool) → ltb b (a + 1 + n + m) ≡ t → statement_at T h a ≡ Some (If c n m) → (l : ℕ) → 0 < l
        → Leads (cond t (Err (BlockLayout a)) (Ok (Blocks (a + 1 + n) (a + 1 + n + m)))) T h d a b l
    if-leads true z e l some = refuse _ _ _ z ∙ ap verdict (sym (kind _ l some e))
    if-leads false z e l some = (shallow, kind _ l some e ∙ skip _ _ _ z)

    pub part-if : {c : Condition} {n m : ℕ} → statement_at T h a ≡ Some (If c n m) → Parted T h d a b (blocks_of a n m b)
    part-if e = record { leads = if-leads _ refl e }

    while-leads : {c : Condition} {n : ℕ} (t : Bool) → ltb b (a + 1 + n) ≡ t → statement_at T h a ≡ Some (While c n) → (l : ℕ) → 0 < l
        → Leads (cond t (Err (BlockLayout a)) (Ok (Blocks (a + 1 + n) (a + 1 + n)))) T h d a b l
    while-leads true z e l some = refuse _ _ _ z ∙ ap verdict (sym (kind _ l some e))
    while-leads {c} {n} false z e l some = (
      shallow,
      (kind _ l some e ∙ skip _ _ _ z)
          ∙ rw (pass _ (block_layout (l - 1) T h d (a + 1 + n) b) (block-end (l - 1) T h (d + 1) (a + 1 + n) (a + 1 + n) (omega arith))),
    )

    pub part-while : {c : Condition} {n : ℕ} → statement_at T h a ≡ Some (While c n) → Parted T h d a b (blocks_of a n 0 b)
    part-while {c} {n} e = let z : a + 1 + n + 0 ≡ a + 1 + n = omega arith in rw z (record { leads = while-leads _ refl e })

    module _ {n : ℕ} (e : statement_at T h a ≡ Some (Bundle n)) {r : Result (Unit {0}) Refusal} (w : r ≡ verdict (bundle_layout T h a n b)) where
      pub part-bundle-refused : {v : Refusal} → r ≡ Err v → Parted T h d a b (Err v)
      part-bundle-refused q = record { leads = λ l some. sym q ∙ (refuse-part _ _ r _ w q ∙ ap verdict (sym (kind _ l some e))) }

      pub part-bundle : r ≡ Ok tt → Parted T h d a b (Ok (Next (a + 1 + n)))
      part-bundle q = record { leads = λ l some. kind _ l some e ∙ pass _ _ (none-refused _ r w q) }
