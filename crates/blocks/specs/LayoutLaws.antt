-- The layout, one statement at a time, as the code meets it.
use Rattle.std.specs.Prelude.{ℕ, zero, suc, ◌+◌, ◌-◌, ◌<◌, ◌≤◌, ◌≡◌, refl, Bool, true, false, ◌||◌, List, [], ◌∷◌, ℤ, ltb, eqb}
use Rattle.std.specs.Prelude.{Err, None, Ok, Option, Result, Some}
use Rattle.std.proofs.Math.Path.{sym, ap}
use Rattle.std.proofs.Common.{◌∙◌, arith, sub-one, pos_of_ne-zero}
use borrow.Author.Tests.{lt-ltb, le-ltb, ne_eqb, eqb-false, ltb-false}
use Rattle.answers.specs.declared.refusals.Refusal.{Refusal}
use Rattle.answers.specs.declared.refusals.Refusal.TheVariants.{StatementRecord, BlockLayout}
use Rattle.words.specs.declared.sections.Sections.{Sections}
use Rattle.statements.specs.declared.Simple.{Simple}
use Rattle.statements.specs.declared.Statement.{Statement}
use Rattle.statements.specs.declared.Statement.TheVariants.{Plain, If, While, Bundle, Call}
use Rattle.statements.specs.Statements.{statement_at}
use Rattle.blocks.specs.declared.Parts.{Parts}
use Rattle.blocks.specs.declared.Parts.TheVariants as parts
use Rattle.blocks.specs.Parts.{verdict, Leads, Parted}
use Rattle.blocks.specs.Layout.{max_depth, max_bundle, also, when, contents, contents_from, bundle_layout, node_layout, block_layout}

-- Lists of refusals.

pub laid_out : (xs : List Refusal) → xs ≡ [] → Ok tt ≡ verdict xs
unfolding verdict
laid_out xs e = rw e

pub none-refused : (xs : List Refusal) (r : Result (Unit {0}) Refusal) → r ≡ verdict xs → r ≡ Ok tt → xs ≡ []
unfolding verdict
none-refused [] r e p = refl
none-refused (x ∷ xs) r e p = cc

-- A test that does not refuse leaves the rest, and so does a part that is laid out.
pub skip : (b : Bool) (r : Refusal) (ys : List Refusal) → b ≡ false → also (when b r) ys ≡ ys
unfolding also when
skip b r ys e = rw e

pub pass : (xs ys : List Refusal) → xs ≡ [] → also xs ys ≡ ys
unfolding also
pass xs ys e = rw e

-- A test that refuses is the answer, and so is a part that is refused.
pub refuse : (b : Bool) (r : Refusal) (ys : List Refusal) → b ≡ true → Err r ≡ verdict (also (when b r) ys)
unfolding also when verdict
refuse b r ys e = rw e

pub refuse-part : (xs ys : List Refusal) (l : Result (Unit {0}) Refusal) (r : Refusal) → l ≡ verdict xs → l ≡ Err r → l ≡ verdict (also xs ys)
unfolding also verdict
refuse-part [] ys l r e p = let z : Ok tt ≡ Err r = sym e ∙ p in let o : ◌≡◌ {A = ℕ} 0 1 = cc in absurd (omega arith)
refuse-part (x ∷ xs) ys l r e p = e

-- Where nothing is refused, no part is.
pub no-first : (xs ys : List Refusal) → also xs ys ≡ [] → xs ≡ []
unfolding also
no-first [] ys e = refl
no-first (x ∷ xs) ys e = cc

pub no-rest : (xs ys : List Refusal) → also xs ys ≡ [] → ys ≡ []
unfolding also
no-rest [] ys e = e
no-rest (x ∷ xs) ys e = cc

pub passed : (b : Bool) (r : Refusal) → when b r ≡ [] → b ≡ false
unfolding when
passed true r e = cc
passed false r e = refl

-- The contents of a bundle.

pub contents-none : (n : ℕ) (T : List ℤ) (h : Sections) (a x : ℕ) → n ≤ 0 → contents n T h a x ≡ []
unfolding contents
contents-none zero T h a x p = refl
contents-none (suc n) T h a x p = absurd (omega arith)

pub contents-some : (n : ℕ) (T : List ℤ) (h : Sections) (a x : ℕ) (s : Option Statement) → 0 < n → statement_at T h x ≡ s
    → contents n T h a x ≡ contents_from s a x (contents (n - 1) T h a (x + 1))
unfolding contents
contents-some zero T h a x s p e = absurd (omega arith)
contents-some (suc n) T h a x s p e = rw (e, sub-one)

module _ (n : ℕ) (T : List ℤ) (h : Sections) (a x : ℕ) (some : 0 < n) where
  pub contents-unread : statement_at T h x ≡ None → Err (StatementRecord x) ≡ verdict (contents n T h a x)
  unfolding verdict
  contents-unread e = rw (contents-some n T h a x _ some e)

  pub contents-plain : (s : Simple) → statement_at T h x ≡ Some (Plain s) → contents n T h a x ≡ contents (n - 1) T h a (x + 1)
  contents-plain s e = contents-some n T h a x _ some e

  pub contents-other : (s : Statement) (r : Result (Unit {0}) Refusal) → ((p : Simple) → s ≡ Plain p → ⊥) → statement_at T h x ≡ Some s
      → r ≡ Err (BlockLayout a)
      → r ≡ verdict (contents n T h a x)
  unfolding verdict
  contents-other (Plain p) r q e w = absurd (q p refl)
  contents-other (If c k m) r q e w = rw (contents-some n T h a x _ some e) w
  contents-other (While c k) r q e w = rw (contents-some n T h a x _ some e) w
  contents-other (Bundle k) r q e w = rw (contents-some n T h a x _ some e) w
  contents-other (Call k) r q e w = rw (contents-some n T h a x _ some e) w

-- A bundle.

or-first : (p q : Bool) → (p || q) ≡ false → p ≡ false
or-first true q e = e
or-first false q e = refl

or-rest : (p q : Bool) → (p || q) ≡ false → q ≡ false
or-rest true q e = cc
or-rest false q e = e

module _ (T : List ℤ) (h : Sections) (a n b : ℕ) where
  pub bundle-zero : n ≡ 0 → Err (BlockLayout a) ≡ verdict (bundle_layout T h a n b)
  unfolding bundle_layout
  bundle-zero p = refuse _ _ _ (rw p)

  pub bundle-great : (n ≡ 0 → ⊥) → max_bundle < n → Err (BlockLayout a) ≡ verdict (bundle_layout T h a n b)
  unfolding bundle_layout
  bundle-great p q = refuse _ _ _ (rw (ne_eqb n 0 p, lt-ltb max_bundle n q))

  module _ (some : n ≡ 0 → ⊥) (few : n ≤ max_bundle) where
    counted : (eqb n 0 || ltb max_bundle n) ≡ false
    counted = rw (ne_eqb n 0 some, le-ltb max_bundle n few)

    pub bundle-past : b < a + 1 + n → Err (BlockLayout a) ≡ verdict (bundle_layout T h a n b)
    unfolding bundle_layout
    bundle-past q = refuse _ _ _ (lt-ltb _ _ q) ∙ ap verdict (sym (skip _ _ _ counted))

    pub bundle-held : a + 1 + n ≤ b → contents n T h a (a + 1) ≡ bundle_layout T h a n b
    unfolding bundle_layout
    bundle-held q = sym (skip _ _ _ counted ∙ skip _ _ _ (le-ltb _ _ q))

-- What a bundle that is laid out is.
module _ (T : List ℤ) (h : Sections) (a n b : ℕ) (e : bundle_layout T h a n b ≡ []) where
  pub bundle-within : a + 1 + n ≤ b
  unfolding bundle_layout
  bundle-within = ltb-false _ _ (passed _ _ (no-first _ _ (no-rest _ _ e)))

  count-right : (eqb n 0 || ltb max_bundle n) ≡ false
  unfolding bundle_layout
  count-right = passed _ _ (no-first _ _ e)

  pub bundle-counted : (0 < n) × (n ≤ max_bundle)
  bundle-counted = (pos_of_ne-zero (eqb-false n 0 (or-first (eqb n 0) _ count-right)), ltb-false _ _ (or-rest (eqb n 0) (ltb max_bundle n) count-right))

  pub bundle-contents : contents n T h a (a + 1) ≡ []
  unfolding bundle_layout
  bundle-contents = no-rest _ _ (no-rest _ _ e)

-- A block.

pub block_none : (l : ℕ) (T : List ℤ) (h : Sections) (d a b : ℕ) → l ≤ 0 → block_layout l T h d a b ≡ []
unfolding block_layout
block_none zero T h d a b p = refl
block_none (suc l) T h d a b p = absurd (omega arith)

pub block-end : (l : ℕ) (T : List ℤ) (h : Sections) (d a b : ℕ) → b ≤ a → block_layout l T h d a b ≡ []
unfolding block_layout
block-end zero T h d a b p = refl
block-end (suc l) T h d a b p = rw (le-ltb _ _ p)

pub block-some : (l : ℕ) (T : List ℤ) (h : Sections) (d a b : ℕ) (s : Option Statement) → 0 < l → a < b → statement_at T h a ≡ s
    → block_layout l T h d a b ≡ node_layout true s (λ e x y. block_layout (l - 1) T h e x y) T h d a b
unfolding block_layout
block-some zero T h d a b s p q e = absurd (omega arith)
block-some (suc l) T h d a b s p q e = rw (lt-ltb _ _ q, e, sub-one)

-- The loop's invariant: `xs`, the refusals of the whole block, are those of what is left of it.
pub record Kept (T : List ℤ) (h : Sections) (d end allowed : ℕ) (xs : List Refusal) (at left : ℕ) : Type 0 where
  pub same : xs ≡ block_layout left T h d at end
  pub less : left ≤ allowed

module _ {T : List ℤ} {h : Sections} {d end allowed : ℕ} {xs : List Refusal} {at left : ℕ} (k : Kept T h d end allowed xs at left) where
  pub turn-none : left ≤ 0 → Ok tt ≡ verdict xs
  turn-none p = laid_out xs (k.same ∙ block_none left T h d at end p)

  pub turn_end : end ≤ at → Ok tt ≡ verdict xs
  turn_end p = laid_out xs (k.same ∙ block-end left T h d at end p)

  pub fewer : left - 1 ≤ allowed
  fewer = omega (arith, k.less)

  pub falls : {t : ℕ} → 0 < left → allowed ≡ t → left - 1 < t
  falls some e = omega (arith, some, k.less)

  module _ (some : 0 < left) {r : Result Parts Refusal} (p : Parted T h d at end r) where
    pub turn-refused : {v : Refusal} → r ≡ Err v → Err v ≡ verdict xs
    turn-refused e = (rw e at (p.leads left some)) ∙ ap verdict (sym k.same)

    pub turn-next : {x : ℕ} → r ≡ Ok (parts.Next x) → Kept T h d end allowed xs x (left - 1)
    turn-next e = record { same = k.same ∙ (rw e at (p.leads left some)); less = fewer }

    module _ {x y : ℕ} (e : r ≡ Ok (parts.Blocks x y)) where
      blocks : Leads (Ok (parts.Blocks x y)) T h d at end left
      blocks = rw e at (p.leads left some)

      pub shallow : d ≤ max_depth
      shallow = blocks.0

      module _ {o : Result (Unit {0}) Refusal} (w : o ≡ verdict (block_layout (left - 1) T h (d + 1) (at + 1) x)) where
        pub then-refused : {v : Refusal} → o ≡ Err v → o ≡ verdict xs
        then-refused q = refuse-part _ _ o _ w q ∙ ap verdict (sym (k.same ∙ blocks.1))

        module _ (q : o ≡ Ok tt) {z : Result (Unit {0}) Refusal} (u : z ≡ verdict (block_layout (left - 1) T h (d + 1) x y)) where
          past-then : xs ≡ also (block_layout (left - 1) T h (d + 1) x y) (block_layout (left - 1) T h d y end)
          past-then = k.same ∙ (blocks.1 ∙ pass _ _ (none-refused _ o w q))

          pub else-refused : {v : Refusal} → z ≡ Err v → z ≡ verdict xs
          else-refused f = refuse-part _ _ z _ u f ∙ ap verdict (sym past-then)

          pub turn-blocks : z ≡ Ok tt → Kept T h d end allowed xs y (left - 1)
          turn-blocks f = record { same = past-then ∙ pass _ _ (none-refused _ z u f); less = fewer }
