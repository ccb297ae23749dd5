-- What the form of a list says: as the code finds it, and of each entry.
use Rattle.statements.specs.declared.Statement.{Statement}
use Rattle.std.specs.Prelude.{ℕ, ◌+◌, ◌*◌, ◌/◌, ◌≤◌, ◌<◌, ◌≡◌, Bool, true, false, cond, ◌&&◌, ◌||◌, List, [], ◌∷◌, ℤ, length, leb, ltb}
use Rattle.std.specs.Prelude.{Err, Ok, Option, Result}
use Rattle.std.proofs.Math.Path.{refl}
use Rattle.std.proofs.Common.{sym, ◌∙◌, ap, arith}
use Rattle.std.proofs.lemmas.Bool.{false≢true}
use borrow.Author.Tests.{lt-ltb, le-ltb, ltb-false}
use Rattle.answers.specs.declared.refusals.Refusal.{Refusal}
use Rattle.answers.specs.declared.refusals.Refusal.TheVariants.{LoopFact}
use Rattle.words.specs.declared.sections.Sections.{Sections}
use Rattle.words.specs.Fields.{plain, is_below}
use Rattle.words.specs.declared.Fields.{Fields}
use Rattle.conditions.specs.Conditions.{same_kind, condition_right}
use Rattle.sums.specs.Numbers.{bias}
use Rattle.statements.specs.Statements.{statement_at}
use Rattle.table.specs.Searches.{holds-below}
use Rattle.listed.specs.Entries.{entry_count}
use Rattle.listed.specs.ListForm.{is_while, names_while, entry_right, lowest_entry, list_faults, list_form}

-- The condition x < y is right exactly where x and y are of one kind.
pub less-right : (T : List ℤ) (h : Sections) (f : Fields) → f.second ≡ bias → f.third ≡ bias → condition_right T h f ≡ same_kind T h f.first f.fourth
unfolding condition_right is_below
less-right T h f s t =
    rw (s, t) (go (same_kind T h f.first f.fourth))
  where
    go : (b : Bool) → (b || false) ≡ b
    go true = refl
    go false = refl

module _ (T : List ℤ) (h : Sections) (L : List ℤ) where
  pub list-long : 1024 < length L → Err (LoopFact 256) ≡ list_form (list_faults T h L)
  unfolding list_form list_faults
  list-long l = rw (lt-ltb 1024 (length L) l) refl

  module _ (short : length L ≤ 1024) {e n : ℕ} (at : e ≡ lowest_entry T h L) (count : n ≡ entry_count L) where
    pub list-faulty : e < n → Err (LoopFact e) ≡ list_form (list_faults T h L)
    unfolding list_form list_faults
    list-faulty l = rw (le-ltb 1024 (length L) short, ← at, ← count, lt-ltb e n l) refl

    pub list_right : n ≤ e → Ok tt ≡ list_form (list_faults T h L)
    unfolding list_form list_faults
    list_right l = rw (le-ltb 1024 (length L) short, ← at, ← count, le-ltb e n l) refl

  -- A list without a fault of form is short, and each of its entries is right.
  faultless : (a b : Bool) (x y : Refusal) → cond a (x ∷ []) (cond b (y ∷ []) []) ≡ [] → (a ≡ false) × (b ≡ false)
  faultless true b x y e = let z : ◌≡◌ {A = ℕ} 0 1 = cc in absurd (omega arith)
  faultless false true x y e = let z : ◌≡◌ {A = ℕ} 0 1 = cc in absurd (omega arith)
  faultless false false x y e = (refl, refl)

  pub entries-few : list_faults T h L ≡ [] → length L ≤ 1024
  unfolding list_faults
  entries-few e = ltb-false 1024 (length L) (faultless (ltb 1024 (length L)) (ltb (lowest_entry T h L) (entry_count L)) (LoopFact 256) (LoopFact
      (lowest_entry T h L)) e).0

  pub each_right : list_faults T h L ≡ [] → (k : ℕ) → k < entry_count L → entry_right T h L k ≡ true
  unfolding list_faults lowest_entry
  each_right e k l =
      holds-below (entry_right T h L) (entry_count L) (ltb-false _ _ (faultless (ltb 1024 (length L)) (ltb (lowest_entry T h L) (entry_count L)) (LoopFact 256)
      (LoopFact (lowest_entry T h L)) e).1) k l

-- The empty list has no fault.
pub none-listed : (T : List ℤ) (h : Sections) → list_faults T h [] ≡ []
unfolding list_faults
none-listed T h = ap (λ (b : Bool). cond b (LoopFact (lowest_entry T h []) ∷ []) []) (le-ltb (lowest_entry T h []) 0 (omega arith))

-- The list of a well-formed verdict.
pub form-clear : (xs : List Refusal) {l : Result (Unit {0}) Refusal} → l ≡ list_form xs → l ≡ Ok tt → xs ≡ []
unfolding list_form
form-clear [] e p = refl
form-clear (x ∷ xs) e p = cc

-- Whether a word names a while, by what is read.
pub while-answer : (T : List ℤ) (h : Sections) (w : ℕ) {p : ℕ} {r : Option Statement} → p ≡ plain w → r ≡ statement_at T h p → (x : Option Statement) → r ≡ x
    → (is_while x && leb bias w) ≡ names_while T h w
unfolding names_while
while-answer T h w e q x s = ap (λ (y : Option Statement). is_while y && leb bias w) (sym s ∙ (q ∙ ap (statement_at T h) e))
