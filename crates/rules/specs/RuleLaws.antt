-- A walk without faults has none in any of its parts.
use Rattle.std.specs.Prelude.{◌≡◌, refl, Bool, true, false, not, ◌&&◌, List, [], ◌∷◌, ℕ, ◌-◌, ◌≤◌, leb, eqb}
use Rattle.std.proofs.Common.{ap₂, arith, leb-true, leb-false, eqb-true}
use Rattle.std.proofs.lemmas.Bool.{false≢true, not-false}
use Rattle.answers.specs.declared.refusals.Refusal.{Refusal}
use Rattle.answers.specs.declared.refusals.Refusal.TheVariants.{RowsDiffer}
use Rattle.words.specs.SectionsLaws.{both}
use Rattle.blocks.specs.Layout.{when}
use Rattle.rules.specs.BoundsRules.{upper_limit}
use Rattle.rules.specs.Rules.{access_at, bounds_at, same_rows, rows_at}

pub access-passed : (b : Bool) (a : ℕ) → access_at b a ≡ [] → b ≡ true
unfolding access_at
access-passed true a e = refl
access-passed false a e = let z : ◌≡◌ {A = ℕ} 0 1 = cc in absurd (omega arith)

pub bounds-passed : (a : ℕ) (ps : List ℕ) → bounds_at a ps ≡ [] → ps ≡ []
unfolding bounds_at
bounds-passed a [] e = refl
bounds-passed a (p ∷ ps) e = cc

pub same-rows : (R Q : List ℕ) → same_rows R Q ≡ true → R ≡ Q
unfolding same_rows
same-rows [] [] e = refl
same-rows [] (y ∷ ys) e = absurd (false≢true e)
same-rows (x ∷ xs) [] e = absurd (false≢true e)
same-rows (x ∷ xs) (y ∷ ys) e =
    let p = both (eqb x y) (same_rows xs ys) e in
    ap₂ (λ (n : ℕ) (l : List ℕ). n ∷ l) (eqb-true x y p.0) (same-rows xs ys p.1)

pub no-fault : (b : Bool) (r : Refusal) → when b r ≡ [] → b ≡ false
unfolding when
no-fault true r e = let z : ◌≡◌ {A = ℕ} 0 1 = cc in absurd (omega arith)
no-fault false r e = refl

-- Where 13 does not refuse, the same rows are in force.
pub rows-passed : (a : ℕ) (R Q : List ℕ) → rows_at a R Q ≡ [] → R ≡ Q
unfolding rows_at
rows-passed a R Q e = same-rows R Q (not-false (same_rows R Q) (no-fault (not (same_rows R Q)) (RowsDiffer a) e))

-- The upper limit, in the words of the code.
pub limit-some : (b : Bool) (n : ℕ) → (b && leb 1 n) ≡ true → (1 ≤ n) × (n - 1 ≡ upper_limit b n)
unfolding upper_limit
limit-some true n e = (leb-true 1 n e, refl)
limit-some false n e = absurd (false≢true e)

pub limit-all : (b : Bool) (n : ℕ) → (b && leb 1 n) ≡ false → n ≡ upper_limit b n
unfolding upper_limit
limit-all true n e = omega (arith, leb-false 1 n e)
limit-all false n e = refl
