-- Laws of faults in order, of rows that are the same, and of what is in force.
use Rattle.std.specs.Prelude.{ℕ, ◌+◌, ◌<◌, ◌≤◌, ◌≡◌, refl, Bool, true, false, List, [], ◌∷◌, ◌≢◌, length, get_or, set, Err, Ok, Result, ◌&&◌, eqb}
use Rattle.std.proofs.Common.{sym, ap, ap₂, ◌∙◌, ⊎_elim, eq-or-lt_of_le, arith, eq-eqb, ext_get_or}
use Rattle.std.specs.Cmp.Lexicographic.{pointwise}
use Rattle.facts.specs.declared.FactSet.{FactSet}
use Rattle.answers.specs.declared.refusals.Refusal.{Refusal}
use Rattle.statements.specs.declared.Simple.TheVariants.{Declare}
use Rattle.blocks.specs.Layout.{also}
use Rattle.rules.specs.BoundsRules.{in_force}
use Rattle.rules.specs.Stored.{unshown, row_unshown, bounds_after}
use Rattle.rules.specs.Rules.{bounds_at, same_rows}
use Rattle.rules.specs.Verdict.{verdict_of}
use Rattle.rules.specs.declared.Bounds.{Bounds}
use Rattle.rules.specs.declared.Environment.{Environment}
use Rattle.rules.specs.declared.Effect.TheVariants.{Keep}
use Rattle.bounds.specs.Touched.{seen_as}
use Rattle.bounds.specs.declared.touched.Seen.{Seen}
use Rattle.declared.specs.ShownLaws.{seen-unshown}
use Rattle.declared.specs.Force.{Forced, DeclaresRow}
use Rattle.declared.specs.declared.force.Force.{Force}
use Rattle.declared.specs.declared.force.Declared.{Declared}

-- ---- faults in order

pub none-refused : (xs : List Refusal) {v : Result (Unit {0}) Refusal} → v ≡ verdict_of xs → v ≡ Ok tt → xs ≡ []
unfolding verdict_of
none-refused [] e p = refl
none-refused (r ∷ xs) e p = cc

pub pass : (xs ys : List Refusal) → xs ≡ [] → also xs ys ≡ ys
unfolding also
pass xs ys e = rw e

-- A part that is refused is the answer.
pub refuse-part : (xs ys : List Refusal) {v : Result (Unit {0}) Refusal} {r : Refusal} → v ≡ verdict_of xs → v ≡ Err r
    → (v ≡ verdict_of (also xs ys)) × (also xs ys ≡ [] → ⊥)
unfolding also verdict_of
refuse-part [] ys {v} {r} e p = let z : Ok tt ≡ Err r = sym e ∙ p in let o : ◌≡◌ {A = ℕ} 0 1 = cc in absurd (omega arith)
refuse-part (x ∷ xs) ys e p = (e, λ q. let o : ◌≡◌ {A = ℕ} 0 1 = cc in omega arith)

-- ---- the same rows

-- What `==` of rows answers.
pub rows-equal : (R Q : List ℕ) → pointwise eqb R Q ≡ same_rows R Q
unfolding same_rows
rows-equal [] [] = refl
rows-equal [] (y ∷ Q) = refl
rows-equal (x ∷ R) [] = refl
rows-equal (x ∷ R) (y ∷ Q) = ap (λ (b : Bool). eqb x y && b) (rows-equal R Q)

-- ---- a kind 14 outside a bundle

module _ {E : Environment} (f : FactSet) {F : Force} (p r a : ℕ) (o : Forced E F.rows.each F) {K : List Bounds} (k : K ≡ F.seen.declared)
    {v : Result (Unit {0}) Refusal} (e : v ≡ verdict_of (bounds_at a (row_unshown E f K (Declare p r)))) where
  own : v ≡ verdict_of (bounds_at a (row_unshown E f (in_force E F.rows.each).declared (Declare p r)))
  own = e ∙ ap (λ (L : List Bounds). verdict_of (bounds_at a (row_unshown E f L (Declare p r)))) (k ∙ ap (λ (x : Seen). x.declared) o.seen)

  pub row-refused : {d : Declared} {x : Refusal} → v ≡ Err x → d.verdict ≡ v → DeclaresRow E f F.rows.each p r a d
  row-refused {d} {x} q i = record {
    said = i ∙ (refuse-part _ _ own q).0;
    kept = λ z. let y : Ok tt ≡ Err x = sym z ∙ (i ∙ q) in let n : ◌≡◌ {A = ℕ} 0 1 = cc in absurd (omega arith);
  }

  pub row-taken : {d : Declared} {R : List ℕ} {L : List Bounds} {w : Result (Unit {0}) Refusal} → v ≡ Ok tt → R ≡ set F.rows.each p (r + 1) → Forced E R d.force
      → L ≡ bounds_after Keep K → w ≡ verdict_of (bounds_at a (unshown (seen_as d.force.seen) f L)) → d.verdict ≡ w → DeclaresRow E f F.rows.each p r a d
  row-taken {d} {R} q s g l u i =
      let G : Forced E (set F.rows.each p (r + 1)) d.force = rw s at g in
      let b = k ∙ ap (λ (x : Seen). x.declared) o.seen in
      record {
        said = i ∙ (u ∙ (ap₂ (λ (x : Seen) (M : List Bounds). verdict_of (bounds_at a (unshown (seen_as x) f M))) G.seen (l ∙ ap (bounds_after Keep) b)
            ∙ (ap (λ (ps : List ℕ). verdict_of (bounds_at a ps))
            (seen-unshown (in_force E (set F.rows.each p (r + 1))) f (bounds_after Keep (in_force E F.rows.each).declared))
            ∙ ap verdict_of (sym (pass _ _ (none-refused _ own q))))));
        kept = λ z. G;
      }
