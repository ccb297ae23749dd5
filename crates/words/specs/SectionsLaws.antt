-- Laws of the sections.
use Rattle.std.specs.Prelude.{ℕ, ◌<◌, ◌≤◌, ◌≡◌, refl, Bool, true, false, ◌&&◌, ◌||◌, leb, ltb, eqb}
use Rattle.std.proofs.lemmas.Bool.{false≢true}
use Rattle.std.proofs.Common.{eqb-true, leb-true, ltb-true, arith}
use Rattle.words.specs.Sections.{in_limits, Limits, is_variable, start_right}
use Rattle.words.specs.declared.sections.Sections.{Sections}

-- Two tests that hold together.
pub both : (a b : Bool) → (a && b) ≡ true → (a ≡ true) × (b ≡ true)
both true b e = (refl, e)
both false b e = absurd (false≢true e)

start-limits : (h : Sections) → start_right h ≡ true → (h.start ≤ 8) × (h.rows ≤ 64)
unfolding start_right
start-limits h e = go (eqb h.start 6 && eqb h.rows 0) refl e
  where
    go : (b : Bool) → (eqb h.start 6 && eqb h.rows 0) ≡ b → (b || eqb h.start 8 && leb h.rows 64) ≡ true → (h.start ≤ 8) × (h.rows ≤ 64)
    go true p q =
        let r = both (eqb h.start 6) (eqb h.rows 0) p in
        (omega (arith, eqb-true h.start 6 r.0), omega (arith, eqb-true h.rows 0 r.1))
    go false p q =
        let r = both (eqb h.start 8) (leb h.rows 64) q in
        (omega (arith, eqb-true h.start 8 r.0), leb-true h.rows 64 r.1)

pub limits : (h : Sections) → in_limits h ≡ true → Limits h
unfolding in_limits
limits h e =
    let e₄ = both (leb h.objects 16 && leb 1 h.variables && leb h.variables 16 && leb h.statements 1024) (start_right h) e in
    let s = start-limits h e₄.1 in
    let e₃ = both (leb h.objects 16 && leb 1 h.variables && leb h.variables 16) (leb h.statements 1024) e₄.0 in
    let e₂ = both (leb h.objects 16 && leb 1 h.variables) (leb h.variables 16) e₃.0 in
    let e₁ = both (leb h.objects 16) (leb 1 h.variables) e₂.0 in
    record {
      objects = leb-true _ _ e₁.0;
      some = leb-true _ _ e₁.1;
      variables = leb-true _ _ e₂.1;
      statements = leb-true _ _ e₃.1;
      start = s.0;
      rows = s.1;
    }

-- An item's number below the size of its section.
item-limits : (h : Sections) (n i : ℕ) → (in_limits h && ltb i n) ≡ true → Limits h × (i < n)
item-limits h n i e =
    let p = both (in_limits h) (ltb i n) e in
    (limits h p.0, ltb-true i n p.1)

pub variable-limits : (h : Sections) (v : ℕ) → is_variable h v ≡ true → Limits h × (v < h.variables)
unfolding is_variable
variable-limits h v e = item-limits h h.variables v e

pub object-limits : (h : Sections) (o : ℕ) → (in_limits h && ltb o h.objects) ≡ true → Limits h × (o < h.objects)
object-limits h o e = item-limits h h.objects o e

pub row-limits : (h : Sections) (r : ℕ) → (in_limits h && ltb r h.rows) ≡ true → Limits h × (r < h.rows)
row-limits h r e = item-limits h h.rows r e

pub statement-limits : (h : Sections) (a : ℕ) → (in_limits h && ltb a h.statements) ≡ true → Limits h × (a < h.statements)
statement-limits h a e = item-limits h h.statements a e
