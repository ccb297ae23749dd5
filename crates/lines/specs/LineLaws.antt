-- The parts of a line put together.
use Rattle.std.specs.Prelude.{ℕ, ◌≡◌, List, [], ◌∷◌, ◌++◌}
use Rattle.std.proofs.Common.{◌∙◌, append_assoc, eq-eqb, ne_eqb}
use Rattle.answers.specs.Refusals.{number, place, pointer}
use Rattle.answers.specs.declared.refusals.Refusal.{Refusal}
use Rattle.text.specs.Text.{bytes_of, text_of, decimal, Grown}
use Rattle.text.specs.declared.Text.{Text}
use Rattle.lines.specs.Lines.{space, line_feed, refused_word, spaced, refused_line}

-- "refused ", the number, a space, the place.
abbrev pub started : ℕ → ℕ → List ℕ
started n p = (((([] ++ (refused_word ++ (space ∷ []))) ++ decimal 20 n) ++ (space ∷ [])) ++ decimal 20 p)

pub line-of-eight : (r : Refusal) {n p q : ℕ} {t : Text} → n ≡ number r → p ≡ place r → q ≡ pointer r → n ≡ 8
    → Grown [] (((started n p ++ (space ∷ [])) ++ decimal 20 q) ++ (line_feed ∷ [])) 0 t → text_of t ≡ refused_line (number r) (place r) (pointer r)
unfolding refused_line spaced refused_word bytes_of
line-of-eight r {n} {p} {q} en ep eq e g = g.text ∙ rw (← en, ← ep, ← eq, eq-eqb n 8 e) (simp append_assoc)

pub line-of-other : (r : Refusal) {n p : ℕ} {t : Text} → n ≡ number r → p ≡ place r → (n ≡ 8 → ⊥) → Grown [] (started n p ++ (line_feed ∷ [])) 0 t
    → text_of t ≡ refused_line (number r) (place r) (pointer r)
unfolding refused_line spaced refused_word bytes_of
line-of-other r {n} {p} en ep e g = g.text ∙ rw (← en, ← ep, ne_eqb n 8 e) (simp append_assoc)
