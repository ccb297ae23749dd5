-- Laws of plain sums, which are added with no test.
use Rattle.std.specs.Prelude.{ℕ, ◌+◌, ◌-◌, ◌^◌, ◌<◌, ◌≤◌, ◌≡◌, refl, Bool, true, false, ◌&&◌, List, get_or, leb, ltb}
use Rattle.std.proofs.Common.{sym, ◌∙◌, arith}
use Rattle.std.proofs.lemmas.Bool.{false≢true}
use borrow.Author.Tests.{leb-true, ltb-true, ltb-false}
use Rattle.sums.specs.Numbers.{bias}
use Rattle.sums.specs.Sums.{concatenated}
use Rattle.sums.specs.SumsLaws.{concat-plain}
use Rattle.facts.specs.Rows.{is_plain, AllPlain}

left-true : (a b : Bool) → (a && b) ≡ true → a ≡ true
left-true true b h = refl
left-true false b h = h

right-true : (a b : Bool) → (a && b) ≡ true → b ≡ true
right-true true b h = h
right-true false b h = absurd (false≢true h)

module _ {s : ℕ} (h : is_plain s ≡ true) where
  pub plain-above : 4294967296 ≤ s
  unfolding is_plain
  plain-above = leb-true 4294967296 s (left-true (leb 4294967296 s) (ltb s (2 ^ 40)) h)

  pub plain-below : s < 2 ^ 40
  unfolding is_plain
  plain-below = ltb-true s (2 ^ 40) (right-true (leb 4294967296 s) (ltb s (2 ^ 40)) h)

pub plain-sum : (a b : ℕ) → is_plain a ≡ true → is_plain b ≡ true → a + b - bias ≡ concatenated a b
plain-sum a b p q = sym (concat-plain a b (plain-below p) (plain-below q))

-- One sum after the other.
pub all-plain-none : (l : List ℕ) → AllPlain l 0
all-plain-none l = record { each = λ j h. absurd (omega arith) }

pub all-plain-more : {l : List ℕ} {n : ℕ} (a b : Bool) → (a ≡ true → AllPlain l n) → b ≡ is_plain (get_or l n 0) → (a && b) ≡ true → AllPlain l (n + 1)
all-plain-more {l} {n} a b q e h = record { each = λ j d. go j d (ltb j n) refl }
  where
    go : (j : ℕ) → j < n + 1 → (t : Bool) → ltb j n ≡ t → is_plain (get_or l j 0) ≡ true
    go j d true u = (q (left-true a b h)).each j (ltb-true j n u)
    go j d false u =
        let s : j ≡ n = omega (arith, ltb-false j n u) in
        rw s (sym e ∙ right-true a b h)

pub all-plain-whole : {l : List ℕ} {n : ℕ} → 17 ≤ n → AllPlain l n → AllPlain l 17
all-plain-whole h q = record { each = λ j d. q.each j (omega arith) }
