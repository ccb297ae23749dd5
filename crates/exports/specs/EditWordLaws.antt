-- Laws of the editor's answer words.
use Rattle.std.specs.Prelude.{ℕ, ◌<◌, ◌≤◌, min, ◌≡◌, refl, Bool, true, false, List, ℤ, length, set, take, leb}
use Rattle.std.proofs.Common.{sym, ◌∙◌, ap, arith, length-set, take_all}
use borrow.Author.Tests.{le-leb, lt-leb, leb-true, leb-false, ne_eqb}
use Rattle.rules.specs.Verdict.{Reading, accepted, refused, verdict_reads}
use Rattle.plans.specs.declared.Edit.{Edit}
use Rattle.plans.specs.declared.Edit.TheVariants.{Insert, Replace, Remove, Unknown}
use Rattle.editor.specs.Editor.{Started, EditCall}
use Rattle.editor.specs.declared.Answer.{Answer}
use Rattle.exports.specs.Words.{verdict_words}
use Rattle.exports.specs.EditWords.{flag, edit_of, length_word, edit_words, StartWords, EditCallWords}

-- ---- operations

module _ (o : ℕ) where
  pub inserts : o ≡ 0 → Insert ≡ edit_of o
  unfolding edit_of
  inserts e = rw e

  module _ (other : o ≡ 0 → ⊥) where
    pub replaces : o ≡ 1 → Replace ≡ edit_of o
    unfolding edit_of
    replaces e = rw e

    module _ (further : o ≡ 1 → ⊥) where
      pub removes : o ≡ 2 → Remove ≡ edit_of o
      unfolding edit_of
      removes e = rw e

      pub unknown : (o ≡ 2 → ⊥) → Unknown ≡ edit_of o
      unfolding edit_of
      unknown last = rw (ne_eqb o 0 other, ne_eqb o 1 further, ne_eqb o 2 last)

-- ---- the words

pub verdict-long : (v : Reading) (w : List ℕ) {u : List ℕ} → u ≡ verdict_words v w → length u ≡ length w
unfolding verdict_words
verdict-long accepted w e = ap length e ∙ simp length-set
verdict-long (refused n a p) w e = ap length e ∙ simp length-set

pub put-words : (a : Answer) (w : List ℕ) {u : List ℕ} {l t : ℕ} → u ≡ verdict_words (verdict_reads a.verdict) w → l ≡ length_word a.length
    → t ≡ flag a.taken → set (set (set u 3 a.walked) 4 l) 5 t ≡ edit_words a w
unfolding edit_words
put-words a w e el et = rw (e, el, et)

pub cut-table : (B : List ℤ) (L : ℕ) {n : ℕ} → n ≡ min L (length B) → take n B ≡ take L B
cut-table B L {n} e = go (leb L (length B)) refl
  where
    go : (b : Bool) → leb L (length B) ≡ b → take n B ≡ take L B
    go true q = let z : n ≡ L = omega (arith, leb-true L (length B) q) in rw z
    go false q = let p = leb-false L (length B) q in take_all n B (omega arith) ∙ sym (take_all L B (omega arith))

pub no_start : {B : List ℤ} {L : ℕ} {K S w : List ℕ} → length w < 6 → StartWords B L K S w false S w
no_start {w = w} h = record { room = sym (lt-leb 6 (length w) h); words = rw (lt-leb 6 (length w) h) (refl, refl) }

pub start-words : (B : List ℤ) (L : ℕ) {K S w S' w' : List ℕ} {n : ℕ} (a : Answer) → 6 ≤ length w → n ≡ min L (length B) → Started (take n B) K S a S'
    → w' ≡ edit_words a w → StartWords B L K S w true S' w'
start-words B L {K} {S} {w} a h z s e =
    let y = cut-table B L z in record { room = sym (le-leb 6 (length w) h); words = rw (le-leb 6 (length w) h) (a, rw y at s, e) }

pub no-edit : {B : List ℤ} {o p : ℕ} {X : List ℤ} {K S w : List ℕ} → length w < 6 → EditCallWords B o p X K S w false B S w
no-edit {w = w} h = record { room = sym (lt-leb 6 (length w) h); words = rw (lt-leb 6 (length w) h) (refl, refl, refl) }

pub edit-words : {B : List ℤ} (o : ℕ) {p : ℕ} {X : List ℤ} {K S w : List ℕ} {B' : List ℤ} {S' w' : List ℕ} {e : Edit} (a : Answer) → 6 ≤ length w → e
    ≡ edit_of o
    → EditCall B p e X K S a B' S' → w' ≡ edit_words a w → EditCallWords B o p X K S w true B' S' w'
edit-words o {w = w} a h z s e = record { room = sym (le-leb 6 (length w) h); words = rw (le-leb 6 (length w) h) (a, rw z at s, e) }
