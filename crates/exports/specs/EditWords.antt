-- The editor's answers as words in a lent slice, as include/mizzengrape.h tells them (document 02, point 13).
use Rattle.std.specs.Prelude.{ℕ, ◌-◌, ◌^◌, min, ◌≡◌, Bool, true, false, cond, List, ℤ, length, set, take, eqb, leb}
use Rattle.rules.specs.Verdict.{verdict_reads}
use Rattle.plans.specs.declared.Edit.{Edit}
use Rattle.plans.specs.declared.Edit.TheVariants.{Insert, Replace, Remove, Unknown}
use Rattle.editor.specs.Editor.{Started, EditCall}
use Rattle.editor.specs.declared.Answer.{Answer}
use Rattle.exports.specs.Words.{verdict_words}

abbrev pub flag : Bool → ℕ
flag b = cond b 1 0

-- Operations: 0 insert, 1 replace, 2 remove; of any other no edit is made.
unfoldable pub edit_of : ℕ → Edit
edit_of o = cond (eqb o 0) Insert (cond (eqb o 1) Replace (cond (eqb o 2) Remove Unknown))

-- The words of a table. One that is taken has at most 7,704 (`NumbersSmall`); for more words than a 32-bit number can say, its largest stands.
abbrev pub length_word : ℕ → ℕ
length_word n = min n (2 ^ 32 - 1)

-- The words of the verdict, or of the refusal of an edit that is not made; the statements walked; the words of the table now; whether it was taken or edited.
-- The words behind stay.
unfoldable pub edit_words : Answer → List ℕ → List ℕ
edit_words a w = set (set (set (verdict_words (verdict_reads a.verdict) w) 3 a.walked) 4 (length_word a.length)) 5 (flag a.taken)

-- Where there is room for an answer, the words of one for which the promise of the call holds; else nothing is written.
abbrev pub StartedIf : Bool → List ℤ → ℕ → List ℕ → List ℕ → List ℕ → List ℕ → List ℕ → Type 0
StartedIf true B L K S w S' w' = (a : Answer) × Started (take L B) K S a S' × (w' ≡ edit_words a w)
StartedIf false B L K S w S' w' = (S' ≡ S) × (w' ≡ w)

-- B: the buffer, L: the words of the table in it, K: the positions to keep, S and w: the store and the words for the answer, as they were; S' and w': what
-- they hold then.
pub record StartWords (B : List ℤ) (L : ℕ) (K S w : List ℕ) (r : Bool) (S' w' : List ℕ) : Type 0 where
  pub room : r ≡ leb 6 (length w)
  pub words : StartedIf (leb 6 (length w)) B L K S w S' w'

abbrev pub EditedIf : Bool → List ℤ → ℕ → ℕ → List ℤ → List ℕ → List ℕ → List ℕ → List ℤ → List ℕ → List ℕ → Type 0
EditedIf true B o p X K S w B' S' w' = (a : Answer) × EditCall B p (edit_of o) X K S a B' S' × (w' ≡ edit_words a w)
EditedIf false B o p X K S w B' S' w' = (B' ≡ B) × (S' ≡ S) × (w' ≡ w)

-- o: the operation, p: the position, X: the text; B': what the buffer holds then.
pub record EditCallWords (B : List ℤ) (o p : ℕ) (X : List ℤ) (K S w : List ℕ) (r : Bool) (B' : List ℤ) (S' w' : List ℕ) : Type 0 where
  pub room : r ≡ leb 6 (length w)
  pub words : EditedIf (leb 6 (length w)) B o p X K S w B' S' w'
