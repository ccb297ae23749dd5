-- POINT 13: EDITING WITH THE VERDICT ALONGSIDE, in one page. What the first call and each edit answer and leave, and what holds after any sequence of them.
use Rattle.std.specs.Prelude.{ℕ, ◌^◌, ◌<◌, ◌≤◌, ◌≡◌, Bool, true, false, ◌&&◌, cond, List, [], ◌++◌, ℤ, length, take, drop, leb, Ok, Err, Result}
use Rattle.std.specs.Prelude.{Err, None, Ok, Option, Result, Some}
use Rattle.answers.specs.declared.refusals.Refusal.{Refusal}
use Rattle.answers.specs.declared.refusals.Refusal.TheVariants.{EditPosition}
use Rattle.words.specs.Sections.{in_limits, table_end}
use Rattle.words.specs.declared.sections.Sections.{Sections}
use Rattle.table.specs.Form.{sections_of, directory_right, lowest_object, form_of}
use Rattle.blocks.specs.Tree.{tree}
use Rattle.blocks.specs.Layout.{layout}
use Rattle.rules.specs.Verdict.{verdict_reads}
use Rattle.rules.specs.Small.{ReadingSmall}
use Rattle.rules.specs.ByChains.{Judged}
use Rattle.edits.specs.TopLevel.{positions_of}
use Rattle.edits.specs.Edited.{edited_sections, edited}
use Rattle.plans.specs.Plans.{is_position, plan_of}
use Rattle.plans.specs.declared.Edit.{Edit}
use Rattle.plans.specs.declared.Splice.{Splice}
use Rattle.places.specs.Positions.{capacity, positions, Ascending, staying, last_of, stored, walked_from}
use Rattle.editor.specs.Kept.{Kept}
use Rattle.editor.specs.declared.Answer.{Answer}

-- T is the table, h its sections, K the positions that the call names, S the store before it and Q after it, r the answer.

-- After a walk over T from the statement q on, with the positions P kept:
pub record Rechecked (T : List ℤ) (h : Sections) (K : List ℕ) (n : ℕ) (P : List ℕ) (q : ℕ) (r : Answer) (Q : List ℕ) : Type 0 where
  -- "the verdict and its place equal a check of the present table from nothing",
  pub judged : Judged [] T [] r.verdict
  -- "and a count tells the statements walked";
  pub walked : r.walked ≡ walked_from T h q r.verdict
  -- of the positions named, "each that fits is stored when the walk passes it, lowest first";
  pub positions : positions Q ≡ stored K n r.verdict (positions_of (tree T h)) P
  pub ascending : Ascending (stored K n r.verdict (positions_of (tree T h)) P)
  -- and the store is one that calls leave. (What that means nobody has to know: each call gives it, and the next asks for it.)
  pub kept : Kept T h Q

-- ---- the first call

-- "It starts from a routine that passes 1 to 6"
pub record Passing (T : List ℤ) (h : Sections) : Type 0 where
  pub form : form_of T ≡ Ok h
  pub laid : layout T h ≡ []

pub record Started (T : List ℤ) (K S : List ℕ) (r : Answer) (Q : List ℕ) : Type 0 where
  pub words : r.length ≡ length T
  pub taken : (h : Sections) → Passing T h → (r.taken ≡ true) × Rechecked T h K (capacity S) [] 0 r Q
  -- "(else that refusal)": then the store stays.
  pub refused : ((h : Sections) → Passing T h → ⊥) → Judged [] T [] r.verdict × (r.taken ≡ false) × (r.walked ≡ 0) × (Q ≡ S)

-- ---- an edit

-- The table at the front of a buffer, by its directory; none where that is wrong.
unfoldable pub head_right : List ℤ → Sections → Bool
head_right T h = directory_right T h && leb h.objects (lowest_object T h)

abbrev pub head_as : List ℤ → Sections → Option Sections
head_as B h = cond (in_limits h && (leb (table_end h) (length B) && head_right (take (table_end h) B) h)) (Some h) None

unfoldable pub head_of : List ℤ → Option Sections
head_of B = head_as B (sections_of B)

-- An edit that is refused: "Table, store and verdict then stay, and the count is 0."
abbrev pub unmade_by : ℕ → Refusal → Answer
unmade_by n x = record { taken = false; length = n; verdict = Err x; walked = 0 }

pub record Unmade (B : List ℤ) (S : List ℕ) (n : ℕ) (x : Refusal) (r : Answer) (B' : List ℤ) (S' : List ℕ) : Type 0 where
  pub answer : r ≡ unmade_by n x
  pub buffer : B' ≡ B
  pub store : S' ≡ S

-- An edit that is made, of the statement at `at`, where m statements make room for the k of the text X: "the words behind the new table stay".
pub record Written (B : List ℤ) (h : Sections) (at m k : ℕ) (X : List ℤ) (r : Answer) (B' : List ℤ) : Type 0 where
  pub taken : r.taken ≡ true
  pub words : r.length ≡ table_end (edited_sections h m k)
  pub buffer : B' ≡ edited (take (table_end h) B) h at m k X ++ drop (table_end (edited_sections h m k)) B

-- Whatever the words of buffer and store are.
abbrev pub PlanSaid : Result Splice Refusal → List ℤ → Sections → ℕ → List ℤ → List ℕ → Answer → List ℤ → List ℕ → Type 0
PlanSaid (Err x) B h at X S r B' S' = Unmade B S (table_end h) x r B' S'
PlanSaid (Ok p) B h at X S r B' S' = Written B h at p.removed p.added X r B'

abbrev pub EditSaid : Option Sections → List ℤ → ℕ → Edit → List ℤ → List ℕ → Answer → List ℤ → List ℕ → Type 0
EditSaid None B at e X S r B' S' = Unmade B S 0 (EditPosition at) r B' S'
EditSaid (Some h) B at e X S r B' S' = (there : Bool) × PlanSaid (plan_of there (take (table_end h) B) (length B) h at e X) B h at X S r B' S'

-- Where the store is one that calls leave: "from the last stored place at or before the edit (else the start)"; "an edit drops those behind it".
abbrev pub KeptSaid : Result Splice Refusal → List ℤ → Sections → ℕ → List ℤ → List ℕ → List ℕ → Answer → List ℤ → List ℕ → Type 0
KeptSaid (Err x) B h at X K S r B' S' = Unmade B S (table_end h) x r B' S'
KeptSaid (Ok p) B h at X K S r B' S' = Written B h at p.removed p.added X r B'
    × Rechecked (edited (take (table_end h) B) h at p.removed p.added X) (edited_sections h p.removed p.added) K (capacity S)
    (staying at (positions S)) (last_of (staying at (positions S))) r S'

-- The place, the pointer and the statements walked are 32-bit numbers, as the words of an answer are; "up to 7,704 words in all" has a table that is taken.
pub record NumbersSmall (r : Answer) : Type 0 where
  pub verdict : ReadingSmall (verdict_reads r.verdict)
  pub walked : r.walked < 2 ^ 32
  pub words : r.taken ≡ true → r.length ≤ 7704

-- THE PROMISE OF AN EDIT.
pub record EditCall (B : List ℤ) (at : ℕ) (e : Edit) (X : List ℤ) (K S : List ℕ) (r : Answer) (B' : List ℤ) (S' : List ℕ) : Type 0 where
  -- Whatever the words are: where the edit is made, the table is the edited one. Of a store that no call left nothing more is said: where its words lead the
  -- walk is the program's choice, and so is the answer `there` to whether the position is that of a top-level statement.
  pub any : EditSaid (head_of B) B at e X S r B' S'
  -- "if nobody else writes the table or the store"
  pub kept : (L : ℕ) (h : Sections) → L ≤ length B → Kept (take L B) h S
      → KeptSaid (plan_of (is_position e (take L B) h at) (take L B) (length B) h at e X) B h at X K S r B' S'
  -- Whatever the words are.
  pub small : at < 2 ^ 32 → NumbersSmall r

-- ---- any sequence of calls

-- "After any edits, if nobody else writes the table or the store": the buffer, the words of the table in it, the store, and the verdict told last.
pub data Session : List ℤ → ℕ → List ℕ → Result (Unit {0}) Refusal → Type 0 where
  begun : (B : List ℤ) (L : ℕ) {K S : List ℕ} {r : Answer} {Q : List ℕ} → Started (take L B) K S r Q → r.taken ≡ true → Session B r.length Q r.verdict
  made : {B : List ℤ} {L : ℕ} {S : List ℕ} {v : Result
      (Unit {0}) Refusal} {at : ℕ} {e : Edit} {X : List ℤ} {K : List ℕ} {r : Answer} {B' : List ℤ} {S' : List ℕ}
      → Session B L S v → EditCall B at e X K S r B' S' → r.taken ≡ true → Session B' r.length S' r.verdict
  unmade : {B : List ℤ} {L : ℕ} {S : List ℕ} {v : Result
      (Unit {0}) Refusal} {at : ℕ} {e : Edit} {X : List ℤ} {K : List ℕ} {r : Answer} {B' : List ℤ} {S' : List ℕ}
      → Session B L S v → EditCall B at e X K S r B' S' → r.taken ≡ false → Session B' L S' v

-- "the verdict and its place equal a check of the present table from nothing" (`session-judged`, SessionLaws).
abbrev pub SessionJudged : Type 0
SessionJudged = (B : List ℤ) (L : ℕ) (S : List ℕ) (v : Result (Unit {0}) Refusal) → Session B L S v → Judged [] (take L B) [] v
