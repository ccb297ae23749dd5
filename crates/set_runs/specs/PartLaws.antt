-- The parts of a routine in the words of the code: what is lent to a callee, and what comes back.
use Rattle.std.specs.Prelude.{ℕ, ◌+◌, ◌-◌, ◌*◌, ◌≤◌, ◌<◌, ◌≡◌, refl, cond, List, eqb, ℤ, length}
use Rattle.std.proofs.Common.{sym, ap, ◌∙◌, arith}
use borrow.Rule.Slice.PartMut.{put_mid, mid_len}
use Rattle.words.specs.declared.sections.Sections.{Sections}
use Rattle.words.specs.Sections.{statement_start}
use Rattle.statements.specs.Decode.{decoded_call_at}
use Rattle.statements.specs.declared.CallSite.{CallSite}
use Rattle.table.specs.Form.{sections_of}
use Rattle.rules.specs.BoundsRules.{own_rows}
use Rattle.rules.specs.Verdict.{environment_of}
use Rattle.rules.specs.declared.Environment.{Environment}
use Rattle.answers.specs.declared.stops.Outcome.{Outcome}
use Rattle.interpreter.specs.Slots.{Laid}
use Rattle.entry.specs.Ends.{ends_of}
use Rattle.interpreter.specs.BareRun.{bare_run, SafeRun, Ends}
use Rattle.interpreter.specs.EndsLaws.{ends-long}
use Rattle.parts.specs.Parts.{window, span_of, Replaced}
use Rattle.parts.specs.PartsLaws.{between-part}
use Rattle.parts.specs.ReplacedLaws.{put-replaced}
use Rattle.parts.specs.declared.Span.{Span}
use Rattle.set_runs.specs.Lent.{lent_of, part_in, read_in, sections_in, room_of, flow_of}
use Rattle.set_runs.specs.Levels.{MayRun, RanOn}
use Rattle.set_runs.specs.declared.lent.Part.{Part}

-- ---- where a routine is read

made : ℕ → ℕ → Sections → ℕ → Part
made b e h k = record
    { start = b; end = e; sections = record { start = h.start; objects = k; variables = h.variables; statements = h.statements; rows = h.rows } }

module _ (W : List ℤ) (L : List ℕ) (n : ℕ) {first own : Span} {shared h : Sections} {b : ℕ} (p : first ≡ span_of L 1 0 0 (length W))
    (q : own ≡ span_of L 1 0 n (length W))
    (s : shared ≡ sections_of (window first.start (first.end - first.start) W)) (t : h ≡ sections_of (window own.start (own.end - own.start) W))
    (u : b ≡ own.start - cond (eqb n 0) 0 shared.objects) where
  pub part-is : ◌≡◌ {A = Part} (record {
    start = b;
    end = own.end;
    sections = record { start = h.start; objects = shared.objects; variables = h.variables; statements = h.statements; rows = h.rows };
  }) (part_in W L n)
  part-is =
      let x : shared ≡ sections_of (lent_of W L 0) = s ∙ (ap (λ (k : Span). sections_of (window k.start (k.end - k.start) W)) p
      ∙ ap (λ (T : List ℤ). sections_of T) (between-part L 1 0 0 (length W) W refl)) in
      let y : h ≡ sections_of (lent_of W L n) = t ∙ (ap (λ (k : Span). sections_of (window k.start (k.end - k.start) W)) q
      ∙ ap (λ (T : List ℤ). sections_of T) (between-part L 1 0 n (length W) W refl)) in
      rw (u, x, y, q) refl

  pub part-within : own.start ≤ own.end → own.end ≤ length W → (b ≤ own.end) × (own.end ≤ length W)
  part-within l m = (omega arith, m)

-- ---- its ends

module _ (W : List ℤ) (L : List ℕ) (n : ℕ) {part : Part} (p : part ≡ part_in W L n) where
  -- What is laid out comes back to its place.
  pub laid-replaced : {E : Environment} {ends laid W' : List ℕ} → 512 * n + 512 ≤ length ends
      → E ≡ environment_of (window part.start (part.end - part.start) W) part.sections → laid ≡ ends_of E own_rows → W' ≡ laid
      → Replaced (512 * n) (512 * n + 512) ends (ends_of (environment_of (read_in W L n) (sections_in W L n)) own_rows)
      (put_mid (512 * n) (512 * n + 512 - 512 * n) ends W')
  laid-replaced {E} {ends} {laid} {W'} room e f g =
      let v : W' ≡ ends_of (environment_of (read_in W L n) (sections_in W L n)) own_rows = g ∙ (f ∙ (ap (λ (G : Environment). ends_of G own_rows) e
      ∙ ap (λ (k : Part). ends_of (environment_of (window k.start (k.end - k.start) W) k.sections) own_rows) p)) in
      let l : length (ends_of (environment_of (read_in W L n) (sections_in W L n)) own_rows) ≡ 512 * n + 512 - 512 * n =
      ends-long (environment_of (read_in W L n) (sections_in W L n)) own_rows ∙ omega arith in
      rw v (put-replaced (512 * n) (512 * n + 512) ends _ (omega arith) room l)

  -- ---- its statements

  pub decode-within : (at : ℕ) → statement_start (sections_in W L n) at + 7 ≤ length (read_in W L n)
      → statement_start part.sections at + 7 ≤ length (window part.start (part.end - part.start) W)
  decode-within at l = rw p l

  pub site-is : (at : ℕ) {c : CallSite} → c ≡ decoded_call_at (window part.start (part.end - part.start) W) part.sections at
      → c ≡ decoded_call_at (read_in W L n) (sections_in W L n) at
  site-is at e = e ∙ ap (λ (k : Part). decoded_call_at (window k.start (k.end - k.start) W) k.sections at) p

  pub variables-are : part.sections.variables ≡ (sections_in W L n).variables
  variables-are = ap (λ (k : Part). k.sections.variables) p

  -- ---- a stretch

  ends-size : 512 * n + 512 - 512 * n ≡ 512
  ends-size = omega arith

  flow-size : 2048 * n + 2048 - 2048 * n ≡ 2048
  flow-size = omega arith

  module _ {D S : List ℕ} {limit at steps : ℕ} {ends vs cs : List ℕ} (m : MayRun W L D S n limit at steps ends vs cs) where
    -- What `resume` asks.
    pub may-raw : Laid (window part.start (part.end - part.start) W) part.sections (window (512 * n) (512 * n + 512 - 512 * n) ends) D
        (window (2048 * n) (2048 * n + 2048 - 2048 * n) S) vs
        × ((steps ≤ limit) × SafeRun (window part.start (part.end - part.start) W) part.sections (window (512 * n) (512 * n + 512 - 512 * n) ends) D
        (window (2048 * n) (2048 * n + 2048 - 2048 * n) S) (limit - steps) at vs cs)
    may-raw = rw (p, ends-size, flow-size) (m.laid, (m.within, m.safe))

    -- What it leaves.
    pub ran-raw : {o : Outcome} {W' us ds : List ℕ} → length W' ≡ length (window (512 * n) (512 * n + 512 - 512 * n) ends)
        → Ends (bare_run (window part.start (part.end - part.start) W) part.sections (window (512 * n) (512 * n + 512 - 512 * n) ends) D
        (window (2048 * n) (2048 * n + 2048 - 2048 * n) S) (limit - steps) steps at vs cs) o W' us ds
        → RanOn W L D S n limit at steps ends vs cs o (put_mid (512 * n) (512 * n + 512 - 512 * n) ends W') us ds
    ran-raw {o} {W'} {us} {ds} e x =
        let k : length W' ≡ 512 * n + 512 - 512 * n = e ∙ mid_len (512 * n) (512 * n + 512) ends m.room in
        record {
          then-ends = W';
          run = rw (p, ends-size, flow-size) at x;
          kept = put-replaced (512 * n) (512 * n + 512) ends W' (omega arith) m.room k;
          counted = k ∙ ends-size;
        }
