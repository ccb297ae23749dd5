-- Laws of what a run of a set begins with: the tables as they were checked, the successors, the entry.
use Rattle.answers.specs.declared.refusals.Refusal.{Refusal}
use Rattle.std.specs.Prelude.{ℕ, ◌+◌, ◌-◌, ◌*◌, ◌≤◌, ◌<◌, ◌≡◌, refl, Bool, true, List, [], leb, ℤ, pos, length, get_or, take, drop, Result}
use Rattle.std.proofs.Common.{sym, ap, ap₂, subst, ◌∙◌, ⊎_elim, eq-or-lt_of_le, arith, length-take, length-drop, ext_get_or, get_or-take}
use borrow.Author.Tests.{le-leb, leb-true}
use borrow.Rule.Slice.PartMut.{put_mid}
use Rattle.words.specs.Sections.{Limits}
use Rattle.words.specs.SectionsLaws.{both, limits}
use Rattle.words.specs.declared.sections.Sections.{Sections}
use Rattle.table.specs.Form.{sections_of, head_right}
use Rattle.table.specs.FormLaws.{formed-head, head-limits, head-long}
use Rattle.blocks.specs.Flow.{successors, table_flow}
use Rattle.blocks.specs.FlowLaws.{length-written}
use Rattle.blocks.specs.Layout.{layout}
use Rattle.blocks.specs.Shape.{entries_at}
use Rattle.blocks.specs.SuccessorLaws.{written_at}
use Rattle.blocks.specs.Written.{written, Written}
use Rattle.rules.specs.Calls.{Routine, routine_at}
use Rattle.rules.specs.Sets.{object_words, with_objects, member_of, routine_of, routines_of, count_right, AllAccepted}
use Rattle.rules.proofs.SetLaws.{length-routines, routine-at, member-formed, member-clear, all-formed}
use Rattle.rules.specs.Verdict.{environment_of}
use Rattle.rules.specs.declared.Environment.{Environment}
use Rattle.entry.specs.Entered.{entered}
use Rattle.entry.specs.Entry.{entry_refusals}
use Rattle.interpreter.specs.AloneLaws.{lends}
use Rattle.interpreter.specs.Claim.{entry_faults}
use Rattle.parts.specs.Parts.{window, span_of}
use Rattle.parts.specs.PartsLaws.{between-part}
use Rattle.parts.specs.ReplacedLaws.{put-replaced, window-before}
use Rattle.parts.specs.declared.Span.{Span}
use Rattle.sets.specs.Checked.{member_words}
use Rattle.sets.specs.Member.{Copied, Put}
use Rattle.sets.specs.Tables.{tables_in}
use Rattle.sets.specs.TableLaws.{length-tables}
use Rattle.set_runs.specs.Lent.{lent_of, flow_of}
use Rattle.set_runs.specs.LentLaws.{right, first-right, member-first, member-later, none-listed}
use Rattle.set_runs.specs.Prepared.{Holds, FlowLaid, AllLaid}

-- A window that is all of a slice's part n.
module _ (W : List ℤ) (L : List ℕ) (n : ℕ) {own : Span} (q : own ≡ span_of L 1 0 n (length W)) where
  pub lent-window : window own.start (own.end - own.start) W ≡ lent_of W L n
  lent-window = ap (λ (k : Span). window k.start (k.end - k.start) W) q ∙ between-part L 1 0 n (length W) W refl

module _ (W : List ℤ) (L : List ℕ) (accepted : AllAccepted (tables_in W L)) where
  abbrev Ts : List (List ℤ)
  Ts = tables_in W L

  counted : (1 ≤ length L) × (length L ≤ 8)
  unfolding count_right
  counted =
      let b = both (leb 1 (length Ts)) (leb (length Ts) 8) accepted.count in
      (omega (arith, leb-true 1 (length Ts) b.0, length-tables W L), omega (arith, leb-true (length Ts) 8 b.1, length-tables W L))

  pub some-lengths : 1 ≤ length L
  some-lengths = counted.0

  pub few-lengths : length L ≤ 8
  few-lengths = counted.1

  module _ (n : ℕ) (l : n < length L) where
    abbrev M : List ℤ
    M = member_of Ts n

    known : n < length Ts
    known = omega (arith, length-tables W L)

    member-limits : Limits (sections_of M)
    member-limits = limits (sections_of M) (head-limits M (formed-head M (sections_of M) (member-formed Ts n (accepted.each n known))))

    member-laid : layout M (sections_of M) ≡ []
    member-laid = (member-clear Ts n (accepted.each n known) (all-formed Ts accepted)).laid

    -- ---- the table as it was checked

    pub copy-fits : {own : Span} (old : List ℤ) → own ≡ span_of L 1 0 n (length W) → member_words ≤ length old
        → length (window own.start (own.end - own.start) W) ≤ length old
    copy-fits {own} old q m =
        let h = limits (sections_of (lent_of W L n)) (head-limits (lent_of W L n) (right W L accepted n l)) in
        omega (
          arith,
          ap length (lent-window W L n q),
          head-long (lent_of W L n)
              (right W L accepted n l),
          h.objects,
          h.variables,
          h.statements,
          h.start,
          h.rows,
        )

    pub copied-member : {own : Span} {old new : List ℤ} {r : ℕ} → own ≡ span_of L 1 0 n (length W) → n ≡ 0
        → Holds (window own.start (own.end - own.start) W) old r new → Holds M old r new
    copied-member q z h = record {
      long = h.long;
      within = h.within;
      front = h.front ∙ (lent-window W L n q ∙ sym (member-first W L accepted n l z));
    }

    module _ {first own : Span} (p : first ≡ span_of L 1 0 0 (length W)) (q : own ≡ span_of L 1 0 n (length W)) (z : n ≡ 0 → ⊥) (old : List ℤ)
        (room : member_words ≤ length old) where
      abbrev A : List ℤ
      A = window first.start (first.end - first.start) W

      abbrev B : List ℤ
      B = window own.start (own.end - own.start) W

      pub later-asks : (head_right A ≡ true) × (head_right B ≡ true) × ((sections_of B).objects ≡ 0) × (member_words ≤ length old)
      later-asks = (
        ap head_right (lent-window W L 0 p) ∙ first-right W L accepted n l,
        ap head_right (lent-window W L n q) ∙ right W L accepted n l,
        ap (λ (T : List ℤ). (sections_of T).objects) (lent-window W L n q) ∙ none-listed W L accepted n l z,
        room,
      )

      pub put-member : {new : List ℤ} {r : ℕ} → Put A B old r new → Holds M old r new
      put-member h = record {
        long = h.long;
        within = omega (arith, h.within, h.long, room);
        front = h.front ∙ (ap₂ (λ (F T : List ℤ). with_objects (object_words F) T) (lent-window W L 0 p) (lent-window W L n q)
            ∙ sym (member-later W L accepted n l z));
      }

    -- ---- its successors

    flow-size : 2048 * n + 2048 - 2048 * n ≡ 2048
    flow-size = omega arith

    pub flow-laid : {old room : List ℤ} {r : ℕ} {h : Sections} {b : Bool} {S v : List ℕ} → Holds M old r room → h ≡ sections_of (take r room)
        → length S ≡ 16384 → Written (take r room) h (window (2048 * n) (2048 * n + 2048 - 2048 * n) S) b v
        → FlowLaid M n S (put_mid (2048 * n) (2048 * n + 2048 - 2048 * n) S v)
    flow-laid {old} {room} {r} {h} {b} {S} {v} k e long w =
        let g : h ≡ sections_of M = e ∙ ap (λ (T : List ℤ). sections_of T) k.front in
        let x : Written M (sections_of M) (flow_of S n) b v = rw (k.front, g, flow-size) at w in
        let m : length (flow_of S n) ≡ 2048 =
        length-take 2048 (drop (2048 * n) S) ∙ omega (arith, length-drop (2048 * n) S, long, few-lengths) in
        let y : v ≡ written (table_flow M (sections_of M)) (flow_of S n) =
        rw (le-leb (2 * (sections_of M).statements) (length (flow_of S n)) (omega (arith, m, member-limits.statements))) at x.entries in
        record {
          replaced = rw y (put-replaced (2048 * n) (2048 * n + 2048) S _ (omega arith) (omega (arith, long, few-lengths))
              (length-written (table_flow M (sections_of M)) (flow_of S n) ∙ (m ∙ sym flow-size)));
        }

    pub laid_more : {S S' : List ℕ} → AllLaid W L n S → FlowLaid M n S S' → AllLaid W L (n + 1) S'
    laid_more {S} {S'} a f = record {
      long = f.replaced.long ∙ a.long;
      flows = λ k j. ⊎_elim (λ (e : k ≡ n). here k e) (λ (e : k < n). before k e) (eq-or-lt_of_le (omega arith));
    }
      where
        m : length (flow_of S n) ≡ 2048
        m = length-take 2048 (drop (2048 * n) S) ∙ omega (arith, length-drop (2048 * n) S, a.long, few-lengths)

        mine : flow_of S' n ≡ written (table_flow (member_of Ts n) (sections_of (member_of Ts n))) (flow_of S n)
        mine =
            let q : length (written (table_flow (member_of Ts n) (sections_of (member_of Ts n))) (flow_of S n)) ≡ 2048 =
            length-written (table_flow (member_of Ts n) (sections_of (member_of Ts n))) (flow_of S n) ∙ m in
            subst (λ (c : ℕ). window (2048 * n) c S' ≡ written (table_flow (member_of Ts n) (sections_of (member_of Ts n))) (flow_of S n)) q f.replaced.here

        here : (k : ℕ) → k ≡ n → (i : ℕ) → i < (sections_of (member_of Ts k)).statements
            → entries_at (flow_of S' k) i ≡ get_or (table_flow (member_of Ts k) (sections_of (member_of Ts k))) i (successors 0 0 0)
        here k e = rw e (λ i u. ap (λ (w : List ℕ). entries_at w i) mine
            ∙ written_at (member_of Ts n) (sections_of (member_of Ts n)) member-laid (flow_of S n) (omega (arith, member-limits.statements))
            (omega (arith, m, member-limits.statements)) i (successors 0 0 0) u)

        before : (k : ℕ) → k < n → (i : ℕ) → i < (sections_of (member_of Ts k)).statements
            → entries_at (flow_of S' k) i ≡ get_or (table_flow (member_of Ts k) (sections_of (member_of Ts k))) i (successors 0 0 0)
        before k e i u =
            ap (λ (w : List ℕ). entries_at w i) (window-before (2048 * n) (2048 * k) 2048 S S' (omega arith) f.replaced.front) ∙ a.flows k e i u

  pub laid_none : {S : List ℕ} → length S ≡ 16384 → AllLaid W L 0 S
  laid_none e = record { long = e; flows = λ k l. absurd (omega arith) }

  -- ---- the entry of the last routine

  pub entered-last : (D cs vs os : List ℕ) {n r : ℕ} {old room : List ℤ} {h : Sections} {E : Environment} {v : Result (Unit {0}) Refusal} → n ≡ length L - 1
      → Holds (member_of Ts n) old r room → h ≡ sections_of (take r room) → E ≡ environment_of (take r room) h → v ≡ entered (entry_refusals h E D cs vs os)
      → v ≡ entered (entry_faults (tables_in W L) (lends D cs vs os))
  entered-last D cs vs os {n} {r} {old} {room} {h} {E} e k f g x =
      let T = member_of Ts n in
      let last : n ≡ length (routines_of Ts) - 1 = omega (arith, e, length-routines Ts, length-tables W L) in
      let s : h ≡ sections_of T = f ∙ ap (λ (U : List ℤ). sections_of U) k.front in
      let t : E ≡ environment_of T (sections_of T) = g ∙ ap₂ (λ (U : List ℤ) (i : Sections). environment_of U i) k.front s in
      let u : routine_at (routines_of Ts) n ≡ routine_of T = routine-at Ts n (omega (arith, e, length-tables W L, some-lengths)) in
      let y : routine_of T ≡ routine_at (routines_of Ts) (length (routines_of Ts) - 1) = sym u ∙ ap (routine_at (routines_of Ts)) last in
      x ∙ (ap₂ (λ (i : Sections) (F : Environment). entered (entry_refusals i F D cs vs os)) s t
      ∙ ap (λ (q : Routine). entered (entry_refusals q.sections q.environment D cs vs os)) y)

-- ---- the copy

pub holds-copied : {T old new : List ℤ} {n i : ℕ} → Copied T old i new → n ≡ length T → n ≤ i → length T ≤ length old → Holds T old n new
holds-copied {T} {old} {new} {n} {i} c e l m =
    let t : length (take n new) ≡ n = length-take n new ∙ omega (arith, c.long) in
    record {
      long = c.long;
      within = omega (arith, c.long);
      front = ext_get_or (pos 0) (take n new) T (t ∙ e) (λ j q. get_or-take n new j (pos 0) (omega (arith, t)) ∙ c.words j (omega (arith, t)));
    }

pub holds-taken : {T old new : List ℤ} {n : ℕ} → Holds T old n new → n ≡ length (take n new)
holds-taken {T} {old} {new} {n} h = sym (length-take n new ∙ omega (arith, h.within))

pub laid-whole : {W : List ℤ} {L S : List ℕ} {n : ℕ} → AllLaid W L n S → n ≤ length L → length L ≤ n → AllLaid W L (length L) S
laid-whole {W} {L} {S} a l m = record { long = a.long; flows = λ k j. a.flows k (omega arith) }
