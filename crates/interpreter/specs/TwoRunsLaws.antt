-- The proof of point 12: from the frame law of the plain machine and from where two runs end.
use Rattle.std.specs.Prelude.{ℕ, zero, suc, ◌-◌, ◌<◌, ◌≡◌, refl, Bool, true, false, List, [], ◌∷◌, ltb, ℤ, length, get_or}
use Rattle.std.proofs.Common.{sym, ap, ◌∙◌, inl, inr, arith, ltb-true, ltb-false}
use Rattle.std.proofs.Math.Decide.{ℕ_discrete}
use Rattle.std.proofs.Math.ListN.{get_or-eq_default}
use Rattle.statements.specs.StatementLaws.{read-typed}
use Rattle.statements.specs.declared.Simple.TheVariants.{Address}
use Rattle.statements.specs.declared.Statement.TheVariants.{Plain}
use Rattle.rules.specs.Calls.{Routine, routine_at, no_routine}
use Rattle.table.specs.Form.{sections_of}
use Rattle.rules.specs.Sets.{members, member_of, routines_of, AllAccepted}
use Rattle.rules.proofs.SetLaws.{length-routines, routine-at, members-same}
use Rattle.rules.proofs.Decidable.{decider, decider-decides}
use Rattle.blocks.specs.LayoutLaws.{no-rest}
use Rattle.machine.specs.Frame.{Elsewhere, SameCells}
use Rattle.machine.specs.Points.{CellOf}
use Rattle.machine.specs.SetMachine.{Stack, last_values}
use Rattle.machine.proofs.SetFrame.{two-alike, others-untouched}
use Rattle.interpreter.specs.BegunLaws.{one-object}
use Rattle.interpreter.specs.StartLaws.{Admitted, admitted, origin-inside}
use Rattle.interpreter.specs.Claim.{Lent, Leaves, answer_of, last_number, entry_faults, EndsAt, run_faults, Begins}
use Rattle.interpreter.specs.ClaimLaws.{judged-ran}
use Rattle.interpreter.specs.SetBegunLaws.{last_within}
use Rattle.interpreter.specs.TwoRuns.{with_cells, Reached, object_count, OtherCell, DifferElsewhere, SameRuns, TwoRuns, TwoSetRuns}

-- All routines have the same objects.
abbrev SameCount : List (List ℤ) → Type 0
SameCount Ts = (n : ℕ) → n < length (routines_of Ts)
    → (routine_at (routines_of Ts) n).sections.objects ≡ (routine_at (routines_of Ts) (last_number Ts)).sections.objects

-- ---- reachable cells and the others

module _ (Ts : List (List ℤ)) (same : SameCount Ts) (l : Lent) (none : entry_faults Ts l ≡ []) where
  abbrev rs : List Routine
  rs = routines_of Ts

  abbrev last : Routine
  last = routine_at rs (last_number Ts)

  entry : Admitted last.sections last.environment l.directory l.cells l.values l.origins
  entry = admitted last.sections last.environment l.directory l.cells l.values l.origins none

  reachable-object : (o : ℕ) → Reached Ts l o → o < object_count Ts l
  reachable-object o (inl (v, e)) =
      omega (arith, origin-inside last.sections last.environment l.directory l.cells l.values l.origins entry v)
  reachable-object o (inr (n, a, p, e)) =
      go (ltb n (length rs)) refl (read-typed (routine_at rs n).table (routine_at rs n).sections a (Plain (Address p o)) e).object
    where
      go : (b : Bool) → ltb n (length rs) ≡ b → o < (routine_at rs n).sections.objects → o < object_count Ts l
      go true q x = omega (arith, x, same n (ltb-true _ _ q))
      go false q x =
          let z : routine_at rs n ≡ no_routine = get_or-eq_default rs no_routine {n = n} (ltb-false _ _ q) in
          absurd (omega (arith, x, ap (λ (r : Routine). r.sections.objects) z))

  -- No cell is both.
  other-elsewhere : (i : ℕ) → OtherCell Ts l i → Elsewhere l.directory (Reached Ts l) i
  other-elsewhere i (inl u) c =
      let q : c.object ≡ u.object =
      one-object last.sections last.environment l.directory l.cells l.values l.origins entry c.object u.object i
      (reachable-object c.object c.chosen) u.chosen.0 c.above c.below u.above u.below in
      u.chosen.1 (rw q at c.chosen)
  other-elsewhere i (inr u) c = u c.object (reachable-object c.object c.chosen) c.above c.below

  differ_same : (ds : List ℕ) → DifferElsewhere Ts l ds → SameCells l.directory (Reached Ts l) l.cells ds
  differ_same ds d = record { long = d.long; cells = λ i c. go i c (ℕ_discrete (get_or l.cells i 0) (get_or ds i 0)) }
    where
      go : (i : ℕ) → CellOf l.directory (Reached Ts l) i → Dec (get_or l.cells i 0 ≡ get_or ds i 0) → get_or l.cells i 0 ≡ get_or ds i 0
      go i c (yes e) = e
      go i c (no n) = absurd (other-elsewhere i (d.cells i n) c)

-- ---- two runs that end where the machine does

ends_same : (Ts : List (List ℤ)) → SameCount Ts → (l : Lent) (ds : List ℕ) (limit : ℕ) (m n : Leaves) → entry_faults Ts l ≡ []
    → entry_faults Ts (with_cells l ds) ≡ []
    → DifferElsewhere Ts l ds → EndsAt Ts l limit m → EndsAt Ts (with_cells l ds) limit n → SameRuns Ts l ds m n
ends_same Ts same l ds limit m n e f d p q =
    let rs = routines_of Ts in
    let a = two-alike rs l.directory l.values l.origins limit l.cells ds (differ_same Ts same l e ds d) in
    record {
      answers = p.answer
          ∙ (ap (λ (K : Stack). answer_of (routine_at rs K.routine).sections K.point.status K.point.steps K.point.due) a.rest
          ∙ sym q.answer);
      routines = p.routine ∙ (ap (λ (K : Stack). K.routine) a.rest ∙ sym q.routine);
      values = p.values ∙ (ap (λ (K : Stack). last_values rs l.directory K.callers K.point.values) a.rest ∙ sym q.values);
      long = ap length p.cells ∙ (a.memory.long ∙ sym (ap length q.cells));
      reachable = λ i x. ap (λ (c : List ℕ). get_or c i 0) p.cells ∙ (a.memory.cells i x ∙ sym (ap (λ (c : List ℕ). get_or c i 0) q.cells));
      first-untouched = λ i x. ap (λ (c : List ℕ). get_or c i 0) p.cells
          ∙ others-untouched rs l.directory l.values l.origins limit l.cells i (other-elsewhere Ts same l e i x);
      second-untouched = λ i x. ap (λ (c : List ℕ). get_or c i 0) q.cells
          ∙ others-untouched rs l.directory l.values l.origins limit ds i (other-elsewhere Ts same (with_cells l ds) f i x);
    }

-- ---- of a routine by itself, and of a set

one-count : (T : List ℤ) → SameCount (T ∷ [])
unfolding routines_of members
one-count T zero k = refl
one-count T (suc n) k = absurd (omega (arith, k))

set-count : (Ts : List (List ℤ)) → AllAccepted Ts → SameCount Ts
set-count Ts a n k = count n k ∙ sym (count (last_number Ts) (last_within Ts a))
  where
    below : (n : ℕ) → n < length (routines_of Ts) → n < length Ts
    below n k = omega (arith, k, length-routines Ts)

    count : (n : ℕ) → n < length (routines_of Ts) → (routine_at (routines_of Ts) n).sections.objects ≡ (sections_of (member_of Ts 0)).objects
    count n k = ap (λ (r : Routine). r.sections.objects) (routine-at Ts n (below n k)) ∙ (members-same Ts a n (below n k)).count

begins-entered : (T L : List ℤ) (l : Lent) → Begins T L l → entry_faults (T ∷ []) l ≡ []
unfolding run_faults
begins-entered T L l b = no-rest _ _ (b.by-each (decider T) (decider-decides T))

pub two_runs : TwoRuns
two_runs T L l ds limit m n b c d j k =
    ends_same (T ∷ []) (one-count T) l ds limit m n (begins-entered T L l b) (begins-entered T L (with_cells l ds) c) d (judged-ran T L l limit m b j).ends
    (judged-ran T L (with_cells l ds) limit n c k).ends

pub two-set-runs : TwoSetRuns
two-set-runs Ts l ds limit m n a e f d j k =
    ends_same Ts (set-count Ts a) l ds limit m n e f d (j.ran a e).ends (k.ran a f).ends
