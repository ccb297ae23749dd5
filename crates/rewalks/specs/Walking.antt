-- The walk from a place to the end, and the places that it keeps on its way.
use Rattle.std.specs.Prelude.{ℕ, ◌+◌, ◌-◌, ◌/◌, ◌<◌, ◌≤◌, ◌≡◌, refl, Bool, true, false, cond, ℤ, length, Err, Ok, Result}
use Rattle.std.proofs.Math.Path.{sym, ap}
use Rattle.std.proofs.Common.{◌∙◌, ap₂, arith}
use mathlib.Core.List.{List, [], ◌∷◌}
use Rattle.facts.specs.declared.FactSet.{FactSet}
use Rattle.answers.specs.declared.refusals.Refusal.{Refusal}
use Rattle.words.specs.declared.sections.Sections.{Sections}
use Rattle.blocks.specs.Tree.{Block, nil, parse}
use Rattle.blocks.specs.Layout.{also}
use Rattle.blocks.specs.Shape.{size, Numbered, Laid}
use Rattle.rules.specs.FactSets.{State}
use Rattle.rules.specs.Rules as walk_rules
use Rattle.rules.specs.Calls.{Routine}
use Rattle.rules.specs.Stored.{store, block_after, block_faults}
use Rattle.rules.specs.Verdict.{environment_of, verdict_of}
use Rattle.rules.specs.declared.Environment.{Environment}
use Rattle.bounds.specs.Touched.{seen_of}
use Rattle.rules.specs.BoundsRules.{in_force}
use Rattle.declared.specs.Force.{state_of, Forced}
use Rattle.declared.specs.declared.force.Force.{Force}
use Rattle.declared.specs.ForceLaws.{pass, none-refused, refuse-part}
use Rattle.bundles.specs.declared.Walked.{Walked}
use Rattle.checker.specs.Walk.{InPlace, Walks}
use Rattle.edits.specs.Followed.{followed, laid-parsed}
use Rattle.edits.specs.Cuts.{Cut, cut-whole}
use Rattle.edits.specs.Edited.{is_empty}
use Rattle.places.specs.WalkFollowed.{after-followed, faults-followed}
use Rattle.places.specs.Places.{Place, places, kept_at, onward, kept_from}
use Rattle.places.specs.Positions.{capacity}
use Rattle.places.specs.StoreLaws.{Restored}
use Rattle.places.specs.KeptLaws.{kept-followed, kept-front}
use Rattle.rewalks.specs.Stops.{Stands, Stop}

-- The block from the statement a to the end.
abbrev pub rest_of : List ℤ → Sections → ℕ → Block
rest_of T h a = parse h.statements T h a h.statements

-- The checker's walk over a block from the state w, with no loop facts, of a routine by itself; M is the report so far, which is of no use here.
abbrev pub WalksPart : Environment → Block → State FactSet → Walked → Type 0
WalksPart E b w r = (M : List ℕ) × Walks E [] [] b w M r

pub alone-walks : (E : Environment) (b : Block) (w : State FactSet) (M : List ℕ) {rs : List Routine} {r : Walked} → rs ≡ [] → Walks E [] rs b w M r
    → WalksPart E b w r
alone-walks E b w M e p = (M, rw e at p)

-- The walk from the statement `from` to the end, from the state w: its verdict is that of the faults from there, and the store holds the places kept.
pub record WalkedOn (T : List ℤ) (h : Sections) (K : List ℕ) (from : ℕ) (w : State FactSet) (S : List ℕ) (r : Result (Unit {0}) Refusal)
    (Q : List ℕ) : Type 0 where
  pub said : r ≡ verdict_of (block_faults (environment_of T h) [] [] (rest_of T h from) w)
  pub left : Restored S (kept_from K (capacity S) (environment_of T h) (rest_of T h from) w (places S)) Q

-- The loop's invariant: the walk of what is left, from the state and the places now, is the walk of the whole.
pub record Going (T : List ℤ) (h : Sections) (K : List ℕ) (from : ℕ) (w₀ : State FactSet) (S₀ : List ℕ) (at : ℕ) (w : State FactSet) (S : List ℕ) : Type 0 where
  pub stands : Stands T h at h.statements
  pub faults : block_faults (environment_of T h) [] [] (rest_of T h from) w₀ ≡ block_faults (environment_of T h) [] [] stands.block w
  pub kept : kept_from K (capacity S₀) (environment_of T h) (rest_of T h from) w₀ (places S₀)
      ≡ kept_from K (capacity S₀) (environment_of T h) stands.block w (places S)
  pub long : length S ≡ length S₀

none-parsed : (T : List ℤ) (h : Sections) (a b : ℕ) → parse 0 T h a b ≡ nil
unfolding parse
none-parsed T h a b = refl

not-onward : (F : List Refusal) {v : Result (Unit {0}) Refusal} {x : Refusal} → v ≡ verdict_of F → v ≡ Err x → (P Q : List Place) → onward F P Q ≡ Q
unfolding verdict_of is_empty
not-onward [] e p P Q = cc
not-onward (y ∷ F) e p P Q = refl

all-onward : (F : List Refusal) → F ≡ [] → (P Q : List Place) → onward F P Q ≡ P
unfolding is_empty
all-onward F e P Q = rw e

pub capacity-same : (S Q : List ℕ) → length Q ≡ length S → capacity Q ≡ capacity S
unfolding capacity
capacity-same S Q e = rw e

-- What the walk to the next stop needs.
module _ {T : List ℤ} {h : Sections} {K : List ℕ} {at end stop : ℕ} (s : Stop T h K at end stop) where
  pub front-parsed : parse (stop - at) T h at stop ≡ s.cut.front
  front-parsed = laid-parsed s.cut.front-laid (stop - at) (omega (arith, s.later))

  pub front-placed : InPlace T h at (parse (stop - at) T h at stop)
  front-placed = rw front-parsed (record { numbered = s.cut.front-laid.numbered; reads = s.cut.front-laid.reads })

module _ (T : List ℤ) (h : Sections) (K : List ℕ) (from : ℕ) (w₀ : State FactSet) (S₀ : List ℕ) where
  abbrev E : Environment
  E = environment_of T h

  pub going-none : Laid T h 0 from h.statements (rest_of T h from) → Going T h K from w₀ S₀ from w₀ S₀
  going-none l = record { stands = record { block = rest_of T h from; laid = l }; faults = refl; kept = refl; long = refl }

  -- At the end.
  nil-clear : (t : Block) (a b : ℕ) → Laid T h 0 a b t → b ≤ a → t ≡ nil
  nil-clear t a b l p = sym (laid-parsed l 0 (omega arith)) ∙ parsed-none
    where
      parsed-none : parse 0 T h a b ≡ nil
      parsed-none = none-parsed T h a b

  module _ {at : ℕ} {w : State FactSet} {S : List ℕ} (g : Going T h K from w₀ S₀ at w S) where
    pub going_done : h.statements ≤ at → WalkedOn T h K from w₀ S₀ (Ok tt) S
    unfolding verdict_of walk_rules.block_faults kept_from
    going_done p =
        let z = nil-clear g.stands.block at h.statements g.stands.laid p in record {
          said = ap verdict_of (sym (g.faults ∙ ap (λ (b : Block). block_faults E [] [] b w) z));
          left = record { long = g.long; holds = sym (g.kept ∙ ap (λ (b : Block). kept_from K (capacity S₀) E b w (places S)) z) };
        }

    pub going-state : {v : State FactSet} → v ≡ w → Going T h K from w₀ S₀ at v S
    going-state e = record { stands = g.stands; faults = rw e g.faults; kept = rw e g.kept; long = g.long }

    module _ {Q : List ℕ} (k : Restored S (kept_at K (capacity S) (places S) at w) Q) {stop : ℕ} (s : Stop T h K at h.statements stop) where
      whole : g.stands.block ≡ followed s.cut.front s.cut.back
      whole = cut-whole g.stands.laid s.cut

      parts : block_faults E [] [] (rest_of T h from) w₀
          ≡ also (block_faults E [] [] s.cut.front w) (block_faults E [] [] s.cut.back (block_after E [] s.cut.front w))
      parts =
          g.faults ∙ (ap (λ (b : Block). block_faults E [] [] b w) whole
          ∙ faults-followed store E [] s.cut.front s.cut.back at s.cut.front-laid.numbered w)

      first-kept : kept_from K (capacity S₀) E s.cut.front w (places S) ≡ places Q
      first-kept =
          kept-front K (capacity S₀) E s.cut.front at s.cut.front-laid.numbered (omega (arith, s.cut.front-laid.ends, s.later)) w (places S)
          s.silent
          ∙ (ap (λ (n : ℕ). kept_at K n (places S) at w) (sym (capacity-same S₀ S g.long)) ∙ sym k.holds)

      kept-parts : kept_from K (capacity S₀) E (rest_of T h from) w₀ (places S₀)
          ≡ onward (block_faults E [] [] s.cut.front w) (kept_from K (capacity S₀) E s.cut.back (block_after E [] s.cut.front w) (places Q)) (places Q)
      kept-parts =
          g.kept ∙ (ap (λ (b : Block). kept_from K (capacity S₀) E b w (places S)) whole
          ∙ (kept-followed K (capacity S₀) E s.cut.front s.cut.back at s.cut.front-laid.numbered w (places S)
          ∙ ap (λ (P : List Place).
          onward (block_faults E [] [] s.cut.front w) (kept_from K (capacity S₀) E s.cut.back (block_after E [] s.cut.front w) P) P) first-kept))

      module _ {r : Walked} (walks : WalksPart E (parse (stop - at) T h at stop) w r) where
        front-walks : Walks E [] [] s.cut.front w walks.0 r
        front-walks = let z = front-parsed s in rw z at walks.1

        pub going-refused : {v : Result (Unit {0}) Refusal} {x : Refusal} → v ≡ r.verdict → v ≡ Err x → WalkedOn T h K from w₀ S₀ v Q
        going-refused e p =
            let said = refuse-part (block_faults E [] [] s.cut.front w)
            (block_faults E [] [] s.cut.back (block_after E [] s.cut.front w)) (e ∙ front-walks.said) p in record {
              said = said.0 ∙ ap verdict_of (sym parts);
              left = record {
                long = k.long ∙ g.long;
                holds = sym (kept-parts ∙ not-onward (block_faults E [] [] s.cut.front w) (e ∙ front-walks.said) p _ _);
              };
            }

        pub going_on : {v : Result (Unit {0}) Refusal} → v ≡ r.verdict → v ≡ Ok tt → Going T h K from w₀ S₀ stop (state_of r.facts r.rows.each) Q
        going_on e p =
            let clear = none-refused (block_faults E [] [] s.cut.front w) (e ∙ front-walks.said) p in
            let now = front-walks.kept clear in record {
              stands = record { block = s.cut.back; laid = s.cut.back-laid };
              faults = parts ∙ (pass _ _ clear ∙ ap (block_faults E [] [] s.cut.back) (sym now));
              kept = kept-parts ∙ (all-onward (block_faults E [] [] s.cut.front w) clear _ _
                  ∙ ap (λ (v : State FactSet). kept_from K (capacity S₀) E s.cut.back v (places Q)) (sym now));
              long = k.long ∙ g.long;
            }

-- The same rows put the same in force.
pub forced-same : {E : Environment} {F : Force} {R Q : List ℕ} → Forced E R F → R ≡ Q → Forced E Q F
forced-same {E} o e = record { rows = o.rows ∙ e; seen = o.seen ∙ ap (λ (x : List ℕ). seen_of (in_force E x)) e; named = o.named }
