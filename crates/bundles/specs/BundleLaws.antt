-- Faults in order, and the walk over a bundle, one statement at a time, as the code meets it.
use Rattle.std.specs.Prelude.{ℕ, zero, suc, ◌+◌, ◌-◌, ◌<◌, ◌≤◌, ◌≡◌, refl, Bool, true, false, List, [], ◌∷◌, ℤ, set, Err, None, Ok, Result, Some}
use Rattle.std.proofs.Common.{sym, ◌∙◌, ap₂, arith}
use Rattle.std.proofs.Math.Path.{ap}
use Rattle.facts.specs.declared.FactSet.{FactSet}
use Rattle.answers.specs.declared.refusals.Refusal.{Refusal}
use Rattle.answers.specs.declared.refusals.Refusal.TheVariants.{BundleAccess}
use Rattle.words.specs.declared.sections.Sections.{Sections}
use Rattle.statements.specs.declared.Simple.{Simple}
use Rattle.statements.specs.declared.Simple.TheVariants.{Declare}
use Rattle.statements.specs.declared.Statement.{Statement}
use Rattle.statements.specs.declared.Statement.TheVariants.{Plain, If, While, Bundle, Call}
use Rattle.statements.specs.Statements.{statement_at}
use Rattle.statements.specs.StatementLaws.{read-typed, read-limits}
use Rattle.blocks.specs.Tree.{simples, simples_from}
use Rattle.blocks.specs.Layout.{also}
use Rattle.blocks.specs.FlowLaws.{simples-some}
use Rattle.rules.specs.FactSets.{State}
use Rattle.rules.specs.Stored.{facts_after, effect, unshown, access_shown, bundle_bounds, bundle_faults}
use Rattle.rules.specs.Stored.{bounds_after, state_after, unshown_in, row_unshown, access_in, bundle_after, safe_in, access_safe}
use Rattle.reports.specs.Reports.{marked_if}
use Rattle.rules.specs.BoundsRules.{in_force, rows_after}
use Rattle.rules.specs.Rules.{access_at, bounds_at}
use Rattle.rules.specs.Verdict.{verdict_of}
use Rattle.rules.specs.Ranges.{InRange, Measured, Short}
use Rattle.effects.specs.Applied.{Applied, applied}
use Rattle.declared.specs.Shown.{declares_of, is_access, declaration}
use Rattle.bounds.specs.Touched.{seen_as, seen_of}
use Rattle.bounds.specs.declared.touched.Seen.{Seen}
use Rattle.declared.specs.ShownLaws.{row_named, rows_stay, no-row-asked, seen-unshown, seen-access, seen-safe, unneeded, unreported}
use Rattle.declared.specs.Force.{Framed, state_of}
use Rattle.declared.specs.ForceLaws.{none-refused, pass, refuse-part}
use Rattle.declared.specs.declared.force.Frame.{Frame}
use Rattle.bundles.specs.Bundles.{line_marks, Passes, WalksBundle}
use Rattle.effects.specs.FactRulesLaws.{effect-spans}
use Rattle.bounds.specs.BoundsRulesLaws.{effect-short}
use Rattle.rules.specs.declared.Bounds.{Bounds}
use Rattle.rules.specs.declared.Environment.{Environment}
use Rattle.rules.specs.declared.Effect.{Effect}
use Rattle.rules.specs.declared.Effect.TheVariants.{Keep}
use Rattle.bundles.specs.declared.Walked.{Walked}
use Rattle.rules.specs.Rules as walk_rules
use Rattle.rules.specs.FactRules as fact_rules
use Rattle.rules.specs.BoundsRules as bounds_rules

-- ---- faults in order

pub stops : {zs : List Refusal} (xs ys : List Refusal) {g : State FactSet} {M : List ℕ} {w : Walked} {r : Refusal} → zs ≡ also xs ys
    → w.verdict ≡ verdict_of xs → w.verdict ≡ Err r → Passes zs g M w
stops xs ys z e p =
    let h = refuse-part xs ys e p in
    record { said = h.0 ∙ ap verdict_of (sym z); kept = λ q. absurd (h.1 (sym z ∙ q)); marked = λ q. absurd (h.1 (sym z ∙ q)) }

access-verdict : (b : Bool) (a : ℕ) → b ≡ false → Err (BundleAccess a) ≡ verdict_of (access_at b a)
unfolding access_at verdict_of
access-verdict b a e = rw e

access-pass : (b : Bool) (a : ℕ) → b ≡ true → access_at b a ≡ []
unfolding access_at
access-pass b a e = rw e

pub ends : {xs : List Refusal} {g : State FactSet} {M : List ℕ} {w : Walked} → xs ≡ [] → w.verdict ≡ Ok tt → state_of w.facts w.rows.each ≡ g
    → w.report.words ≡ M → Passes xs g M w
unfolding verdict_of
ends e p q v = record { said = p ∙ ap verdict_of (sym e); kept = λ z. q; marked = λ z. v }

-- ---- a statement

module _ (E : Environment) (f : FactSet) (s : Simple) {d : Applied} (e : d ≡ applied E.sizes E.spans f s) where
  pub applied-facts : d.facts ≡ facts_after s f
  unfolding applied
  applied-facts = ap (λ (a : Applied). a.facts) e

  pub applied-effect : d.effect ≡ effect E f s
  unfolding applied
  applied-effect = ap (λ (a : Applied). a.effect) e ∙ effect-spans E f s

  pub applied-short : Measured E → InRange s → Short d.effect
  applied-short m r = rw applied-effect (effect-short E f s m r)

-- With the sizes and spans that the table declares.
pub measured-by : (f : FactSet) (s : Simple) {E : Environment} {r : Frame} {d : Applied} → Framed E r → d ≡ applied r.sizes r.spans f s
    → d ≡ applied E.sizes E.spans f s
measured-by f s m e = e ∙ ap₂ (λ (x y : List ℕ). applied x y f s) m.sizes m.spans

-- A kind 14 names a pointer and a row of the table.
pub row-limits : (T : List ℤ) (h : Sections) (a : ℕ) {s : Statement} {p : Simple} {y r : ℕ} → statement_at T h a ≡ Some s → s ≡ Plain p → declares_of p
    ≡ Some (declaration y r)
    → (y < 16) × (r < 64)
row-limits T h a {s} {p} {y} {r} e d n =
    let q : statement_at T h a ≡ Some (Plain (Declare y r)) = e ∙ ap Some (d ∙ ap Plain (row_named p y r n)) in
    let t = read-typed T h a (Plain (Declare y r)) q in
    let l = read-limits T h a _ q in
    (omega (arith, t.pointer.below, l.0.variables), omega (arith, t.row, l.0.rows))

-- ---- what is asked of a statement of any kind but 14: an access must be shown, and is reported where it is safe (point 9)

pub record AccessAsked (E : Environment) (f : FactSet) (K : List Bounds) (s : Simple) (a : ℕ) (M W : List ℕ) : Type 0 where
  pub shown : true ≡ access_shown E f K s
  pub marks : W ≡ marked_if (access_safe E f s) M a

pub marked-safe : (E : Environment) (f : FactSet) (s : Simple) (a : ℕ) (M : List ℕ) {b : Bool} {W : List ℕ} → b ≡ access_safe E f s → W ≡ marked_if b M a
    → W ≡ marked_if (access_safe E f s) M a
marked-safe E f s a M y e = e ∙ ap (λ (z : Bool). marked_if z M a) y

pub unmarked : (E : Environment) (f : FactSet) (s : Simple) (a : ℕ) (M : List ℕ) {b : Bool} {W : List ℕ} → b ≡ is_access s → b ≡ false → W ≡ M
    → W ≡ marked_if (access_safe E f s) M a
unfolding marked_if
unmarked E f s a M i n e = e ∙ ap (λ (z : Bool). marked_if z M a) (unreported E f s (sym i ∙ n))

module _ (E : Environment) (f : FactSet) (K : List Bounds) (s : Simple) (a : ℕ) (M : List ℕ) {W : List ℕ} where
  pub access-asked : {b y : Bool} → b ≡ access_shown E f K s → b ≡ true → y ≡ access_safe E f s → W ≡ marked_if y M a → AccessAsked E f K s a M W
  access-asked e t y m = record { shown = sym t ∙ e; marks = marked-safe E f s a M y m }

  pub nothing-asked-of : {b : Bool} → b ≡ is_access s → b ≡ false → W ≡ M → AccessAsked E f K s a M W
  nothing-asked-of i n e = record { shown = unneeded E f K s (sym i ∙ n); marks = unmarked E f s a M i n e }

-- ---- a bundle

simples-none : (n : ℕ) (T : List ℤ) (h : Sections) (a : ℕ) → n ≤ 0 → simples n T h a ≡ []
unfolding simples
simples-none zero T h a p = refl
simples-none (suc n) T h a p = absurd (omega arith)

-- The faults of a bundle from statement a on, with the question at its head's end; and the bundle's loop invariant: what is left of it is the whole.
abbrev pub line_faults : Environment → ℕ → ℕ → List Simple → State FactSet → List Bounds → List Refusal
line_faults E head a ss w K = also (bundle_faults E a ss w K) (bounds_at head (unshown_in E (bundle_after ss w) (bundle_bounds E ss w K)))

pub record Held (T : List ℤ) (h : Sections) (E : Environment) (head count : ℕ) (w₀ : State FactSet) (K₀ : List Bounds) (M₀ : List ℕ) (at left : ℕ) (f : FactSet)
    (R : List ℕ) (I : Seen) (K : List Bounds) (M : List ℕ) : Type 0 where
  pub blamed : line_faults E head (head + 1) (simples count T h (head + 1)) w₀ K₀ ≡ line_faults E head at (simples left T h at) (state_of f R) K
  pub left-state : bundle_after (simples count T h (head + 1)) w₀ ≡ bundle_after (simples left T h at) (state_of f R)
  pub marks : line_marks E (head + 1) (simples count T h (head + 1)) w₀ M₀ ≡ line_marks E at (simples left T h at) (state_of f R) M
  -- I is what is seen of the environment in force.
  pub inside : I ≡ seen_of (in_force E R)

pub held_none : (T : List ℤ) (h : Sections) (E : Environment) (head count : ℕ) (f : FactSet) (R : List ℕ) (M : List ℕ) {I : Seen} {K : List Bounds}
    → I ≡ seen_of (in_force E R) → K ≡ I.declared
    → Held T h E head count (state_of f R) (in_force E R).declared M (head + 1) count f R I K M
held_none T h E head count f R M i k =
    let e = k ∙ ap (λ (x : Seen). x.declared) i in
    record { blamed = ap (line_faults E head (head + 1) (simples count T h (head + 1)) (state_of f R)) (sym e); left-state = refl; marks = refl; inside = i }

pub carry : {xs ys : List Refusal} {f g : State FactSet} {U M : List ℕ} {w : Walked} → xs ≡ ys → f ≡ g → U ≡ M → Passes ys g M w → Passes xs f U w
carry e d v p = record {
  said = p.said ∙ ap verdict_of (sym e);
  kept = λ z. p.kept (sym e ∙ z) ∙ sym d;
  marked = λ z. p.marked (sym e ∙ z) ∙ sym v;
}

also-none : (xs : List Refusal) → also [] xs ≡ xs
unfolding also
also-none xs = refl

line-none : (E : Environment) (head a : ℕ) (w : State FactSet) (K : List Bounds) → line_faults E head a [] w K ≡ bounds_at head (unshown_in E w K)
unfolding walk_rules.bundle_faults walk_rules.bundle_after walk_rules.bundle_bounds
line-none E head a w K = also-none (bounds_at head (unshown_in E w K))

after_more : (s : Simple) (ss : List Simple) (w : State FactSet) → bundle_after (s ∷ ss) w ≡ bundle_after ss (state_after s w)
unfolding walk_rules.bundle_after
after_more s ss w = refl

marks-more : (E : Environment) (a : ℕ) (s : Simple) (ss : List Simple) (w : State FactSet) (M : List ℕ)
    → line_marks E a (s ∷ ss) w M ≡ line_marks E (a + 1) ss (state_after s w) (marked_if (safe_in E w s) M a)
unfolding line_marks
marks-more E a s ss w M = refl

marks-none : (E : Environment) (a : ℕ) (w : State FactSet) (M : List ℕ) → line_marks E a [] w M ≡ M
unfolding line_marks
marks-none E a w M = refl

-- A kind 14 is no access.
pub declare-unmarked : (E : Environment) (w : State FactSet) (p r : ℕ) (M : List ℕ) (a : ℕ) → marked_if (safe_in E w (Declare p r)) M a ≡ M
unfolding bounds_rules.access_safe marked_if
declare-unmarked E w p r M a = refl

after_none : (w : State FactSet) → bundle_after [] w ≡ w
unfolding walk_rules.bundle_after
after_none w = refl

pub also-assoc : (xs ys zs : List Refusal) → also (also xs ys) zs ≡ also xs (also ys zs)
unfolding also
also-assoc [] ys zs = refl
also-assoc (x ∷ xs) ys zs = ap (λ (l : List Refusal). x ∷ l) (also-assoc xs ys zs)

line-some : (E : Environment) (head a : ℕ) (s : Simple) (ss : List Simple) (w : State FactSet) (K : List Bounds)
    → line_faults E head a (s ∷ ss) w K ≡ also (access_at (access_in E w K s) a)
    (also (bounds_at a (row_unshown E w.facts K s)) (line_faults E head (a + 1) ss (state_after s w) (bounds_after (effect E w.facts s) K)))
unfolding walk_rules.bundle_faults walk_rules.bundle_after walk_rules.bundle_bounds
line-some E head a s ss w K = also-assoc _ _ _ ∙ ap (also (access_at (access_in E w K s) a)) (also-assoc _ _ _)

-- What a kind 14 does to the state and to the known bounds.
pub declare-after : (p r : ℕ) (f : FactSet) (R : List ℕ) → state_after (Declare p r) (state_of f R) ≡ state_of f (set R p (r + 1))
unfolding fact_rules.facts_after rows_after
declare-after p r f R = refl

pub declare-keeps : (E : Environment) (f : FactSet) (p r : ℕ) → effect E f (Declare p r) ≡ Keep
unfolding bounds_rules.effect
declare-keeps E f p r = refl

-- Any other asks for no row.
pub nothing-asked : (E : Environment) (f : FactSet) (K : List Bounds) (s : Simple) (a : ℕ) → declares_of s ≡ None → bounds_at a (row_unshown E f K s) ≡ []
unfolding bounds_at
nothing-asked E f K s a n = rw (no-row-asked E f K s n) refl

declare-accesses : (E : Environment) (w : State FactSet) (K : List Bounds) (p r a : ℕ) → access_at (access_in E w K (Declare p r)) a ≡ []
unfolding bounds_rules.access_shown access_at
declare-accesses E w K p r a = refl

module _ {T : List ℤ} {h : Sections} {E : Environment} {head count : ℕ} {w₀ : State FactSet} {K₀ : List Bounds} {M₀ : List ℕ} {at left : ℕ} {f : FactSet}
    {R : List ℕ} {I : Seen} {K : List Bounds} {M : List ℕ}
    (k : Held T h E head count w₀ K₀ M₀ at left f R I K M) where
  -- The bundle ends, or is cut short.
  held-end : {w : Walked} → simples left T h at ≡ [] → Passes (bounds_at head (unshown (seen_as I) f K)) (state_of f R) M w
      → WalksBundle E head (simples count T h (head + 1)) w₀ K₀ M₀ w
  held-end e p =
      carry (k.blamed ∙ (ap (λ (ss : List Simple). line_faults E head at ss (state_of f R) K) e ∙ line-none E head at (state_of f R) K))
      (k.left-state ∙ (ap (λ (ss : List Simple). bundle_after ss (state_of f R)) e ∙ after_none (state_of f R)))
      (k.marks ∙ (ap (λ (ss : List Simple). line_marks E at ss (state_of f R) M) e ∙ marks-none E at (state_of f R) M))
      (carry (ap (bounds_at head) (sym (seen-unshown (in_force E R) f K) ∙ ap (λ (x : Seen). unshown (seen_as x) f K) (sym k.inside))) refl refl p)

  pub held-done : {w : Walked} → left ≤ 0 → Passes (bounds_at head (unshown (seen_as I) f K)) (state_of f R) M w
      → WalksBundle E head (simples count T h (head + 1)) w₀ K₀ M₀ w
  held-done z p = held-end (simples-none left T h at z) p

  module _ (some : 0 < left) where
    pub held-unread : {w : Walked} → statement_at T h at ≡ None → Passes (bounds_at head (unshown (seen_as I) f K)) (state_of f R) M w
        → WalksBundle E head (simples count T h (head + 1)) w₀ K₀ M₀ w
    held-unread e p = held-end (simples-some left T h at _ some e) p

    cut : (s : Statement) → ((p : Simple) → s ≡ Plain p → ⊥) → (ss : List Simple) → simples_from (Some s) ss ≡ []
    cut (Plain p) n ss = absurd (n p refl)
    cut (If c i j) n ss = refl
    cut (While c i) n ss = refl
    cut (Bundle i) n ss = refl
    cut (Call i) n ss = refl

    pub held-other : {w : Walked} {s : Statement} → statement_at T h at ≡ Some s → ((p : Simple) → s ≡ Plain p → ⊥)
        → Passes (bounds_at head (unshown (seen_as I) f K)) (state_of f R) M w
        → WalksBundle E head (simples count T h (head + 1)) w₀ K₀ M₀ w
    held-other {w} {s} e n p = held-end (simples-some left T h at _ some e ∙ cut s n (simples (left - 1) T h (at + 1))) p

    module _ {s : Statement} {p : Simple} (e : statement_at T h at ≡ Some s) (d : s ≡ Plain p) where
      line : simples left T h at ≡ p ∷ simples (left - 1) T h (at + 1)
      line = simples-some left T h at _ some (e ∙ ap Some d)

      line-here : line_faults E head (head + 1) (simples count T h (head + 1)) w₀ K₀ ≡ also (access_at (access_in E (state_of f R) K p) at)
          (also (bounds_at at (row_unshown E f K p))
          (line_faults E head (at + 1) (simples (left - 1) T h (at + 1)) (state_after p (state_of f R)) (bounds_after (effect E f p) K)))
      line-here = k.blamed ∙ (ap (λ (ss : List Simple). line_faults E head at ss (state_of f R) K) line
          ∙ line-some E head at p (simples (left - 1) T h (at + 1)) (state_of f R) K)

      state-here : bundle_after (simples count T h (head + 1)) w₀ ≡ bundle_after (simples (left - 1) T h (at + 1)) (state_after p (state_of f R))
      state-here = k.left-state ∙ (ap (λ (ss : List Simple). bundle_after ss (state_of f R)) line
          ∙ after_more p (simples (left - 1) T h (at + 1)) (state_of f R))

      marks-here : line_marks E (head + 1) (simples count T h (head + 1)) w₀ M₀
          ≡ line_marks E (at + 1) (simples (left - 1) T h (at + 1)) (state_after p (state_of f R)) (marked_if (safe_in E (state_of f R) p) M at)
      marks-here = k.marks ∙ (ap (λ (ss : List Simple). line_marks E at ss (state_of f R) M) line
          ∙ marks-more E at p (simples (left - 1) T h (at + 1)) (state_of f R) M)

      access-here : {b : Bool} → b ≡ access_shown (seen_as I) f K p → b ≡ access_in E (state_of f R) K p
      access-here a = a ∙ (ap (λ (x : Seen). access_shown (seen_as x) f K p) k.inside ∙ seen-access (in_force E R) f K p)

      -- Any kind but 14.
      pub held-access : {w : Walked} {b : Bool} → b ≡ access_shown (seen_as I) f K p → b ≡ false → w.verdict ≡ Err (BundleAccess at)
          → WalksBundle E head (simples count T h (head + 1)) w₀ K₀ M₀ w
      held-access a t v = stops _ _ line-here (v ∙ access-verdict (access_in E (state_of f R) K p) at (sym (access-here a) ∙ t)) v

      pub held_more : {g : FactSet} {L : List Bounds} {x : Effect} {W : List ℕ} → declares_of p ≡ None → AccessAsked (seen_as I) f K p at M W
          → g ≡ facts_after p f → x ≡ effect E f p → L ≡ bounds_after x K
          → Held T h E head count w₀ K₀ M₀ (at + 1) (left - 1) g R I L W
      held_more {g} {L} {W = W} n a q x l =
          let o : state_after p (state_of f R) ≡ state_of g R = ap₂ state_of (sym q) (rows_stay p R n) in
          let u : marked_if (safe_in E (state_of f R) p) M at ≡ W = sym (a.marks ∙ ap (λ (z : Bool). marked_if z M at)
          (ap (λ (z : Seen). access_safe (seen_as z) f p) k.inside ∙ seen-safe (in_force E R) f p)) in
          let m : bounds_after (effect E f p) K ≡ L = sym (l ∙ ap (λ (y : Effect). bounds_after y K) x) in
          record {
            blamed = line-here ∙ (pass _ _ (access-pass (access_in E (state_of f R) K p) at (sym (access-here a.shown))) ∙ (pass _ _
                (nothing-asked E f K p at n)
                ∙ ap₂ (line_faults E head (at + 1) (simples (left - 1) T h (at + 1))) o m));
            left-state = state-here ∙ ap (bundle_after (simples (left - 1) T h (at + 1))) o;
            marks = marks-here ∙ ap₂ (line_marks E (at + 1) (simples (left - 1) T h (at + 1))) o u;
            inside = k.inside;
          }

      -- Kind 14.
      module _ {y r : ℕ} (n : declares_of p ≡ Some (declaration y r)) {v : Result (Unit {0}) Refusal} (z : v ≡ verdict_of (bounds_at at (row_unshown E f K
          (Declare y r)))) where
        row_here : line_faults E head (head + 1) (simples count T h (head + 1)) w₀ K₀ ≡ also (bounds_at at (row_unshown E f K (Declare y r)))
            (line_faults E head (at + 1) (simples (left - 1) T h (at + 1)) (state_of f (set R y (r + 1))) (bounds_after Keep K))
        row_here =
            line-here ∙ (ap (λ (q : Simple). also (access_at (access_in E (state_of f R) K q) at) (also (bounds_at at (row_unshown E f K q))
            (line_faults E head (at + 1) (simples (left - 1) T h (at + 1)) (state_after q (state_of f R)) (bounds_after (effect E f q) K)))) (row_named p y r n)
            ∙ (pass _ _ (declare-accesses E (state_of f R) K y r at)
            ∙ ap₂ (λ (w : State FactSet) (x : Effect).
            also (bounds_at at (row_unshown E f K (Declare y r))) (line_faults E head (at + 1) (simples (left - 1) T h (at + 1)) w (bounds_after x K)))
            (declare-after y r f R) (declare-keeps E f y r)))

        pub held-missed : {w : Walked} {x : Refusal} → v ≡ Err x → w.verdict ≡ v → WalksBundle E head (simples count T h (head + 1)) w₀ K₀ M₀ w
        held-missed t q = stops _ _ row_here (q ∙ z) (q ∙ t)

        pub held-row : {Q : List ℕ} {J : Seen} {L : List Bounds} → v ≡ Ok tt → L ≡ bounds_after Keep K → Q ≡ set R y (r + 1) → J ≡ seen_of (in_force E Q)
            → Held T h E head count w₀ K₀ M₀ (at + 1) (left - 1) f Q J L M
        held-row {Q} {J} {L} t l q j =
            let o : state_after p (state_of f R) ≡ state_of f Q = ap (λ (x : Simple). state_after x (state_of f R)) (row_named p y r n)
            ∙ (declare-after y r f R ∙ ap (state_of f) (sym q)) in
            record {
              blamed = row_here ∙ (pass _ _ (none-refused _ z t)
                  ∙ ap₂ (λ (U : List ℕ) (M : List Bounds). line_faults E head (at + 1) (simples (left - 1) T h (at + 1)) (state_of f U) M) (sym q) (sym l));
              left-state = state-here ∙ ap (bundle_after (simples (left - 1) T h (at + 1))) o;
              marks = marks-here ∙ ap₂ (line_marks E (at + 1) (simples (left - 1) T h (at + 1))) o
                  (ap (λ (x : Simple). marked_if (safe_in E (state_of f R) x) M at) (row_named p y r n) ∙ declare-unmarked E (state_of f R) y r M at);
              inside = j;
            }
