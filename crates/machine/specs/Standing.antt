-- What holds at every place of an accepted routine: the memory is steady, and the statement due may make its access; outside a bundle the declared bounds are
-- true.
use Rattle.std.specs.Prelude.{ℕ, ◌+◌, ◌≤◌, ◌<◌, ◌&&◌, ◌||◌, ℤ, Some}
use Rattle.std.proofs.Math.Path.{◌≡◌, sym, ap}
use Rattle.std.proofs.Common.{◌∙◌, arith}
use Rattle.std.proofs.Math.Logic.{inl, inr}
use Rattle.std.proofs.Math.Bool.{true, false}
use Rattle.std.proofs.lemmas.Bool.{false≢true}
use mathlib.Core.List.{List, [], ◌∷◌}
use borrow.Author.Tests.{lt-ltb}
use Rattle.std.proofs.Math.Dec.{ltb}
use Rattle.std.proofs.Math.ListN.{length}
use Rattle.facts.specs.declared.FactSet.{FactSet}
use Rattle.words.specs.declared.sections.Sections.{Sections}
use Rattle.conditions.specs.Conditions.{negated_of}
use Rattle.statements.specs.Statements.{statement_at}
use Rattle.statements.specs.StatementLaws.{read-typed, read-within}
use Rattle.statements.specs.declared.CallSite.{CallSite}
use Rattle.statements.specs.declared.Simple.{Simple}
use Rattle.statements.specs.declared.Statement.{Statement}
use Rattle.statements.specs.declared.Statement.TheVariants.{Plain, If, While, Bundle, Call}
use Rattle.blocks.specs.Tree.{Block, nil, plain, branch, loop, bundle, call, unread, assigned}
use Rattle.blocks.specs.Flow.{Successors, entry}
use Rattle.blocks.specs.Shape.{size}
use Rattle.rules.specs.FactSets.{State}
use Rattle.rules.specs.Stored.{effect, bundle_faults, sides_joined, block_faults, bounds_after, called_state, call_faults}
use Rattle.rules.specs.Stored.{state_after, assumed, at_head, access_in, declared_in, bundle_after, block_after}
use Rattle.rules.specs.FactsTrue.{neither}
use Rattle.rules.proofs.ListedLaws.{EntriesTrue}
use Rattle.listed.specs.Entries.{entries_of}
use Rattle.conditions.specs.declared.Condition.{Condition}
use Rattle.rules.specs.BoundsRules.{in_force}
use Rattle.blocks.specs.LayoutLaws.{no-first, no-rest}
use Rattle.rules.specs.RuleLaws.{access-passed}
use Rattle.rules.specs.Calls.{Routine}
use Rattle.rules.specs.declared.Bounds.{Bounds}
use Rattle.rules.specs.declared.Environment.{Environment}
use Rattle.machine.specs.Machine.{Memory, value}
use Rattle.machine.specs.Points.{in_bundle}
use Rattle.machine.specs.Good.{Setting, Good}
use Rattle.machine.specs.AccessSound.{Ready}
use Rattle.machine.specs.BlockSound.{ready-inside, ready-outside}
use Rattle.machine.specs.Places.{LinkedLine, Linked, AtLine, At}
use Rattle.rules.specs.Rules as walk_rules

-- L is the list of loop facts, `callees` are the routines that may be called.
module _ (T : List ℤ) (h : Sections) (E : Environment) (D : List ℕ) (room : ℕ) (L : List ℤ) (callees : List Routine) where
  pub record Standing (b : Block) (d : ℕ) (m : Memory) : Type 0 where
    pub state : State FactSet
    pub bounds : List Bounds
    pub good : Good h E D room state bounds m
    pub within : d < h.statements
    pub ready : (s : Simple) → statement_at T h d ≡ Some (Plain s) → Ready (in_force E m.rows) D h.objects s m
    pub declared : in_bundle b d ≡ false → Good h E D room state (declared_in E state) m
    -- Point 9: where a while is due, its entries are true.
    pub listed : (c : Condition) (n : ℕ) → statement_at T h d ≡ Some (While c n) → EntriesTrue (entries_of L d) (value m.values)
    -- A call that is due is outside a bundle, and 19 and 20 do not refuse it.
    pub calling : (c : CallSite) → statement_at T h d ≡ Some (Call c)
        → (call_faults callees E d c state.facts (declared_in E state) ≡ []) × Good h E D room state (declared_in E state) m

  -- From a part of a block to the block.
  widened : (b c : Block) (d : ℕ) (m : Memory) → (in_bundle c d ≡ false → in_bundle b d ≡ false) → Standing b d m → Standing c d m
  widened b c d m k s =
      record {
        state = s.state;
        bounds = s.bounds;
        good = s.good;
        within = s.within;
        ready = s.ready;
        declared = λ e. s.declared (k e);
        listed = s.listed;
        calling = s.calling;
      }

  module _ (S : Setting T h E D room) (f : ℕ → Successors) where
    -- Outside a bundle.
    standing_here : (b : Block) (a d : ℕ) (s : Statement) (F : State FactSet) (m : Memory) → statement_at T h a ≡ Some s → d ≡ a
        → ((c : Condition) (n : ℕ) → s ≡ While c n → EntriesTrue (entries_of L a) (value m.values)) → Good h E D room F (declared_in E F) m
        → ((c : CallSite) → s ≡ Call c → call_faults callees E a c F.facts (declared_in E F) ≡ []) → Standing b d m
    standing_here b a d s F m r e t g k =
        record {
          state = F;
          bounds = declared_in E F;
          good = g;
          within = omega (arith, read-within T h a s r);
          ready = λ q u. ready-outside T h E D room S q F m (read-typed T h d (Plain q) u) g;
          declared = λ u. g;
          listed = λ c n u. let same : s ≡ While c n = cc in rw e (t c n same);
          calling = λ c u. let q : Some s ≡ Some (Call c) = sym r ∙ (ap (statement_at T h) (sym e) ∙ u) in (rw e (k c cc), g);
        }

    pub record StandingLine (a n d : ℕ) (m : Memory) : Type 0 where
      pub state : State FactSet
      pub bounds : List Bounds
      pub good : Good h E D room state bounds m
      pub within : d < h.statements
      pub ready : (s : Simple) → statement_at T h d ≡ Some (Plain s) → Ready (in_force E m.rows) D h.objects s m
      pub listed : (c : Condition) (n : ℕ) → statement_at T h d ≡ Some (While c n) → EntriesTrue (entries_of L d) (value m.values)
      pub calling : (c : CallSite) → statement_at T h d ≡ Some (Call c) → ⊥
      pub first : a ≤ d
      pub last : d < a + n

    standing-line : (a : ℕ) (ss : List Simple) (F : State FactSet) (K : List Bounds) (after d : ℕ) (m : Memory) → LinkedLine T h f a ss after
        → bundle_faults E a ss F K ≡ []
        → AtLine h E D room a ss F K d m → StandingLine a (length ss) d m
    unfolding walk_rules.bundle_faults
    standing-line a [] F K after d m l q i = absurd i
    standing-line a (s ∷ ss) F K after d m l q (inl i) =
        let e = i.0 in
        let shown = access-passed (access_in E F K s) a (no-first _ _ q) in
        let read : statement_at T h d ≡ Some (Plain s) = ap (statement_at T h) e ∙ l.0 in
        record {
          state = F;
          bounds = K;
          good = i.1;
          within = omega (arith, read-within T h a (Plain s) l.0);
          ready = λ t u. let same : s ≡ t = cc in rw (← same) (ready-inside T h E D room S s F K m (read-typed T h a (Plain s) l.0) shown i.1);
          listed = λ c n u. let z : ◌≡◌ {A = ℕ} 0 1 = cc in absurd (omega arith);
          calling = λ c u. let z : Some (Plain s) ≡ Some (Call c) = sym read ∙ u in let o : ◌≡◌ {A = ℕ} 0 1 = cc in omega arith;
          first = omega arith;
          last = omega arith;
        }
    standing-line a (s ∷ ss) F K after d m l q (inr i) =
        let w = standing-line (a + 1) ss (state_after s F) (bounds_after (effect E F.facts s) K) after d m l.2 (no-rest _ _ (no-rest _ _ q)) i in
        record {
          state = w.state;
          bounds = w.bounds;
          good = w.good;
          within = w.within;
          ready = w.ready;
          listed = w.listed;
          calling = w.calling;
          first = omega (arith, w.first);
          last = omega (arith, w.last);
        }

    -- Inside a bundle.
    standing-inside : (a : ℕ) (ss : List Simple) (r : Block) (d : ℕ) (m : Memory) → StandingLine (a + 1) (length ss) d m → Standing (bundle a ss r) d m
    unfolding in_bundle
    standing-inside a ss r d m w =
        record {
          state = w.state;
          bounds = w.bounds;
          good = w.good;
          within = w.within;
          ready = w.ready;
          listed = w.listed;
          calling = λ c u. absurd (w.calling c u);
          declared =
              λ e.
              let t : (true && true || in_bundle r d) ≡ false = rw (lt-ltb a d (omega (arith, w.first)), lt-ltb d (a + 1 + length ss) w.last) at e in
              absurd (false≢true (sym t));
        }

    pub standing : (b : Block) (F : State FactSet) (after d : ℕ) (m : Memory) → Linked T h f b after → block_faults E L callees b F ≡ []
        → At h E D room L b F d m
        → Standing b d m
    unfolding walk_rules.block_faults in_bundle
    standing nil F after d m l q i = absurd i
    standing (plain a s r) F after d m l q (inl i) = standing_here (plain a s r) a d (Plain s) F m l.0 i.0
        (λ c n u. let z : ◌≡◌ {A = ℕ} 0 1 = cc in absurd (omega arith)) i.1
        (λ c u. let o : ◌≡◌ {A = ℕ} 0 1 = cc in absurd (omega arith))
    standing (plain a s r) F after d m l q (inr i) =
        widened r (plain a s r) d m (λ e. e) (standing r (state_after s F) after d m l.2 (no-rest _ _ (no-rest _ _ q)) i)
    standing (branch a c t e r) F after d m l q (inl i) = standing_here (branch a c t e r) a d (If c (size t) (size e)) F m l.0 i.0
        (λ c n u. let z : ◌≡◌ {A = ℕ} 0 1 = cc in absurd (omega arith)) i.1
        (λ c u. let o : ◌≡◌ {A = ℕ} 0 1 = cc in absurd (omega arith))
    standing (branch a c t e r) F after d m l q (inr (inl i)) =
        widened t (branch a c t e r) d m (λ u. (neither (in_bundle t d) (in_bundle e d || in_bundle r d) u).0)
        (standing t (assumed F c) (entry r after) d m l.2 (no-first _ _ q) i)
    standing (branch a c t e r) F after d m l q (inr (inr (inl i))) =
        widened e (branch a c t e r) d m (λ u. (neither (in_bundle e d) (in_bundle r d) (neither (in_bundle t d) (in_bundle e d || in_bundle r d) u).1).0)
        (standing e (assumed F (negated_of c)) (entry r after) d m l.3 (no-first _ _ (no-rest _ _ q)) i)
    standing (branch a c t e r) F after d m l q (inr (inr (inr i))) =
        widened r (branch a c t e r) d m (λ u. (neither (in_bundle e d) (in_bundle r d) (neither (in_bundle t d) (in_bundle e d || in_bundle r d) u).1).1)
        (standing r (sides_joined E (block_after E L t (assumed F c)) (block_after E L e (assumed F (negated_of c)))) after d m l.4
        (no-rest _ _ (no-rest _ _ (no-rest _ _ q))) i)
    standing (loop a c t r) F after d m l q (inl (w, inl i)) =
        standing_here (loop a c t r) a d (While c (size t)) (at_head (entries_of L a) (assigned t) F) m l.0 i.0.0 (λ x n u. i.1) i.0.1
        (λ c u. let o : ◌≡◌ {A = ℕ} 0 1 = cc in absurd (omega arith))
    standing (loop a c t r) F after d m l q (inl (w, inr i)) =
        widened t (loop a c t r) d m (λ u. (neither (in_bundle t d) (in_bundle r d) u).0)
        (standing t (assumed (at_head (entries_of L a) (assigned t) F) c) a d m l.2 (no-first _ _ (no-rest _ _ q)) i)
    standing (loop a c t r) F after d m l q (inr i) =
        widened r (loop a c t r) d m (λ u. (neither (in_bundle t d) (in_bundle r d) u).1)
        (standing r (assumed (at_head (entries_of L a) (assigned t) F) (negated_of c)) after d m l.3
        (no-rest _ _ (no-rest _ _ (no-rest _ _ (no-rest _ _ q)))) i)
    standing (bundle a ss r) F after d m l q (inl i) = standing_here (bundle a ss r) a d (Bundle (length ss)) F m l.0 i.0
        (λ c n u. let z : ◌≡◌ {A = ℕ} 0 1 = cc in absurd (omega arith)) i.1
        (λ c u. let o : ◌≡◌ {A = ℕ} 0 1 = cc in absurd (omega arith))
    standing (bundle a ss r) F after d m l q (inr (inl i)) =
        standing-inside a ss r d m (standing-line (a + 1) ss F (declared_in E F) (entry r after) d m l.2 (no-first _ _ q) i)
    standing (bundle a ss r) F after d m l q (inr (inr i)) =
        widened r (bundle a ss r) d m (λ u. (neither (ltb a d && ltb d (a + 1 + length ss)) (in_bundle r d) u).1)
        (standing r (bundle_after ss F) after d m l.3 (no-rest _ _ (no-rest _ _ q)) i)
    standing (call a c r) F after d m l q (inl i) =
        standing_here (call a c r) a d (Call c) F m l.0 i.0 (λ x n u. let z : ◌≡◌ {A = ℕ} 0 1 = cc in absurd (omega arith)) i.1
        (λ k u. let e : c ≡ k = cc in rw (← e) (no-first _ _ q))
    standing (call a c r) F after d m l q (inr i) =
        widened r (call a c r) d m (λ e. e) (standing r (called_state c F) after d m l.2 (no-rest _ _ (no-rest _ _ q)) i)
    standing (unread a) F after d m l q i = absurd l
