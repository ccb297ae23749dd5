-- A run in slots is the run on the lent values: each step reads and sets the same values.
use Prim.Native.Nat.{ℕ, zero, suc, ◌+◌, ◌-◌, ◌%◌, ◌^◌, ◌<◌, ◌≤◌}
use Rattle.std.specs.Prelude.{◌≡◌, Bool, true, false, cond, List, ltb, ℤ, length, get_or, set, Some}
use Rattle.std.proofs.Math.Path.{refl, ap, ap₂}
use Rattle.std.proofs.Common.{sym, ◌∙◌, add-one, arith, ltb-true, ltb-false, length-set, get_or-set_same, get_or-set_other}
use Rattle.std.proofs.Math.Decide.{ℕ_discrete}
use Rattle.std.proofs.Math.ListN.{get_or-eq_default}
use Rattle.sums.specs.Numbers.{bias}
use Rattle.arrays.specs.Tabulate.{tabulate}
use Rattle.arrays.specs.TabulateLaws.{length-tabulate, get_d_tabulate, tabulate-alike, Filled, filled_none, filled-kept, filled-whole}
use Rattle.words.specs.declared.sections.Sections.{Sections}
use Rattle.conditions.specs.declared.Condition.{Condition}
use Rattle.statements.specs.Typed.{SimpleTyped}
use Rattle.statements.specs.Statements.{statement_at}
use Rattle.statements.specs.StatementLaws.{read-typed, read-limits}
use Rattle.statements.specs.Decode.{decoded_at}
use Rattle.statements.specs.DecodeLaws.{read-decoded}
use Rattle.statements.specs.declared.Simple.{Simple}
use Rattle.statements.specs.declared.Simple.TheVariants.{Literal, AddConstant, Arithmetic, Null, Address, PointerOffset}
use Rattle.statements.specs.declared.Simple.TheVariants.{PointerIndex, Load, Store, Check as Test, Declare}
use Rattle.statements.specs.declared.Statement.{Statement}
use Rattle.statements.specs.declared.Statement.TheVariants.{Plain, If, While, Bundle, Call}
use Rattle.blocks.specs.Flow.{Successors}
use Rattle.blocks.specs.Shape.{entries_at}
use Rattle.table.specs.declared.variables.End.{End}
use Rattle.rules.specs.BoundsRules.{declared, element_size, is_string}
use Rattle.rules.specs.declared.Environment.{Environment}
use Rattle.machine.specs.Machine.{value, end_value, end_of, lower_end, upper_end, address, indexed, condition_holds, Failing, none, fails, failing}
use Rattle.machine.specs.Machine.{access_failing, terminator_failing, combined}
use Rattle.checks.specs.Checked.{declared_in, step_unless}
use Rattle.checks.specs.declared.Step.{Step}
use Rattle.checks.specs.declared.Step.TheVariants.{Go, Stop}
use Rattle.checks.specs.declared.Step.TheVariants as step
use Rattle.steps.specs.Bare.{Move, values_after, cells_after, changed_unless, simple_move, statement_move, bare_move, InsideSimple, Inside, Ready}
use Rattle.interpreter.specs.BareRun.{BareResult, result, follow, bare_run, IfTrue, Onward, SafeRun, Ends}
use Rattle.interpreter.specs.Slots.{slots_of, SameValues, Laid}
use Rattle.answers.specs.declared.stops.Outcome.{Outcome}
use Rattle.answers.specs.declared.stops.Outcome.TheVariants.{Done, Spent}

-- ---- the slots of lent values

pub slots-long : (vs : List ℕ) → 16 < length (slots_of vs)
slots-long vs = omega (arith, length-tabulate 17 (λ x. get_or vs x 0))

pub same-slots : (vs : List ℕ) → length vs ≤ 16 → SameValues vs (slots_of vs)
same-slots vs few x = go (ltb x 17) refl
  where
    go : (b : Bool) → ltb x 17 ≡ b → get_or (slots_of vs) x 0 ≡ get_or vs x 0
    go true e = get_d_tabulate 17 (λ y. get_or vs y 0) x 0 (ltb-true x 17 e)
    go false e =
        let l : 17 ≤ x = ltb-false x 17 e in
        let m : length (slots_of vs) ≤ x = omega (arith, length-tabulate 17 (λ y. get_or vs y 0)) in
        let n : length vs ≤ x = omega arith in
        get_or-eq_default (slots_of vs) 0 m ∙ sym (get_or-eq_default vs 0 n)

-- A list is what it is tabulated from.
tabulate-self : (l : List ℕ) → tabulate (length l) (λ x. get_or l x 0) ≡ l
tabulate-self l = sym (filled-whole (go (length l) (omega arith)) (omega arith))
  where
    go : (i : ℕ) → i ≤ length l → Filled l l (length l) (λ x. get_or l x 0) i
    go zero m = filled_none l (length l) (λ x. get_or l x 0) refl
    go (suc i) m = rw (sym (add-one i)) (filled-kept 0 (go i (omega arith)) (omega arith) refl)

pub values-back : (ws us : List ℕ) (n : ℕ) → length ws ≡ n → SameValues ws us → tabulate n (λ x. get_or us x 0) ≡ ws
values-back ws us n e s = tabulate-alike n (λ i l. s i) ∙ ap (λ (m : ℕ). tabulate m (λ x. get_or ws x 0)) (sym e) ∙ tabulate-self ws

set_values : (vs us : List ℕ) (x v : ℕ) → x < length vs → x < length us → SameValues vs us → SameValues (set vs x v) (set us x v)
set_values vs us x v l m s y = go (ℕ_discrete y x)
  where
    go : Dec (y ≡ x) → get_or (set us x v) y 0 ≡ get_or (set vs x v) y 0
    go (yes e) = rw e (get_or-set_same us x v 0 m ∙ sym (get_or-set_same vs x v 0 l))
    go (no n) = get_or-set_other us x y v 0 n ∙ s y ∙ sym (get_or-set_other vs x y v 0 n)

-- ---- one step

module _ (vs us : List ℕ) (s : SameValues vs us) where
  same-condition : (c : Condition) → condition_holds us c ≡ condition_holds vs c
  unfolding condition_holds
  same-condition c = rw (s c.left, s c.right)

  same-end : (z : ℕ) (e : End) → end_value us z e ≡ end_value vs z e
  same-end z e = rw (s e.pointer, s e.integer)

  same_address : (E : Environment) (p i k : ℕ) → address E us p i k ≡ address E vs p i k
  same_address E p i k = rw (s p, s i)

  same-access : (E : Environment) (p a : ℕ) (rest : Failing) → access_failing E us p a rest ≡ access_failing E vs p a rest
  unfolding access_failing
  same-access E p a rest = rw (s p, same-end (element_size E p) (end_of (declared E p).lower), same-end (element_size E p) (end_of (declared E p).upper))

  same-terminator : (E : Environment) (p a x : ℕ) → terminator_failing E us p a x ≡ terminator_failing E vs p a x
  unfolding terminator_failing
  same-terminator E p a x = rw (same-end (element_size E p) (end_of (declared E p).upper))

  same-failing : (E : Environment) (x : Simple) → failing E us x ≡ failing E vs x
  unfolding failing
  same-failing E (Literal x k) = refl
  same-failing E (AddConstant x y k) = refl
  same-failing E (Arithmetic x y z op) = refl
  same-failing E (Null p) = refl
  same-failing E (Address p o) = refl
  same-failing E (PointerOffset p q k) = rw (s q)
  same-failing E (PointerIndex p q i) = rw (s q, s i)
  same-failing E (Load x p i k) = ap (λ (a : ℕ). access_failing E us p a none) (same_address E p i k) ∙ same-access E p _ none
  same-failing E (Store p i k x) =
      ap₂ (λ (a y : ℕ). access_failing E us p a (terminator_failing E us p a y)) (same_address E p i k) (s x)
      ∙ ap (access_failing E us p _) (same-terminator E p _ _) ∙ same-access E p _ _
  same-failing E (Test c) = rw (same-condition c)
  same-failing E (Declare p r) = refl

  same-cells : (W : List ℕ) (x : Simple) (cs : List ℕ) → cells_after W x us cs ≡ cells_after W x vs cs
  unfolding cells_after
  same-cells W (Literal x k) cs = refl
  same-cells W (AddConstant x y k) cs = refl
  same-cells W (Arithmetic x y z op) cs = refl
  same-cells W (Null p) cs = refl
  same-cells W (Address p o) cs = refl
  same-cells W (PointerOffset p q k) cs = refl
  same-cells W (PointerIndex p q i) cs = refl
  same-cells W (Load x p i k) cs = refl
  same-cells W (Store p i k x) cs = rw (same_address (declared_in W) p i k, s x)
  same-cells W (Test c) cs = refl
  same-cells W (Declare p r) cs = refl

  module _ (T : List ℤ) (h : Sections) (W D : List ℕ) (l : h.variables ≤ length vs) (m : h.variables ≤ length us) where
    after-values : (x : Simple) (cs : List ℕ) → SimpleTyped T h x → SameValues (values_after W D x vs cs) (values_after W D x us cs)
    unfolding values_after
    after-values (Literal x k) cs t = set_values vs us x k (omega (arith, t.target.below)) (omega (arith, t.target.below)) s
    after-values (AddConstant x y k) cs t = rw (s y) (set_values vs us x _ (omega (arith, t.target.below)) (omega (arith, t.target.below)) s)
    after-values (Arithmetic x y z op) cs t = rw (s y, s z) (set_values vs us x _ (omega (arith, t.target.below)) (omega (arith, t.target.below)) s)
    after-values (Null p) cs t = set_values vs us p 0 (omega (arith, t.below)) (omega (arith, t.below)) s
    after-values (Address p o) cs t = set_values vs us p _ (omega (arith, t.target.below)) (omega (arith, t.target.below)) s
    after-values (PointerOffset p q k) cs t = rw (s q) (set_values vs us p _ (omega (arith, t.target.below)) (omega (arith, t.target.below)) s)
    after-values (PointerIndex p q i) cs t = rw (s q, s i) (set_values vs us p _ (omega (arith, t.target.below)) (omega (arith, t.target.below)) s)
    after-values (Load x p i k) cs t =
        rw (same_address (declared_in W) p i k) (set_values vs us x _ (omega (arith, t.value.below)) (omega (arith, t.value.below)) s)
    after-values (Store p i k x) cs t = s
    after-values (Test c) cs t = s
    after-values (Declare p r) cs t = s

after-long : (W D : List ℕ) (x : Simple) (vs cs : List ℕ) → length (values_after W D x vs cs) ≡ length vs
unfolding values_after
after-long W D (Literal x k) vs cs = length-set vs x _
after-long W D (AddConstant x y k) vs cs = length-set vs x _
after-long W D (Arithmetic x y z op) vs cs = length-set vs x _
after-long W D (Null p) vs cs = length-set vs p _
after-long W D (Address p o) vs cs = length-set vs p _
after-long W D (PointerOffset p q k) vs cs = length-set vs p _
after-long W D (PointerIndex p q i) vs cs = length-set vs p _
after-long W D (Load x p i k) vs cs = length-set vs x _
after-long W D (Store p i k x) vs cs = refl
after-long W D (Test c) vs cs = refl
after-long W D (Declare p r) vs cs = refl

-- A step in slots (n) beside the step on the lent values (m).
pub record SameMove (vs us : List ℕ) (m n : Move) : Type 0 where
  pub said : n.said ≡ m.said
  pub ends : n.ends ≡ m.ends
  pub cells : n.cells ≡ m.cells
  pub values : SameValues m.values n.values
  pub long : length m.values ≡ length vs
  pub slots : length n.values ≡ length us

unless-values : (f : Failing) (vs us vs' us' : List ℕ) → SameValues vs us → SameValues vs' us' → SameValues (changed_unless f vs vs') (changed_unless f us us')
unfolding changed_unless
unless-values none vs us vs' us' s t = t
unless-values (fails n) vs us vs' us' s t = s

unless-long : (f : Failing) (vs vs' : List ℕ) → length vs' ≡ length vs → length (changed_unless f vs vs') ≡ length vs
unfolding changed_unless
unless-long none vs vs' e = e
unless-long (fails n) vs vs' e = refl

module _ (T : List ℤ) (h : Sections) (W D : List ℕ) (vs us cs : List ℕ) (s : SameValues vs us)
    (l : h.variables ≤ length vs) (m : h.variables ≤ length us) where
  -- U is the table that was checked.
  same-simple : (U : List ℤ) (x : Simple) (a n : ℕ) → SimpleTyped U h x → SameMove vs us (simple_move W D x a n vs cs) (simple_move W D x a n us cs)
  unfolding simple_move
  same-simple U x a n t =
      rw (same-failing vs us s (declared_in W) x, same-cells vs us s W x cs)
      (record {
        said = refl;
        ends = refl;
        cells = refl;
        values = unless-values (failing (declared_in W) vs x) vs us _ _ s (after-values vs us s U h W D l m x cs t);
        long = unless-long (failing (declared_in W) vs x) vs _ (after-long W D x vs cs);
        slots = unless-long (failing (declared_in W) vs x) us _ (after-long W D x us cs);
      })

  branched : (c : Condition) (x y : ℕ) → Go (cond (condition_holds us c) x y) ≡ Go (cond (condition_holds vs c) x y)
  branched c x y = ap (λ (b : Bool). Go (cond b x y)) (same-condition vs us s c)

  module _ (S : List ℕ) (a : ℕ) where
    same-statement : (U : List ℤ) (x : Statement) → statement_at U h a ≡ Some x
        → SameMove vs us (statement_move W D x a (entries_at S a) vs cs) (statement_move W D x a (entries_at S a) us cs)
    unfolding statement_move
    same-statement U (Plain x) e = same-simple U x a (entries_at S a).next (read-typed U h a (Plain x) e)
    same-statement U (If c x y) e = record { said = branched c _ _; ends = refl; cells = refl; values = s; long = refl; slots = refl }
    same-statement U (While c x) e = record { said = branched c _ _; ends = refl; cells = refl; values = s; long = refl; slots = refl }
    same-statement U (Bundle x) e = record { said = refl; ends = refl; cells = refl; values = s; long = refl; slots = refl }
    same-statement U (Call x) e = record { said = refl; ends = refl; cells = refl; values = s; long = refl; slots = refl }

    same_move : Ready T h W S a vs cs → SameMove vs us (bare_move T h W D S a vs cs) (bare_move T h W D S a us cs)
    unfolding bare_move
    same_move r = rw (r.same ∙ read-decoded r.checked h a r.statement r.reads) (same-statement r.checked r.statement r.reads)

  inside-simple : (x : Simple) → InsideSimple W x vs cs → InsideSimple W x us cs
  inside-simple (Literal x k) i = i
  inside-simple (AddConstant x y k) i = i
  inside-simple (Arithmetic x y z op) i = i
  inside-simple (Null p) i = i
  inside-simple (Address p o) i = i
  inside-simple (PointerOffset p q k) i = i
  inside-simple (PointerIndex p q j) i = i
  inside-simple (Load x p j k) i = rw (same-failing vs us s (declared_in W) (Load x p j k), same_address vs us s (declared_in W) p j k) i
  inside-simple (Store p j k x) i = rw (same-failing vs us s (declared_in W) (Store p j k x), same_address vs us s (declared_in W) p j k) i
  inside-simple (Test c) i = i
  inside-simple (Declare p r) i = i

  inside : (x : Statement) → Inside W x vs cs → Inside W x us cs
  inside (Plain x) i = inside-simple x i
  inside (If c x y) i = i
  inside (While c x) i = i
  inside (Bundle x) i = i
  inside (Call x) i = i

  same-ready : (S : List ℕ) (a : ℕ) → Ready T h W S a vs cs → Ready T h W S a us cs
  same-ready S a r =
      record {
        checked = r.checked;
        same = r.same;
        statement = r.statement;
        reads = r.reads;
        inside = inside r.statement r.inside;
        known = λ m x e. same-failing vs us s (declared_in W) x ∙ r.known m x e;
      }

-- ---- the run

-- The result in slots (p) beside that on the lent values (o).
pub record SameResult (vs : List ℕ) (o p : BareResult) : Type 0 where
  pub outcome : p.outcome ≡ o.outcome
  pub ends : p.ends ≡ o.ends
  pub cells : p.cells ≡ o.cells
  pub values : SameValues o.values p.values
  pub long : length o.values ≡ length vs

module _ (T : List ℤ) (h : Sections) (D S : List ℕ) where
  -- The run in slots is safe, and its result the same.
  abbrev Both : List ℕ → ℕ → ℕ → ℕ → List ℕ → List ℕ → List ℕ → Type 0
  Both W k n a vs us cs = SafeRun T h W D S k a us cs × SameResult vs (bare_run T h W D S k n a vs cs) (bare_run T h W D S k n a us cs)

  -- After the step to what it says.
  abbrev Followed : ℕ → ℕ → ℕ → Step → List ℕ → List ℕ → List ℕ → List ℕ → List ℕ → Type 0
  Followed k n a st vs W ws us cs =
      Onward st (λ b. SafeRun T h W D S k b us cs)
      × SameResult vs (follow st (λ b. bare_run T h W D S k (n + 1) b ws cs) n a W ws cs) (follow st (λ b. bare_run T h W D S k (n + 1) b us cs) n a W us cs)

  followed : (k n a : ℕ) (st : Step) (vs W ws us cs : List ℕ) → length ws ≡ length vs → SameValues ws us → ((b : ℕ) → SafeRun T h W D S k b ws cs
      → Both W k (n + 1) b ws us cs)
      → Onward st (λ b. SafeRun T h W D S k b ws cs) → Followed k n a st vs W ws us cs
  followed k n a (Go b) vs W ws us cs e s r f =
      let g = r b f in
      (g.0, record { outcome = g.1.outcome; ends = g.1.ends; cells = g.1.cells; values = g.1.values; long = g.1.long ∙ e })
  followed k n a (Stop c) vs W ws us cs e s r f = (tt, record { outcome = refl; ends = refl; cells = refl; values = s; long = e })
  followed k n a step.Call vs W ws us cs e s r f = (tt, record { outcome = refl; ends = refl; cells = refl; values = s; long = e })

  ended : (b : Bool) (n a : ℕ) (W vs us cs : List ℕ) → SameValues vs us
      → SameResult vs (cond b (result (Spent n a) W vs cs) (result (Done n) W vs cs)) (cond b (result (Spent n a) W us cs) (result (Done n) W us cs))
  ended true n a W vs us cs s = record { outcome = refl; ends = refl; cells = refl; values = s; long = refl }
  ended false n a W vs us cs s = record { outcome = refl; ends = refl; cells = refl; values = s; long = refl }

  pub same-run : (W : List ℕ) (k n a : ℕ) (vs us cs : List ℕ) → SameValues vs us → h.variables ≤ length vs → h.variables ≤ length us
      → SafeRun T h W D S k a vs cs → Both W k n a vs us cs
  unfolding bare_run SafeRun
  same-run W zero n a vs us cs s l m f = (tt, ended (ltb a h.statements) n a W vs us cs s)
  same-run W (suc k) n a vs us cs s l m f = go (λ W' b ws us' ds s' l' m' y. same-run W' k (n + 1) b ws us' ds s' l' m' y) (ltb a h.statements) f
    where
      v : Move
      v = bare_move T h W D S a vs cs

      u : Move
      u = bare_move T h W D S a us cs

      go : ((W' : List ℕ) (b : ℕ) (ws us' ds : List ℕ) → SameValues ws us' → h.variables ≤ length ws → h.variables ≤ length us'
          → SafeRun T h W' D S k b ws ds → Both W' k (n + 1) b ws us' ds) → (b : Bool)
          → IfTrue b (Ready T h W S a vs cs × Onward v.said (λ c. SafeRun T h v.ends D S k c v.values v.cells))
          → IfTrue b (Ready T h W S a us cs × Onward u.said (λ c. SafeRun T h u.ends D S k c u.values u.cells))
          × SameResult vs
          (cond b (follow v.said (λ c. bare_run T h v.ends D S k (n + 1) c v.values v.cells) n a v.ends v.values v.cells)
          (result (Done n) W vs cs))
          (cond b (follow u.said (λ c. bare_run T h u.ends D S k (n + 1) c u.values u.cells) n a u.ends u.values u.cells)
          (result (Done n) W us cs))
      go rest false g = (tt, record { outcome = refl; ends = refl; cells = refl; values = s; long = refl })
      go rest true g =
          let q : SameMove vs us v u = same_move T h W D vs us cs s l m S a g.0 in
          let z : Followed k n a v.said vs v.ends v.values u.values v.cells =
          followed k n a v.said vs v.ends v.values u.values v.cells q.long q.values (λ b y.
          rest v.ends b v.values u.values v.cells q.values (omega (arith, q.long)) (omega (arith, q.slots)) y) g.1 in
          rw (q.said, q.ends, q.cells) ((same-ready T h W D vs us cs s l m S a g.0, z.0), z.1)

-- What the loop in slots leaves, copied back, is what the run leaves: from the statement `first`, with n steps made.
module _ {T : List ℤ} {h : Sections} {W D S vs : List ℕ} (cs : List ℕ) (L : Laid T h W D S vs) (limit n first : ℕ)
    (safe : SafeRun T h W D S limit first vs cs) where
  both : Both T h D S W limit n first vs (slots_of vs) cs
  both = same-run T h D S W limit n first vs (slots_of vs) cs (same-slots vs L.few) L.enough (omega (arith, slots-long vs, L.enough, L.few)) safe

  pub slots-safe : SafeRun T h W D S limit first (slots_of vs) cs
  slots-safe = both.0

  pub slots_end : {r : Outcome} {W' us' cs' ws : List ℕ} → Ends (bare_run T h W D S limit n first (slots_of vs) cs) r W' us' cs'
      → ws ≡ tabulate (length vs) (λ x. get_or us' x 0) → Ends (bare_run T h W D S limit n first vs cs) r W' ws cs'
  slots_end {r} {W'} {us'} {cs'} {ws} e q =
      let b = both.1 in
      record {
        outcome = e.outcome ∙ b.outcome;
        ends = e.ends ∙ b.ends;
        values = q ∙ ap (λ (l : List ℕ). tabulate (length vs) (λ x. get_or l x 0)) e.values
            ∙ values-back (bare_run T h W D S limit n first vs cs).values (bare_run T h W D S limit n first (slots_of vs) cs).values (length vs) b.long
            b.values;
        cells = e.cells ∙ b.cells;
      }
