-- What holds of the memory at a point of a run, by the facts and the known bounds there.
use Rattle.std.specs.Prelude.{ℕ, suc, ◌+◌, ◌*◌, ◌^◌, ◌≤◌, ◌<◌, ◌≡◌, refl, ◌≢◌, ◌⊎◌, Bool, true, false, List, [], eqb, ℤ, length, get_or, set}
use Rattle.std.proofs.Common.{◌∙◌, sym, inl, inr, arith, eqb-true, length-set, get_or-set_same, get_or-set_other}
use Rattle.std.proofs.lemmas.Bool.{eqb-false}
use Rattle.sums.specs.Numbers.{bias, max_value}
use Rattle.chains.proofs.Sound.{InRange, Holds, Except}
use Rattle.facts.specs.declared.FactSet.{FactSet}
use Rattle.words.specs.declared.sections.Sections.{Sections}
use Rattle.blocks.specs.Layout.{layout}
use Rattle.rules.specs.BoundsRules.{is_pointer, declared, known, in_force, is_string, upper_limit}
use Rattle.rules.specs.FactSets.{State}
use Rattle.rules.specs.Stored.{bounds_shown, effect_on, bounds_after, unshown_in, declared_in}
use Rattle.rules.specs.BoundsTrue.{BoundsHold, known-after, all_shown, shown-holds, ProperEnd}
use Rattle.rules.specs.EnvironmentLaws.{Declares, DeclaredEnds, Named}
use Rattle.rules.specs.declared.Bounds.{Bounds}
use Rattle.rules.specs.declared.Effect.{Effect}
use Rattle.rules.specs.declared.Environment.{Environment}
use Rattle.machine.specs.Machine.{value, low, high, Memory}
use Rattle.machine.specs.Points.{LastZero}
use Rattle.machine.specs.Soundness.{Placed, Apart}

-- What stays the same in a run of an accepted routine: the table is laid out, the environment is the table's, and each object is placed in a memory of `room`
-- cells.
pub record Setting (T : List ℤ) (h : Sections) (E : Environment) (D : List ℕ) (room : ℕ) : Type 0 where
  pub laid : layout T h ≡ []
  pub declares : Declares T h E
  pub pairs : length D ≡ 2 * h.objects
  pub placed : (o : ℕ) → o < h.objects → Placed E D room o
  pub apart : Apart D h.objects
  pub memory : room ≤ 2 ^ 24

-- The bounds b of a pointer, of kind 2 or not, lie in the object of the origin, up to its upper limit; that of a kind 2 pointer is terminated.
pub record InObject (terminated : List Bool) (D : List ℕ) (objects : ℕ) (string : Bool) (origin : ℕ) (b : Bounds) (v : ℕ → ℕ) : Type 0 where
  pub object : ℕ
  pub origin-is : origin ≡ suc object
  pub exists : object < objects
  pub ended : string ≡ true → get_or terminated object false ≡ true
  pub bounds : BoundsHold (low D object + bias) (upper_limit (get_or terminated object false) (high D object) + bias) b v

-- "Bounds of p are true when p is null or" they lie in its origin object: any bounds b of p.
abbrev pub TrueOf : Environment → List ℕ → ℕ → Memory → ℕ → Bounds → Type 0
TrueOf E D objects m p b = (value m.values p ≡ 0) ⊎ InObject E.terminated D objects (is_string E p) (get_or m.origins p 0) b (value m.values)

-- What no statement changes.
pub record Steady (h : Sections) (room : ℕ) (m : Memory) : Type 0 where
  pub range : InRange (value m.values)
  pub values-long : length m.values ≡ h.variables
  pub origins-long : length m.origins ≡ h.variables
  pub rows_long : length m.rows ≡ 16
  pub cells-long : length m.cells ≡ room
  pub cells-small : (i : ℕ) → get_or m.cells i 0 ≤ max_value

-- The cells of a memory of `room` cells.
pub record GoodCells (E : Environment) (D : List ℕ) (objects room : ℕ) (cs : List ℕ) : Type 0 where
  pub long : length cs ≡ room
  pub small : (i : ℕ) → get_or cs i 0 ≤ max_value
  pub last-zero : LastZero E D objects cs

module _ (h : Sections) (E : Environment) (D : List ℕ) (room : ℕ) where
  -- The facts of the walk are true of the values, its rows are those in force, the known bounds K of each pointer are true, and terminated objects end in 0.
  pub record Good (W : State FactSet) (K : List Bounds) (m : Memory) : Type 0 where
    pub facts : Holds W.facts (value m.values)
    pub rows : m.rows ≡ W.rows
    pub named : Named h W.rows
    pub bounds : (p : ℕ) → is_pointer E p ≡ true → TrueOf E D h.objects m p (known K p)
    pub steady : Steady h room m
    pub last-zero : LastZero E D h.objects m.cells

  pub with-cells : (W : State FactSet) (K : List Bounds) (m : Memory) (cs : List ℕ) → Good W K m → GoodCells E D h.objects room cs
      → Good W K (record { cells = cs; values = m.values; origins = m.origins; rows = m.rows })
  with-cells W K m cs g k =
      record {
        facts = g.facts;
        rows = g.rows;
        named = g.named;
        bounds = g.bounds;
        steady =
            record {
              range = g.steady.range;
              values-long = g.steady.values-long;
              origins-long = g.steady.origins-long;
              rows_long = g.steady.rows_long;
              cells-long = k.long;
              cells-small = k.small;
            };
        last-zero = k.last-zero;
      }

  pub with-facts : (W U : State FactSet) (K : List Bounds) (m : Memory) → Good W K m → U.rows ≡ W.rows → Holds U.facts (value m.values) → Good U K m
  with-facts W U K m g e f =
      record { facts = f; rows = g.rows ∙ sym e; named = rw e g.named; bounds = g.bounds; steady = g.steady; last-zero = g.last-zero }

-- True bounds of q before a statement make true bounds of p after it.
pub carry : (E : Environment) (D : List ℕ) (objects : ℕ) (m n : Memory) (q p : ℕ) (b c : Bounds) → TrueOf E D objects m q b
    → (value m.values q ≡ 0 → value n.values p ≡ 0) → get_or n.origins p 0 ≡ get_or m.origins q 0
    → ((l u : ℕ) → BoundsHold l u b (value m.values) → BoundsHold l u c (value n.values))
    → (is_string E p ≡ true → is_string E q ≡ true)
    → TrueOf E D objects n p c
carry E D objects m n q p b c (inl z) null o k s = inl (null z)
carry E D objects m n q p b c (inr i) null o k s =
    inr (record { object = i.object; origin-is = o ∙ i.origin-is; exists = i.exists; ended = λ e. i.ended (s e); bounds = k _ _ i.bounds })

-- ---- the assignment of a variable

-- The values w are v with x set to a.
pub record Assigned (v w : ℕ → ℕ) (x a : ℕ) : Type 0 where
  pub range : InRange w
  pub except : Except x v w
  pub value-is : w x ≡ a

pub assigned : (vs : List ℕ) (x a : ℕ) → InRange (value vs) → x < length vs → length vs ≤ 16 → a ≤ max_value → Assigned (value vs) (value (set vs x a)) x a
assigned vs x a g l few r =
    record { range = record { zero_is = other 16 (λ e. omega arith) ∙ g.zero_is; below = λ z. below z (eqb z x) refl }; except = other; value-is = same }
  where
    other : Except x (value vs) (value (set vs x a))
    other z e = get_or-set_other vs x z a 0 e

    same : value (set vs x a) x ≡ a
    same = get_or-set_same vs x a 0 l

    below : (z : ℕ) (b : Bool) → eqb z x ≡ b → value (set vs x a) z ≤ max_value
    below z true e = rw (eqb-true z x e) (rw same r)
    below z false e = rw (other z (eqb-false z x e)) (g.below z)

module _ (T : List ℤ) (h : Sections) (E : Environment) (D : List ℕ) (room : ℕ) (S : Setting T h E D room) where
  pub steady-values : (m : Memory) (x a : ℕ) (os : List ℕ) → Steady h room m → InRange (value (set m.values x a)) → length os ≡ h.variables
      → Steady h room (record { cells = m.cells; values = set m.values x a; origins = os; rows = m.rows })
  steady-values m x a os s g l =
      record {
        range = g;
        values-long = length-set m.values x a ∙ s.values-long;
        origins-long = l;
        rows_long = s.rows_long;
        cells-long = s.cells-long;
        cells-small = s.cells-small;
      }

  module _ (W : State FactSet) (G : FactSet) (K : List Bounds) (e : Effect) (m : Memory) (x a : ℕ) (os : List ℕ) where
    abbrev pub before : ℕ → ℕ
    before = value m.values

    abbrev pub after : ℕ → ℕ
    after = value (set m.values x a)

    abbrev pub memory_after : Memory
    memory_after = record { cells = m.cells; values = set m.values x a; origins = os; rows = m.rows }

    -- The variable x gets the value a, and the origins become os.
    pub set-good : Good h E D room W K m → x < h.variables → a ≤ max_value → length os ≡ h.variables
        → ((r : ℕ) → r ≢ x → get_or os r 0 ≡ get_or m.origins r 0)
        → (Assigned before after x a → Holds G after)
        → (Assigned before after x a → (r l u : ℕ) → r ≢ x → BoundsHold l u (known K r) before → BoundsHold l u (effect_on e K r) after)
        → (Assigned before after x a → is_pointer E x ≡ true → TrueOf E D h.objects memory_after x (effect_on e K x))
        → Good h E D room (record { facts = G; rows = W.rows }) (bounds_after e K) memory_after
    set-good g l small long same facts others own =
        record {
          facts = facts is;
          rows = g.rows;
          named = g.named;
          bounds = λ r t. rw (known-after e K r (omega (arith, S.declares.few, S.declares.below r t))) (true_of r t (eqb r x) refl);
          steady = steady-values m x a os g.steady is.range long;
          last-zero = g.last-zero;
        }
      where
        is : Assigned before after x a
        is = assigned m.values x a g.steady.range (omega (arith, g.steady.values-long)) (omega (arith, g.steady.values-long, S.declares.few)) small

        true_of : (r : ℕ) → is_pointer E r ≡ true → (b : Bool) → eqb r x ≡ b → TrueOf E D h.objects memory_after r (effect_on e K r)
        true_of r t true q = let p : r ≡ x = eqb-true r x q in rw p (own is (rw p at t))
        true_of r t false q =
            let p : r ≢ x = eqb-false r x q in
            carry E D h.objects m memory_after r r (known K r) (effect_on e K r) (g.bounds r t) (λ z. is.except r p ∙ z) (same r p)
            (λ l u b. others is r l u p b) (λ s. s)

-- ---- all declared bounds are shown, and become the known ones

module _ (T : List ℤ) (h : Sections) (E : Environment) (D : List ℕ) (room : ℕ) (S : Setting T h E D room) where
  pub shown-true : (F : FactSet) (R : List ℕ) (m : Memory) (p : ℕ) (b : Bounds) → Named h R → is_pointer E p ≡ true → Steady h room m
      → Holds F (value m.values)
      → bounds_shown F p b (declared (in_force E R) p) ≡ true → TrueOf E D h.objects m p b → TrueOf E D h.objects m p (declared (in_force E R) p)
  shown-true F R m p b n t s f q (inl z) = inl z
  shown-true F R m p b n t s f q (inr i) =
      go (shown-holds F (value m.values) f s.range _ _ p b (declared (in_force E R) p) below lower upper q i.bounds)
    where
      ends : DeclaredEnds (in_force E R) p
      ends = S.declares.ends R n p t

      below : p < 17
      below = omega (arith, S.declares.few, S.declares.below p t)

      lower : ProperEnd (declared (in_force E R) p).lower
      lower = rw ends.bounds ends.low-proper

      upper : ProperEnd (declared (in_force E R) p).upper
      upper = rw ends.bounds ends.high-proper

      go : (value m.values p ≡ 0) ⊎ BoundsHold (low D i.object + bias) (upper_limit (get_or E.terminated i.object false) (high D i.object) + bias)
          (declared (in_force E R) p) (value m.values) → TrueOf E D h.objects m p (declared (in_force E R) p)
      go (inl z) = inl z
      go (inr d) = inr (record { object = i.object; origin-is = i.origin-is; exists = i.exists; ended = i.ended; bounds = d })

  pub redeclared : (W : State FactSet) (K : List Bounds) (m : Memory) → unshown_in E W K ≡ [] → Good h E D room W K m → Good h E D room W (declared_in E W) m
  redeclared W K m e g =
      record {
        facts = g.facts;
        rows = g.rows;
        named = g.named;
        bounds =
            λ p t.
            shown-true W.facts W.rows m p (known K p) g.named t g.steady g.facts
            (all_shown (in_force E W.rows) W.facts K e p (omega (arith, S.declares.few, S.declares.below p t)) t) (g.bounds p t);
        steady = g.steady;
        last-zero = g.last-zero;
      }

  -- Outside a bundle the known bounds are the declared ones.
  pub declared-true : (W : State FactSet) (m : Memory) (p : ℕ) → is_pointer E p ≡ true → Good h E D room W (declared_in E W) m
      → TrueOf E D h.objects m p (declared (in_force E m.rows) p)
  declared-true W m p t g = rw g.rows (g.bounds p t)
