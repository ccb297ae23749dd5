-- Laws of one step, in the words of the code.
use Rattle.std.specs.Prelude.{ℕ, ◌+◌, ◌-◌, ◌*◌, ◌%◌, ◌^◌, ◌<◌, ◌≤◌, ◌≡◌, Bool, true, false, not, ◌||◌, List, leb, ltb, eqb, get_or, set}
use Rattle.std.proofs.Math.Path.{refl, ap}
use Rattle.std.proofs.Common.{sym, ◌∙◌, eq-eqb, ne_eqb, eqb-true, ltb-false, leb-false}
use native.Mathlib.Omega.{arith}
use Rattle.sums.specs.Numbers.{bias, max_value}
use Rattle.conditions.specs.declared.Condition.{Condition}
use Rattle.statements.specs.declared.Simple.{Simple}
use Rattle.statements.specs.declared.Simple.TheVariants.{Literal, AddConstant, Arithmetic, Null, Address, PointerOffset}
use Rattle.statements.specs.declared.Simple.TheVariants.{PointerIndex, Load, Store, Check as Test, Declare}
use Rattle.machine.specs.Machine.{value, address, condition_holds, Failing, none, fails, first_of, failing}
use Rattle.machine.specs.Machine.{load_failing, store_failing, arithmetic_failing, combined, indexed}
use Rattle.checks.specs.Checked.{declared_in, step_unless, size_in}
use Rattle.checks.specs.CheckLaws.{size-in}
use Rattle.steps.specs.Bare.{offset_failing, index_failing, mark, Marked, changed_unless, values_after, cells_after, simple_move, Moves, Assigns}
use Rattle.steps.specs.Bare.{copied, ends_after}
use Rattle.answers.specs.declared.stops.Check.{Check}
use Rattle.checks.specs.declared.Step.{Step}
use Rattle.checks.specs.declared.Step.TheVariants.{Go, Stop}
use Rattle.checks.specs.declared.Step.TheVariants as step

-- ---- a step with checks

go-none : (f : Failing) (a n b : ℕ) → step_unless f a n ≡ Go b → f ≡ none
unfolding step_unless
go-none none a n b e = refl
go-none (fails m) a n b e = let z : ◌≡◌ {A = ℕ} 0 1 = cc in absurd (omega arith)

-- Where a step goes on, no check fails.
pub goes_on : (f : Failing) (a n b : ℕ) (r : Step) → r ≡ step_unless f a n → r ≡ Go b → f ≡ none
goes_on f a n b r e g = go-none f a n b (sym e ∙ g)

stop-kept : (f : Failing) (a n : ℕ) (k : Check) (old new : List ℕ) → step_unless f a n ≡ Stop k → changed_unless f old new ≡ old
unfolding step_unless changed_unless
stop-kept none a n k old new e = let z : ◌≡◌ {A = ℕ} 0 1 = cc in absurd (omega arith)
stop-kept (fails m) a n k old new e = refl

pub assigns-stop : {f : Failing} {a n x w : ℕ} {k : Check} {r : Step} {old : List ℕ} → r ≡ step_unless f a n → r ≡ Stop k → Assigns f a n x w old r old
assigns-stop {f} {a} {n} {x} {w} {k} {r} {old} e g = record { said = e; buffer = sym (stop-kept f a n k old (set old x w) (sym e ∙ g)) }

never-call : (f : Failing) (a n : ℕ) → step_unless f a n ≡ step.Call → ⊥
unfolding step_unless
never-call none a n e = let z : ◌≡◌ {A = ℕ} 0 1 = cc in omega arith
never-call (fails m) a n e = let z : ◌≡◌ {A = ℕ} 0 1 = cc in omega arith

-- No check says that a call is due.
pub assigns-call : {f : Failing} {a n x w : ℕ} {r : Step} {old : List ℕ} → r ≡ step_unless f a n → r ≡ step.Call → Assigns f a n x w old r old
assigns-call {f} {a} {n} e g = absurd (never-call f a n (sym e ∙ g))

go-changed : (f : Failing) (old new : List ℕ) → f ≡ none → new ≡ changed_unless f old new
unfolding changed_unless
go-changed f old new e = rw e

pub assigns-go : {f : Failing} {a n x w b : ℕ} {r : Step} {old : List ℕ} → r ≡ step_unless f a n → r ≡ Go b → Assigns f a n x w old r (set old x w)
assigns-go {f} {a} {n} {x} {w} {b} {r} {old} e g = record { said = e; buffer = go-changed f old (set old x w) (goes_on f a n b r e g) }

unchanged : (f : Failing) (l : List ℕ) → l ≡ changed_unless f l l
unfolding changed_unless
unchanged none l = refl
unchanged (fails n) l = refl

-- Check 5 bounds the result.
pub in-range : (q a : ℕ) → arithmetic_failing q a ≡ none → (bias < a) × (a ≤ bias + max_value)
unfolding arithmetic_failing
in-range q a e = go (eqb q 0) (leb a bias) (ltb (bias + max_value) a) e (leb-false a bias) (ltb-false (bias + max_value) a)
  where
    go : (z l h : Bool) → first_of z 4 (first_of (l || h) 5 none) ≡ none → (l ≡ false → bias < a) → (h ≡ false → a ≤ bias + max_value)
        → (bias < a) × (a ≤ bias + max_value)
    go true l h e p q = let z : ◌≡◌ {A = ℕ} 0 1 = cc in absurd (omega arith)
    go false true h e p q = let z : ◌≡◌ {A = ℕ} 0 1 = cc in absurd (omega arith)
    go false false true e p q = let z : ◌≡◌ {A = ℕ} 0 1 = cc in absurd (omega arith)
    go false false false e p q = (p refl, q refl)

-- Kind 6 with k = 0 is a copy; else it is arithmetic, as kind 7 is.
module _ (a n p q : ℕ) (vs : List ℕ) where
  pub assigns-copy : (k : ℕ) → k ≡ bias → Assigns (offset_failing vs q k) a n p (value vs q + k - bias) vs (Go n) (set vs p (value vs q))
  unfolding step_unless changed_unless
  assigns-copy k e =
      let g : value vs q ≡ value vs q + k - bias = omega arith in
      rw (eq-eqb k bias e) (record { said = refl; buffer = ap (set vs p) g })

  pub assigns-offset : (k b : ℕ) (r : Step) (ws : List ℕ) → (k ≡ bias → ⊥) → b ≡ value vs q
      → Assigns (arithmetic_failing b (b + k)) a n p (b + k - bias) vs r ws
      →
      Assigns (offset_failing vs q k) a n p (value vs q + k - bias) vs r ws
  assigns-offset k b r ws ne e m = rw (ne_eqb k bias ne) (rw e at m)

  pub assigns-index : (W : List ℕ) (i b w : ℕ) (r : Step) (ws : List ℕ) → q < 16 → b ≡ value vs q → w ≡ size_in W q * value vs i
      → Assigns (arithmetic_failing b (b + w + bias)) a n p (b + w + bias - bias) vs r ws →
      Assigns (index_failing W vs q i) a n p (indexed (declared_in W) vs q i) vs r ws
  assigns-index W i b w r ws few e g m =
      let l : value vs q + size_in W q * value vs i + bias - bias ≡ value vs q + size_in W q * value vs i = omega arith in
      rw (size-in W q few) (rw l at (rw (e, g) at m))

-- ---- the kinds

module _ (W D : List ℕ) (a n : ℕ) (vs cs : List ℕ) where
  pub move-as : {s t : Simple} {r : Step} {W' ws ds : List ℕ} → s ≡ t → Moves (simple_move W D t a n vs cs) r W' ws ds
      → Moves (simple_move W D s a n vs cs) r W' ws ds
  move-as e m = rw e m

  pub moves-literal : (x k : ℕ) → Moves (simple_move W D (Literal x k) a n vs cs) (Go n) W (set vs x k) cs
  unfolding simple_move failing step_unless changed_unless values_after cells_after ends_after
  moves-literal x k = record { said = refl; ends = refl; values = refl; cells = refl }

  pub moves-add-constant : (x y k w : ℕ) → w ≡ (value vs y + k) % 2 ^ 32 → Moves (simple_move W D (AddConstant x y k) a n vs cs) (Go n) W (set vs x w) cs
  unfolding simple_move failing step_unless changed_unless values_after cells_after ends_after
  moves-add-constant x y k w e = record { said = refl; ends = refl; values = ap (set vs x) e; cells = refl }

  pub moves-arithmetic : (x y z op w : ℕ) → w ≡ combined op (value vs y) (value vs z)
      → Moves (simple_move W D (Arithmetic x y z op) a n vs cs) (Go n) W (set vs x w) cs
  unfolding simple_move failing step_unless changed_unless values_after cells_after ends_after
  moves-arithmetic x y z op w e = record { said = refl; ends = refl; values = ap (set vs x) e; cells = refl }

  pub moves-null : (p : ℕ) → Moves (simple_move W D (Null p) a n vs cs) (Go n) W (set vs p 0) cs
  unfolding simple_move failing step_unless changed_unless values_after cells_after ends_after
  moves-null p = record { said = refl; ends = refl; values = refl; cells = refl }

  pub moves-address : (p o : ℕ) → Moves (simple_move W D (Address p o) a n vs cs) (Go n) W (set vs p (get_or D (2 * o) 0)) cs
  unfolding simple_move failing step_unless changed_unless values_after cells_after ends_after
  moves-address p o = record { said = refl; ends = refl; values = refl; cells = refl }

  pub moves-offset : (p q k : ℕ) (r : Step) (ws : List ℕ) → Assigns (offset_failing vs q k) a n p (value vs q + k - bias) vs r ws
      → Moves (simple_move W D (PointerOffset p q k) a n vs cs) r W ws cs
  unfolding simple_move failing values_after cells_after ends_after
  moves-offset p q k r ws m = record { said = m.said; ends = unchanged _ W; values = m.buffer; cells = unchanged _ cs }

  pub moves-index : (p q i : ℕ) (r : Step) (ws : List ℕ) → Assigns (index_failing W vs q i) a n p (indexed (declared_in W) vs q i) vs r ws
      → Moves (simple_move W D (PointerIndex p q i) a n vs cs) r W ws cs
  unfolding simple_move failing values_after cells_after ends_after
  moves-index p q i r ws m = record { said = m.said; ends = unchanged _ W; values = m.buffer; cells = unchanged _ cs }

  pub moves-load : (x p i k : ℕ) (r : Step) (ws : List ℕ) →
      Assigns (load_failing (declared_in W) vs p (address (declared_in W) vs p i k)) a n x (get_or cs (address (declared_in W) vs p i k - bias) 0) vs r ws →
      Moves (simple_move W D (Load x p i k) a n vs cs) r W ws cs
  unfolding simple_move failing values_after cells_after ends_after
  moves-load x p i k r ws m = record { said = m.said; ends = unchanged _ W; values = m.buffer; cells = unchanged _ cs }

  pub moves-store : (p i k x : ℕ) (r : Step) (ds : List ℕ) →
      Assigns (store_failing (declared_in W) vs p (address (declared_in W) vs p i k) (value vs x)) a n
      (address (declared_in W) vs p i k - bias) (value vs x) cs r ds →
      Moves (simple_move W D (Store p i k x) a n vs cs) r W vs ds
  unfolding simple_move failing values_after cells_after ends_after
  moves-store p i k x r ds m = record { said = m.said; ends = unchanged _ W; values = unchanged _ vs; cells = m.buffer }

  pub moves-check : (c : Condition) (r : Step) → r ≡ step_unless (first_of (not (condition_holds vs c)) 1 none) a n
      → Moves (simple_move W D (Test c) a n vs cs) r W vs cs
  unfolding simple_move failing values_after cells_after ends_after
  moves-check c r e = record { said = e; ends = unchanged _ W; values = unchanged _ vs; cells = unchanged _ cs }

  pub moves-declare : (p q : ℕ) (r : Step) (W' : List ℕ) → (r ≡ Go n) × (W' ≡ copied 6 p q W) → Moves (simple_move W D (Declare p q) a n vs cs) r W' vs cs
  unfolding simple_move failing step_unless changed_unless values_after cells_after ends_after
  moves-declare p q r W' e = record { said = e.0; ends = e.1; values = refl; cells = refl }

-- ---- a marked access passes its checks

pub load-known : (W vs S : List ℕ) (a : ℕ) (s : Simple) (x p i k : ℕ) (b : Bool) → (Marked S a → failing (declared_in W) vs s ≡ none) → s ≡ Load x p i k
    → b ≡ eqb (get_or S (2 * a + 1) 0) mark → b ≡ true → load_failing (declared_in W) vs p (address (declared_in W) vs p i k) ≡ none
unfolding failing
load-known W vs S a s x p i k b f e g t = rw e at (f (eqb-true _ _ (sym g ∙ t)))

pub store-known : (W vs S : List ℕ) (a : ℕ) (s : Simple) (p i k x : ℕ) (b : Bool) → (Marked S a → failing (declared_in W) vs s ≡ none) → s ≡ Store p i k x
    → b ≡ eqb (get_or S (2 * a + 1) 0) mark → b ≡ true → store_failing (declared_in W) vs p (address (declared_in W) vs p i k) (value vs x) ≡ none
unfolding failing
store-known W vs S a s p i k x b f e g t = rw e at (f (eqb-true _ _ (sym g ∙ t)))
