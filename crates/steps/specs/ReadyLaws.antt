-- What a statement that reads gives the code: its operands are in range, and its step is that of its kind.
use Rattle.std.specs.Prelude.{cond, ℕ, ◌+◌, ◌*◌, ◌^◌, ◌<◌, ◌≤◌, ◌≡◌, List, ℤ, length, get_or, Some}
use Rattle.std.proofs.Math.Path.{refl, ap}
use Rattle.std.proofs.Common.{sym, ◌∙◌, arith}
use Rattle.words.specs.Sections.{Limits, statement_start}
use Rattle.words.specs.declared.sections.Sections.{Sections}
use Rattle.words.specs.Typed.{IsIndex, missing, given}
use Rattle.conditions.specs.Typed.{Sides, integers, pointers, literal, null, ConditionTyped}
use Rattle.conditions.specs.ConditionLaws.{offset-small}
use Rattle.conditions.specs.declared.Condition.{Condition}
use Rattle.statements.specs.Statements.{statement_at}
use Rattle.statements.specs.Typed.{SimpleTyped, AccessTyped}
use Rattle.statements.specs.StatementLaws.{read-typed, read-limits}
use Rattle.statements.specs.declared.Simple.{Simple}
use Rattle.statements.specs.declared.Simple.TheVariants.{Literal, AddConstant, Arithmetic, Null, Address, PointerOffset}
use Rattle.statements.specs.declared.Simple.TheVariants.{PointerIndex, Load, Store, Check as Test, Declare}
use Rattle.statements.specs.declared.Statement.{Statement}
use Rattle.statements.specs.declared.CallSite.{CallSite}
use Rattle.statements.specs.declared.Statement.TheVariants.{Plain, If, While, Bundle, Call}
use Rattle.statements.specs.Decode.{decoded_at}
use Rattle.statements.specs.DecodeLaws.{read-decoded}
use Rattle.machine.specs.Machine.{address, condition_holds, Failing, none, failing}
use Rattle.checks.specs.Checked.{declared_in, Comparable}
use Rattle.steps.specs.Bare.{InCells, InsideSimple, Inside, Accessible, Operable, Marked, Ready, Prepared, simple_move, statement_move, bare_move, Moves}
use Rattle.checks.specs.declared.Step.{Step}
use Rattle.checks.specs.declared.Step.TheVariants.{Go}
use Rattle.checks.specs.declared.Step.TheVariants as step

-- An index has a slot, and so have both sides of a condition.
index-slot : {T : List ℤ} {h : Sections} {i : ℕ} → Limits h → IsIndex T h i → i ≤ 16
index-slot few (missing e) = omega (arith, e)
index-slot few (given t) = omega (arith, t.below, few.variables)

sides-slots : {T : List ℤ} {h : Sections} {n : ℕ} (l r k : ℕ) → Limits h → 16 < n → Sides T h l r k → (l < n) × (r < n)
sides-slots l r k few m (integers a b e) = (omega (arith, a.below, few.variables), omega (arith, b.below, few.variables))
sides-slots l r k few m (pointers a b e) = (omega (arith, a.below, few.variables), omega (arith, b.below, few.variables))
sides-slots l r k few m (literal a b e) = (omega (arith, a.below, few.variables), omega (arith, b))
sides-slots l r k few m (null a b e) = (omega (arith, a.below, few.variables), omega (arith, b))

comparable : {T : List ℤ} {h : Sections} {c : Condition} (vs : List ℕ) → Limits h → 16 < length vs → ConditionTyped T h c → Comparable c vs
comparable vs few m t = let s = sides-slots _ _ _ few m t.sides in (offset-small t, s.0, s.1)

-- U is the table that was checked.
module _ (T U : List ℤ) (h : Sections) (W D S vs cs : List ℕ) (few : Limits h) (P : Prepared T h W D S vs) where
  accessible : (x p i k : ℕ) (f : Failing) → AccessTyped U h x p i k → (f ≡ none → InCells (address (declared_in W) vs p i k) cs) → Accessible W x p i k f vs cs
  accessible x p i k f t n =
      record {
        value = omega (arith, t.value.below, few.variables, P.slots);
        pointer = omega (arith, t.pointer.below, few.variables);
        constant = omega (arith, t.constant.high);
        ends = P.ends;
        small = P.small;
        sizes = P.sizes;
        named = P.named;
        index = index-slot few t.index;
        slots = P.slots;
        inside = n;
      }

  operable : (s : Simple) → SimpleTyped U h s → InsideSimple W s vs cs → Operable W D s vs cs
  unfolding failing
  operable (Literal x k) t n = (omega (arith, t.target.below, few.variables, P.slots), omega (arith, t.value))
  operable (AddConstant x y k) t n =
      (omega (arith, t.target.below, few.variables, P.slots), omega (arith, t.source.below, few.variables, P.slots), omega (arith, t.constant.high))
  operable (Arithmetic x y z op) t n = (
    omega (arith, t.target.below, few.variables, P.slots),
    omega (arith, t.left.below, few.variables, P.slots),
    omega
        (arith, t.right.below, few.variables, P.slots),
  )
  operable (Null p) t n = omega (arith, t.below, few.variables, P.slots)
  operable (Address p o) t n = (omega (arith, t.target.below, few.variables, P.slots), omega (arith, t.object, P.directory))
  operable (PointerOffset p q k) t n =
      (omega (arith, t.target.below, few.variables, P.slots), omega (arith, t.source.below, few.variables, P.slots), omega (arith, t.constant.high))
  operable (PointerIndex p q i) t n = (
    omega (arith, t.target.below, few.variables, P.slots),
    omega (arith, t.source.below, few.variables, P.slots),
    omega (arith, t.index.below, few.variables, P.slots),
    omega
        (arith, t.source.below, few.variables),
    P.ends,
    P.sizes,
  )
  operable (Load x p i k) t n = accessible x p i k _ t n
  operable (Store p i k x) t n = accessible x p i k _ t n
  operable (Test c) t n = comparable vs few P.slots t
  operable (Declare p r) t n = (omega (arith, t.pointer.below, few.variables), omega (arith, t.row, few.rows), P.ends)

-- A statement that is ready.
module _ (T : List ℤ) (h : Sections) (W S : List ℕ) (a : ℕ) (vs cs : List ℕ) where
  pub ready-below : Ready T h W S a vs cs → a < h.statements
  ready-below r = (read-limits r.checked h a r.statement r.reads).1

  ready-reads : (s : Statement) (r : Ready T h W S a vs cs) → decoded_at T h a ≡ s → (statement_at r.checked h a ≡ Some s) × Inside W s vs cs
  ready-reads s r e =
      let g : r.statement ≡ s = sym (read-decoded r.checked h a r.statement r.reads) ∙ (sym r.same ∙ e) in
      (r.reads ∙ ap Some g, rw g at r.inside)

  pub ready-if : (c : Condition) (n m : ℕ) → 16 < length vs → Ready T h W S a vs cs → decoded_at T h a ≡ If c n m → Comparable c vs
  ready-if c n m l r e =
      let g = (ready-reads (If c n m) r e).0 in
      comparable vs (read-limits r.checked h a (If c n m) g).0 l (read-typed r.checked h a (If c n m) g).condition

  -- A kind 14 names a variable.
  pub ready-declare : (p q : ℕ) → Ready T h W S a vs cs → decoded_at T h a ≡ Plain (Declare p q) → p < 16
  ready-declare p q r e =
      let g = ready-reads (Plain (Declare p q)) r e in
      omega (
        arith,
        (read-typed r.checked h a (Plain (Declare p q)) g.0).pointer.below,
        (read-limits r.checked h a (Plain (Declare p q))
            g.0).0.variables,
      )

  pub ready-while : (c : Condition) (n : ℕ) → 16 < length vs → Ready T h W S a vs cs → decoded_at T h a ≡ While c n → Comparable c vs
  ready-while c n l r e =
      let g = (ready-reads (While c n) r e).0 in
      comparable vs (read-limits r.checked h a (While c n) g).0 l (read-typed r.checked h a (While c n) g).condition

  -- A marked one passes its checks.
  pub ready-known : (s : Simple) → Ready T h W S a vs cs → decoded_at T h a ≡ Plain s → Marked S a → failing (declared_in W) vs s ≡ none
  ready-known s r e m = r.known m s (sym (read-decoded r.checked h a r.statement r.reads) ∙ (sym r.same ∙ e))

-- The record of a statement that reads lies in the table.
pub ready-start : {T : List ℤ} {h : Sections} {W D S vs cs : List ℕ} {a : ℕ} → Prepared T h W D S vs → Ready T h W S a vs cs
    → statement_start h a + 7 ≤ length T
ready-start {T} {h} {W} {D} {S} {vs} {cs} {a} p r =
    let l = read-limits r.checked h a r.statement r.reads in
    omega (arith, p.table, l.0.start, l.0.objects, l.0.variables, l.0.statements, l.1)

-- A step whose statement is decoded as s.
module _ (T : List ℤ) (h : Sections) (W D S : List ℕ) (a : ℕ) (vs cs : List ℕ) where
  pub ready-simple : (s : Simple) → Prepared T h W D S vs → Ready T h W S a vs cs → decoded_at T h a ≡ Plain s → Operable W D s vs cs
  ready-simple s p r e =
      let g = ready-reads T h W S a vs cs (Plain s) r e in
      operable T r.checked h W D S vs cs (read-limits r.checked h a (Plain s) g.0).0 p s (read-typed r.checked h a (Plain s) g.0) g.1

  pub bare-plain : (s : Simple) (n : ℕ) (r : Step) (W' ws ds : List ℕ) → decoded_at T h a ≡ Plain s → n ≡ get_or S (2 * a) 0 →
      Moves (simple_move W D s a n vs cs) r W' ws ds → Moves (bare_move T h W D S a vs cs) r W' ws ds
  unfolding bare_move statement_move
  bare-plain s n r W' ws ds e g m = rw e (rw g at m)

  pub bare-if : (c : Condition) (x y b n o : ℕ) → decoded_at T h a ≡ If c x y → b ≡ cond (condition_holds vs c) n o → n ≡ get_or S (2 * a) 0
      → o ≡ get_or S (2 * a + 1) 0 →
      Moves (bare_move T h W D S a vs cs) (Go b) W vs cs
  unfolding bare_move statement_move
  bare-if c x y b n o e g p q = rw e (record { said = ap Go (rw (p, q) at g); ends = refl; values = refl; cells = refl })

  pub bare-while : (c : Condition) (x b n o : ℕ) → decoded_at T h a ≡ While c x → b ≡ cond (condition_holds vs c) n o → n ≡ get_or S (2 * a) 0
      → o ≡ get_or S (2 * a + 1) 0 →
      Moves (bare_move T h W D S a vs cs) (Go b) W vs cs
  unfolding bare_move statement_move
  bare-while c x b n o e g p q = rw e (record { said = ap Go (rw (p, q) at g); ends = refl; values = refl; cells = refl })

  pub bare-call : (x : CallSite) → decoded_at T h a ≡ Call x → Moves (bare_move T h W D S a vs cs) step.Call W vs cs
  unfolding bare_move statement_move
  bare-call x e = rw e (record { said = refl; ends = refl; values = refl; cells = refl })

  pub bare-bundle : (x n : ℕ) → decoded_at T h a ≡ Bundle x → n ≡ get_or S (2 * a) 0 → Moves (bare_move T h W D S a vs cs) (Go n) W vs cs
  unfolding bare_move statement_move
  bare-bundle x n e p = rw e (record { said = ap Go p; ends = refl; values = refl; cells = refl })
