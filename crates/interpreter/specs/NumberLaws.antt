-- A run stops with a check of number 1 to 6, which the enum of checks holds with its statement.
use Rattle.statements.specs.declared.Statement.{Statement}
use Prim.Native.Nat.{ℕ, zero, suc, ◌≤◌}
use Rattle.std.specs.Prelude.{◌≡◌, refl, Bool, true, false, not, ◌||◌, ◌&&◌, List, leb, ltb, eqb, ℤ, None, Option, Some}
use Rattle.std.proofs.Common.{sym, subst, arith}
use Rattle.sums.specs.Numbers.{bias}
use Rattle.words.specs.declared.sections.Sections.{Sections}
use Rattle.statements.specs.Statements.{statement_at}
use Rattle.statements.specs.declared.Simple.{Simple}
use Rattle.statements.specs.declared.Simple.TheVariants.{Literal, AddConstant, Arithmetic, Null, Address, PointerOffset, PointerIndex, Load, Store}
use Rattle.statements.specs.declared.Simple.TheVariants as simple
use Rattle.statements.specs.declared.Statement.TheVariants.{Plain, If, While, Bundle, Call}
use Rattle.blocks.specs.Flow.{Successors}
use Rattle.rules.specs.BoundsRules.{in_force, is_string}
use Rattle.rules.specs.declared.Environment.{Environment}
use Rattle.machine.specs.Machine.{value, address, lower_end, upper_end, condition_holds, Failing, none, fails, first_of}
use Rattle.machine.specs.Machine.{first_unless, access_failing, arithmetic_failing, failing, Status, going, stopped, stuck}
use Rattle.machine.specs.Machine.{Point, Performed, done, no_step, performed, memory_of, after_performed, after_checks, branched}
use Rattle.machine.specs.Machine.{statement_step, successors_of, step_if_due, next_point, beyond, terminator_failing}
use Rattle.machine.specs.AlonePoints.{point_after}
use Rattle.answers.specs.Answers.{check_number, check_statement}
use Rattle.checks.specs.Checked.{check_of}
use Rattle.answers.specs.declared.stops.Check.{Check}

-- The check that a stop answers has the machine's number, and the statement that was due.
pub number_of : (n a : ℕ) → 1 ≤ n → n ≤ 6 → check_number (check_of n a) ≡ n
number_of zero a p q = absurd (omega arith)
number_of (suc zero) a p q = refl
number_of (suc (suc zero)) a p q = refl
number_of (suc (suc (suc zero))) a p q = refl
number_of (suc (suc (suc (suc zero)))) a p q = refl
number_of (suc (suc (suc (suc (suc zero))))) a p q = refl
number_of (suc (suc (suc (suc (suc (suc zero)))))) a p q = refl
number_of (suc (suc (suc (suc (suc (suc (suc n))))))) a p q = absurd (omega arith)

pub statement-of : (n a : ℕ) → check_statement (check_of n a) ≡ a
statement-of zero a = refl
statement-of (suc zero) a = refl
statement-of (suc (suc zero)) a = refl
statement-of (suc (suc (suc zero))) a = refl
statement-of (suc (suc (suc (suc zero)))) a = refl
statement-of (suc (suc (suc (suc (suc zero))))) a = refl
statement-of (suc (suc (suc (suc (suc (suc n)))))) a = refl

abbrev Numbered : Failing → Type 0
Numbered none = Unit {0}
Numbered (fails n) = (1 ≤ n) × (n ≤ 6)

first-numbered : (b : Bool) (n : ℕ) (f : Failing) → 1 ≤ n → n ≤ 6 → Numbered f → Numbered (first_of b n f)
first-numbered true n f p q r = (p, q)
first-numbered false n f p q r = r

access-numbered : (E : Environment) (vs : List ℕ) (p a : ℕ) (rest : Failing) → Numbered rest → Numbered (access_failing E vs p a rest)
unfolding access_failing
access-numbered E vs p a rest r =
    first-numbered (eqb (value vs p) 0) 2 _ (omega arith) (omega arith)
    (first-numbered (ltb a (lower_end E vs p) || beyond (is_string E p) (upper_end E vs p) a) 3 rest (omega arith) (omega arith) r)

end-numbered : (E : Environment) (vs : List ℕ) (p a x : ℕ) → Numbered (terminator_failing E vs p a x)
unfolding terminator_failing
end-numbered E vs p a x = first-numbered (eqb a (upper_end E vs p) && not (eqb x 0)) 6 none (omega arith) (omega arith) tt

arithmetic-numbered : (q a : ℕ) → Numbered (arithmetic_failing q a)
unfolding arithmetic_failing
arithmetic-numbered q a =
    first-numbered (eqb q 0) 4 _ (omega arith) (omega arith) (first-numbered (leb a bias || ltb _ a) 5 none (omega arith) (omega arith) tt)

unless-numbered : (b : Bool) (f : Failing) → Numbered f → Numbered (first_unless b f)
unless-numbered true f n = tt
unless-numbered false f n = n

failing-numbered : (E : Environment) (vs : List ℕ) (s : Simple) → Numbered (failing E vs s)
unfolding failing
failing-numbered E vs (Literal x k) = tt
failing-numbered E vs (AddConstant x y k) = tt
failing-numbered E vs (Arithmetic x y z op) = tt
failing-numbered E vs (Null p) = tt
failing-numbered E vs (Address p o) = tt
failing-numbered E vs (PointerOffset p q k) = unless-numbered (eqb k bias) _ (arithmetic-numbered _ _)
failing-numbered E vs (PointerIndex p q i) = arithmetic-numbered _ _
failing-numbered E vs (Load x p i k) = access-numbered E vs p (address E vs p i k) none tt
failing-numbered E vs (Store p i k x) = access-numbered E vs p (address E vs p i k) _ (end-numbered E vs p (address E vs p i k) (value vs x))
failing-numbered E vs (simple.Check c) = first-numbered (not (condition_holds vs c)) 1 none (omega arith) (omega arith) tt
failing-numbered E vs (simple.Declare p r) = tt

abbrev Held : Status → Type 0
Held going = Unit {0}
Held (stopped n) = (1 ≤ n) × (n ≤ 6)
Held stuck = Unit {0}

performed-held : (P : Point) (n : ℕ) (p : Performed) → Held (after_performed P n p).status
performed-held P n (done m) = tt
performed-held P n no_step = tt

checks-held : (f : Failing) (P : Point) (n : ℕ) (p : Performed) → Numbered f → Held (after_checks f P n p).status
checks-held (fails k) P n p h = h
checks-held none P n p h = performed-held P n p

branched-held : (b : Bool) (P : Point) (n : Successors) → Held (branched b P n).status
branched-held true P n = tt
branched-held false P n = tt

statement-held : (E : Environment) (D : List ℕ) (s : Option Statement) (n : Successors) (P : Point) → Held (statement_step E D s n P).status
unfolding statement_step
statement-held E D (Some (Plain s)) n P =
    checks-held (failing (in_force E P.rows) P.values s) P n.next (performed E D s (memory_of P)) (failing-numbered (in_force E P.rows) P.values s)
statement-held E D (Some (If c x y)) n P = branched-held (condition_holds P.values c) P n
statement-held E D (Some (While c x)) n P = branched-held (condition_holds P.values c) P n
statement-held E D (Some (Bundle x)) n P = tt
statement-held E D (Some (Call x)) n P = tt
statement-held E D None n P = tt

module _ (T : List ℤ) (h : Sections) (E : Environment) (D : List ℕ) where
  due-held : (b : Bool) (P : Point) → Held P.status → Held (step_if_due T h E D b P).status
  due-held true P k = statement-held E D (statement_at T h P.due) (successors_of T h E D P.due) P
  due-held false P k = k

  next-held : (s : Status) (P : Point) → Held P.status → Held (next_point T h E D s P).status
  unfolding next_point
  next-held going P k = due-held (ltb P.due h.statements) P k
  next-held (stopped n) P k = k
  next-held stuck P k = k

  point-held : (t : ℕ) (P : Point) → Held P.status → Held (point_after T h E D t P).status
  unfolding point_after
  point-held zero P k = k
  point-held (suc t) P k = next-held (point_after T h E D t P).status (point_after T h E D t P) (point-held t P k)

  -- A point of a run that stopped has one of the six numbers.
  pub stopped-number : (t n : ℕ) (P : Point) → P.status ≡ going → (point_after T h E D t P).status ≡ stopped n → (1 ≤ n) × (n ≤ 6)
  stopped-number t n P g e = subst Held e (point-held t P (subst Held (sym g) tt))
