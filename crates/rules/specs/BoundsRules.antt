-- The paper's section "Bounds in force": what each kind of statement does to the known bounds, and when declared bounds are shown.
use Rattle.std.specs.Prelude.{ℕ, zero, suc, ◌+◌, ◌-◌, Bool, true, false, not, ◌&&◌, ◌||◌, cond, List, [], ◌∷◌, eqb, get_or, set, None, Option, Some}
use Rattle.sums.specs.Numbers.{bias, zero_var}
use Rattle.arrays.specs.Tabulate.{tabulate}
use Rattle.statements.specs.declared.Simple.{Simple}
use Rattle.statements.specs.declared.Simple.TheVariants.{Literal, AddConstant, Arithmetic, Null, Address}
use Rattle.statements.specs.declared.Simple.TheVariants.{PointerOffset, PointerIndex, Load, Store, Check, Declare}
use Rattle.table.specs.declared.variables.End.{End}
use Rattle.rules.specs.FactSets.{FactSets}
use Rattle.rules.specs.FactRules.{in_range}
use Rattle.rules.specs.declared.Bounds.{Bounds}
use Rattle.rules.specs.declared.Environment.{Environment}
use Rattle.rules.specs.declared.Effect.{Effect}
use Rattle.rules.specs.declared.Effect.TheVariants.{Keep, Forget, Shift, Copy, Object}

-- ---- what is declared and what is known

abbrev pub nothing_known : Bounds
nothing_known = record { size = 1; lower = None; upper = None }

abbrev pub is_pointer : Environment → ℕ → Bool
is_pointer E p = get_or E.pointers p false

-- Point 7: a pointer of kind 2, `nt_array_ptr`, to a string; an object that is terminated.
abbrev pub is_string : Environment → ℕ → Bool
is_string E p = get_or E.strings p false

abbrev pub is_terminated : Environment → ℕ → Bool
is_terminated E o = get_or E.terminated o false

-- Point 10: the element size of a pointer, in cells.
abbrev pub element_size : Environment → ℕ → ℕ
element_size E p = get_or E.sizes p 1

-- The declared bounds of a pointer: those of the environment in force.
abbrev pub declared : Environment → ℕ → Bounds
declared E p = get_or E.declared p nothing_known

-- ---- point 2: rows in force, one number for each pointer, 0 its own bound and r + 1 the row r

-- "at entry the variable's own is": the rows in force there.
abbrev pub own_rows : List ℕ
own_rows = tabulate 16 (λ p. 0)

-- The ends of b for a pointer with the element size s.
abbrev pub sized : ℕ → Bounds → Bounds
sized s b = record { size = s; lower = b.lower; upper = b.upper }

-- The bounds that a number stands for. Point 10: "the s of the pointer it bounds", of a row the pointer of the kind 14.
unfoldable pub row_bound : Environment → ℕ → ℕ → Bounds
row_bound E zero p = declared E p
row_bound E (suc r) p = sized (element_size E p) (get_or E.rows r nothing_known)

-- The environment in force: what each pointer declares is the bound of its row.
abbrev pub in_force : Environment → List ℕ → Environment
in_force E R = record {
  pointers = E.pointers;
  strings = E.strings;
  sizes = E.sizes;
  declared = tabulate 16 (λ p. row_bound E (get_or R p 0) p);
  lengths = E.lengths;
  terminated = E.terminated;
  spans = E.spans;
  rows = E.rows;
}

-- "Kind 14 names a pointer and a row", which is in force after it.
unfoldable pub rows_after : Simple → List ℕ → List ℕ
rows_after (Literal x k) R = R
rows_after (AddConstant x y k) R = R
rows_after (Arithmetic x y z op) R = R
rows_after (Null p) R = R
rows_after (Address p o) R = R
rows_after (PointerOffset p q k) R = R
rows_after (PointerIndex p q i) R = R
rows_after (Load x p i k) R = R
rows_after (Store p i k x) R = R
rows_after (Check c) R = R
rows_after (Declare p r) R = set R p (r + 1)

abbrev pub object_length : Environment → ℕ → ℕ
object_length E o = get_or E.lengths o 0

-- Point 7: "For every pointer into such an object the upper end must be at most high - 1": the upper limit of an object that ends at n.
unfoldable pub upper_limit : Bool → ℕ → ℕ
upper_limit terminated n = cond terminated (n - 1) n

-- The same counted from the object's address, so that its end is its length.
abbrev pub object_span : Environment → ℕ → ℕ
object_span E o = get_or E.spans o 0

-- "Each pointer has known bounds": a list of 16, one for each number of a variable.
abbrev pub known : List Bounds → ℕ → Bounds
known K p = get_or K p nothing_known

-- ---- "Assigning v: every end that names v gets the inverse where one exists; otherwise that end is unknown."

abbrev pub names : End → ℕ → Bool
names e v = eqb e.pointer v || eqb e.integer v

unfoldable pub forget_end : ℕ → Option End → Option End
forget_end v None = None
forget_end v (Some e) = cond (names e v) None (Some e)

-- How often the value of an end with the size s counts the variable v that it names: its pointer once, its integer s times (point 10).
unfoldable pub weight : ℕ → ℕ → End → ℕ
weight s v e = cond (eqb e.pointer v) 1 s

unfoldable pub forget_bounds : ℕ → Bounds → Bounds
forget_bounds v b = record { size = b.size; lower = forget_end v b.lower; upper = forget_end v b.upper }

-- "Kind 5 then gives (p, p + length)"; point 7: of a terminated object "(p, p + length - 1)". Point 10: "Known bounds carry the size they came with, those of
-- kind 5 the size of p."
unfoldable pub object_bounds : ℕ → ℕ → ℕ → Bounds
object_bounds p s n = record {
  size = s;
  lower = Some (record { pointer = p; integer = zero_var; constant = bias });
  upper = Some (record { pointer = p; integer = zero_var; constant = bias + n });
}

-- Point 10: "With equal sizes" two ends are comparable, "with different sizes an end is comparable only when neither names an integer".
abbrev pub comparable_ends : ℕ → End → ℕ → End → Bool
comparable_ends s e t g = eqb s t || eqb e.integer zero_var && eqb g.integer zero_var

abbrev pub cons_if : Bool → ℕ → List ℕ → List ℕ
cons_if true p ps = p ∷ ps
cons_if false p ps = ps

module _ (S : FactSets) where
  open S use {Facts, end_less, shown, end_shown}

  -- "(v := v + k, by kind 2 where facts are shifted or by kind 6: replace v by v - k in the end's value)"; the end has the size s.
  unfoldable pub shift_end : ℕ → ℕ → ℕ → Option End → Option End
  shift_end s v k None = None
  shift_end s v k (Some e) = cond (names e v) (end_less (weight s v e) k e) (Some e)

  unfoldable pub shift_bounds : ℕ → ℕ → Bounds → Bounds
  shift_bounds v k b = record { size = b.size; lower = shift_end b.size v k b.lower; upper = shift_end b.size v k b.upper }

  -- What the known bounds of one pointer become.
  unfoldable pub effect_on : Effect → List Bounds → ℕ → Bounds
  effect_on Keep K p = known K p
  effect_on (Forget v) K p = forget_bounds v (known K p)
  effect_on (Shift v k) K p = shift_bounds v k (known K p)
  -- "Kinds 6 and 7 to another pointer first copy the known bounds of q to p."
  effect_on (Copy v q) K p = forget_bounds v (cond (eqb p v) (known K q) (known K p))
  effect_on (Object v s n) K p = cond (eqb p v) (object_bounds v s n) (forget_bounds v (known K p))

  unfoldable pub bounds_after : Effect → List Bounds → List Bounds
  bounds_after e K = tabulate 16 (effect_on e K)

  -- What each kind does. The inverse exists for "kind 2 where facts are shifted" and for kind 6 with p = q.
  unfoldable pub effect : Environment → Facts → Simple → Effect
  effect E f (Literal x k) = Forget x
  effect E f (AddConstant x y k) = cond (in_range S f y k && eqb x y) (Shift x k) (Forget x)
  effect E f (Arithmetic x y z op) = Forget x
  -- "kind 4 leaves p's own": nothing new is put in their place, and the ends that name p are unknown as after any assignment.
  effect E f (Null p) = Forget p
  effect E f (Address p o) = Object p (element_size E p) (object_span E o)
  effect E f (PointerOffset p q k) = cond (eqb p q) (Shift p k) (Copy p q)
  effect E f (PointerIndex p q i) = cond (eqb p q) (Forget p) (Copy p q)
  effect E f (Load x p i k) = Forget x
  effect E f (Store p i k x) = Keep
  effect E f (Check c) = Keep
  -- "In a bundle" it changes no known bound; outside, "all declared bounds .. become the known ones" after it.
  effect E f (Declare p r) = Keep

  -- ---- "Declared bounds of p are shown when p <= 0 is shown, or known lower <= declared lower and declared upper <= known upper."

  -- "End (q, n, k) <= end (r, m, j) when chains from q to r and from n to m have sums s and t with s + t + k <= j."
  -- Point 10: "With equal sizes the integer chain's sum is multiplied by s"; with different sizes no end here names an integer, and the chain is one from
  -- zero to zero, whatever its factor (end-alone in crate chains). The end e has the size s, the end g the size t.
  unfoldable pub end_at_most : Facts → ℕ → End → ℕ → End → Bool
  end_at_most f s e t g = comparable_ends s e t g && end_shown f s e.pointer e.integer e.constant g.pointer g.integer g.constant

  -- An unknown end is below or above no end.
  unfoldable pub known_at_most : Facts → ℕ → Option End → ℕ → Option End → Bool
  known_at_most f s None t g = false
  known_at_most f s (Some e) t None = false
  known_at_most f s (Some e) t (Some g) = end_at_most f s e t g

  unfoldable pub bounds_shown : Facts → ℕ → Bounds → Bounds → Bool
  bounds_shown f p k d =
      shown f p zero_var bias || known_at_most f k.size k.lower d.size d.lower && known_at_most f d.size d.upper k.size k.upper

  -- The pointers whose declared bounds are not shown, from number p on, lowest first.
  unfoldable pub unshown_from : Environment → Facts → List Bounds → ℕ → ℕ → List ℕ
  unshown_from E f K zero p = []
  unshown_from E f K (suc n) p = cons_if (is_pointer E p && not (bounds_shown f p (known K p) (declared E p))) p (unshown_from E f K n (p + 1))

  unfoldable pub unshown : Environment → Facts → List Bounds → List ℕ
  unshown E f K = unshown_from E f K 16 0

  -- "In a bundle an access through p needs p's declared bounds shown there."
  unfoldable pub access_shown : Environment → Facts → List Bounds → Simple → Bool
  access_shown E f K (Literal x k) = true
  access_shown E f K (AddConstant x y k) = true
  access_shown E f K (Arithmetic x y z op) = true
  access_shown E f K (Null p) = true
  access_shown E f K (Address p o) = true
  access_shown E f K (PointerOffset p q k) = true
  access_shown E f K (PointerIndex p q i) = true
  access_shown E f K (Load x p i k) = bounds_shown f p (known K p) (declared E p)
  access_shown E f K (Store p i k x) = bounds_shown f p (known K p) (declared E p)
  access_shown E f K (Check c) = true
  access_shown E f K (Declare p r) = true

  -- Point 9: "the facts before them show p >= 1, the lower end at most the address, and the address plus 1 at most the upper end, by the rule for ends": the
  -- address p + i + k is an end of the size of p. So a read at the upper end of a kind 2 pointer is not shown safe.
  unfoldable pub address_safe : Facts → ℕ → ℕ → ℕ → Bounds → Bool
  address_safe f p i k d =
      shown f zero_var p (bias - 1)
      && (known_at_most f d.size d.lower d.size (Some (record { pointer = p; integer = i; constant = k }))
      && known_at_most f d.size (Some (record { pointer = p; integer = i; constant = k + 1 })) d.size d.upper)

  -- The statement is an access that is shown safe.
  unfoldable pub access_safe : Environment → Facts → Simple → Bool
  access_safe E f (Literal x k) = false
  access_safe E f (AddConstant x y k) = false
  access_safe E f (Arithmetic x y z op) = false
  access_safe E f (Null p) = false
  access_safe E f (Address p o) = false
  access_safe E f (PointerOffset p q k) = false
  access_safe E f (PointerIndex p q i) = false
  access_safe E f (Load x p i k) = address_safe f p i k (declared E p)
  access_safe E f (Store p i k x) = address_safe f p i k (declared E p)
  access_safe E f (Check c) = false
  access_safe E f (Declare p r) = false

  -- Point 2: "The row must be shown there as declared bounds are, else refusal 8 there with that pointer". "There": before the kind 14.
  unfoldable pub row_unshown : Environment → Facts → List Bounds → Simple → List ℕ
  row_unshown E f K (Literal x k) = []
  row_unshown E f K (AddConstant x y k) = []
  row_unshown E f K (Arithmetic x y z op) = []
  row_unshown E f K (Null p) = []
  row_unshown E f K (Address p o) = []
  row_unshown E f K (PointerOffset p q k) = []
  row_unshown E f K (PointerIndex p q i) = []
  row_unshown E f K (Load x p i k) = []
  row_unshown E f K (Store p i k x) = []
  row_unshown E f K (Check c) = []
  row_unshown E f K (Declare p r) = cons_if (not (bounds_shown f p (known K p) (row_bound E (r + 1) p))) p []
