-- The paper's section "Facts", sentence by sentence: facts, chains, what is shown, what contradicts, and what is known after each operation.
-- These definitions say what is right; that the fact store does it is proved in Exact.
use Rattle.std.specs.Prelude.{ℕ, ◌+◌, ◌≤◌, ◌<◌, ◌*◌, ◌≡◌, ◌≢◌, ◌⊎◌, Bool, true, false, eqb}
use Rattle.sums.specs.Numbers.{bias, max_value, zero_var}

-- The variables of a routine: how many, 1 to 16, and which are pointers.
pub record Variables : Type 0 where
  pub count : ℕ
  pub some : 0 < count
  pub few : count ≤ 16
  pub pointer : ℕ → Bool

-- What a fact may speak of: a variable, or zero.
abbrev pub Node : Variables → ℕ → Type 0
Node vars x = (x ≡ zero_var) ⊎ (x < vars.count)

-- "A fact is x <= y + k over two pointers, two integers, or one variable and zero."
pub data Comparable (vars : Variables) : ℕ → ℕ → Type 0 where
  same_kind : {x y : ℕ} → x < vars.count → y < vars.count → vars.pointer x ≡ vars.pointer y → Comparable vars x y
  from_zero : {y : ℕ} → y < vars.count → Comparable vars zero_var y
  to-zero : {x : ℕ} → x < vars.count → Comparable vars x zero_var

-- The facts that are known: K x y k is x <= y + k, with the bias in k.
abbrev pub Known : Type 1
Known = ℕ → ℕ → ℕ → Type 0

-- "Always known: 0 <= v <= 4,294,967,295."
pub data Always (vars : Variables) : ℕ → ℕ → ℕ → Type 0 where
  lower : {v : ℕ} → v < vars.count → Always vars zero_var v bias
  upper : {v : ℕ} → v < vars.count → Always vars v zero_var (bias + max_value)

-- "a chain of known facts, repeats allowed, leads from x to y with constants that sum to": the sum is `up` less `down`. "from x to x it may be empty."
pub data Chain (K : Known) : ℕ → ℕ → ℕ → ℕ → Type 0 where
  empty : {x : ℕ} → Chain K x x 0 0
  link : {x y z k up down : ℕ} → K x y k → Chain K y z up down → Chain K x z (k + up) (bias + down)

-- A chain from x to y whose sum is at most p - m.
pub record ChainWithin (K : Known) (x y p m : ℕ) : Type 0 where
  pub up : ℕ
  pub down : ℕ
  pub chain : Chain K x y up down
  pub within : up + m ≤ p + down

-- "A fact is shown when a chain of known facts leads from x to y with constants that sum to at most k."
abbrev pub Shown : Known → ℕ → ℕ → ℕ → Type 0
Shown K x y k = ChainWithin K x y k bias

-- "contradictory facts": a chain from some x to x has a sum below 0. (That they show every fact is proved, in Chains.)
pub record Contradiction (K : Known) : Type 0 where
  pub node : ℕ
  pub up : ℕ
  pub down : ℕ
  pub round : Chain K node node up down
  pub negative : up < down

-- "End (q, n, k) <= end (r, m, j) when chains from q to r and from n to m have sums s and t with s + t + k <= j."
-- Point 10: "With equal sizes the integer chain's sum is multiplied by s", here the size.
pub record EndShown (K : Known) (size q n k r m j : ℕ) : Type 0 where
  pub up₁ : ℕ
  pub down₁ : ℕ
  pub first : Chain K q r up₁ down₁
  pub up₂ : ℕ
  pub down₂ : ℕ
  pub second : Chain K n m up₂ down₂
  pub within : up₁ + size * up₂ + k ≤ j + (down₁ + size * down₂)

-- ---- What is known after each operation

-- The fact x <= y + k is known besides.
pub data With (K : Known) (x y k : ℕ) : ℕ → ℕ → ℕ → Type 0 where
  before : {a b c : ℕ} → K a b c → With K x y k a b c
  fact : With K x y k x y k

-- "To drop x: keep each shown fact without x"; and what is always known. Point 11: "Dropping keeps a contradiction, also where no other variable is left":
-- where the facts contradict, every fact is kept.
pub data Without (vars : Variables) (x : ℕ) (K : Known) : ℕ → ℕ → ℕ → Type 0 where
  kept : {a b c : ℕ} → a ≢ x → b ≢ x → Comparable vars a b → Shown K a b c → Without vars x K a b c
  always : {a b c : ℕ} → Always vars a b c → Without vars x K a b c
  contradicted : {a b c : ℕ} → Contradiction K → Comparable vars a b → Without vars x K a b c

-- By how much a shift of x by k raises a node: x by k, any other by 0; with the bias.
abbrev pub raise : Bool → ℕ → ℕ
raise true k = k
raise false k = bias

-- Each shown fact a <= b + c, of the raised nodes: a <= b + (c + raise of a - raise of b).
pub data Moved (vars : Variables) (by : ℕ → ℕ) (K : Known) : ℕ → ℕ → ℕ → Type 0 where
  moved : {a b c d : ℕ} → Comparable vars a b → Shown K a b c → d + by b ≡ c + by a → Moved vars by K a b d

-- "the facts are shifted": every shown fact of x moved with x, which is raised by k; and what is always known of the new x.
abbrev pub Shifted : Variables → ℕ → ℕ → Known → Known
Shifted vars x k K = With (With (Moved vars (λ a. raise (eqb a x) k) K) zero_var x bias) x zero_var (bias + max_value)

-- "afterwards what both sides show."
pub data Both (vars : Variables) (K L : Known) : ℕ → ℕ → ℕ → Type 0 where
  both : {a b c : ℕ} → Comparable vars a b → Shown K a b c → Shown L a b c → Both vars K L a b c
