-- Document 02, point 5, the turns: "It goes round by number, skips those that ended, and gives each a turn of Q steps, 1 to 1,000, under one total
-- allowance." They are a function of what each routine does by itself; that it does the same in turn with others is the dispatcher's promise.
use Rattle.std.specs.Prelude.{ℕ, zero, suc, ◌+◌, ◌-◌, ◌*◌, ◌≤◌, ◌<◌, min, ◌≡◌, ◌⊎◌, Bool, true, false, cond, List, [], ◌∷◌, ltb, get_or, set, replicate}

-- The routines, by what each does by itself.
pub record Routines : Type 0 where
  pub count : ℕ
  -- waits r t: routine r has not ended after t steps of its own, so that a statement of it is due
  pub waits : ℕ → ℕ → Bool
  -- made r t: the steps that a run of routine r makes with the allowance t
  pub made : ℕ → ℕ → ℕ

unfoldable pub sum : List ℕ → ℕ
sum [] = 0
sum (x ∷ xs) = x + sum xs

-- "It goes round by number": whose turn is next, after routine r.
unfoldable pub following : ℕ → ℕ → ℕ
following count r = cond (ltb (r + 1) count) (r + 1) 0

-- Whose turn it is, and the steps that each routine has received in its turns so far.
pub record Schedule : Type 0 where
  pub next : ℕ
  pub received : List ℕ

module _ (R : Routines) (quantum total : ℕ) where
  -- "a turn of Q steps .. under one total allowance": what is left of the total, and the allowance of a turn.
  abbrev pub left : List ℕ → ℕ
  left s = total - sum s

  abbrev pub granted : List ℕ → ℕ
  granted s = min quantum (left s)

  -- What each has received after a turn of routine r: one that waits goes on for that many steps, and "A turn that ends early gives its rest to nobody";
  -- it "skips those that ended".
  unfoldable pub served : List ℕ → ℕ → List ℕ
  served s r = cond (R.waits r (get_or s r 0)) (set s r (R.made r (get_or s r 0 + granted s))) s

  abbrev pub turn_taken : Schedule → Schedule
  turn_taken P = record { next = following R.count P.next; received = served P.received P.next }

  -- After k turns; a turn that is skipped counts too.
  unfoldable pub after : ℕ → Schedule
  after zero = record { next = 0; received = replicate R.count 0 }
  after (suc k) = turn_taken (after k)

  -- After so many turns nobody can be served any more (`all-served`): what each routine has received in the end.
  unfoldable pub received : List ℕ
  received = (after (R.count * total)).received

  -- ---- the theorem about the turns

  -- "one that waits is served again after at most (n - 1) times Q steps of the others, unless the total runs out": of routine r after k turns.
  pub record ServedAgain (k r : ℕ) : Type 0 where
    -- The turns before its own, all of them turns of others,
    pub turns : ℕ
    pub few : turns < R.count
    pub its_own : (after (k + turns)).next ≡ r
    pub of_others : (i : ℕ) → i < turns → (after (k + i)).next ≡ r → ⊥
    -- with at most (n - 1) times Q steps,
    pub at_most : sum (after (k + turns)).received ≤ sum (after k).received + (R.count - 1) * quantum
    -- in which it stays where it is;
    pub stays : get_or (after (k + turns)).received r 0 ≡ get_or (after k).received r 0
    -- then it is served, unless the total has run out.
    pub serves : R.waits r (get_or (after k).received r 0) ≡ true → sum (after (k + turns)).received < total
        → get_or (after k).received r 0 < get_or (after (k + turns + 1)).received r 0

  -- "unless the total runs out": in the end each routine has ended, or the total is used.
  abbrev pub AllServed : Type 0
  AllServed = ((r : ℕ) → r < R.count → R.waits r (get_or received r 0) ≡ false) ⊎ (sum received ≡ total)

  -- ---- for a dispatcher's loop: after k turns, the last of them, `idle` of them, gave nothing
  pub record Idle (k idle : ℕ) : Type 0 where
    pub within : idle ≤ k
    pub same : (i : ℕ) → i ≤ idle → (after (k - idle + i)).received ≡ (after k).received

-- What is so of runs: no more steps than allowed; a run that is not ended has used its allowance, and with more it goes on.
pub record Runs (R : Routines) : Type 0 where
  pub at_most : (r t : ℕ) → r < R.count → R.made r t ≤ t
  pub used : (r t : ℕ) → r < R.count → R.waits r t ≡ true → R.made r t ≡ t
  pub goes_on : (r t q : ℕ) → r < R.count → R.waits r t ≡ true → 0 < q → t < R.made r (t + q)
