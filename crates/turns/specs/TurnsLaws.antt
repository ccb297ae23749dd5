-- The theorem about the turns, and what a dispatcher's loop asks of them.
use Prim.Native.Nat.{ℕ, zero, suc, ◌+◌, ◌-◌, ◌*◌, ◌≤◌, ◌<◌, min}
use Rattle.std.specs.Prelude.{◌≡◌, ◌≢◌, ◌⊎◌, Bool, true, false, cond, List, [], ◌∷◌, ltb, length, get_or, set, replicate}
use Rattle.std.proofs.Math.Path.{refl, sym, ap}
use Rattle.std.proofs.Common.{◌∙◌, add-one, suc-mul, mul-suc, mul-le-mul, lt-ltb, le-ltb, ltb-true, ltb-false, length-set, get_or-set_same, get_or-set_other}
use Rattle.std.proofs.Math.Logic.{inl, inr}
use native.Mathlib.Omega.{arith}
use Rattle.std.proofs.Math.ListN.{length-replicate}
use Rattle.std.proofs.lemmas.List.{set-get_or}
use Rattle.turns.specs.Turns.{Routines, Schedule, Runs, sum, following, left, granted, served, turn_taken, after, received, ServedAgain, AllServed, Idle}

-- ---- sums

pub sum-set : (s : List ℕ) (r v : ℕ) → r < length s → sum (set s r v) + get_or s r 0 ≡ sum s + v
unfolding sum
sum-set [] r v l = absurd (omega arith)
sum-set (x ∷ xs) zero v l = omega arith
sum-set (x ∷ xs) (suc r) v l = omega (arith, sum-set xs r v (omega arith))

pub sum_zeros : (n : ℕ) → sum (replicate n 0) ≡ 0
unfolding sum
sum_zeros zero = refl
sum_zeros (suc n) = omega (arith, sum_zeros n)

pub sum-least : (s : List ℕ) (r : ℕ) → get_or s r 0 ≤ sum s
unfolding sum
sum-least [] r = omega arith
sum-least (x ∷ xs) zero = omega arith
sum-least (x ∷ xs) (suc r) = omega (arith, sum-least xs r)

-- ---- whose turn is next

pub following-up : (n r : ℕ) → r + 1 < n → following n r ≡ r + 1
unfolding following
following-up n r l = rw (lt-ltb (r + 1) n l)

pub following-first : (n r : ℕ) → n ≤ r + 1 → following n r ≡ 0
unfolding following
following-first n r l = rw (le-ltb (r + 1) n l)

pub by_order : {A : Type 0} (a b : ℕ) → (a < b → A) → (b ≤ a → A) → A
by_order {A} a b f g = go (ltb a b) (ltb-true a b) (ltb-false a b)
  where
    go : (x : Bool) → (x ≡ true → a < b) → (x ≡ false → b ≤ a) → A
    go true p q = f (p refl)
    go false p q = g (q refl)

module _ (R : Routines) (runs : Runs R) (quantum total : ℕ) where
  abbrev n : ℕ
  n = R.count

  abbrev at : ℕ → Schedule
  at = after R quantum total

  abbrev turn : List ℕ → ℕ → List ℕ
  turn = served R quantum total

  -- ---- one turn

  module _ (s : List ℕ) (r : ℕ) where
    abbrev had : ℕ
    had = get_or s r 0

    abbrev gets : ℕ
    gets = R.made r (had + granted R quantum total s)

    pub served-waiting : R.waits r had ≡ true → turn s r ≡ set s r gets
    unfolding served
    served-waiting w = rw w

    pub served-ended : R.waits r had ≡ false → turn s r ≡ s
    unfolding served
    served-ended w = rw w

    waiting-more : r < n → R.waits r had ≡ true → had ≤ gets
    waiting-more l w = go (granted R quantum total s) refl
      where
        go : (q : ℕ) → granted R quantum total s ≡ q → had ≤ R.made r (had + granted R quantum total s)
        go zero e =
            let z : had + granted R quantum total s ≡ had = omega arith in
            omega (arith, ap (λ (t : ℕ). R.made r t) z, runs.used r had l w)
        go (suc q) e = omega (arith, runs.goes_on r had (granted R quantum total s) l w (omega arith))

    pub served-long : length (turn s r) ≡ length s
    served-long = go (R.waits r had) refl
      where
        go : (b : Bool) → R.waits r had ≡ b → length (turn s r) ≡ length s
        go true w = ap length (served-waiting w) ∙ length-set s r gets
        go false w = ap length (served-ended w)

    -- Only routine r receives steps.
    pub served-other : (j : ℕ) → j ≢ r → get_or (turn s r) j 0 ≡ get_or s j 0
    served-other j d = go (R.waits r had) refl
      where
        go : (b : Bool) → R.waits r had ≡ b → get_or (turn s r) j 0 ≡ get_or s j 0
        go true w = ap (λ (l : List ℕ). get_or l j 0) (served-waiting w) ∙ get_or-set_other s r j gets 0 d
        go false w = ap (λ (l : List ℕ). get_or l j 0) (served-ended w)

    -- At least none, at most the allowance of a turn.
    pub served-sum : length s ≡ n → r < n → (sum s ≤ sum (turn s r)) × (sum (turn s r) ≤ sum s + granted R quantum total s)
    served-sum e l = go (R.waits r had) refl
      where
        go : (b : Bool) → R.waits r had ≡ b → (sum s ≤ sum (turn s r)) × (sum (turn s r) ≤ sum s + granted R quantum total s)
        go true w =
            let z = ap sum (served-waiting w) in
            let f = sum-set s r gets (omega arith) in
            let u = waiting-more l w in
            let v = runs.at_most r (had + granted R quantum total s) l in
            (omega arith, omega arith)
        go false w = let z = ap sum (served-ended w) in (omega arith, omega arith)

    -- One that waits is served, unless the total has run out.
    pub serves-it : length s ≡ n → r < n → 1 ≤ quantum → R.waits r had ≡ true → sum s < total → had < get_or (turn s r) r 0
    serves-it e l q w t =
        let f = ap (λ (x : List ℕ). get_or x r 0) (served-waiting w) ∙ get_or-set_same s r gets 0 (omega arith) in
        omega (arith, f, runs.goes_on r had (granted R quantum total s) l w (omega arith))

    -- What r has received and the sum grow together.
    pub served-both : r < length s → sum (turn s r) + had ≡ sum s + get_or (turn s r) r 0
    served-both l = go (R.waits r had) refl
      where
        go : (b : Bool) → R.waits r had ≡ b → sum (turn s r) + had ≡ sum s + get_or (turn s r) r 0
        go true w = omega (
          arith,
          ap sum (served-waiting w),
          sum-set s r gets l,
          ap (λ (x : List ℕ). get_or x r 0) (served-waiting w),
          get_or-set_same s r gets 0 l,
        )
        go false w = omega (arith, ap sum (served-ended w), ap (λ (x : List ℕ). get_or x r 0) (served-ended w))

    -- A turn in which nothing is received changes nothing.
    pub served-none : r < length s → sum (turn s r) ≡ sum s → turn s r ≡ s
    served-none l e = go (R.waits r had) refl
      where
        go : (b : Bool) → R.waits r had ≡ b → turn s r ≡ s
        go true w =
            let f = sum-set s r gets l in
            let g : gets ≡ had = omega (arith, ap sum (served-waiting w)) in
            served-waiting w ∙ ap (set s r) g ∙ set-get_or s r 0
        go false w = served-ended w

  -- ---- turns

  pub after-suc : (k : ℕ) → at (k + 1) ≡ turn_taken R quantum total (at k)
  unfolding after
  after-suc k = rw (add-one k)

  pub after-start : at 0 ≡ record { next = 0; received = replicate n 0 }
  unfolding after
  after-start = refl

  pub after-long : (k : ℕ) → length (at k).received ≡ n
  unfolding after
  after-long zero = length-replicate n 0
  after-long (suc k) = served-long (at k).received (at k).next ∙ after-long k

  pub after_next : (k : ℕ) → (at (k + 1)).next ≡ following n (at k).next
  after_next k = ap (λ (P : Schedule). P.next) (after-suc k)

  pub after-received : (k : ℕ) → (at (k + 1)).received ≡ turn (at k).received (at k).next
  after-received k = ap (λ (P : Schedule). P.received) (after-suc k)

  module _ (some : 0 < n) where
    next-within : (r : ℕ) → r < n → following n r < n
    next-within r l = by_order (r + 1) n (λ u. omega (arith, following-up n r u)) (λ u. omega (arith, following-first n r u))

    pub after-within : (k : ℕ) → (at k).next < n
    unfolding after
    after-within zero = some
    after-within (suc k) = next-within (at k).next (after-within k)

    inside : (k : ℕ) → (at k).next < length (at k).received
    inside k = omega (arith, after-within k, after-long k)

    -- In the next n turns: round by number.
    round : (k i : ℕ) → i ≤ n → ((at k).next + i < n → (at (k + i)).next ≡ (at k).next + i) × (n ≤ (at k).next + i → (at (k + i)).next + n ≡ (at k).next + i)
    round k zero l =
        let z : k + 0 ≡ k = omega arith in
        let e = ap (λ (m : ℕ). (at m).next) z in
        ((λ u. omega arith), (λ u. absurd (omega (arith, after-within k))))
    round k (suc i) l =
        let q : k + suc i ≡ k + i + 1 = omega arith in
        let f = round k i (omega arith) in
        let e : (at (k + suc i)).next ≡ following n (at (k + i)).next = ap (λ (m : ℕ). (at m).next) q ∙ after_next (k + i) in
        let w = after-within k in (
          (λ u. let g : (at (k + i)).next ≡ (at k).next + i = f.0 (omega arith) in omega (arith, following-up n (at (k + i)).next (omega arith))),
          (λ u. by_order ((at k).next + i) n
              (λ v. let g : (at (k + i)).next ≡ (at k).next + i = f.0 v in omega (arith, following-first n (at (k + i)).next (omega arith)))
              (λ v. let g : (at (k + i)).next + n ≡ (at k).next + i = f.1 v in omega (arith, following-up n (at (k + i)).next (omega arith)))),
        )

    -- The sum grows, and by at most a quantum a turn.
    pub sum_step : (k : ℕ) → (sum (at k).received ≤ sum (at (k + 1)).received)
        × (sum (at (k + 1)).received ≤ sum (at k).received + granted R quantum total (at k).received)
    sum_step k =
        let u = served-sum (at k).received (at k).next (after-long k) (after-within k) in
        let e = ap sum (after-received k) in
        (omega (arith, u.0), omega (arith, u.1))

    pub sum-grows : (k d : ℕ) → sum (at k).received ≤ sum (at (k + d)).received
    sum-grows k zero = let z : k + 0 ≡ k = omega arith in omega (arith, ap (λ (m : ℕ). sum (at m).received) z)
    sum-grows k (suc d) =
        let z : k + suc d ≡ k + d + 1 = omega arith in
        omega (arith, ap (λ (m : ℕ). sum (at m).received) z, sum-grows k d, (sum_step (k + d)).0)

    sum-most : (k d : ℕ) → sum (at (k + d)).received ≤ sum (at k).received + d * quantum
    sum-most k zero = let z : k + 0 ≡ k = omega arith in omega (arith, ap (λ (m : ℕ). sum (at m).received) z)
    sum-most k (suc d) =
        let z : k + suc d ≡ k + d + 1 = omega arith in
        omega (arith, ap (λ (m : ℕ). sum (at m).received) z, sum-most k d, (sum_step (k + d)).1, suc-mul d quantum)

    -- The total is never exceeded.
    pub sum-within : (k : ℕ) → sum (at k).received ≤ total
    sum-within zero = omega (arith, ap (λ (P : Schedule). sum P.received) after-start, sum_zeros n)
    sum-within (suc k) = omega (arith, ap (λ (m : ℕ). sum (at m).received) (add-one k), (sum_step k).1, sum-within k)

    -- In turns of others a routine stays where it is.
    stays_on : (k d r : ℕ) → ((i : ℕ) → i < d → (at (k + i)).next ≡ r → ⊥) → get_or (at (k + d)).received r 0 ≡ get_or (at k).received r 0
    stays_on k zero r o = let z : k + 0 ≡ k = omega arith in ap (λ (m : ℕ). get_or (at m).received r 0) z
    stays_on k (suc d) r o =
        let z : k + suc d ≡ k + d + 1 = omega arith in
        ap (λ (m : ℕ). get_or (at m).received r 0) z ∙ ap (λ (l : List ℕ). get_or l r 0) (after-received (k + d))
        ∙ served-other (at (k + d)).received (at (k + d)).next r (λ e. o d (omega arith) (sym e)) ∙ stays_on k d r (λ i l. o i (omega arith))

    -- ---- THE THEOREM ABOUT THE TURNS

    module _ (quanta : 1 ≤ quantum) where
      again : (k r d : ℕ) → r < n → d < n → (at (k + d)).next ≡ r → ((i : ℕ) → i < d → (at (k + i)).next ≡ r → ⊥) → ServedAgain R quantum total k r
      again k r d l m e o =
          let s : get_or (at (k + d)).received r 0 ≡ get_or (at k).received r 0 = stays_on k d r o in
          record {
            turns = d;
            few = m;
            its_own = e;
            of_others = o;
            at_most =
                let x : d ≤ n - 1 = omega arith in
                let y : quantum ≤ quantum = omega arith in
                let u : d * quantum ≤ (n - 1) * quantum = mul-le-mul x y in
                omega (arith, sum-most k d);
            stays = s;
            serves = λ w t. omega (
              arith,
              serves-it (at (k + d)).received r (after-long (k + d)) l quanta (ap (R.waits r) s ∙ w) t,
              ap (λ (x : List ℕ). get_or x r 0) (after-received (k + d) ∙ ap (turn (at (k + d)).received) e),
            );
          }

      pub served-again : (k r : ℕ) → r < n → ServedAgain R quantum total k r
      served-again k r l =
          let w = after-within k in
          by_order r (at k).next
          (λ u. again k r (r + n - (at k).next) l (omega arith) (omega (arith, (round k (r + n - (at k).next) (omega arith)).1 (omega arith)))
          (λ i v e. by_order ((at k).next + i) n (λ x. omega (arith, (round k i (omega arith)).0 x)) (λ x. omega (arith, (round k i (omega arith)).1 x))))
          (λ u. again k r (r - (at k).next) l (omega arith) (omega (arith, (round k (r - (at k).next) (omega arith)).0 (omega arith)))
          (λ i v e. by_order ((at k).next + i) n (λ x. omega (arith, (round k i (omega arith)).0 x)) (λ x. omega (arith, (round k i (omega arith)).1 x))))

      -- ---- where nobody can be served any more

      abbrev Resting : List ℕ → Type 0
      Resting s = (r : ℕ) → r < n → turn s r ≡ s

      resting-on : (k d : ℕ) → Resting (at k).received → (at (k + d)).received ≡ (at k).received
      resting-on k zero h = let z : k + 0 ≡ k = omega arith in ap (λ (m : ℕ). (at m).received) z
      resting-on k (suc d) h =
          let z : k + suc d ≡ k + d + 1 = omega arith in
          let e = resting-on k d h in
          ap (λ (m : ℕ). (at m).received) z ∙ after-received (k + d) ∙ ap (λ (s : List ℕ). turn s (at (k + d)).next) e
          ∙ h (at (k + d)).next (after-within (k + d))

      -- A round in which nothing is received.
      pub idle-round : (k : ℕ) → ((i : ℕ) → i ≤ n → (at (k + i)).received ≡ (at k).received) → Resting (at k).received
      idle-round k h r l =
          let a = served-again k r l in
          let q : k + a.turns + 1 ≡ k + (a.turns + 1) = omega arith in
          ap (λ (s : List ℕ). turn s r) (sym (h a.turns (omega (arith, a.few)))) ∙ ap (turn (at (k + a.turns)).received) (sym a.its_own)
          ∙ sym (after-received (k + a.turns)) ∙ ap (λ (m : ℕ). (at m).received) q ∙ h (a.turns + 1) (omega (arith, a.few))

      abbrev AllEnded : List ℕ → Type 0
      AllEnded s = (r : ℕ) → r < n → R.waits r (get_or s r 0) ≡ false

      ended-rests : (s : List ℕ) → AllEnded s → Resting s
      ended-rests s h r l = served-ended s r (h r l)

      some-waits : (s : List ℕ) (m : ℕ) → ((r : ℕ) → r < m → R.waits r (get_or s r 0) ≡ false) ⊎ ((r : ℕ) × (r < m) × (R.waits r (get_or s r 0) ≡ true))
      some-waits s zero = inl (λ r l. absurd (omega arith))
      some-waits s (suc m) = go (R.waits m (get_or s m 0)) refl (some-waits s m)
        where
          last : R.waits m (get_or s m 0) ≡ false → ((r : ℕ) → r < m → R.waits r (get_or s r 0) ≡ false) → (r : ℕ) → r < suc m → R.waits r (get_or s r 0)
              ≡ false
          last w h r l = by_order r m (λ u. h r u) (λ u. let e : r ≡ m = omega arith in rw e w)

          go : (b : Bool) → R.waits m (get_or s m 0) ≡ b
              → ((r : ℕ) → r < m → R.waits r (get_or s r 0) ≡ false) ⊎ ((r : ℕ) × (r < m) × (R.waits r (get_or s r 0) ≡ true))
              → ((r : ℕ) → r < suc m → R.waits r (get_or s r 0) ≡ false) ⊎ ((r : ℕ) × (r < suc m) × (R.waits r (get_or s r 0) ≡ true))
          go true w x = inr (m, omega arith, w)
          go false w (inl h) = inl (last w h)
          go false w (inr (r, l, v)) = inr (r, omega arith, v)

      -- In n turns at least one step is made, where one waits and the total has not run out.
      round-makes : (k r : ℕ) → r < n → R.waits r (get_or (at k).received r 0) ≡ true
          → (sum (at k).received < sum (at (k + n)).received) ⊎ (total ≤ sum (at (k + n)).received)
      round-makes k r l w =
          let a = served-again k r l in
          let d = a.turns in
          let z : k + d + 1 + (n - (d + 1)) ≡ k + n = omega (arith, a.few) in
          let grown : sum (at (k + d + 1)).received ≤ sum (at (k + n)).received =
          omega (arith, sum-grows (k + d + 1) (n - (d + 1)), ap (λ (m : ℕ). sum (at m).received) z) in
          by_order (sum (at (k + d)).received) total
          (λ u. let x = served-both (at (k + d)).received r (omega (arith, after-long (k + d))) in
          let e = after-received (k + d) ∙ ap (turn (at (k + d)).received) a.its_own in
          inl (omega (arith, a.serves w u, a.stays, x, ap sum e, ap (λ (s : List ℕ). get_or s r 0) e, sum-grows k d)))
          (λ u. inr (omega (arith, (sum_step (k + d)).0)))

      rounds : (j : ℕ) → AllEnded (at (n * j)).received ⊎ ((total ≤ sum (at (n * j)).received) ⊎ (j ≤ sum (at (n * j)).received))
      rounds zero = inr (inr (omega arith))
      rounds (suc j) = go (rounds j)
        where
          z : n * suc j ≡ n * j + n
          z = mul-suc n j

          carried : AllEnded (at (n * j)).received → AllEnded (at (n * suc j)).received
          carried h r l = ap (λ (m : ℕ). R.waits r (get_or (at m).received r 0)) z
              ∙ ap (λ (s : List ℕ). R.waits r (get_or s r 0)) (resting-on (n * j) n (ended-rests (at (n * j)).received h)) ∙ h r l

          more : (sum (at (n * j)).received < sum (at (n * j + n)).received) ⊎ (total ≤ sum (at (n * j + n)).received) → j ≤ sum (at (n * j)).received
              → AllEnded (at (n * suc j)).received ⊎ ((total ≤ sum (at (n * suc j)).received) ⊎ (suc j ≤ sum (at (n * suc j)).received))
          more (inl u) l = inr (inr (omega (arith, ap (λ (m : ℕ). sum (at m).received) z)))
          more (inr u) l = inr (inl (omega (arith, ap (λ (m : ℕ). sum (at m).received) z)))

          by : ((r : ℕ) → r < n → R.waits r (get_or (at (n * j)).received r 0) ≡ false) ⊎ ((r : ℕ) × (r < n)
              × (R.waits r (get_or (at (n * j)).received r 0) ≡ true))
              → j ≤ sum (at (n * j)).received
              → AllEnded (at (n * suc j)).received ⊎ ((total ≤ sum (at (n * suc j)).received) ⊎ (suc j ≤ sum (at (n * suc j)).received))
          by (inl h) l = inl (carried h)
          by (inr (r, b, w)) l = more (round-makes (n * j) r b w) l

          go : AllEnded (at (n * j)).received ⊎ ((total ≤ sum (at (n * j)).received) ⊎ (j ≤ sum (at (n * j)).received))
              → AllEnded (at (n * suc j)).received ⊎ ((total ≤ sum (at (n * suc j)).received) ⊎ (suc j ≤ sum (at (n * suc j)).received))
          go (inl h) = inl (carried h)
          go (inr (inl u)) = inr (inl (omega (arith, ap (λ (m : ℕ). sum (at m).received) z, sum-grows (n * j) n)))
          go (inr (inr u)) = by (some-waits (at (n * j)).received n) u

      -- In the end each has ended, or the total is used.
      pub all-served : AllServed R quantum total
      unfolding received
      all-served = go (rounds total)
        where
          go : AllEnded (at (n * total)).received ⊎ ((total ≤ sum (at (n * total)).received) ⊎ (total ≤ sum (at (n * total)).received))
              → AllEnded (at (n * total)).received ⊎ (sum (at (n * total)).received ≡ total)
          go (inl h) = inl h
          go (inr (inl u)) = inr (omega (arith, sum-within (n * total)))
          go (inr (inr u)) = inr (omega (arith, sum-within (n * total)))

      -- ---- what a dispatcher's loop asks: it may end after an idle round, or after all turns

      pub idle-none : (k : ℕ) → Idle R quantum total k 0
      idle-none k = record { within = omega arith; same = λ i l. let z : k - 0 + i ≡ k = omega arith in ap (λ (m : ℕ). (at m).received) z }

      pub idle-more : (k idle : ℕ) → Idle R quantum total k idle → sum (at (k + 1)).received ≡ sum (at k).received → Idle R quantum total (k + 1) (idle + 1)
      idle-more k idle h e =
          let f : (at (k + 1)).received ≡ (at k).received =
          after-received k ∙ served-none (at k).received (at k).next (inside k) (ap sum (sym (after-received k)) ∙ e) in
          record {
            within = omega (arith, h.within);
            same = λ i l. by_order i (idle + 1)
                (λ u. let z : k + 1 - (idle + 1) + i ≡ k - idle + i = omega arith in ap (λ (m : ℕ). (at m).received) z ∙ h.same i (omega arith) ∙ sym f)
                (λ u. let z : k + 1 - (idle + 1) + i ≡ k + 1 = omega (arith, h.within) in ap (λ (m : ℕ). (at m).received) z);
          }

      pub idle-ends : (k idle : ℕ) → Idle R quantum total k idle → n ≤ idle → k ≤ n * total → (at k).received ≡ received R quantum total
      unfolding received
      idle-ends k idle h l m =
          let b = k - idle in
          let z : b + idle ≡ k = omega (arith, h.within) in
          let first : (at b).received ≡ (at k).received = let y : b + 0 ≡ b = omega arith in ap (λ (m : ℕ). (at m).received) (sym y) ∙ h.same 0 (omega arith) in
          let rest : Resting (at k).received = rw (← first) (idle-round b (λ i u. h.same i (omega arith) ∙ sym first)) in
          let y : k + (n * total - k) ≡ n * total = omega arith in
          sym (resting-on k (n * total - k) rest) ∙ ap (λ (m : ℕ). (at m).received) y

      pub turns-end : (k : ℕ) → k ≡ n * total → (at k).received ≡ received R quantum total
      unfolding received
      turns-end k e = ap (λ (m : ℕ). (at m).received) e
