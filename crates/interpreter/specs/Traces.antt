-- Runs as sequences of states: a state that is going and where a statement is due has a next one, which is counted; any other stays. The laws of steps, for any
-- machine.
use Rattle.std.specs.Prelude.{ℕ, zero, suc, ◌+◌, ◌-◌, ◌≤◌, ◌<◌, ◌≡◌, refl, ◌≢◌, Bool, true, false}
use Rattle.std.proofs.Common.{sym, ap, ◌∙◌, arith, add-one}
use Rattle.std.proofs.lemmas.Bool.{false≢true}
use Rattle.machine.specs.Machine.{Status, going, stopped, stuck}

never : {A : Type 0} → ◌≡◌ {A = ℕ} 0 1 → A
never z = absurd (omega arith)

-- A run makes no more steps than it is allowed, and stands where it stood after those that it made.
pub record StepsMade {A : Type 0} (state : ℕ → A) (steps : A → ℕ) (t : ℕ) : Type 0 where
  pub at_most : steps (state t) ≤ t
  pub same : state (steps (state t)) ≡ state t

module _ {A : Type 0} (state : ℕ → A) (status : A → Status) (steps : A → ℕ) (due : A → Bool)
    (unstuck : (t : ℕ) → status (state t) ≢ stuck)
    (rests : (t : ℕ) → (status (state t) ≡ going → due (state t) ≡ false) → state (t + 1) ≡ state t)
    (counted : (t : ℕ) → status (state t) ≡ going → due (state t) ≡ true → steps (state (t + 1)) ≡ steps (state t) + 1) where
  -- A run that has ended stays where it is.
  rests-on : (t d : ℕ) → (status (state t) ≡ going → due (state t) ≡ false) → state (t + d) ≡ state t
  rests-on t zero k = let q : t + 0 ≡ t = omega arith in ap state q
  rests-on t (suc d) k =
      let q : t + suc d ≡ t + d + 1 = omega arith in
      let e = rests-on t d k in
      ap state q ∙ (rests (t + d) (λ g. ap due e ∙ k (sym (ap status e) ∙ g)) ∙ e)

  pub ended : (u t : ℕ) → t ≤ u → (status (state t) ≡ going → due (state t) ≡ false) → state u ≡ state t
  ended u t l k = let q : t + (u - t) ≡ u = omega arith in rw q at (rests-on t (u - t) k)

  pub stopped-rests : (t n : ℕ) → status (state t) ≡ stopped n → status (state t) ≡ going → due (state t) ≡ false
  stopped-rests t n e g = let q : stopped n ≡ going = sym e ∙ g in let z : ◌≡◌ {A = ℕ} 0 1 = cc in never z

  -- Steps are counted.
  by-due : (t : ℕ) → status (state t) ≡ going → (b : Bool) → due (state t) ≡ b → steps (state t) ≤ steps (state (t + 1))
  by-due t g true q = omega (arith, counted t g q)
  by-due t g false q = omega (arith, ap steps (rests t (λ e. q)))

  grows : (t : ℕ) → steps (state t) ≤ steps (state (t + 1))
  grows t = go (status (state t)) refl
    where
      go : (s : Status) → status (state t) ≡ s → steps (state t) ≤ steps (state (t + 1))
      go going e = by-due t e (due (state t)) refl
      go (stopped n) e = omega (arith, ap steps (rests t (stopped-rests t n e)))
      go stuck e = absurd (unstuck t e)

  grows-on : (t d : ℕ) → steps (state t) ≤ steps (state (t + d))
  grows-on t zero = let q : t + 0 ≡ t = omega arith in rw q (omega arith)
  grows-on t (suc d) = let q : t + suc d ≡ t + d + 1 = omega arith in rw q (omega (arith, grows-on t d, grows (t + d)))

  pub counts : (u t : ℕ) → t < u → status (state t) ≡ going → due (state t) ≡ true → steps (state t) < steps (state u)
  counts u t l g q =
      let e : t + 1 + (u - (t + 1)) ≡ u = omega arith in
      let k : steps (state (t + 1)) ≤ steps (state u) = rw e at (grows-on (t + 1) (u - (t + 1))) in
      omega (arith, k, counted t g q)

  -- A run that goes on has made t steps.
  pub all-counted : steps (state 0) ≡ 0 → (t : ℕ) → status (state t) ≡ going → due (state t) ≡ true → steps (state t) ≡ t
  all-counted z zero g q = z
  all-counted z (suc t) g q = rw (add-one t) at (next (all-counted z t) (rw (← add-one t) at g) (rw (← add-one t) at q))
    where
      next : (status (state t) ≡ going → due (state t) ≡ true → steps (state t) ≡ t) → status (state (t + 1)) ≡ going → due (state (t + 1)) ≡ true
          → steps (state (t + 1)) ≡ t + 1
      next ih g q = go (status (state t)) refl
        where
          there : status (state t) ≡ going → (b : Bool) → due (state t) ≡ b → steps (state (t + 1)) ≡ t + 1
          there e true p = omega (arith, counted t e p, ih e p)
          there e false p = absurd (false≢true (sym p ∙ (sym (ap due (rests t (λ x. p))) ∙ q)))

          go : (s : Status) → status (state t) ≡ s → steps (state (t + 1)) ≡ t + 1
          go going e = there e (due (state t)) refl
          go (stopped n) e =
              let x : going ≡ stopped n = sym g ∙ (ap status (rests t (stopped-rests t n e)) ∙ e) in
              let z : ◌≡◌ {A = ℕ} 0 1 = cc in
              never z
          go stuck e = absurd (unstuck t e)

  pub steps-made : steps (state 0) ≡ 0 → (t : ℕ) → StepsMade state steps t
  steps-made z zero = record { at_most = omega (arith, z); same = ap state z }
  steps-made z (suc t) = rw (add-one t) at (go (steps-made z t) (status (state t)) refl)
    where
      stayed : StepsMade state steps t → state (t + 1) ≡ state t → StepsMade state steps (t + 1)
      stayed m e =
          let q : steps (state (t + 1)) ≡ steps (state t) = ap steps e in
          record { at_most = omega (arith, q, m.at_most); same = ap state q ∙ (m.same ∙ sym e) }

      there : StepsMade state steps t → status (state t) ≡ going → (b : Bool) → due (state t) ≡ b → StepsMade state steps (t + 1)
      there m g true p =
          let q : steps (state (t + 1)) ≡ t + 1 = omega (arith, counted t g p, all-counted z t g p) in
          record { at_most = omega (arith, q); same = ap state q }
      there m g false p = stayed m (rests t (λ e. p))

      go : StepsMade state steps t → (s : Status) → status (state t) ≡ s → StepsMade state steps (t + 1)
      go m going e = there m e (due (state t)) refl
      go m (stopped n) e = stayed m (rests t (stopped-rests t n e))
      go m stuck e = absurd (unstuck t e)
