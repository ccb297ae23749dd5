-- How a run answers at a point: what the answer tells of the point, and what the code's answer reads as.
use Rattle.std.specs.Prelude.{ℕ, ◌≤◌, ◌<◌, ◌≡◌, refl, ◌≢◌, Bool, true, false, cond, ltb}
use Rattle.std.proofs.Common.{ap, ap₂, arith, lt-ltb, le-ltb, ltb-true, ltb-false}
use Rattle.answers.specs.Answers.{reads}
use Rattle.answers.specs.Answers as says
use Rattle.answers.specs.declared.stops.Outcome.TheVariants.{Done, Spent}
use Rattle.words.specs.declared.sections.Sections.{Sections}
use Rattle.machine.specs.Machine.{Status, going, stopped, stuck}
use Rattle.interpreter.specs.NumberLaws.{number_of, statement-of}
use Rattle.interpreter.specs.Outcomes.{outcome_shown}
use Rattle.interpreter.specs.Claim.{answer_of}

pub never : {A : Type 0} → ◌≡◌ {A = ℕ} 0 1 → A
never z = absurd (omega arith)

pub going_done : (h : Sections) (s : Status) (steps due : ℕ) → s ≡ going → h.statements ≤ due → answer_of h s steps due ≡ says.done steps
going_done h s steps due e l = rw (e, le-ltb due h.statements l)

pub going-spent : (h : Sections) (s : Status) (steps due : ℕ) → s ≡ going → due < h.statements → answer_of h s steps due ≡ says.spent steps due
going-spent h s steps due e l = rw (e, lt-ltb due h.statements l)

-- The steps of a point that answers done, where no statement is due.
pub done-steps : (h : Sections) (s : Status) (steps due n : ℕ) → answer_of h s steps due ≡ says.done n → (h.statements ≤ due) × (steps ≡ n)
done-steps h going steps due n e = go (ltb due h.statements) refl e
  where
    go : (b : Bool) → ltb due h.statements ≡ b → cond b (says.spent steps due) (says.done steps) ≡ says.done n → (h.statements ≤ due) × (steps ≡ n)
    go true q e = let z : ◌≡◌ {A = ℕ} 0 1 = cc in never z
    go false q e = (ltb-false due h.statements q, cc)
done-steps h (stopped k) steps due n e = let z : ◌≡◌ {A = ℕ} 0 1 = cc in never z
done-steps h stuck steps due n e = let z : ◌≡◌ {A = ℕ} 0 1 = cc in never z

-- The steps, the statement and the check of a point that answers stopped.
pub stopped-steps : (h : Sections) (s : Status) (steps due n a k : ℕ) → s ≢ stuck → answer_of h s steps due ≡ says.stopped n a k
    → (s ≡ stopped k) × (steps ≡ n) × (due ≡ a)
stopped-steps h going steps due n a k u e = go (ltb due h.statements) e
  where
    go : (b : Bool) → cond b (says.spent steps due) (says.done steps) ≡ says.stopped n a k → (going ≡ stopped k) × (steps ≡ n) × (due ≡ a)
    go true e = let z : ◌≡◌ {A = ℕ} 0 1 = cc in never z
    go false e = let z : ◌≡◌ {A = ℕ} 0 1 = cc in never z
stopped-steps h (stopped j) steps due n a k u e = let q : j ≡ k = cc in (ap stopped q, cc, cc)
stopped-steps h stuck steps due n a k u e = absurd (u refl)

-- The steps of a point that answers spent.
pub spent-steps : (h : Sections) (s : Status) (steps due n a : ℕ) → answer_of h s steps due ≡ says.spent n a → (s ≡ going) × (due < h.statements) × (steps ≡ n)
spent-steps h going steps due n a e = go (ltb due h.statements) refl e
  where
    go : (b : Bool) → ltb due h.statements ≡ b → cond b (says.spent steps due) (says.done steps) ≡ says.spent n a
        → (going ≡ going) × (due < h.statements) × (steps ≡ n)
    go true q e = (refl, ltb-true due h.statements q, cc)
    go false q e = let z : ◌≡◌ {A = ℕ} 0 1 = cc in never z
spent-steps h (stopped k) steps due n a e = let z : ◌≡◌ {A = ℕ} 0 1 = cc in never z
spent-steps h stuck steps due n a e = let z : ◌≡◌ {A = ℕ} 0 1 = cc in never z

-- What the code's answer at a point reads as.
pub reads-shown : (h : Sections) (s : Status) (steps due : ℕ) → s ≢ stuck → ((n : ℕ) → s ≡ stopped n → (1 ≤ n) × (n ≤ 6))
    → reads (outcome_shown h s steps due) ≡ answer_of h s steps due
reads-shown h going steps due u five = go (ltb due h.statements)
  where
    go : (b : Bool) → reads (cond b (Spent steps due) (Done steps)) ≡ cond b (says.spent steps due) (says.done steps)
    go true = refl
    go false = refl
reads-shown h (stopped n) steps due u five =
    let k = five n refl in
    ap₂ (says.stopped steps) (statement-of n due) (number_of n due k.0 k.1)
reads-shown h stuck steps due u five = absurd (u refl)
