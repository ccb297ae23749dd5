-- Refusals whose place and pointer are 32-bit numbers, as the words of an answer are.
use Rattle.std.specs.Prelude.{ℕ, ◌^◌, ◌<◌, ◌≡◌, refl, Bool, true, false, List, [], ◌∷◌, Err, Ok, Result}
use Rattle.std.proofs.Common.{arith}
use Rattle.answers.specs.Refusals.{place, pointer}
use Rattle.answers.specs.declared.refusals.Refusal.{Refusal}
use Rattle.blocks.specs.Layout.{also, when}
use Rattle.rules.specs.Verdict.{Reading, accepted, refused, verdict_reads, verdict_of}

pub record RefusalSmall (f : Refusal) : Type 0 where
  pub place-small : place f < 2 ^ 32
  pub pointer-small : pointer f < 2 ^ 32

-- The first of the faults is. (What follows a fault may have any place: it leans on what the fault denies.)
pub record FirstSmall (fs : List Refusal) : Type 0 where
  pub small : (f : Refusal) (gs : List Refusal) → fs ≡ f ∷ gs → RefusalSmall f

-- What a verdict reads as is.
abbrev pub ReadingSmall : Reading → Type 0
ReadingSmall accepted = Unit {0}
ReadingSmall (refused n a p) = (a < 2 ^ 32) × (p < 2 ^ 32)

pub none-small : FirstSmall []
none-small = record { small = λ f gs e. let z : ◌≡◌ {A = ℕ} 0 1 = cc in absurd (omega arith) }

pub one-small : {f : Refusal} {fs : List Refusal} → RefusalSmall f → FirstSmall (f ∷ fs)
one-small {f} s = record { small = λ g gs e. let q : f ≡ g = cc in rw q at s }

first_small : (xs ys : List Refusal) → FirstSmall xs → (xs ≡ [] → FirstSmall ys) → FirstSmall (also xs ys)
unfolding also
first_small [] ys p q = q refl
first_small (x ∷ xs) ys p q = one-small (p.small x xs refl)

pub also-small : {xs ys : List Refusal} → FirstSmall xs → (xs ≡ [] → FirstSmall ys) → FirstSmall (also xs ys)
also-small {xs} {ys} p q = first_small xs ys p q

pub when-small : (b : Bool) {f : Refusal} → RefusalSmall f → FirstSmall (when b f)
unfolding when
when-small true p = one-small p
when-small false p = none-small

-- A verdict is that of the first fault.
pub verdict-small : (fs : List Refusal) (v : Result (Unit {0}) Refusal) → FirstSmall fs → v ≡ verdict_of fs → ReadingSmall (verdict_reads v)
unfolding verdict_of
verdict-small fs (Ok tt) s e = tt
verdict-small [] (Err r) s e = let z : ◌≡◌ {A = ℕ} 0 1 = cc in absurd (omega arith)
verdict-small (f ∷ fs) (Err r) s e =
    let q : f ≡ r = cc in
    let t : RefusalSmall r = rw q at (s.small f fs refl) in (t.place-small, t.pointer-small)
