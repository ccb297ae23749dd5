-- A callee as the check sees it: its signature; and the rules of calls over the fact store.
use Rattle.std.specs.Prelude.{ℕ, zero, suc, ◌+◌, ◌-◌, ◌≤◌, ◌<◌, min, ◌≡◌, Bool, true, false, not, ◌&&◌, cond, List, [], ltb, eqb, ℤ, length, Err, Ok, Result}
use Rattle.std.proofs.Math.Path.{refl, sym, ap, ap₂}
use Rattle.std.proofs.Common.{◌∙◌, arith, lt-ltb, le-ltb, ltb-true, ltb-false}
use Rattle.std.proofs.Math.ListN.{get_or-eq_default}
use Rattle.arrays.specs.Tabulate.{tabulate}
use Rattle.arrays.specs.TabulateLaws.{get_d_tabulate, length-tabulate}
use Rattle.parts.specs.Parts.{part_of, span_of, between}
use Rattle.parts.specs.PartsLaws.{between-part}
use Rattle.parts.specs.declared.Span.{Span}
use Rattle.answers.specs.declared.refusals.Refusal.TheVariants.{Callee, Arguments}
use Rattle.blocks.specs.Layout.{also, when}
use Rattle.sums.specs.Numbers.{zero_var}
use Rattle.facts.specs.declared.FactSet.{FactSet}
use Rattle.statements.specs.declared.CallSite.{CallSite}
use Rattle.rules.specs.Calls as calls
use Rattle.rules.specs.Calls.{Routine, no_routine, routine_at, argument, result_effect, result_facts}
use Rattle.rules.specs.Sets.{routine_of}
use Rattle.rules.specs.Rules.{bounds_at}
use Rattle.bounds.specs.Touched.{seen_as}
use Rattle.bounds.specs.declared.touched.Seen.{Seen}
use Rattle.rules.specs.Stored.{store, call_faults, unshown, bounds_after}
use Rattle.answers.specs.declared.refusals.Refusal.{Refusal}
use Rattle.rules.specs.Verdict.{verdict_of}
use Rattle.rules.specs.Ranges.{Short}
use Rattle.rules.specs.declared.Effect.{Effect}
use Rattle.rules.specs.declared.Effect.TheVariants.{Keep, Forget}
use Rattle.declared.specs.ForceLaws.{none-refused, pass, refuse-part}
use Rattle.rules.specs.declared.Bounds.{Bounds}
use Rattle.rules.specs.declared.Environment.{Environment}
use Rattle.declared.specs.declared.calls.Kinds.{Kinds}
use Rattle.declared.specs.declared.calls.Signature.{Signature}

-- The environment that the rules ask of the caller: its kinds.
abbrev pub kinds_as : Kinds → Environment
kinds_as k = record { pointers = k.pointers; strings = k.strings; sizes = []; declared = []; lengths = []; terminated = []; spans = []; rows = [] }

-- The routine that the rules ask of the callee.
abbrev pub callee_as : Signature → Routine
callee_as s = record {
  table = [];
  sections = record { start = 6; objects = 0; variables = s.variables; statements = 0; rows = 0 };
  environment = record {
    pointers = s.pointers;
    strings = s.strings;
    sizes = [];
    declared = s.declared;
    lengths = [];
    terminated = [];
    spans = [];
    rows = [];
  };
}

abbrev pub bounds_fit : FactSet → List Bounds → Routine → CallSite → ℕ → Bool
bounds_fit = calls.bounds_fit store

abbrev pub argument_fits : Environment → FactSet → List Bounds → Routine → CallSite → ℕ → Bool
argument_fits = calls.argument_fits store

abbrev pub arguments_fit : Environment → FactSet → List Bounds → Routine → CallSite → Bool
arguments_fit = calls.arguments_fit store

-- The signature of a routine, and the kinds of a caller.
abbrev pub signature_of : Routine → Signature
signature_of r = record {
  variables = r.sections.variables;
  pointers = r.environment.pointers;
  strings = r.environment.strings;
  declared = r.environment.declared;
}

abbrev pub kinds_of : Environment → Kinds
kinds_of E = record { pointers = E.pointers; strings = E.strings }

-- Refusal 20 sees no more of the caller and the callee.
pub signature-fits : (E : Environment) (f : FactSet) (K : List Bounds) (r : Routine) (c : CallSite)
    → arguments_fit (kinds_as (kinds_of E)) f K (callee_as (signature_of r)) c ≡ arguments_fit E f K r c
unfolding calls.arguments_fit calls.argument_fits calls.bounds_fit calls.kind_fits calls.last_integer
signature-fits E f K r c = refl

-- The callee's variables from number 4 on take no argument.
pub argument-past : (c : CallSite) (j : ℕ) → (j ≡ 0 → ⊥) → (j ≡ 1 → ⊥) → (j ≡ 2 → ⊥) → (j ≡ 3 → ⊥) → zero_var ≡ argument c j
argument-past c zero p q r s = absurd (p refl)
argument-past c (suc zero) p q r s = absurd (q refl)
argument-past c (suc (suc zero)) p q r s = absurd (r refl)
argument-past c (suc (suc (suc zero))) p q r s = absurd (s refl)
argument-past c (suc (suc (suc (suc j)))) p q r s = refl

-- Refusal 20 sees the caller's kinds alone.
kinds-fit : (E : Environment) (f : FactSet) (K : List Bounds) (r : Routine) (c : CallSite) → arguments_fit (kinds_as (kinds_of E)) f K r c
    ≡ arguments_fit E f K r c
unfolding calls.arguments_fit calls.argument_fits calls.bounds_fit calls.kind_fits
kinds-fit E f K r c = refl

-- The routines that a routine may call, at most 8: their tables stand in the lent words W, one after the other, and L are their lengths.
abbrev pub callee_in : List ℤ → List ℕ → ℕ → Routine
callee_in W L n = routine_of (part_of L 1 0 n W)

unfoldable pub callees_in : List ℤ → List ℕ → List Routine
callees_in W L = tabulate (min (length L) 8) (callee_in W L)

-- What a call is refused by: 19, 20, then its own 8, where what is seen is in force.
unfoldable pub call_checked : List Routine → Environment → Seen → ℕ → CallSite → FactSet → List Refusal
call_checked callees E s a c f =
    also (call_faults callees E a c f s.declared)
    (bounds_at a (unshown (seen_as s) (result_facts store c f) (bounds_after (result_effect c) s.declared)))

pub result-short : (c : CallSite) {e : Effect} → e ≡ result_effect c → Short e
unfolding result_effect
result-short c h = rw h (go (eqb c.result zero_var))
  where
    go : (b : Bool) → Short (cond b Keep (Forget c.result))
    go true = tt
    go false = tt

module _ (E : Environment) (rs : List Routine) (s : Seen) (a : ℕ) (c : CallSite) (f : FactSet) {K : List Bounds} (k : K ≡ s.declared)
    {v : Result (Unit {0}) Refusal} (e : v ≡ verdict_of (call_faults rs E a c f K)) where
  own : v ≡ verdict_of (call_faults rs E a c f s.declared)
  own = e ∙ ap (λ (L : List Bounds). verdict_of (call_faults rs E a c f L)) k

  pub checked_refused : {r : Refusal} → v ≡ Err r → v ≡ verdict_of (call_checked rs E s a c f)
  unfolding call_checked
  checked_refused q = (refuse-part _ _ own q).0

  pub checked-through : {g : FactSet} {x : Effect} {w : Result (Unit {0}) Refusal} → v ≡ Ok tt → g ≡ result_facts store c f → x ≡ result_effect c
      → w ≡ verdict_of (bounds_at a (unshown (seen_as s) g (bounds_after x s.declared))) → w ≡ verdict_of (call_checked rs E s a c f)
  unfolding call_checked
  checked-through q g x z =
      z ∙ (ap₂ (λ (i : FactSet) (j : Effect). verdict_of (bounds_at a (unshown (seen_as s) i (bounds_after j s.declared)))) g x
      ∙ ap verdict_of (sym (pass _ _ (none-refused _ own q))))

module _ (W : List ℤ) (L : List ℕ) where
  length-callees : length (callees_in W L) ≡ min (length L) 8
  unfolding callees_in
  length-callees = length-tabulate (min (length L) 8) (callee_in W L)

  callee_at : (n : ℕ) → n < length L → n < 8 → routine_at (callees_in W L) n ≡ callee_in W L n
  unfolding callees_in
  callee_at n l k = get_d_tabulate (min (length L) 8) (callee_in W L) n no_routine (omega arith)

  pub none-called : length L ≡ 0 → callees_in W L ≡ []
  unfolding callees_in tabulate
  none-called e = rw e refl

  -- The refusals of a call, as the code finds them.
  module _ (E : Environment) (f : FactSet) (K : List Bounds) (c : CallSite) (a : ℕ) where
    callee-missing : length (callees_in W L) ≤ c.callee → Err (Callee a) ≡ verdict_of (call_faults (callees_in W L) E a c f K)
    unfolding calls.call_faults also when verdict_of
    callee-missing l = rw (le-ltb c.callee (length (callees_in W L)) l)

    pub callee-high : 8 ≤ c.callee → Err (Callee a) ≡ verdict_of (call_faults (callees_in W L) E a c f K)
    callee-high l = callee-missing (omega (arith, length-callees))

    pub callee-absent : length L ≤ c.callee → Err (Callee a) ≡ verdict_of (call_faults (callees_in W L) E a c f K)
    callee-absent l = callee-missing (omega (arith, length-callees))

    module _ (below : c.callee < length L) (few : c.callee < 8) {k : Kinds} (h : k ≡ kinds_of E) {y : Signature} {t : Span}
        (p : t ≡ span_of L 1 0 c.callee (length W)) (g : y ≡ signature_of (routine_of (between t W)))
        {b : Bool} (e : b ≡ arguments_fit (kinds_as k) f K (callee_as y) c) where
      known : ltb c.callee (length (callees_in W L)) ≡ true
      known = lt-ltb c.callee (length (callees_in W L)) (omega (arith, length-callees))

      fits : b ≡ arguments_fit E f K (routine_at (callees_in W L) c.callee) c
      fits = e ∙ (ap₂ (λ (x : Kinds) (z : Signature). arguments_fit (kinds_as x) f K (callee_as z) c) h
          (g ∙ (ap (λ (x : Span). signature_of (routine_of (between x W))) p
          ∙ ap (λ (U : List ℤ). signature_of (routine_of U)) (between-part L 1 0 c.callee (length W) W refl)))
          ∙ (signature-fits E f K (callee_in W L c.callee) c ∙ ap (λ (r : Routine). arguments_fit E f K r c) (sym (callee_at c.callee below few))))

      pub arguments-refused : b ≡ false → Err (Arguments a) ≡ verdict_of (call_faults (callees_in W L) E a c f K)
      unfolding calls.call_faults also when verdict_of
      arguments-refused q = rw (known, sym fits ∙ q)

      pub call_passes : b ≡ true → Ok tt ≡ verdict_of (call_faults (callees_in W L) E a c f K)
      unfolding calls.call_faults also when verdict_of
      call_passes q = rw (known, sym fits ∙ q)

-- Signatures are enough for 19 and 20.
module _ (rs qs : List Routine) (same : length rs ≡ length qs) (each : (n : ℕ) → n < length qs
    → signature_of (routine_at rs n) ≡ signature_of (routine_at qs n)) where
  pub signed-faults : (E : Environment) (f : FactSet) (K : List Bounds) (c : CallSite) (a : ℕ) → call_faults rs E a c f K ≡ call_faults qs E a c f K
  unfolding calls.call_faults
  signed-faults E f K c a =
      ap₂ (λ (n : ℕ) (b : Bool). also (when (not (ltb c.callee n)) (Callee a)) (when (not b) (Arguments a))) same (go (ltb c.callee (length qs)) refl)
    where
      fit : (r : Routine) → arguments_fit E f K r c ≡ arguments_fit (kinds_as (kinds_of E)) f K (callee_as (signature_of r)) c
      fit r = sym (signature-fits E f K r c)

      go : (b : Bool) → ltb c.callee (length qs) ≡ b
          → arguments_fit E f K (routine_at rs c.callee) c ≡ arguments_fit E f K (routine_at qs c.callee) c
      go true q =
          let l : c.callee < length qs = ltb-true c.callee (length qs) q in
          fit (routine_at rs c.callee) ∙ (ap (λ (z : Signature). arguments_fit (kinds_as (kinds_of E)) f K (callee_as z) c) (each c.callee l)
          ∙ sym (fit (routine_at qs c.callee)))
      go false q =
          let l : length qs ≤ c.callee = ltb-false c.callee (length qs) q in
          let x : routine_at rs c.callee ≡ no_routine = get_or-eq_default rs no_routine {n = c.callee} (omega (arith, l, same)) in
          let y : routine_at qs c.callee ≡ no_routine = get_or-eq_default qs no_routine {n = c.callee} l in
          ap (λ (r : Routine). arguments_fit E f K r c) (x ∙ sym y)
