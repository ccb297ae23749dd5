-- Laws of the entry, in the words of the code.
use Prim.Native.Nat.{ℕ, zero, suc, ◌+◌, ◌-◌, ◌*◌, ◌<◌, ◌≤◌}
use Rattle.std.specs.Prelude.{◌≡◌, refl, Bool, true, false, ◌&&◌, not, ◌||◌, List, [], ◌∷◌, ◌++◌, leb, eqb, length, get_or, Err, Ok, Result, cond, ltb}
use Rattle.std.proofs.Common.{sym, ◌∙◌, sub-one, arith, eqb-true, eq-eqb, ne_eqb, lt-ltb, le-ltb}
use Rattle.std.proofs.lemmas.Bool.{eqb-false}
use Rattle.sums.specs.Numbers.{bias}
use Rattle.answers.specs.declared.refusals.Refusal.{Refusal}
use Rattle.answers.specs.declared.refusals.Refusal.TheVariants.{MemorySize, DirectoryPair, EntryLengths, EntryValue, LastCell}
use Rattle.words.specs.declared.sections.Sections.{Sections}
use Rattle.table.specs.Form.{lowest_from}
use Rattle.rules.specs.BoundsRules.{is_string, is_terminated, upper_limit}
use Rattle.rules.specs.declared.Environment.{Environment}
use Rattle.machine.specs.Machine.{origin_holds}
use Rattle.entry.specs.Entry.{memory_right, end_before, pair_right, lengths_right, entry_right, cons_unless, failures, entry_refusals, last_right}
use Rattle.entry.specs.Entered.{entered}

-- ---- the memory

never : (b : Bool) → false ≡ (b && false)
never true = refl
never false = refl

pub pairs-too-few : (h : Sections) (D cs : List ℕ) → length D < h.objects → false ≡ memory_right h D cs
unfolding memory_right
pairs-too-few h D cs p = rw (ne_eqb (length D) (2 * h.objects) (λ e. omega arith)) (never (leb (length cs) 16777216))

-- n is twice o.
twice : (n o : ℕ) → o ≤ n → eqb (n - o) o ≡ eqb n (2 * o)
twice n o p = go (eqb n (2 * o)) (eqb-true n (2 * o)) (eqb-false n (2 * o))
  where
    go : (b : Bool) → (b ≡ true → n ≡ 2 * o) → (b ≡ false → n ≡ 2 * o → ⊥) → eqb (n - o) o ≡ b
    go true f g = let e = f refl in eq-eqb (n - o) o (omega arith)
    go false f g = ne_eqb (n - o) o (λ (e : n - o ≡ o). g refl (omega arith))

pub pairs-counted : (h : Sections) (D cs : List ℕ) → h.objects ≤ length D
    → (leb (length cs) 16777216 && eqb (length D - h.objects) h.objects) ≡ memory_right h D cs
unfolding memory_right
pairs-counted h D cs p = rw (twice (length D) h.objects p)

pub right-pairs : (h : Sections) (D cs : List ℕ) → memory_right h D cs ≡ true → length D ≡ 2 * h.objects
unfolding memory_right
right-pairs h D cs e = go (leb (length cs) 16777216) (eqb (length D) (2 * h.objects)) (eqb-true (length D) (2 * h.objects)) e
  where
    go : (a b : Bool) → (b ≡ true → length D ≡ 2 * h.objects) → (a && b) ≡ true → length D ≡ 2 * h.objects
    go true b f e = f e
    go false b f e = let z : ◌≡◌ {A = ℕ} 0 1 = cc in absurd (omega arith)

pub end-before : (D : List ℕ) (o : ℕ) → (o ≡ 0 → ⊥) → get_or D (2 * (o - 1)) 0 + get_or D (2 * (o - 1) + 1) 0 ≡ end_before D o
unfolding end_before
end-before D zero p = absurd (p refl)
end-before D (suc o) p = rw (sub-one (suc o))

pub end-before-first : (D : List ℕ) (o : ℕ) → o ≡ 0 → 1 ≡ end_before D o
unfolding end_before
end-before-first D o e = rw e

pub origin-none : (E : Environment) (D : List ℕ) (p o l u : ℕ) → o ≡ 0 → false ≡ origin_holds E D p o l u
unfolding origin_holds
origin-none E D p o l u e = rw e

pub origin-past : (E : Environment) (D : List ℕ) (p o l u : ℕ) → (o ≡ 0 → ⊥) → length D ≤ 2 * (o - 1) + 1 → false ≡ origin_holds E D p o l u
unfolding origin_holds
origin-past E D p zero l u q h = absurd (q refl)
origin-past E D p (suc o) l u q h = let e : length D ≤ 2 * o + 1 = rw (sub-one (suc o)) at h in rw (le-ltb (2 * o + 1) (length D) e)

pub origin-some : (E : Environment) (D : List ℕ) (p o l u : ℕ) → (o ≡ 0 → ⊥) → 2 * (o - 1) + 1 < length D
    → ((not (is_string E p) || is_terminated E (o - 1)) && leb (get_or D (2 * (o - 1)) 0 + bias) l
    && leb u (upper_limit (is_terminated E (o - 1)) (get_or D (2 * (o - 1)) 0 + get_or D (2 * (o - 1) + 1) 0) + bias)) ≡ origin_holds E D p o l u
unfolding origin_holds
origin-some E D p zero l u q h = absurd (q refl)
origin-some E D p (suc o) l u q h = let e : 2 * o + 1 < length D = rw (sub-one (suc o)) at h in rw (sub-one (suc o), lt-ltb (2 * o + 1) (length D) e)

-- ---- the first that fails

module _ (right : ℕ → Bool) (r : ℕ → Refusal) where
  from-first : (n i m : ℕ) → m ≡ i + n
      → entered (cond (ltb (lowest_from right i n) m) (r (lowest_from right i n) ∷ []) []) ≡ entered (failures right r n i)
  unfolding failures entered lowest_from
  from-first zero i m e = rw (le-ltb i m (omega arith))
  from-first (suc n) i m e = go (right i) (from-first n (i + 1) m (omega arith))
    where
      go : (b : Bool) → entered (cond (ltb (lowest_from right (i + 1) n) m) (r (lowest_from right (i + 1) n) ∷ []) []) ≡ entered (failures right r n (i + 1))
          → entered (cond (ltb (cond b (lowest_from right (i + 1) n) i) m) (r (cond b (lowest_from right (i + 1) n) i) ∷ []) [])
          ≡ entered (cons_unless b (r i) (failures right r n (i + 1)))
      go true later = later
      go false later = rw (lt-ltb i m (omega arith))

  -- The lowest number at which the test fails is the first failure.
  pub first-failure : (n : ℕ) {found : ℕ} → found ≡ lowest_from right 0 n → entered (cond (ltb found n) (r found ∷ []) []) ≡ entered (failures right r n 0)
  first-failure n e = rw e (from-first n 0 n (omega arith))

pub begun-none : (rs : List Refusal) → entered rs ≡ Ok tt → rs ≡ []
unfolding entered
begun-none [] e = refl
begun-none (r ∷ rs) e = let z : ◌≡◌ {A = ℕ} 0 1 = cc in absurd (omega arith)

pub refused-first : (rs qs : List Refusal) (v : Refusal) → entered rs ≡ Err v → entered rs ≡ entered (rs ++ qs)
unfolding entered
refused-first [] qs v e = let z : ◌≡◌ {A = ℕ} 0 1 = cc in absurd (omega arith)
refused-first (r ∷ rs) qs v e = refl

-- ---- the causes in their order

module _ (h : Sections) (E : Environment) (D cs vs os : List ℕ) where
  abbrev pairs : List Refusal
  pairs = failures (pair_right E D cs) DirectoryPair h.objects 0

  pub enter-memory : memory_right h D cs ≡ false → Err MemorySize ≡ entered (entry_refusals h E D cs vs os)
  unfolding entry_refusals entered
  enter-memory e = rw e

  module _ (m : memory_right h D cs ≡ true) where
    pub enter-pairs : (r : Result (Unit {0}) Refusal) (v : Refusal) → r ≡ entered pairs → r ≡ Err v → r ≡ entered (entry_refusals h E D cs vs os)
    unfolding entry_refusals
    enter-pairs r v e g = rw m (e ∙ refused-first pairs _ v (sym e ∙ g))

    module _ (p : entered pairs ≡ Ok tt) where
      pub enter-lengths : lengths_right h vs os ≡ false → Err EntryLengths ≡ entered (entry_refusals h E D cs vs os)
      unfolding entry_refusals entered
      enter-lengths l = rw (m, begun-none pairs p, l)

      module _ (l : lengths_right h vs os ≡ true) where
        abbrev values : List Refusal
        values = failures (entry_right E D vs os) EntryValue h.variables 0

        pub enter-values : (r : Result (Unit {0}) Refusal) (v : Refusal) → r ≡ entered values → r ≡ Err v → r ≡ entered (entry_refusals h E D cs vs os)
        unfolding entry_refusals
        enter-values r v e g = rw (m, begun-none pairs p, l) (e ∙ refused-first values _ v (sym e ∙ g))

        pub enter-last : (r : Result (Unit {0}) Refusal) → entered values ≡ Ok tt → r ≡ entered (failures (last_right E D cs) LastCell h.objects 0)
            → r ≡ entered (entry_refusals h E D cs vs os)
        unfolding entry_refusals
        enter-last r b e = rw (m, begun-none pairs p, l, begun-none values b) e
