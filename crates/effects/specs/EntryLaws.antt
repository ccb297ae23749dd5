-- The entries of a loop, asked and assumed one after the other.
use Prim.Native.Nat.{ℕ, zero, suc, ◌+◌, ◌-◌, ◌≤◌, ◌<◌}
use Rattle.std.specs.Prelude.{◌≡◌, Bool, not, cond, List, [], ◌∷◌, ℤ, ltb, Err, Ok, Result}
use Rattle.std.proofs.Math.Path.{refl, sym, ap}
use Rattle.std.proofs.Common.{◌∙◌}
use Rattle.std.proofs.Math.Bool.{true, false}
use native.Mathlib.Omega.{arith}
use borrow.Author.Tests.{lt-ltb, le-ltb}
use Rattle.answers.specs.declared.refusals.Refusal.{Refusal}
use Rattle.answers.specs.declared.refusals.Refusal.TheVariants.{LoopFact}
use Rattle.facts.specs.Store.{shown, added}
use Rattle.facts.specs.declared.FactSet.{FactSet}
use Rattle.table.specs.Form.{lowest_from}
use Rattle.blocks.specs.Layout.{also, when}
use Rattle.listed.specs.Entries.{belongs, entry_at, entry_if, entries_from, entries_of, entry_count}
use Rattle.listed.specs.declared.Entry.{Entry}
use Rattle.rules.specs.Stored.{entries_unshown, entry_facts}
use Rattle.rules.specs.FactRules as fact_rules
use Rattle.rules.specs.Rules as walk_rules
use Rattle.rules.specs.Verdict.{verdict_of}
use Rattle.effects.specs.Entries.{entry_shown, first_unshown}

module _ (L : List ℤ) (a : ℕ) (f : FactSet) where
  -- What the number of the first entry that is not shown says, of n entries from number e on.
  abbrev found : ℕ → ℕ → Result (Unit {0}) Refusal
  found end e = cond (ltb e end) (Err (LoopFact e)) (Ok tt)

  from-verdict : (n e : ℕ) → found (e + n) (lowest_from (entry_shown L a f) e n) ≡ verdict_of (entries_unshown (entries_from L a e n) f)
  unfolding lowest_from entries_from entry_shown walk_rules.entries_unshown also when verdict_of entry_at
  from-verdict zero e = let l : e + 0 ≤ e = omega arith in rw (le-ltb e (e + 0) l) refl
  from-verdict (suc n) e = go (belongs L a e) refl (shown f (entry_at L e).left (entry_at L e).right (entry_at L e).offset) refl (from-verdict n (e + 1))
    where
      go : (b : Bool) → belongs L a e ≡ b → (s : Bool) → shown f (entry_at L e).left (entry_at L e).right (entry_at L e).offset ≡ s
          → found (e + 1 + n) (lowest_from (entry_shown L a f) (e + 1) n) ≡ verdict_of (entries_unshown (entries_from L a (e + 1) n) f)
          → found (e + suc n) (cond (entry_shown L a f e) (lowest_from (entry_shown L a f) (e + 1) n) e)
          ≡ verdict_of (entries_unshown (entry_if (belongs L a e) (entry_at L e) (entries_from L a (e + 1) n)) f)
      go true p true q i = let k : e + suc n ≡ e + 1 + n = omega arith in rw (p, q, k) i
      go true p false q i = let l : e < e + suc n = omega arith in rw (p, q, lt-ltb e (e + suc n) l) refl
      go false p s q i = let k : e + suc n ≡ e + 1 + n = omega arith in rw (p, k) i

  module _ {e n : ℕ} (at : e ≡ first_unshown L a f) (count : n ≡ entry_count L) where
    whole : found (entry_count L) (first_unshown L a f) ≡ verdict_of (entries_unshown (entries_of L a) f)
    unfolding first_unshown entries_of
    whole =
        let z : entry_count L ≡ 0 + entry_count L = omega arith in
        ap (λ (k : ℕ). found k (lowest_from (entry_shown L a f) 0 (entry_count L))) z ∙ from-verdict (entry_count L) 0

    pub entry-missed : e < n → Err (LoopFact e) ≡ verdict_of (entries_unshown (entries_of L a) f)
    entry-missed l = sym (ap (λ (b : Bool). cond b (Err (LoopFact e)) (Ok tt)) (lt-ltb e n l)) ∙ (rw (at, count) refl ∙ whole)

    pub entries-shown : n ≤ e → Ok tt ≡ verdict_of (entries_unshown (entries_of L a) f)
    entries-shown l = sym (ap (λ (b : Bool). cond b (Err (LoopFact e)) (Ok tt)) (le-ltb e n l)) ∙ (rw (at, count) refl ∙ whole)

-- ---- assumed

-- The loop's invariant: what is left, from the facts now, is the whole.
pub record Assumed (L : List ℤ) (a n : ℕ) (f₀ : FactSet) (e : ℕ) (f : FactSet) : Type 0 where
  pub within : e ≤ n
  pub so_far : entry_facts (entries_from L a 0 n) f₀ ≡ entry_facts (entries_from L a e (n - e)) f

pub assumed-none : (L : List ℤ) (a n : ℕ) (f : FactSet) → Assumed L a n f 0 f
assumed-none L a n f = let e : n ≡ n - 0 = omega arith in record { within = omega arith; so_far = ap (λ (k : ℕ). entry_facts (entries_from L a 0 k) f) e }

module _ {L : List ℤ} {a n : ℕ} {f₀ : FactSet} {e : ℕ} {f : FactSet} (i : Assumed L a n f₀ e f) where
  next : (m : ℕ) → entry_facts (entries_from L a e (suc m)) f
      ≡ entry_facts (entries_from L a (e + 1) m) (cond (belongs L a e) (added f (entry_at L e).left (entry_at L e).right (entry_at L e).offset) f)
  unfolding entries_from fact_rules.entry_facts
  next m = go (belongs L a e)
    where
      go : (b : Bool) → entry_facts (entry_if b (entry_at L e) (entries_from L a (e + 1) m)) f
          ≡ entry_facts (entries_from L a (e + 1) m) (cond b (added f (entry_at L e).left (entry_at L e).right (entry_at L e).offset) f)
      go true = refl
      go false = refl

  pub assumed-more : {g : FactSet} → e < n → g ≡ cond (belongs L a e) (added f (entry_at L e).left (entry_at L e).right (entry_at L e).offset) f
      → Assumed L a n f₀ (e + 1) g
  assumed-more {g} l q =
      let k : n - e ≡ suc (n - (e + 1)) = omega arith in
      record {
        within = omega arith;
        so_far = i.so_far ∙ (ap (λ (m : ℕ). entry_facts (entries_from L a e m) f) k ∙ (next (n - (e + 1)) ∙ ap (entry_facts (entries_from L a (e + 1) (n -
            (e + 1)))) (sym q)));
      }

  pub assumed-all : n ≤ e → n ≡ entry_count L → f ≡ entry_facts (entries_of L a) f₀
  unfolding entries_from entries_of fact_rules.entry_facts
  assumed-all l q =
      let k : n - e ≡ 0 = omega (arith, i.within) in
      sym (i.so_far ∙ ap (λ (m : ℕ). entry_facts (entries_from L a e m) f) k) ∙ ap (λ (m : ℕ). entry_facts (entries_from L a 0 m) f₀) q
