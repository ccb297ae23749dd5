-- What each operation makes, case by case, and sum by sum.
use Rattle.std.specs.Prelude.{ℕ, ◌+◌, ◌-◌, ◌*◌, ◌^◌, ◌≤◌, ◌<◌, min, ◌≡◌, ◌≢◌, Bool, ◌&&◌, ltb, leb, eqb}
use Rattle.std.proofs.Math.Path.{refl, ap}
use Rattle.std.proofs.Common.{sym, ◌∙◌, le-leb, leb-true, lt-ltb, le-ltb, eqb-true, arith}
use Rattle.std.proofs.Math.Bool.{true, false, cond}
use Rattle.std.proofs.lemmas.Bool.{false≢true, eqb-false}
use Rattle.std.proofs.Math.Seq.{get_or-set_same, get_or-set_other}
use Rattle.sums.specs.Numbers.{bias, max_value, zero_var}
use Rattle.changes.specs.Changes.{no_fact, adding, ranging, shifting, equating}
use Rattle.arrays.specs.Tabulate.{tabulate}
use Rattle.arrays.specs.TabulateLaws.{length-tabulate, get_d_tabulate}
use Rattle.sums.specs.Sums.{concatenated, negated}
use Rattle.facts.specs.Store.{no_row, row_at, in_row, sum_at, row_of, set_of, least_sum, shown, within_end, end_shown, new_sum, new_row}
use Rattle.facts.specs.Store.{new_set, lowered_row, lowered, marked, added, own_row, rerouted_row, rerouted, reassigned, anew}
use Rattle.facts.specs.Store.{added_fact, added_first, changed, dropped, ranged, shifted, related, joined_sum, joined_row, joined}
use Rattle.facts.specs.declared.rows.Row.{Row}
use Rattle.changes.specs.declared.Fact.{Fact}
use Rattle.changes.specs.declared.Change.{Change}
use Rattle.facts.specs.declared.FactSet.{FactSet}

pub picked : {b : Bool} (f g : FactSet) → b ≡ true → cond b f g ≡ f
picked f g e = rw e

pub passed : {b : Bool} (f g : FactSet) → b ≡ false → cond b f g ≡ g
passed f g e = rw e

-- ---- join

module _ (pointer : ℕ → Bool) (f g : FactSet) where
  pub joined-first : f.contradiction ≡ true → joined pointer f g ≡ g
  unfolding joined
  joined-first e = picked _ _ e

  pub joined-second : f.contradiction ≡ false → g.contradiction ≡ true → joined pointer f g ≡ f
  unfolding joined
  joined-second e d = passed _ _ e ∙ picked _ _ d

  pub joined-both : f.contradiction ≡ false → g.contradiction ≡ false
      → joined pointer f g ≡ set_of (tabulate 17 (λ i. joined_row pointer i (row_at f i) (row_at g i) (row_at f zero_var) (row_at g zero_var))) false
  unfolding joined
  joined-both e d = passed _ _ e ∙ passed _ _ d

pub least-node : (f : FactSet) (x y : ℕ) → x < 17 → y < 17 → least_sum f x y ≡ sum_at f x y
unfolding least_sum
least-node f x y hx hy = rw (le-ltb zero_var x (omega arith), le-ltb zero_var y (omega arith))

-- A question to a set: with the mark all is shown, without it what the sums show.
asked-marked : {b : Bool} (c : Bool) → b ≡ true → cond b true c ≡ true
asked-marked c e = rw e

asked-clear : {b : Bool} (c : Bool) → b ≡ false → cond b true c ≡ c
asked-clear c e = rw e

module _ (f : FactSet) (x y k : ℕ) where
  pub shown-marked : f.contradiction ≡ true → shown f x y k ≡ true
  unfolding shown
  shown-marked e = asked-marked (leb (least_sum f x y) k) e

  pub shown-clear : f.contradiction ≡ false → shown f x y k ≡ leb (least_sum f x y) k
  unfolding shown
  shown-clear e = asked-clear (leb (least_sum f x y) k) e

  -- What is not shown, is not shown by a set with the mark.
  pub not-shown : shown f x y k ≡ false → f.contradiction ≡ false
  unfolding shown
  not-shown s = go f.contradiction s
    where
      go : (b : Bool) → cond b true (leb (least_sum f x y) k) ≡ false → b ≡ false
      go true s = s
      go false s = refl

-- Numbers in range are compared as they are.
pub within-plain : (s a b k j : ℕ) → s ≤ 8 → a < 2 ^ 40 → b < 2 ^ 40 → k < 2 ^ 40 → j < 2 ^ 40 → within_end s a b k j
    ≡ leb (a + s * b + k) (j + bias + s * bias)
unfolding within_end
within-plain s a b k j hs ha hb hk hj = rw (le-leb s 8 hs, lt-ltb a (2 ^ 40) ha, lt-ltb b (2 ^ 40) hb, lt-ltb k (2 ^ 40) hk, lt-ltb j (2 ^ 40) hj)

last-true : (x y : Bool) → (x && y) ≡ true → y ≡ true
last-true true y e = e
last-true false y e = absurd (false≢true e)

pub within-true : (s a b k j : ℕ) → within_end s a b k j ≡ true → a + s * b + k ≤ j + bias + s * bias
unfolding within_end
within-true s a b k j e =
    leb-true (a + s * b + k) (j + bias + s * bias)
    (last-true (leb s 8 && ltb a (2 ^ 40) && ltb b (2 ^ 40) && ltb k (2 ^ 40) && ltb j (2 ^ 40)) (leb (a + s * b + k) (j + bias + s * bias)) e)

module _ (f : FactSet) (s q n k r m j : ℕ) where
  pub end_marked : f.contradiction ≡ true → end_shown f s q n k r m j ≡ true
  unfolding end_shown
  end_marked e = asked-marked (within_end s (least_sum f q r) (least_sum f n m) k j) e

  pub end-clear : f.contradiction ≡ false → end_shown f s q n k r m j ≡ within_end s (least_sum f q r) (least_sum f n m) k j
  unfolding end_shown
  end-clear e = asked-clear (within_end s (least_sum f q r) (least_sum f n m) k j) e

-- ---- add

module _ (f : FactSet) (x y k : ℕ) where
  pub added-left : 16 < x → added f x y k ≡ f
  unfolding added
  added-left h = picked _ _ (lt-ltb _ _ h)

  pub added-right : x ≤ 16 → 16 < y → added f x y k ≡ f
  unfolding added
  added-right hx h = passed _ _ (le-ltb _ _ hx) ∙ picked _ _ (lt-ltb _ _ h)

  pub added-shown : x ≤ 16 → y ≤ 16 → shown f x y k ≡ true → added f x y k ≡ f
  unfolding added
  added-shown hx hy s = passed _ _ (le-ltb _ _ hx) ∙ passed _ _ (le-ltb _ _ hy) ∙ picked _ _ s

  pub added-closed : x ≤ 16 → y ≤ 16 → shown f x y k ≡ false → concatenated (sum_at f y x) k < bias → added f x y k ≡ marked f
  unfolding added
  added-closed hx hy s h = passed _ _ (le-ltb _ _ hx) ∙ passed _ _ (le-ltb _ _ hy) ∙ passed _ _ s ∙ picked _ _ (lt-ltb _ _ h)

  pub added-lowered : x ≤ 16 → y ≤ 16 → shown f x y k ≡ false → bias ≤ concatenated (sum_at f y x) k → added f x y k ≡ lowered f x y k
  unfolding added
  added-lowered hx hy s h = passed _ _ (le-ltb _ _ hx) ∙ passed _ _ (le-ltb _ _ hy) ∙ passed _ _ s ∙ passed _ _ (le-ltb _ _ h)

-- ---- a variable anew

module _ (f : FactSet) (x y up down : ℕ) where
  pub anew-left : 15 < x → anew f x y up down ≡ f
  unfolding anew
  anew-left h = picked _ _ (lt-ltb _ _ h)

  pub anew-right : x ≤ 15 → 16 < y → anew f x y up down ≡ f
  unfolding anew
  anew-right hx h = passed _ _ (le-ltb _ _ hx) ∙ picked _ _ (lt-ltb _ _ h)

  pub anew-variable : x ≤ 15 → y ≤ 16 → anew f x y up down ≡ reassigned f x y up down
  unfolding anew
  anew-variable hx hy = passed _ _ (le-ltb _ _ hx) ∙ passed _ _ (le-ltb _ _ hy)

-- ---- a change

module _ (f : FactSet) (c : Change) where
  pub changed-steps : {g h : FactSet} → g ≡ anew f c.target c.base c.up c.down → h ≡ added_first 3 c.facts g → h ≡ changed f c
  unfolding changed
  changed-steps e d = d ∙ ap (added_first 3 c.facts) e

-- ---- drop, a range, shift

module _ (f : FactSet) (x : ℕ) where
  pub dropped-variable : x ≤ 15 → dropped f x ≡ reassigned f x zero_var (bias + max_value) bias
  unfolding dropped
  dropped-variable h = passed _ _ (le-ltb _ _ h)

  pub ranged-variable : (low high : ℕ) → x ≤ 15 → ranged f x low high ≡ reassigned f x zero_var (bias + high) (bias - low)
  unfolding ranged
  ranged-variable low high h = passed _ _ (le-ltb _ _ h)

  pub shifted-other : (k : ℕ) → 15 < x → shifted f x k ≡ f
  unfolding shifted
  shifted-other k h = picked _ _ (lt-ltb _ _ h)

  pub shifted-variable : (k : ℕ) → x ≤ 15 → shifted f x k ≡ added (added (reassigned f x x k (negated k)) zero_var x bias) x zero_var (bias + max_value)
  unfolding shifted
  shifted-variable k h = passed _ _ (le-ltb _ _ h)

-- ---- the changes that statements and conditions are

pub silent : (f : FactSet) → added_fact f no_fact ≡ f
silent f = added-left f 17 17 0 (omega arith)

module _ (f : FactSet) where
  pub changed-adding : (a b : Fact) → changed f (adding a b) ≡ added_fact (added_fact f a) b
  unfolding changed added_first
  changed-adding a b = silent _ ∙ ap (λ (g : FactSet). added_fact (added_fact g a) b) (anew-left f 17 17 0 0 (omega arith))

  pub changed-ranging : (x low high : ℕ) → changed f (ranging x low high) ≡ ranged f x low high
  unfolding changed added_first anew ranged
  changed-ranging x low high = silent _ ∙ silent _ ∙ silent _

  pub changed-forgetting : (x : ℕ) → changed f (ranging x 0 max_value) ≡ dropped f x
  unfolding ranged dropped
  changed-forgetting x = changed-ranging x 0 max_value

  pub changed-shifting : (x k : ℕ) (third : Fact) → x ≤ 15 → changed f (shifting x k third) ≡ added_fact (shifted f x k) third
  unfolding changed added_first
  changed-shifting x k third h =
      ap (λ (g : FactSet). added_fact (added (added g zero_var x bias) x zero_var (bias + max_value)) third) (anew-variable f x x k (negated k) h (omega arith))
      ∙ ap (λ (g : FactSet). added_fact g third) (sym (shifted-variable f x k h))

  pub changed-equating : (x y k : ℕ) (third : Fact) → changed f (equating x y k third) ≡ added_fact (added (added (dropped f x) x y k) y x (negated k)) third
  unfolding changed added_first anew dropped
  changed-equating x y k third = refl

-- What add, drop and shift make, where `none` says nothing and `c` is their change.
module _ (f : FactSet) {g : FactSet} {c : Change} (e : g ≡ changed f c) where
  pub add-made : {a none : Fact} → none ≡ no_fact → c ≡ adding a none → g ≡ added_fact f a
  add-made {a} n d = e ∙ rw (d, n) (changed-adding f a no_fact ∙ silent _)

  pub drop-made : {x : ℕ} → c ≡ ranging x 0 max_value → g ≡ dropped f x
  drop-made {x} d = e ∙ rw d (changed-forgetting f x)

  pub shift_made : {x k : ℕ} {none : Fact} → x ≤ 15 → none ≡ no_fact → c ≡ shifting x k none → g ≡ shifted f x k
  shift_made {x} {k} h n d = e ∙ rw (d, n) (changed-shifting f x k no_fact h ∙ silent _)

-- ---- sum by sum

in-picked : (b : Bool) (row : Row) (g : ℕ → ℕ) (j : ℕ) → j < 17 → in_row (cond b row (row_of g)) j ≡ cond b (in_row row j) (g j)
in-picked true row g j h = refl
in-picked false row g j h = get_d_tabulate 17 g j 0 h

in-own : (base : Row) (x up j : ℕ) → j < 17 → in_row (own_row base x up) j ≡ cond (eqb j x) bias (concatenated up (in_row base j))
unfolding own_row
in-own base x up j h = get_d_tabulate 17 _ j 0 h

in-rerouted : (row : Row) (x to j : ℕ) → j < 17 → in_row (rerouted_row row x to) j ≡ cond (eqb j x) to (in_row row j)
unfolding rerouted_row
in-rerouted row x to j h = get_d_tabulate 17 _ j 0 h

module _ (f : FactSet) (x y up down : ℕ) where
  own-row : x < 17 → row_at (reassigned f x y up down) x ≡ own_row (row_at f y) x up
  unfolding reassigned
  own-row h = get_or-set_same (tabulate 17 (rerouted f x y down)) x (own_row (row_at f y) x up) no_row (omega (arith, length-tabulate 17 (rerouted f x y down)))

  other_row : (i : ℕ) → i < 17 → i ≢ x → row_at (reassigned f x y up down) i ≡ rerouted_row (row_at f i) x (concatenated (sum_at f i y) down)
  unfolding reassigned
  other_row i h n = get_or-set_other (tabulate 17 (rerouted f x y down)) x i (own_row (row_at f y) x up) no_row n
      ∙ get_d_tabulate 17 (rerouted f x y down) i no_row h

-- One sum after x was put between y - down and y + up: from x to x, from x, to x, or another.
abbrev pub anew_at : ℕ → ℕ → ℕ → Bool → Bool → ℕ
anew_at here from to true true = bias
anew_at here from to true false = from
anew_at here from to false true = to
anew_at here from to false false = here

module _ (f : FactSet) (i j : ℕ) (hi : i < 17) (hj : j < 17) where
  pub sum-new : sum_at new_set i j ≡ new_sum i j
  unfolding new_set new_row
  sum-new = rw (get_d_tabulate, get_d_tabulate)

  pub sum-lowered : (x y k : ℕ) → sum_at (lowered f x y k) i j
      ≡ cond (leb (sum_at f i y) (concatenated (sum_at f i x) k)) (sum_at f i j)
      (min (sum_at f i j) (concatenated (concatenated (sum_at f i x) k) (sum_at f y j)))
  unfolding lowered lowered_row
  sum-lowered x y k = rw get_d_tabulate (in-picked (leb (sum_at f i y) (concatenated (sum_at f i x) k)) (row_at f i) _ j hj)

  pub sum-reassigned : (x y up down : ℕ) → x < 17
      → sum_at (reassigned f x y up down) i j ≡ anew_at (sum_at f i j) (concatenated up (sum_at f y j)) (concatenated (sum_at f i y) down) (eqb i x) (eqb j x)
  sum-reassigned x y up down hx = go (eqb i x) refl
    where
      own : (b : Bool) → cond b bias (concatenated up (sum_at f y j)) ≡ anew_at (sum_at f i j) (concatenated up (sum_at f y j))
          (concatenated (sum_at f i y) down) true b
      own true = refl
      own false = refl

      other : (b : Bool) → cond b (concatenated (sum_at f i y) down) (sum_at f i j) ≡ anew_at (sum_at f i j) (concatenated up (sum_at f y j))
          (concatenated (sum_at f i y) down) false b
      other true = refl
      other false = refl

      go : (a : Bool) → eqb i x ≡ a
          → sum_at (reassigned f x y up down) i j ≡ anew_at (sum_at f i j) (concatenated up (sum_at f y j)) (concatenated (sum_at f i y) down) a (eqb j x)
      go true e = ap (λ (n : ℕ). sum_at (reassigned f x y up down) n j) (eqb-true i x e) ∙ ap (λ (row : Row). in_row row j) (own-row f x y up down hx)
          ∙ in-own (row_at f y) x up j hj ∙ own (eqb j x)
      go false e = ap (λ (row : Row). in_row row j) (other_row f x y up down i hi (eqb-false i x e))
          ∙ in-rerouted (row_at f i) x (concatenated (sum_at f i y) down) j hj ∙ other (eqb j x)

  pub sum-joined : (g : FactSet) (pointer : ℕ → Bool) → f.contradiction ≡ false → g.contradiction ≡ false → sum_at (joined pointer f g) i j
      ≡ joined_sum (related pointer i j) (sum_at f i j) (sum_at g i j) (sum_at f i zero_var) (sum_at g i zero_var) (sum_at f zero_var j) (sum_at g zero_var j)
  unfolding joined_row
  sum-joined g pointer e d = ap (λ (h : FactSet). sum_at h i j) (joined-both pointer f g e d) ∙ rw (get_d_tabulate, get_d_tabulate)
