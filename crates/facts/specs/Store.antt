-- What each operation of the fact store makes of the 17 rows of 17 sums, as the code does. That this is what the paper says is proved in crate chains (Exact).
use Rattle.std.specs.Prelude.{ℕ, zero, suc, ◌+◌, ◌-◌, min, max, ◌*◌, ◌^◌, List, [], Bool, true, false, not, ◌&&◌, ◌||◌, cond, get_or, set, ltb, leb, eqb}
use Rattle.sums.specs.Numbers.{bias, max_value, zero_var}
use Rattle.sums.specs.Sums.{unbounded, concatenated, negated, room_above}
use Rattle.arrays.specs.Tabulate.{tabulate}
use Rattle.facts.specs.declared.rows.Row.{Row}
use Rattle.changes.specs.declared.Fact.{Fact}
use Rattle.changes.specs.declared.Change.{Change}
use Rattle.changes.specs.declared.Questions.{Questions}
use Rattle.changes.specs.declared.Answers.{Answers}
use Rattle.facts.specs.declared.FactSet.{FactSet}

-- ---- rows and sets, as lists

abbrev pub no_row : Row
no_row = record { sums = [] }

abbrev pub row_at : FactSet → ℕ → Row
row_at f i = get_or f.rows i no_row

abbrev pub row_with : List ℕ → Row
row_with l = record { sums = l }

abbrev pub in_row : Row → ℕ → ℕ
in_row row j = get_or row.sums j 0

abbrev pub sum_at : FactSet → ℕ → ℕ → ℕ
sum_at f i j = in_row (row_at f i) j

abbrev pub row_of : (ℕ → ℕ) → Row
row_of sum = record { sums = tabulate 17 sum }

abbrev pub set_of : List Row → Bool → FactSet
set_of rows mark = record { rows = rows; contradiction = mark }

-- ---- questions

-- The mark: the facts contradict.
abbrev pub contradictory : FactSet → Bool
contradictory f = f.contradiction

unfoldable pub least_sum : FactSet → ℕ → ℕ → ℕ
least_sum f x y = cond (ltb zero_var x) unbounded (cond (ltb zero_var y) unbounded (sum_at f x y))

unfoldable pub shown : FactSet → ℕ → ℕ → ℕ → Bool
shown f x y k = cond f.contradiction true (leb (least_sum f x y) k)

-- Point 10: a + s times b + k <= j, each with the bias, both sides raised until none is negative. Numbers out of range show nothing.
unfoldable pub within_end : ℕ → ℕ → ℕ → ℕ → ℕ → Bool
within_end s a b k j = leb s 8 && ltb a (2 ^ 40) && ltb b (2 ^ 40) && ltb k (2 ^ 40) && ltb j (2 ^ 40) && leb (a + s * b + k) (j + bias + s * bias)

unfoldable pub end_shown : FactSet → ℕ → ℕ → ℕ → ℕ → ℕ → ℕ → ℕ → Bool
end_shown f s q n k r m j = cond f.contradiction true (within_end s (least_sum f q r) (least_sum f n m) k j)

-- "when 0 <= y + k <= 4,294,967,295 is shown": 0 <= y + k, and y <= 4,294,967,295 - k; "a plain copy always counts as shown".
abbrev pub in_range : FactSet → ℕ → ℕ → Bool
in_range f y k = eqb k bias || shown f zero_var y k && shown f y zero_var (room_above k)

-- Two questions answered, where they are asked: x <= y + there, and y <= x + back; of two that are chained the second is asked only where the first is shown.
abbrev pub no_answers : Answers
no_answers = record { there = false; back = false }

abbrev pub answered : FactSet → Questions → Answers
answered f q =
    cond q.asked
    (record {
      there = shown f q.x q.y q.there;
      back = cond (q.chained && not (shown f q.x q.y q.there)) false (shown f q.y q.x q.back);
    })
    no_answers

-- ---- new

abbrev pub new_sum : ℕ → ℕ → ℕ
new_sum i j = cond (eqb i j) bias (cond (eqb i zero_var) bias (bias + max_value))

unfoldable pub new_row : ℕ → Row
new_row i = row_of (new_sum i)

unfoldable pub new_set : FactSet
new_set = set_of (tabulate 17 new_row) false

-- ---- add

unfoldable pub lowered_row : Row → ℕ → ℕ → Row → Row
lowered_row row start y through = cond (leb (in_row row y) start) row (row_of (λ j. min (in_row row j) (concatenated start (in_row through j))))

unfoldable pub lowered : FactSet → ℕ → ℕ → ℕ → FactSet
lowered f x y k = set_of (tabulate 17 (λ i. lowered_row (row_at f i) (concatenated (sum_at f i x) k) y (row_at f y))) f.contradiction

unfoldable pub marked : FactSet → FactSet
marked f = set_of f.rows true

unfoldable pub added : FactSet → ℕ → ℕ → ℕ → FactSet
added f x y k =
    cond (ltb zero_var x) f
    (cond (ltb zero_var y) f
    (cond (shown f x y k) f
    (cond (ltb (concatenated (sum_at f y x) k) bias) (marked f)
    (lowered f x y k))))

-- ---- drop, a range, shift

unfoldable pub own_row : Row → ℕ → ℕ → Row
own_row base x up = row_of (λ j. cond (eqb j x) bias (concatenated up (in_row base j)))

unfoldable pub rerouted_row : Row → ℕ → ℕ → Row
rerouted_row row x to = row_of (λ j. cond (eqb j x) to (in_row row j))

abbrev pub rerouted : FactSet → ℕ → ℕ → ℕ → ℕ → Row
rerouted f x y down i = rerouted_row (row_at f i) x (concatenated (sum_at f i y) down)

-- The variable x anew, between y - down and y + up: its row goes through y's, and each sum to it through that to y.
unfoldable pub reassigned : FactSet → ℕ → ℕ → ℕ → ℕ → FactSet
reassigned f x y up down = set_of (set (tabulate 17 (rerouted f x y down)) x (own_row (row_at f y) x up)) f.contradiction

-- x in a range: low <= x <= high, both plain numbers.
unfoldable pub ranged : FactSet → ℕ → ℕ → ℕ → FactSet
ranged f x low high = cond (ltb 15 x) f (reassigned f x zero_var (bias + high) (bias - low))

unfoldable pub dropped : FactSet → ℕ → FactSet
dropped f x = cond (ltb 15 x) f (reassigned f x zero_var (bias + max_value) bias)

unfoldable pub shifted : FactSet → ℕ → ℕ → FactSet
shifted f x k = cond (ltb 15 x) f (added (added (reassigned f x x k (negated k)) zero_var x bias) x zero_var (bias + max_value))

-- ---- a change: a variable anew, then three facts besides

unfoldable pub anew : FactSet → ℕ → ℕ → ℕ → ℕ → FactSet
anew f x y up down = cond (ltb 15 x) f (cond (ltb zero_var y) f (reassigned f x y up down))

abbrev pub fact_at : List Fact → ℕ → Fact
fact_at facts n = get_or facts n (record { x = 0; y = 0; k = 0 })

abbrev pub added_fact : FactSet → Fact → FactSet
added_fact f fact = added f fact.x fact.y fact.k

unfoldable pub added_first : ℕ → List Fact → FactSet → FactSet
added_first zero facts f = f
added_first (suc n) facts f = added_fact (added_first n facts f) (fact_at facts n)

unfoldable pub changed : FactSet → Change → FactSet
changed f c = added_first 3 c.facts (anew f c.target c.base c.up c.down)

-- ---- join

abbrev pub same : Bool → Bool → Bool
same true b = b
same false b = not b

-- A fact may relate i and j, or both are zero.
abbrev pub related : (ℕ → Bool) → ℕ → ℕ → Bool
related pointer i j = cond (eqb i zero_var) true (cond (eqb j zero_var) true (same (pointer i) (pointer j)))

-- The greater sum; between a pointer and an integer the chain through zero.
unfoldable pub joined_sum : Bool → ℕ → ℕ → ℕ → ℕ → ℕ → ℕ → ℕ
joined_sum comparable a b toA toB fromA fromB = cond comparable (max a b) (concatenated (max toA toB) (max fromA fromB))

unfoldable pub joined_row : (ℕ → Bool) → ℕ → Row → Row → Row → Row → Row
joined_row pointer i a b zeroA zeroB =
    row_of (λ j. joined_sum (related pointer i j) (in_row a j) (in_row b j) (in_row a zero_var) (in_row b zero_var) (in_row zeroA j) (in_row zeroB j))

unfoldable pub joined : (ℕ → Bool) → FactSet → FactSet → FactSet
joined pointer f g =
    cond f.contradiction g
    (cond g.contradiction f
    (set_of (tabulate 17 (λ i. joined_row pointer i (row_at f i) (row_at g i) (row_at f zero_var) (row_at g zero_var))) false))
