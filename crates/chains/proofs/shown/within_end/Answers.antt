-- `chains::shown::within_end` meets its contract: the largest sum is 2^40 + 8 times 2^40 + 2^40.
use Prim.Native.Nat.{ℕ, ◌*◌, ◌^◌, ◌≤◌, ◌<◌}
use mathlib.Core.Path.{◌≡◌, refl}
use mathlib.Core.Bool.{Bool, true, false, ◌&&◌, false≢true}
use native.Mathlib.Omega.{arith}
use borrow.Author.Rules.{rules}
use borrow.Author.Tests.{leb-true, ltb-true}
use lib.Dec.{leb, ltb}
use Rattle.sums.specs.Scale.{scale_small}
use Rattle.facts.specs.Store.{within_end}
use Rattle.chains.proofs.shown.within_end.Goals as goal

-- What the tests of the range say, and that no sum wraps then.
record InRangeEnd (s a b k j : ℕ) : Type 0 where
  size : s ≤ 8
  first : a < 2 ^ 40
  second : b < 2 ^ 40
  constant : k < 2 ^ 40
  other : j < 2 ^ 40
  product : s * b ≤ 8 * 2 ^ 40

within-range : (s a b k j : ℕ) → (leb s 8 && ltb a (2 ^ 40) && ltb b (2 ^ 40) && ltb k (2 ^ 40) && ltb j (2 ^ 40)) ≡ true → InRangeEnd s a b k j
within-range s a b k j e = go (leb s 8) (ltb a (2 ^ 40)) (ltb b (2 ^ 40)) (ltb k (2 ^ 40)) (ltb j (2 ^ 40)) refl refl refl refl refl e
  where
    go : (t u v w x : Bool) → leb s 8 ≡ t → ltb a (2 ^ 40) ≡ u → ltb b (2 ^ 40) ≡ v → ltb k (2 ^ 40) ≡ w → ltb j (2 ^ 40) ≡ x → (t && u && v && w && x) ≡ true
        → InRangeEnd s a b k j
    go true true true true true p q r y z e =
        let l : s ≤ 8 = leb-true s 8 p in
        let m : b < 2 ^ 40 = ltb-true b (2 ^ 40) r in
        record {
          size = l;
          first = ltb-true a (2 ^ 40) q;
          second = m;
          constant = ltb-true k (2 ^ 40) y;
          other = ltb-true j (2 ^ 40) z;
          product = scale_small s b
              (2 ^ 40) l (omega arith);
        }
    go false u v w x p q r y z e = absurd (false≢true e)
    go true false v w x p q r y z e = absurd (false≢true e)
    go true true false w x p q r y z e = absurd (false≢true e)
    go true true true false x p q r y z e = absurd (false≢true e)
    go true true true true false p q r y z e = absurd (false≢true e)

pub overflow_mul-result : goal.overflow_mul-result
unfolding within_end
overflow_mul-result c = let r : InRangeEnd c.args.size c.args.a c.args.b c.args.k c.args.j = within-range c.args.size c.args.a c.args.b c.args.k c.args.j
    c.if-size-a.true in search rules

pub overflow_add-result : goal.overflow_add-result
unfolding within_end
overflow_add-result c = let r : InRangeEnd c.args.size c.args.a c.args.b c.args.k c.args.j = within-range c.args.size c.args.a c.args.b c.args.k c.args.j
    c.if-size-a.true in search rules

pub overflow_add-result-then-size-a : goal.overflow_add-result-then-size-a
unfolding within_end
overflow_add-result-then-size-a c = let r : InRangeEnd c.args.size c.args.a c.args.b c.args.k c.args.j = within-range c.args.size c.args.a c.args.b c.args.k
    c.args.j
    c.if-size-a.true in search rules

pub overflow_add-result-then-size-a-2 : goal.overflow_add-result-then-size-a-2
unfolding within_end
overflow_add-result-then-size-a-2 c = let r : InRangeEnd c.args.size c.args.a c.args.b c.args.k c.args.j = within-range c.args.size c.args.a c.args.b c.args.k
    c.args.j
    c.if-size-a.true in search rules

pub overflow_mul-result-then-size-a : goal.overflow_mul-result-then-size-a
unfolding within_end
overflow_mul-result-then-size-a c = let r : InRangeEnd c.args.size c.args.a c.args.b c.args.k c.args.j = within-range c.args.size c.args.a c.args.b c.args.k
    c.args.j
    c.if-size-a.true in search rules

pub overflow_add-result-then-size-a-3 : goal.overflow_add-result-then-size-a-3
unfolding within_end
overflow_add-result-then-size-a-3 c = let r : InRangeEnd c.args.size c.args.a c.args.b c.args.k c.args.j = within-range c.args.size c.args.a c.args.b c.args.k
    c.args.j
    c.if-size-a.true in search rules

pub returns-then-size-a : goal.returns-then-size-a
unfolding within_end
returns-then-size-a c = simp c.if-size-a.true

pub returns : goal.returns
unfolding within_end
returns c = simp c.if-size-a.false
