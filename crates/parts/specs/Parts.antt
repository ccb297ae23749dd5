-- Where each routine's part lies in a slice that is lent: the routines' parts one after the other, with a slice of lengths, `kinds` a routine.
use Rattle.std.specs.Prelude.{ℕ, zero, suc, ◌+◌, ◌-◌, ◌*◌, min, List, ◌≡◌, length, take, drop, get_or}
use Rattle.parts.specs.declared.Span.{Span}

module _ (lengths : List ℕ) (kinds kind : ℕ) where
  unfoldable pub length_at : ℕ → ℕ
  length_at r = get_or lengths (kinds * r + kind) 0

  -- Where routine r's part begins: behind those of the routines before it.
  unfoldable pub start_at : ℕ → ℕ
  start_at zero = 0
  start_at (suc r) = start_at r + length_at r

-- The elements from `start` on, `count` of them; "a part that reaches past its slice is cut there".
abbrev pub window : {A : Type 0} → ℕ → ℕ → List A → List A
window start count xs = take count (drop start xs)

-- The part of routine r.
abbrev pub part_of : {A : Type 0} → List ℕ → ℕ → ℕ → ℕ → List A → List A
part_of lengths kinds kind r xs = window (start_at lengths kinds kind r) (length_at lengths kinds kind r) xs

-- The same as a span of a slice of n elements.
abbrev pub span_of : List ℕ → ℕ → ℕ → ℕ → ℕ → Span
span_of lengths kinds kind r n = record {
  start = min (start_at lengths kinds kind r) n;
  end = min (start_at lengths kinds kind r + length_at lengths kinds kind r) n;
}

abbrev pub between : {A : Type 0} → Span → List A → List A
between s xs = window s.start (s.end - s.start) xs

-- A list whose elements a to e - 1 were replaced by others, as many.
pub record Replaced {A : Type 0} (a e : ℕ) (xs new zs : List A) : Type 0 where
  pub long : length zs ≡ length xs
  pub front : take a zs ≡ take a xs
  pub here : window a (length new) zs ≡ new
  pub back : drop e zs ≡ drop e xs
