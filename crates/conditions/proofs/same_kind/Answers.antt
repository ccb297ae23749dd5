-- `conditions::same_kind` meets its contract.
use mathlib.Core.Bool.{Bool, ◌&&◌}
use mathlib.Core.Path.{◌≡◌, sym, ap₂, ◌∙◌}
use Rattle.conditions.specs.Conditions.{same_kind}
use Rattle.conditions.proofs.same_kind.Goals as goal

-- Both tests, in the words of the definition.
tested : {a b p q t : Bool} → a ≡ p → b ≡ q → (a && b) ≡ t → (p && q) ≡ t
tested e d k = sym (ap₂ (λ (x y : Bool). x && y) e d) ∙ k

pub returns-then-names_integer : goal.returns-then-names_integer
unfolding same_kind
returns-then-names_integer c = rw (tested c.names_integer.ensures c.names_integer-2.ensures c.if-names_integer.true)

pub returns : goal.returns
unfolding same_kind
returns c = rw (tested c.names_integer.ensures
    c.names_integer-2.ensures
    c.if-names_integer.false)
    (simp (
      c.names_string-2.ensures,
      c.names_string.ensures,
      c.names_array-2.ensures,
      c.names_array.ensures,
    ))
