-- Declared bounds that an effect touches: they have to be shown again.
use Rattle.std.specs.Prelude.{ℕ, zero, suc, ◌+◌, Bool, true, false, not, ◌&&◌, ◌||◌, List, [], get_or}
use Rattle.arrays.specs.Tabulate.{tabulate}
use Rattle.rules.specs.BoundsRules.{is_pointer, declared}
use Rattle.rules.specs.declared.Environment.{Environment}
use Rattle.rules.specs.declared.Effect.{Effect}
use Rattle.rules.specs.declared.Effect.TheVariants.{Forget}
use Rattle.bounds.specs.Stays.{stays, changed_by, replaced_by}
use Rattle.bounds.specs.declared.touched.Seen.{Seen}

-- What is seen, as an environment, and what is seen of one.
abbrev pub seen_as : Seen → Environment
seen_as s =
    record { pointers = s.pointers; strings = []; sizes = []; declared = s.declared; lengths = []; terminated = []; spans = []; rows = [] }

abbrev pub seen_of : Environment → Seen
seen_of E = record { pointers = E.pointers; declared = E.declared }

-- The declared bounds of p have to be shown again after the effect.
unfoldable pub touched_at : Environment → Effect → ℕ → Bool
touched_at E e p = is_pointer E p && not (stays e p (declared E p))

-- Those of some pointer have to be: of one of the n from number p on, and of one of all 16.
unfoldable pub touched_from : Environment → Effect → ℕ → ℕ → Bool
touched_from E e zero p = false
touched_from E e (suc n) p = touched_at E e p || touched_from E e n (p + 1)

unfoldable pub touched : Environment → Effect → Bool
touched E e = touched_from E e 16 0

-- For each variable, and for none (17): to forget it touches some pointer's declared bounds.
unfoldable pub named_in : Environment → List Bool
named_in E = tabulate 18 (λ v. touched E (Forget v))

-- The same as `touched`, told from those flags and the kinds of the variables.
unfoldable pub touches : List Bool → List Bool → Effect → Bool
touches named pointers e = get_or named (changed_by e) true || get_or pointers (replaced_by e) false
