-- The entries of a loop one after the other, as the code meets them.
use Rattle.std.specs.Prelude.{ℕ, Bool, true, cond, List, ℤ}
use Rattle.facts.specs.Store.{shown}
use Rattle.facts.specs.declared.FactSet.{FactSet}
use Rattle.table.specs.Form.{lowest_from}
use Rattle.listed.specs.Entries.{belongs, entry_at, entry_count}

-- The entry e is shown, or belongs to another loop.
unfoldable pub entry_shown : List ℤ → ℕ → FactSet → ℕ → Bool
entry_shown L a f e = cond (belongs L a e) (shown f (entry_at L e).left (entry_at L e).right (entry_at L e).offset) true

-- The first entry of the loop that is not shown, else the number of entries.
unfoldable pub first_unshown : List ℤ → ℕ → FactSet → ℕ
first_unshown L a f = lowest_from (entry_shown L a f) 0 (entry_count L)
