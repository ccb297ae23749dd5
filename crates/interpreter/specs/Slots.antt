-- The values of a run as its loop has them: a slot for each variable, and a 0 behind them for the number that stands for zero.
use Rattle.std.specs.Prelude.{ℕ, ◌≤◌, ◌≡◌, List, ℤ, length, get_or}
use Rattle.arrays.specs.Tabulate.{tabulate}
use Rattle.words.specs.declared.sections.Sections.{Sections}
use Rattle.steps.specs.Bare.{Prepared}

abbrev pub slots_of : List ℕ → List ℕ
slots_of vs = tabulate 17 (λ x. get_or vs x 0)

-- Each number has the same value in both.
abbrev pub SameValues : List ℕ → List ℕ → Type 0
SameValues vs us = (x : ℕ) → get_or us x 0 ≡ get_or vs x 0

-- What is lent serves for a run in slots.
pub record Laid (T : List ℤ) (h : Sections) (W D S vs : List ℕ) : Type 0 where
  pub prepared : Prepared T h W D S (slots_of vs)
  pub enough : h.variables ≤ length vs
  pub few : length vs ≤ 16
