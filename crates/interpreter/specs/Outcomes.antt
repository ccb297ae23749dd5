-- How a run ends: "done, spent (the allowance is used and a statement is due) or stopped".
use Rattle.std.specs.Prelude.{ℕ, cond, ltb}
use Rattle.words.specs.declared.sections.Sections.{Sections}
use Rattle.machine.specs.Machine.{Status, going, stopped, stuck}
use Rattle.checks.specs.Checked.{check_of}
use Rattle.answers.specs.declared.stops.Outcome.{Outcome}
use Rattle.answers.specs.declared.stops.Outcome.TheVariants.{Done, Spent, Stopped}

-- How a run that is given up at a point ends: done where nothing is due, spent where a statement is due, or stopped.
abbrev pub outcome_shown : Sections → Status → ℕ → ℕ → Outcome
outcome_shown h going n a = cond (ltb a h.statements) (Spent n a) (Done n)
outcome_shown h (stopped k) n a = Stopped n (check_of k a)
outcome_shown h stuck n a = Done n
