-- Calls between routines (document 02, point 14): "In a lent set of 1 to 8 routines, kind 15 calls one". What a call hands over, and what it asks of the
-- callee.
use Rattle.std.specs.Prelude.{ℕ, zero, suc, ◌-◌, Bool, true, false, not, ◌&&◌, ◌||◌, cond, List, [], ltb, eqb, ℤ, length, get_or, None, Option, Some}
use Rattle.sums.specs.Numbers.{zero_var}
use Rattle.answers.specs.declared.refusals.Refusal.{Refusal}
use Rattle.answers.specs.declared.refusals.Refusal.TheVariants.{Callee, Arguments}
use Rattle.words.specs.declared.sections.Sections.{Sections}
use Rattle.statements.specs.declared.CallSite.{CallSite}
use Rattle.table.specs.declared.variables.End.{End}
use Rattle.blocks.specs.Layout.{also, when}
use Rattle.rules.specs.FactSets.{FactSets}
use Rattle.rules.specs.BoundsRules.{is_pointer, is_string, declared, known, bounds_shown}
use Rattle.rules.specs.declared.Bounds.{Bounds}
use Rattle.rules.specs.declared.Environment.{Environment}
use Rattle.rules.specs.declared.Effect.{Effect}
use Rattle.rules.specs.declared.Effect.TheVariants.{Keep, Forget}

-- A routine: its words, its sections, and what it declares.
pub record Routine : Type 0 where
  pub table : List ℤ
  pub sections : Sections
  pub environment : Environment

-- What stands for a routine where there is none: it has no variable and no statement.
abbrev pub no_routine : Routine
no_routine = record {
  table = [];
  sections = record { start = 6; objects = 0; variables = 0; statements = 0; rows = 0 };
  environment = record {
    pointers = [];
    strings = [];
    sizes = [];
    declared = [];
    lengths = [];
    terminated = [];
    spans = [];
    rows = [];
  };
}

abbrev pub routine_at : List Routine → ℕ → Routine
routine_at rs n = get_or rs n no_routine

-- ---- what a call hands over

-- "then four argument variables": the variable that the callee's variable j takes; 16, which no variable has and which stands for zero, where it takes none.
-- (So 16 takes 16: a missing integer stays missing.)
abbrev pub argument : CallSite → ℕ → ℕ
argument c zero = c.first
argument c (suc zero) = c.second
argument c (suc (suc zero)) = c.third
argument c (suc (suc (suc zero))) = c.fourth
argument c (suc (suc (suc (suc j)))) = zero_var

-- "The callee's first variables take the arguments and are the parameters of that call".
abbrev pub is_parameter : CallSite → ℕ → Bool
is_parameter c j = not (eqb (argument c j) zero_var)

-- "unused ones -1 at the end": no argument follows a -1.
unfoldable pub in_order : CallSite → Bool
in_order c = (is_parameter c 0 || not (is_parameter c 1)) && (is_parameter c 1 || not (is_parameter c 2)) && (is_parameter c 2 || not (is_parameter c 3))

-- A kind word is the same as another.
abbrev pub alike : Bool → Bool → Bool
alike true b = b
alike false b = not b

-- "has .. [a] variable of its kind in the callee": the kind words, of which 1 and 2 are pointers and 2 alone is a string.
unfoldable pub kind_fits : Environment → ℕ → Routine → ℕ → Bool
kind_fits E x r j =
    ltb j r.sections.variables && alike (is_pointer E x) (is_pointer r.environment j) && alike (is_string E x) (is_string r.environment j)

-- "Bounds of a parameter name parameters only".
unfoldable pub end_fits : CallSite → Option End → Bool
end_fits c None = false
end_fits c (Some e) = is_parameter c e.pointer && (eqb e.integer zero_var || is_parameter c e.integer)

-- A parameter's bounds with the arguments put in. They keep the parameter's size (point 10).
unfoldable pub argument_end : CallSite → Option End → Option End
argument_end c None = None
argument_end c (Some e) = Some (record { pointer = argument c e.pointer; integer = argument c e.integer; constant = e.constant })

unfoldable pub argument_bounds : CallSite → Bounds → Bounds
argument_bounds c b = record { size = b.size; lower = argument_end c b.lower; upper = argument_end c b.upper }

-- "The result is the value of its last variable, an integer".
unfoldable pub last_integer : Routine → Bool
last_integer r = not (is_pointer r.environment (r.sections.variables - 1))

-- The result "counts as assigned": the ends that name it are unknown.
unfoldable pub result_effect : CallSite → Effect
result_effect c = cond (eqb c.result zero_var) Keep (Forget c.result)

module _ (S : FactSets) where
  open S use {Facts, dropped}

  -- "any later kind that sets an integer: drop x"
  unfoldable pub result_facts : CallSite → Facts → Facts
  result_facts c f = cond (eqb c.result zero_var) f (dropped f c.result)

  -- The bounds of parameter j "name parameters only and must be shown for the arguments, before the result is set": by the known bounds K of the argument,
  -- "as declared bounds are".
  unfoldable pub bounds_fit : Facts → List Bounds → Routine → CallSite → ℕ → Bool
  bounds_fit f K r c j =
      let b = declared r.environment j in
      end_fits c b.lower && end_fits c b.upper && bounds_shown S f (argument c j) (known K (argument c j)) (argument_bounds c b)

  -- Where the callee's variable j is a parameter: its kind, and the bounds of a pointer.
  unfoldable pub argument_fits : Environment → Facts → List Bounds → Routine → CallSite → ℕ → Bool
  argument_fits E f K r c j =
      not (is_parameter c j) || (kind_fits E (argument c j) r j && (not (is_pointer r.environment j) || bounds_fit f K r c j))

  unfoldable pub arguments_fit : Environment → Facts → List Bounds → Routine → CallSite → Bool
  arguments_fit E f K r c =
      in_order c && last_integer r && argument_fits E f K r c 0 && argument_fits E f K r c 1 && argument_fits E f K r c 2 && argument_fits E f K r c 3

  -- The faults of a call at statement a, where `callees` are the routines with a number below the caller's: "It refuses with 19 unless the callee's number is
  -- 0 or more and below the caller's (a routine by itself is number 0), and with 20 when an argument follows a -1, has no variable of its kind in the callee
  -- or is not shown in its bounds, or a parameter's bounds or the last variable break this rule. .. 19 first."
  unfoldable pub call_faults : List Routine → Environment → ℕ → CallSite → Facts → List Bounds → List Refusal
  call_faults callees E a c f K =
      also (when (not (ltb c.callee (length callees))) (Callee a))
      (when (not (arguments_fit E f K (routine_at callees c.callee) c)) (Arguments a))
