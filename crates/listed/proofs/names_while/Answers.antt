-- `listed::names_while` meets its contract.
use Rattle.std.specs.Prelude.{None, Some}
use mathlib.Core.Path.{◌∙◌, ap}
use Rattle.statements.specs.declared.Statement.TheVariants.{Plain, If, While, Bundle, Call}
use native.Mathlib.Omega.{arith}
use Rattle.listed.specs.ListLaws.{while-answer}
use Rattle.listed.proofs.names_while.Goals as goal

pub returns-in_default : goal.returns-in_default
returns-in_default c = while-answer _ _ _ c.plain.ensures c.read_statement-read.ensures None c.in_default.is

pub returns-in-While : goal.returns-in-While
returns-in-While c = while-answer _ _ _ c.plain.ensures
    c.read_statement-read.ensures (Some (While _ _))
    (c.in-Some.is ∙ ap Some c.in-While.is)

pub returns-in-Plain : goal.returns-in-Plain
returns-in-Plain c = let e = while-answer _ _ _ c.plain.ensures c.read_statement-read.ensures (Some _) c.in-Some.is in grind arith
