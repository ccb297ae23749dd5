use mathlib.Core.Path.{◌∙◌, sym}
use borrow.Author.Tests.{ne_eqb}
use Rattle.words.specs.Fields.{plain}
use Rattle.statements.specs.Statements.{kind_read}
use Rattle.statements.proofs.kinds.read_kind.Goals as goal

pub returns-in-1 : goal.returns-in-1
unfolding kind_read
returns-in-1 c = rw (sym c.plain-kind.ensures ∙ c.in-1.is) c.read_literal.ensures

pub returns-in-2 : goal.returns-in-2
unfolding kind_read
returns-in-2 c = rw (sym c.plain-kind.ensures ∙ c.in-2.is) c.read_add_constant.ensures

pub returns-in-3 : goal.returns-in-3
unfolding kind_read
returns-in-3 c = rw (sym c.plain-kind.ensures ∙ c.in-3.is) c.read_arithmetic.ensures

pub returns-in-4 : goal.returns-in-4
unfolding kind_read
returns-in-4 c = rw (sym c.plain-kind.ensures ∙ c.in-4.is) c.read_null.ensures

pub returns-in-5 : goal.returns-in-5
unfolding kind_read
returns-in-5 c = rw (sym c.plain-kind.ensures ∙ c.in-5.is) c.read_address.ensures

pub returns-in-6 : goal.returns-in-6
unfolding kind_read
returns-in-6 c = rw (sym c.plain-kind.ensures ∙ c.in-6.is) c.read_pointer_offset.ensures

pub returns-in-7 : goal.returns-in-7
unfolding kind_read
returns-in-7 c = rw (sym c.plain-kind.ensures ∙ c.in-7.is) c.read_pointer_index.ensures

pub returns-in-8 : goal.returns-in-8
unfolding kind_read
returns-in-8 c = rw (sym c.plain-kind.ensures ∙ c.in-8.is) c.read_load.ensures

pub returns-in-9 : goal.returns-in-9
unfolding kind_read
returns-in-9 c = rw (sym c.plain-kind.ensures ∙ c.in-9.is) c.read_store.ensures

pub returns-in-10 : goal.returns-in-10
unfolding kind_read
returns-in-10 c = rw (sym c.plain-kind.ensures ∙ c.in-10.is) c.read_check.ensures

pub returns-in-11 : goal.returns-in-11
unfolding kind_read
returns-in-11 c = rw (sym c.plain-kind.ensures ∙ c.in-11.is) c.read_if.ensures

pub returns-in-12 : goal.returns-in-12
unfolding kind_read
returns-in-12 c = rw (sym c.plain-kind.ensures ∙ c.in-12.is) c.read_while.ensures

pub returns-in-13 : goal.returns-in-13
unfolding kind_read
returns-in-13 c = rw (sym c.plain-kind.ensures ∙ c.in-13.is) c.read_bundle.ensures

pub returns-in-14 : goal.returns-in-14
unfolding kind_read
returns-in-14 c = rw (sym c.plain-kind.ensures ∙ c.in-14.is) c.read_declare.ensures

pub returns-in-15 : goal.returns-in-15
unfolding kind_read
returns-in-15 c = rw (sym c.plain-kind.ensures ∙ c.in-15.is) c.read_call.ensures

pub returns-in_default : goal.returns-in_default
unfolding kind_read
returns-in_default c = let kind = plain c.args.f.kind in
    simp (
      ne_eqb kind 1 (λ e. c.in_default.in_default-own.rest.0.0.0.0.0.0.0.0.0.0.0.0.0.0.1 (c.plain-kind.ensures ∙ e)),
      ne_eqb kind 2 (λ e. c.in_default.in_default-own.rest.0.0.0.0.0.0.0.0.0.0.0.0.0.1 (c.plain-kind.ensures ∙ e)),
      ne_eqb kind 3 (λ e. c.in_default.in_default-own.rest.0.0.0.0.0.0.0.0.0.0.0.0.1 (c.plain-kind.ensures ∙ e)),
      ne_eqb kind 4 (λ e. c.in_default.in_default-own.rest.0.0.0.0.0.0.0.0.0.0.0.1 (c.plain-kind.ensures ∙ e)),
      ne_eqb kind 5 (λ e. c.in_default.in_default-own.rest.0.0.0.0.0.0.0.0.0.0.1 (c.plain-kind.ensures ∙ e)),
      ne_eqb kind 6 (λ e. c.in_default.in_default-own.rest.0.0.0.0.0.0.0.0.0.1 (c.plain-kind.ensures ∙ e)),
      ne_eqb kind 7 (λ e. c.in_default.in_default-own.rest.0.0.0.0.0.0.0.0.1 (c.plain-kind.ensures ∙ e)),
      ne_eqb kind 8 (λ e. c.in_default.in_default-own.rest.0.0.0.0.0.0.0.1 (c.plain-kind.ensures ∙ e)),
      ne_eqb kind 9 (λ e. c.in_default.in_default-own.rest.0.0.0.0.0.0.1 (c.plain-kind.ensures ∙ e)),
      ne_eqb kind 10 (λ e. c.in_default.in_default-own.rest.0.0.0.0.0.1 (c.plain-kind.ensures ∙ e)),
      ne_eqb kind 11 (λ e. c.in_default.in_default-own.rest.0.0.0.0.1 (c.plain-kind.ensures ∙ e)),
      ne_eqb kind 12 (λ e. c.in_default.in_default-own.rest.0.0.0.1 (c.plain-kind.ensures ∙ e)),
      ne_eqb kind 13 (λ e. c.in_default.in_default-own.rest.0.0.1 (c.plain-kind.ensures ∙ e)),
      ne_eqb kind 14 (λ e. c.in_default.in_default-own.rest.0.1 (c.plain-kind.ensures ∙ e)),
      ne_eqb kind 15 (λ e. c.in_default.in_default-own.rest.1 (c.plain-kind.ensures ∙ e)),
    )
