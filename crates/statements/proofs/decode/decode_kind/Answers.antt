-- `statements::decode::decode_kind` meets its contract.
use mathlib.Core.Path.{◌∙◌, sym}
use borrow.Author.Tests.{ne_eqb}
use Rattle.words.specs.Words.{word, fields_at}
use Rattle.statements.specs.Decode.{unsigned, decoded_as}
use Rattle.statements.proofs.decode.decode_kind.Goals as goal

pub returns-in-1 : goal.returns-in-1
unfolding decoded_as fields_at
returns-in-1 c = rw (sym c.unsigned_at-kind.ensures ∙ c.in-1.is)
    (simp (c.unsigned_at.ensures, c.word_within.ensures, c.literal_value.ensures))

pub returns-in-2 : goal.returns-in-2
unfolding decoded_as fields_at
returns-in-2 c = rw (sym c.unsigned_at-kind.ensures ∙ c.in-2.is)
    (simp (c.unsigned_at-in-2.ensures, c.unsigned_at-in-2-2.ensures, c.word_within-in-2.ensures))

pub returns-in-3 : goal.returns-in-3
unfolding decoded_as fields_at
returns-in-3 c = rw (sym c.unsigned_at-kind.ensures ∙ c.in-3.is)
    (simp (
      c.unsigned_at-in-3.ensures,
      c.unsigned_at-in-3-2.ensures,
      c.unsigned_at-in-3-3.ensures,
      c.unsigned_at-in-3-4.ensures,
    ))

pub returns-in-4 : goal.returns-in-4
unfolding decoded_as fields_at
returns-in-4 c = rw (sym c.unsigned_at-kind.ensures ∙ c.in-4.is) (simp c.unsigned_at-in-4.ensures)

pub returns-in-5 : goal.returns-in-5
unfolding decoded_as fields_at
returns-in-5 c = rw (sym c.unsigned_at-kind.ensures ∙ c.in-5.is)
    (simp (c.unsigned_at-in-5.ensures, c.unsigned_at-in-5-2.ensures))

pub returns-in-6 : goal.returns-in-6
unfolding decoded_as fields_at
returns-in-6 c = rw (sym c.unsigned_at-kind.ensures ∙ c.in-6.is)
    (simp (c.unsigned_at-in-6.ensures, c.unsigned_at-in-6-2.ensures, c.word_within-in-6.ensures))

pub returns-in-7 : goal.returns-in-7
unfolding decoded_as fields_at
returns-in-7 c = rw (sym c.unsigned_at-kind.ensures ∙ c.in-7.is)
    (simp (c.unsigned_at-in-7.ensures, c.unsigned_at-in-7-2.ensures, c.unsigned_at-in-7-3.ensures))

pub returns-in-8 : goal.returns-in-8
unfolding decoded_as fields_at
returns-in-8 c = rw (sym c.unsigned_at-kind.ensures ∙ c.in-8.is)
    (simp (
      c.unsigned_at-in-8.ensures,
      c.unsigned_at-in-8-2.ensures,
      c.word_within-in-8.ensures,
      c.decode_index.ensures,
      c.word_within-in-8-2.ensures,
    ))

pub returns-in-9 : goal.returns-in-9
unfolding decoded_as fields_at
returns-in-9 c = rw (sym c.unsigned_at-kind.ensures ∙ c.in-9.is)
    (simp (
      c.unsigned_at-in-9.ensures,
      c.word_within-in-9.ensures,
      c.decode_index-in-9.ensures,
      c.word_within-in-9-2.ensures,
      c.unsigned_at-in-9-2.ensures,
    ))

pub returns-in-10 : goal.returns-in-10
unfolding decoded_as fields_at
returns-in-10 c = rw (sym c.unsigned_at-kind.ensures ∙ c.in-10.is) (simp c.decode_condition.ensures)

pub returns-in-11 : goal.returns-in-11
unfolding decoded_as fields_at
returns-in-11 c = rw (sym c.unsigned_at-kind.ensures ∙ c.in-11.is)
    (simp (
      c.decode_condition-in-11.ensures,
      c.word_within-in-11.ensures,
      c.plain.ensures,
      c.word_within-in-11-2.ensures,
      c.plain-in-11.ensures,
    ))

pub returns-in-12 : goal.returns-in-12
unfolding decoded_as fields_at
returns-in-12 c = rw (sym c.unsigned_at-kind.ensures ∙ c.in-12.is)
    (simp (c.decode_condition-in-12.ensures, c.word_within-in-12.ensures, c.plain-in-12.ensures))

pub returns-in-13 : goal.returns-in-13
unfolding decoded_as fields_at
returns-in-13 c = rw (sym c.unsigned_at-kind.ensures ∙ c.in-13.is)
    (simp (c.word_within-in-13.ensures, c.plain-in-13.ensures))

pub returns-in-14 : goal.returns-in-14
unfolding decoded_as fields_at
returns-in-14 c = rw (sym c.unsigned_at-kind.ensures ∙ c.in-14.is)
    (simp (c.unsigned_at-in-14.ensures, c.unsigned_at-in-14-2.ensures))

pub returns-in_default : goal.returns-in_default
unfolding decoded_as fields_at
returns-in_default c = let kind = unsigned (word c.args.table.now c.args.start) in simp (
  ne_eqb kind 1 (λ e. c.in_default.in_default-own.rest.0.0.0.0.0.0.0.0.0.0.0.0.0.1 (c.unsigned_at-kind.ensures ∙ e)),
  ne_eqb kind 2 (λ e. c.in_default.in_default-own.rest.0.0.0.0.0.0.0.0.0.0.0.0.1 (c.unsigned_at-kind.ensures ∙ e)),
  ne_eqb kind 3 (λ e. c.in_default.in_default-own.rest.0.0.0.0.0.0.0.0.0.0.0.1 (c.unsigned_at-kind.ensures ∙ e)),
  ne_eqb kind 4 (λ e. c.in_default.in_default-own.rest.0.0.0.0.0.0.0.0.0.0.1 (c.unsigned_at-kind.ensures ∙ e)),
  ne_eqb kind 5 (λ e. c.in_default.in_default-own.rest.0.0.0.0.0.0.0.0.0.1 (c.unsigned_at-kind.ensures ∙ e)),
  ne_eqb kind 6 (λ e. c.in_default.in_default-own.rest.0.0.0.0.0.0.0.0.1 (c.unsigned_at-kind.ensures ∙ e)),
  ne_eqb kind 7 (λ e. c.in_default.in_default-own.rest.0.0.0.0.0.0.0.1 (c.unsigned_at-kind.ensures ∙ e)),
  ne_eqb kind 8 (λ e. c.in_default.in_default-own.rest.0.0.0.0.0.0.1 (c.unsigned_at-kind.ensures ∙ e)),
  ne_eqb kind 9 (λ e. c.in_default.in_default-own.rest.0.0.0.0.0.1 (c.unsigned_at-kind.ensures ∙ e)),
  ne_eqb kind 10 (λ e. c.in_default.in_default-own.rest.0.0.0.0.1 (c.unsigned_at-kind.ensures ∙ e)),
  ne_eqb kind 11 (λ e. c.in_default.in_default-own.rest.0.0.0.1 (c.unsigned_at-kind.ensures ∙ e)),
  ne_eqb kind 12 (λ e. c.in_default.in_default-own.rest.0.0.1 (c.unsigned_at-kind.ensures ∙ e)),
  ne_eqb kind 13 (λ e. c.in_default.in_default-own.rest.0.1 (c.unsigned_at-kind.ensures ∙ e)),
  ne_eqb kind 14 (λ e. c.in_default.in_default-own.rest.1 (c.unsigned_at-kind.ensures ∙ e)),
  c.decode_call.ensures,
)
