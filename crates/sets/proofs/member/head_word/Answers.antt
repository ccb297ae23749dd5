-- `sets::member::head_word` meets its contract.
use mathlib.Core.Path.{◌∙◌, sym, ap}
use native.Mathlib.Omega.{arith}
use mir.Syntax.{w32}
use mir.Facts.{to_z-of_z}
use Prim.Native.Nat.{ℕ}
use lib.IntN.{pos}
use lib.ListN.{get_or}
use Rattle.rules.specs.Sets.{object_words, with_objects}
use Rattle.sets.specs.MemberLaws.{word_count, word-second, word-third, word-fourth, word-head}
use Rattle.sets.proofs.member.head_word.Goals as goal

pub returns-in-1 : goal.returns-in-1
returns-in-1 c = to_z-of_z {w = w32} {z = c.number_word.result} (record { sfits = c.number_word.type_inv }) ∙ c.number_word.ensures
    ∙ word_count c.requires.0
    ∙ ap (λ (j : ℕ). get_or
    (with_objects (object_words c.args.first.now)
    c.args.table.now) j (pos 0)) (sym c.in-1.is)

pub returns-in-2 : goal.returns-in-2
returns-in-2 c = to_z-of_z {w = w32} {z = c.number_word-in-2.result} (record { sfits = c.number_word-in-2.type_inv }) ∙ c.number_word-in-2.ensures
    ∙ word-second c.requires.0
    ∙ ap (λ (j : ℕ). get_or
    (with_objects (object_words c.args.first.now)
    c.args.table.now) j (pos 0)) (sym c.in-2.is)

pub returns-in-4 : goal.returns-in-4
returns-in-4 c = to_z-of_z {w = w32} {z = c.number_word-in-4.result} (record { sfits = c.number_word-in-4.type_inv }) ∙ c.number_word-in-4.ensures
    ∙ word-third c.requires.0
    ∙ ap (λ (j : ℕ). get_or
    (with_objects (object_words c.args.first.now)
    c.args.table.now) j (pos 0)) (sym c.in-4.is)

pub returns-in-6 : goal.returns-in-6
returns-in-6 c = to_z-of_z {w = w32} {z = c.number_word-in-6.result} (record { sfits = c.number_word-in-6.type_inv }) ∙ c.number_word-in-6.ensures
    ∙ word-fourth c.requires.0
    (omega (arith, c.in-6.is, c.requires.1))
    ∙ ap (λ (j : ℕ). get_or
    (with_objects (object_words c.args.first.now)
    c.args.table.now) j (pos 0)) (sym c.in-6.is)

pub returns-in_default : goal.returns-in_default
returns-in_default c = to_z-of_z {w = w32} {z = c.signed_word.result} (record { sfits = c.signed_word.type_inv }) ∙ c.signed_word.ensures
    ∙ word-head c.requires.0 _ c.in_default.in_default-own.rest.0.0.0.1 c.in_default.in_default-own.rest.0.0.1 c.in_default.in_default-own.rest.0.1
    c.in_default.in_default-own.rest.1
    c.requires.1
