-- The paper's "Routines to try", (a) to (l): one table of routines with their verdicts, shown of the written rules by one statement.
use Rattle.answers.specs.declared.refusals.Refusal.{Refusal}
use Rattle.std.specs.Prelude.{◌≡◌, refl, List, [], ◌∷◌, map, ℤ, pos, negsuc, Err, Ok, Result}
use Rattle.std.proofs.Common.{sym, ◌∙◌}
use Rattle.sums.specs.Sums.{concatenated}
use Rattle.facts.specs.Store.{least_sum, shown, end_shown, new_row, new_set, lowered_row, lowered, marked, added, own_row}
use Rattle.facts.specs.Store.{rerouted_row, reassigned, ranged, dropped, shifted, joined_sum, joined_row, joined, within_end}
use Rattle.arrays.specs.Tabulate.{tabulate}
use Rattle.words.specs.Words.{fields_at, biased, word}
use Rattle.words.specs.Fields.{index_of, is_below, literal_value, is_constant}
use Rattle.words.specs.Sections.{in_limits, is_variable, kind_at, integer_at, pointer_at, names_integer, names_pointer, names_index, start_right}
use Rattle.words.specs.Sections.{kind_of, kind_is, array_at, string_at, object_terminated, takes_pointer, takes_object, names_array, names_string}
use Rattle.conditions.specs.Conditions.{negation, negated_of, same_kind, beside_literal, condition_right, right_of, offset_of, condition_of}
use Rattle.statements.specs.Statements.{unused_from, literal_read, add_constant_read, arithmetic_read, null_read, address_read, pointer_offset_read}
use Rattle.statements.specs.Statements.{pointer_index_read, load_read, store_read, bundle_read, check_read, if_read, while_read, kind_read, statement_at}
use Rattle.statements.specs.Statements.{declare_read}
use Rattle.table.specs.Variables.{end_words_at, variable_words_at, end_right, end_zero, end_of, integer_record, pointer_record}
use Rattle.table.specs.Variables.{variable_of, variable_at, object_at, row_words_at, row_of, row_at, is_size, size_of, object_cells}
use Rattle.table.specs.Form.{length_right, is_number, sections_of, directory_right, object_right, variable_reads, statement_reads, lowest_from}
use Rattle.table.specs.Form.{lowest_object, lowest_variable, lowest_statement, items_form, form_of, four_pairs, fourth_right, row_reads, lowest_row}
use Rattle.blocks.specs.Layout.{also, when, contents, bundle_layout, block_layout, layout}
use Rattle.blocks.specs.Parts.{verdict}
use Rattle.blocks.specs.Shape.{size}
use Rattle.listed.specs.Entries.{entry_at, belongs, entries_from, entries_of}
use Rattle.listed.specs.ListForm.{lowest_entry, list_faults}
use Rattle.blocks.specs.Tree.{simples, parse, tree, targets, assigned}
use Rattle.rules.specs.BoundsRules.{forget_end, forget_bounds, object_bounds, row_bound, rows_after, weight, upper_limit}
use Rattle.rules.specs.CallLaws.{none-formed}
use Rattle.rules.specs.Stored.{effect, end_at_most, known_at_most, bounds_shown, unshown_from, unshown, access_shown, equated, positive, differs}
use Rattle.rules.specs.Stored.{relation_facts, condition_facts, sum_facts, offset_facts, facts_after, dropped_each, loop_facts, bundle_bounds, bundle_faults}
use Rattle.rules.specs.Stored.{block_faults, section_faults, faults, shift_constant, shift_end, shift_bounds, effect_on, bounds_after, bundle_after}
use Rattle.rules.specs.Stored.{block_after}
use Rattle.rules.specs.FactRules.{among}
use Rattle.rules.specs.Rules.{access_at, bounds_at, same_rows, rows_at}
use Rattle.rules.specs.Verdict.{environment_of, verdict_of}
use Rattle.rules.specs.ByChains.{Decided, chain_faults}
use Rattle.rules.proofs.Decidable.{decided}
use Rattle.rules.proofs.Agreement.{verdict-agrees}
use Rattle.answers.specs.declared.refusals.Refusal.TheVariants.{BoundsNotShown, BundleAccess}
use Rattle.rules.specs.BoundsRules as bounds_rules
use Rattle.rules.specs.FactRules as fact_rules
use Rattle.rules.specs.Rules as walk_rules
use Rattle.rules.specs.Verdict as verdict_rules

pub record Routine : Type 0 where
  pub table : List ℤ
  pub verdict : Result (Unit {0}) Refusal

abbrev pub routine : List ℤ → Result (Unit {0}) Refusal → Routine
routine t v = record { table = t; verdict = v }

pub routines : List Routine
routines =
    -- (a) n := n - 1
    routine (pos 6 ∷ pos 0 ∷ pos 6 ∷ pos 16 ∷ pos 22 ∷ pos 7
    ∷ pos 1 ∷ pos 0 ∷ pos 0 ∷ negsuc 0 ∷ pos 0 ∷ pos 0 ∷ pos 1 ∷ pos 0
    ∷ pos 0 ∷ pos 0 ∷ pos 0 ∷ pos 0 ∷ pos 0 ∷ pos 0 ∷ pos 0 ∷ pos 0
    ∷ pos 2 ∷ pos 1 ∷ pos 1 ∷ negsuc 0 ∷ pos 0 ∷ pos 0 ∷ pos 0 ∷ [])
    (Err (BoundsNotShown 0 0)) ∷
    -- (b) dynamic check n > 0 first
    routine (pos 6 ∷ pos 0 ∷ pos 6 ∷ pos 16 ∷ pos 22 ∷ pos 14
    ∷ pos 1 ∷ pos 0 ∷ pos 0 ∷ negsuc 0 ∷ pos 0 ∷ pos 0 ∷ pos 1 ∷ pos 0
    ∷ pos 0 ∷ pos 0 ∷ pos 0 ∷ pos 0 ∷ pos 0 ∷ pos 0 ∷ pos 0 ∷ pos 0
    ∷ pos 10 ∷ pos 1 ∷ pos 2 ∷ pos 1 ∷ pos 0 ∷ pos 0 ∷ pos 0
    ∷ pos 2 ∷ pos 1 ∷ pos 1 ∷ negsuc 0 ∷ pos 0 ∷ pos 0 ∷ pos 0 ∷ [])
    ((Ok tt)) ∷
    -- (c) check n < 10, n := n + 1
    routine (pos 6 ∷ pos 0 ∷ pos 6 ∷ pos 16 ∷ pos 22 ∷ pos 14
    ∷ pos 1 ∷ pos 0 ∷ pos 0 ∷ negsuc 0 ∷ pos 0 ∷ pos 0 ∷ pos 1 ∷ pos 0
    ∷ pos 0 ∷ pos 0 ∷ pos 0 ∷ pos 0 ∷ pos 0 ∷ pos 0 ∷ pos 0 ∷ pos 0
    ∷ pos 10 ∷ pos 1 ∷ pos 0 ∷ pos 1 ∷ pos 10 ∷ pos 0 ∷ pos 0
    ∷ pos 2 ∷ pos 1 ∷ pos 1 ∷ pos 1 ∷ pos 0 ∷ pos 0 ∷ pos 0 ∷ [])
    (Err (BoundsNotShown 1 0)) ∷
    -- (d) p := p + 1
    routine (pos 6 ∷ pos 0 ∷ pos 6 ∷ pos 16 ∷ pos 22 ∷ pos 7
    ∷ pos 1 ∷ pos 0 ∷ pos 0 ∷ negsuc 0 ∷ pos 0 ∷ pos 0 ∷ pos 1 ∷ pos 0
    ∷ pos 0 ∷ pos 0 ∷ pos 0 ∷ pos 0 ∷ pos 0 ∷ pos 0 ∷ pos 0 ∷ pos 0
    ∷ pos 6 ∷ pos 0 ∷ pos 0 ∷ pos 1 ∷ pos 0 ∷ pos 0 ∷ pos 0 ∷ [])
    (Err (BoundsNotShown 0 0)) ∷
    -- (e) check n > 0, bundle p := p + 1, n := n - 1
    routine (pos 6 ∷ pos 0 ∷ pos 6 ∷ pos 16 ∷ pos 22 ∷ pos 28
    ∷ pos 1 ∷ pos 0 ∷ pos 0 ∷ negsuc 0 ∷ pos 0 ∷ pos 0 ∷ pos 1 ∷ pos 0
    ∷ pos 0 ∷ pos 0 ∷ pos 0 ∷ pos 0 ∷ pos 0 ∷ pos 0 ∷ pos 0 ∷ pos 0
    ∷ pos 10 ∷ pos 1 ∷ pos 2 ∷ pos 1 ∷ pos 0 ∷ pos 0 ∷ pos 0
    ∷ pos 13 ∷ pos 2 ∷ pos 0 ∷ pos 0 ∷ pos 0 ∷ pos 0 ∷ pos 0
    ∷ pos 6 ∷ pos 0 ∷ pos 0 ∷ pos 1 ∷ pos 0 ∷ pos 0 ∷ pos 0
    ∷ pos 2 ∷ pos 1 ∷ pos 1 ∷ negsuc 0 ∷ pos 0 ∷ pos 0 ∷ pos 0 ∷ [])
    ((Ok tt)) ∷
    -- (f) as e with p[0] read into x between
    routine (pos 6 ∷ pos 0 ∷ pos 6 ∷ pos 24 ∷ pos 30 ∷ pos 35
    ∷ pos 1 ∷ pos 0 ∷ pos 0 ∷ negsuc 0 ∷ pos 0 ∷ pos 0 ∷ pos 1 ∷ pos 0
    ∷ pos 0 ∷ pos 0 ∷ pos 0 ∷ pos 0 ∷ pos 0 ∷ pos 0 ∷ pos 0 ∷ pos 0
    ∷ pos 0 ∷ pos 0 ∷ pos 0 ∷ pos 0 ∷ pos 0 ∷ pos 0 ∷ pos 0 ∷ pos 0
    ∷ pos 10 ∷ pos 1 ∷ pos 2 ∷ pos 1 ∷ pos 0 ∷ pos 0 ∷ pos 0
    ∷ pos 13 ∷ pos 3 ∷ pos 0 ∷ pos 0 ∷ pos 0 ∷ pos 0 ∷ pos 0
    ∷ pos 6 ∷ pos 0 ∷ pos 0 ∷ pos 1 ∷ pos 0 ∷ pos 0 ∷ pos 0
    ∷ pos 8 ∷ pos 2 ∷ pos 0 ∷ negsuc 0 ∷ pos 0 ∷ pos 0 ∷ pos 0
    ∷ pos 2 ∷ pos 1 ∷ pos 1 ∷ negsuc 0 ∷ pos 0 ∷ pos 0 ∷ pos 0 ∷ [])
    (Err (BundleAccess 3)) ∷
    -- (g) as f, n lowered first and p raised last
    routine (pos 6 ∷ pos 0 ∷ pos 6 ∷ pos 24 ∷ pos 30 ∷ pos 35
    ∷ pos 1 ∷ pos 0 ∷ pos 0 ∷ negsuc 0 ∷ pos 0 ∷ pos 0 ∷ pos 1 ∷ pos 0
    ∷ pos 0 ∷ pos 0 ∷ pos 0 ∷ pos 0 ∷ pos 0 ∷ pos 0 ∷ pos 0 ∷ pos 0
    ∷ pos 0 ∷ pos 0 ∷ pos 0 ∷ pos 0 ∷ pos 0 ∷ pos 0 ∷ pos 0 ∷ pos 0
    ∷ pos 10 ∷ pos 1 ∷ pos 2 ∷ pos 1 ∷ pos 0 ∷ pos 0 ∷ pos 0
    ∷ pos 13 ∷ pos 3 ∷ pos 0 ∷ pos 0 ∷ pos 0 ∷ pos 0 ∷ pos 0
    ∷ pos 2 ∷ pos 1 ∷ pos 1 ∷ negsuc 0 ∷ pos 0 ∷ pos 0 ∷ pos 0
    ∷ pos 8 ∷ pos 2 ∷ pos 0 ∷ negsuc 0 ∷ pos 0 ∷ pos 0 ∷ pos 0
    ∷ pos 6 ∷ pos 0 ∷ pos 0 ∷ pos 1 ∷ pos 0 ∷ pos 0 ∷ pos 0 ∷ [])
    ((Ok tt)) ∷
    -- (h) bundle p := object 0, n := 10
    routine (pos 6 ∷ pos 1 ∷ pos 7 ∷ pos 16 ∷ pos 23 ∷ pos 21
    ∷ pos 10
    ∷ pos 1 ∷ pos 0 ∷ pos 0 ∷ negsuc 0 ∷ pos 0 ∷ pos 0 ∷ pos 1 ∷ pos 0
    ∷ pos 0 ∷ pos 0 ∷ pos 0 ∷ pos 0 ∷ pos 0 ∷ pos 0 ∷ pos 0 ∷ pos 0
    ∷ pos 13 ∷ pos 2 ∷ pos 0 ∷ pos 0 ∷ pos 0 ∷ pos 0 ∷ pos 0
    ∷ pos 5 ∷ pos 0 ∷ pos 0 ∷ pos 0 ∷ pos 0 ∷ pos 0 ∷ pos 0
    ∷ pos 1 ∷ pos 1 ∷ pos 10 ∷ pos 0 ∷ pos 0 ∷ pos 0 ∷ pos 0 ∷ [])
    ((Ok tt)) ∷
    -- (i) n := 11
    routine (pos 6 ∷ pos 1 ∷ pos 7 ∷ pos 16 ∷ pos 23 ∷ pos 21
    ∷ pos 10
    ∷ pos 1 ∷ pos 0 ∷ pos 0 ∷ negsuc 0 ∷ pos 0 ∷ pos 0 ∷ pos 1 ∷ pos 0
    ∷ pos 0 ∷ pos 0 ∷ pos 0 ∷ pos 0 ∷ pos 0 ∷ pos 0 ∷ pos 0 ∷ pos 0
    ∷ pos 13 ∷ pos 2 ∷ pos 0 ∷ pos 0 ∷ pos 0 ∷ pos 0 ∷ pos 0
    ∷ pos 5 ∷ pos 0 ∷ pos 0 ∷ pos 0 ∷ pos 0 ∷ pos 0 ∷ pos 0
    ∷ pos 1 ∷ pos 1 ∷ pos 11 ∷ pos 0 ∷ pos 0 ∷ pos 0 ∷ pos 0 ∷ [])
    (Err (BoundsNotShown 0 0)) ∷
    -- (j) p := null, n := 5
    routine (pos 6 ∷ pos 0 ∷ pos 6 ∷ pos 16 ∷ pos 22 ∷ pos 14
    ∷ pos 1 ∷ pos 0 ∷ pos 0 ∷ negsuc 0 ∷ pos 0 ∷ pos 0 ∷ pos 1 ∷ pos 0
    ∷ pos 0 ∷ pos 0 ∷ pos 0 ∷ pos 0 ∷ pos 0 ∷ pos 0 ∷ pos 0 ∷ pos 0
    ∷ pos 4 ∷ pos 0 ∷ pos 0 ∷ pos 0 ∷ pos 0 ∷ pos 0 ∷ pos 0
    ∷ pos 1 ∷ pos 1 ∷ pos 5 ∷ pos 0 ∷ pos 0 ∷ pos 0 ∷ pos 0 ∷ [])
    ((Ok tt)) ∷
    -- (k) while n > 0, n := n - 1
    routine (pos 6 ∷ pos 0 ∷ pos 6 ∷ pos 16 ∷ pos 22 ∷ pos 14
    ∷ pos 1 ∷ pos 0 ∷ pos 0 ∷ negsuc 0 ∷ pos 0 ∷ pos 0 ∷ pos 1 ∷ pos 0
    ∷ pos 0 ∷ pos 0 ∷ pos 0 ∷ pos 0 ∷ pos 0 ∷ pos 0 ∷ pos 0 ∷ pos 0
    ∷ pos 12 ∷ pos 1 ∷ pos 2 ∷ pos 1 ∷ pos 0 ∷ pos 1 ∷ pos 0
    ∷ pos 2 ∷ pos 1 ∷ pos 1 ∷ negsuc 0 ∷ pos 0 ∷ pos 0 ∷ pos 0 ∷ [])
    ((Ok tt)) ∷
    -- (l) check n < n, then any statement. Point 11: "Routine (l) is accepted if nothing else is wrong with it."
    routine (pos 6 ∷ pos 0 ∷ pos 6 ∷ pos 16 ∷ pos 22 ∷ pos 14
    ∷ pos 1 ∷ pos 0 ∷ pos 0 ∷ negsuc 0 ∷ pos 0 ∷ pos 0 ∷ pos 1 ∷ pos 0
    ∷ pos 0 ∷ pos 0 ∷ pos 0 ∷ pos 0 ∷ pos 0 ∷ pos 0 ∷ pos 0 ∷ pos 0
    ∷ pos 10 ∷ pos 1 ∷ pos 0 ∷ pos 0 ∷ pos 1 ∷ pos 0 ∷ pos 0
    ∷ pos 1 ∷ pos 1 ∷ pos 0 ∷ pos 0 ∷ pos 0 ∷ pos 0 ∷ pos 0 ∷ [])
    ((Ok tt)) ∷
    []

computed : map (λ (r : Routine). verdict_of (faults [] r.table [])) routines ≡ map (λ (r : Routine). r.verdict) routines
unfolding routines concatenated least_sum shown within_end end_shown new_row new_set lowered_row lowered marked added own_row rerouted_row reassigned ranged
    dropped
    shifted joined_sum joined_row joined tabulate length_right is_number four_pairs sections_of fourth_right directory_right object_right variable_reads
    row_reads
    statement_reads lowest_from lowest_object lowest_variable lowest_row lowest_statement items_form form_of negation negated_of start_right in_limits
    is_variable kind_of
    kind_at kind_is integer_at pointer_at array_at string_at object_terminated takes_pointer takes_object names_integer names_pointer names_array names_string
    names_index
    fields_at unused_from literal_read add_constant_read arithmetic_read null_read address_read pointer_offset_read pointer_index_read load_read store_read
    same_kind
    beside_literal condition_right right_of offset_of condition_of bundle_read declare_read check_read if_read while_read kind_read statement_at end_words_at
    variable_words_at
    end_right end_zero end_of integer_record is_size size_of pointer_record variable_of variable_at row_words_at row_of row_at object_cells object_at biased
    word index_of
    is_below literal_value is_constant also when contents bundle_layout block_layout layout verdict size simples parse tree targets assigned forget_end
    weight shift_constant bounds_rules.shift_end forget_bounds bounds_rules.shift_bounds object_bounds upper_limit bounds_rules.effect_on
    bounds_rules.bounds_after row_bound
    rows_after bounds_rules.effect bounds_rules.end_at_most bounds_rules.known_at_most bounds_rules.bounds_shown bounds_rules.unshown_from bounds_rules.unshown
    bounds_rules.row_unshown bounds_rules.access_shown fact_rules.equated fact_rules.positive fact_rules.differs fact_rules.relation_facts
    fact_rules.condition_facts
    fact_rules.sum_facts fact_rules.offset_facts fact_rules.facts_after among fact_rules.dropped_each fact_rules.loop_facts access_at bounds_at same_rows
    rows_at
    walk_rules.bundle_after walk_rules.bundle_bounds walk_rules.bundle_faults walk_rules.block_after walk_rules.block_faults environment_of
    verdict_rules.section_faults
    verdict_rules.faults verdict_of entry_at belongs entries_from entries_of list_faults lowest_entry fact_rules.entry_facts walk_rules.entries_unshown
computed = refl

-- By the paper's chains, the rules give each routine its verdict.
abbrev pub Given : List Routine → Type 0
Given [] = Unit {0}
Given (r ∷ rs) = Decided r.table (λ d. verdict_of (chain_faults d [] r.table []) ≡ r.verdict) × Given rs

given : (rs : List Routine) → map (λ (r : Routine). verdict_of (faults [] r.table [])) rs ≡ map (λ (r : Routine). r.verdict) rs → Given rs
given [] e = tt
given (r ∷ rs) e =
    let e₁ : verdict_of (faults [] r.table []) ≡ r.verdict = cc in
    let e₂ : map (λ (r : Routine). verdict_of (faults [] r.table [])) rs ≡ map (λ (r : Routine). r.verdict) rs = cc in
    (decided _ _ (λ d c. sym (verdict-agrees [] none-formed r.table [] d c) ∙ e₁), given rs e₂)

pub right : Given routines
right = given routines computed
