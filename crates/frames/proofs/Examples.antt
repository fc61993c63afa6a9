-- EXAMPLES BY COMPUTATION: the whole program on whole inputs, the paper's example byte for byte among them.
use Rattle.std.specs.Prelude.{◌≡◌, refl}
use Rattle.order.specs.Lists as lists
use Rattle.order.specs.Compare as compare
use Rattle.text.specs.Text as text
use Rattle.text.specs.Text.{ascii}
use Rattle.checks.specs.Checks as checks
use Rattle.sets.specs.Sets as sets
use Rattle.sorted.specs.Sorted as sorted
use Rattle.ty.specs.Types as types
use Rattle.ty.specs.Words as words
use Rattle.utf8.specs.Utf8 as utf8
use Rattle.names.specs.Names as names
use Rattle.view.specs.View as view
use Rattle.tables.specs.Table as tables
use Rattle.lattice.specs.Lattice as lattice
use Rattle.lattice.specs.World as worlds
use Rattle.rows.specs.Rows as rows
use Rattle.layers.specs.Layers as layers
use Rattle.layers.specs.Stacks as stacks
use Rattle.solving.specs.Ordered as ordered
use Rattle.solving.specs.Solving as solving
use Rattle.problems.specs.Problems as problems
use Rattle.hexline.specs.Hex as hex
use Rattle.lineout.specs.Printed as printed
use Rattle.frames.specs.Frames as frames
use Rattle.frames.specs.Typeline as typeline
use Rattle.frames.specs.Texts as texts
use Rattle.frames.specs.Texts.{text_of}
use Rattle.frames.specs.Examples.{paper_input, paper_output, unrecorded_input, unrecorded_output, order_input, order_output, lines_input, lines_output, late_input, late_output, ranked_input, ranked_output, layered_input, layered_output, united_input, united_output, fifth_input, fifth_output}

pub paper : typeline.typeline (text_of paper_input) ≡ text_of paper_output
unfolding typeline.typeline sets.bit sets.clear sets.at sets.member sets.insert sets.remove sets.members sets.first sorted.bisect sorted.place sorted.has sorted.insert_sorted sorted.put types.depth types.arrays lists.elem types.is_reference types.wide_category types.element types.is_concrete types.categories types.hint_of_list types.concrete_hint compare.compare_numbers compare.compare_lists types.compare words.unpack words.pack words.list_of words.good_digits words.good_unknown words.base_of words.type_of words.word_of words.legal_base words.legal_word utf8.table utf8.within utf8.matches utf8.first_match utf8.sequence utf8.scan utf8.valid_prefix utf8.well_formed checks.first_refusal names.name_checks names.check_name view.insert_all view.with_parents view.grow view.level view.reached view.reach view.steps view.distance view.ancestor view.all_recorded view.complete view.relation view.relation_number view.cast_by_facts view.cast view.common view.below view.any_below view.lowest view.nearer view.nearest view.numbers view.candidates view.supertype tables.own_run tables.parents_in tables.parents_of tables.mark lattice.same_type lattice.has_all lattice.unknown_accepts lattice.in_either lattice.unknown_union lattice.primitive_assignable lattice.elements_assignable lattice.array_parent lattice.assignable_apart lattice.is_assignable lattice.producer_bound_compatible lattice.same_register_category lattice.observed_accepts lattice.any_accepts lattice.domain_accepts lattice.narrow lattice.under_double lattice.join_primitive lattice.in_both lattice.join_known lattice.join_elements lattice.join_array_class lattice.join_apart lattice.join lattice.join_from lattice.join_all lattice.assignable_to_all lattice.least_hint lattice.most_specific_upper worlds.present rows.object_name rows.cloneable_name rows.serializable_name rows.noted rows.with_name rows.no_tables rows.name_row rows.good_flags rows.all_below rows.put_all rows.marked rows.record_marks rows.record_checks rows.record_refusal rows.with_record rows.record_row layers.keys_inside layers.keys_without layers.keys_left layers.layer_refusal layers.with_layer_record layers.layer_row stacks.stack_refusal stacks.stack_row stacks.open_refusal stacks.open_row frames.ask_checks ordered.present ordered.insert ordered.set_of solving.compare_bounds solving.types_of solving.state_of solving.produced_type solving.array_element solving.produced_array solving.compare_pairs solving.partners solving.to_one solving.to_each solving.array_rules solving.additions solving.enqueue solving.insert_bound solving.insert_all solving.turn solving.run solving.propagate solving.first_failing solving.domain_cause solving.evidence_fits solving.upper_candidate solving.evidence_cast solving.fallback_join solving.hints_of solving.domain_hint solving.ways solving.first_answer solving.resolve_state solving.swapped solving.links_of solving.table_of solving.answers solving.solve problems.no_problem problems.with_row problems.row_checks problems.row_refusal problems.problem_row frames.empty_store hex.digit hex.hex_bytes hex.bad_hex frames.bad_kind frames.good_length frames.bad_order hex.number_at hex.numbers_in hex.bytes_number frames.message_of frames.message_refusal frames.frame_checks frames.with_message frames.answer frames.accepted frames.frame_bytes frames.frame typeline.lines_of printed.decimal_from printed.decimal printed.hex_digits typeline.print_answers typeline.print typeline.print_from text.ascii texts.text_of
paper = refl

pub unrecorded : typeline.typeline (text_of unrecorded_input) ≡ text_of unrecorded_output
unfolding typeline.typeline sets.bit sets.clear sets.at sets.member sets.insert sets.remove sets.members sets.first sorted.bisect sorted.place sorted.has sorted.insert_sorted sorted.put types.depth types.arrays lists.elem types.is_reference types.wide_category types.element types.is_concrete types.categories types.hint_of_list types.concrete_hint compare.compare_numbers compare.compare_lists types.compare words.unpack words.pack words.list_of words.good_digits words.good_unknown words.base_of words.type_of words.word_of words.legal_base words.legal_word utf8.table utf8.within utf8.matches utf8.first_match utf8.sequence utf8.scan utf8.valid_prefix utf8.well_formed checks.first_refusal names.name_checks names.check_name view.insert_all view.with_parents view.grow view.level view.reached view.reach view.steps view.distance view.ancestor view.all_recorded view.complete view.relation view.relation_number view.cast_by_facts view.cast view.common view.below view.any_below view.lowest view.nearer view.nearest view.numbers view.candidates view.supertype tables.own_run tables.parents_in tables.parents_of tables.mark lattice.same_type lattice.has_all lattice.unknown_accepts lattice.in_either lattice.unknown_union lattice.primitive_assignable lattice.elements_assignable lattice.array_parent lattice.assignable_apart lattice.is_assignable lattice.producer_bound_compatible lattice.same_register_category lattice.observed_accepts lattice.any_accepts lattice.domain_accepts lattice.narrow lattice.under_double lattice.join_primitive lattice.in_both lattice.join_known lattice.join_elements lattice.join_array_class lattice.join_apart lattice.join lattice.join_from lattice.join_all lattice.assignable_to_all lattice.least_hint lattice.most_specific_upper worlds.present rows.object_name rows.cloneable_name rows.serializable_name rows.noted rows.with_name rows.no_tables rows.name_row rows.good_flags rows.all_below rows.put_all rows.marked rows.record_marks rows.record_checks rows.record_refusal rows.with_record rows.record_row layers.keys_inside layers.keys_without layers.keys_left layers.layer_refusal layers.with_layer_record layers.layer_row stacks.stack_refusal stacks.stack_row stacks.open_refusal stacks.open_row frames.ask_checks ordered.present ordered.insert ordered.set_of solving.compare_bounds solving.types_of solving.state_of solving.produced_type solving.array_element solving.produced_array solving.compare_pairs solving.partners solving.to_one solving.to_each solving.array_rules solving.additions solving.enqueue solving.insert_bound solving.insert_all solving.turn solving.run solving.propagate solving.first_failing solving.domain_cause solving.evidence_fits solving.upper_candidate solving.evidence_cast solving.fallback_join solving.hints_of solving.domain_hint solving.ways solving.first_answer solving.resolve_state solving.swapped solving.links_of solving.table_of solving.answers solving.solve problems.no_problem problems.with_row problems.row_checks problems.row_refusal problems.problem_row frames.empty_store hex.digit hex.hex_bytes hex.bad_hex frames.bad_kind frames.good_length frames.bad_order hex.number_at hex.numbers_in hex.bytes_number frames.message_of frames.message_refusal frames.frame_checks frames.with_message frames.answer frames.accepted frames.frame_bytes frames.frame typeline.lines_of printed.decimal_from printed.decimal printed.hex_digits typeline.print_answers typeline.print typeline.print_from text.ascii texts.text_of
unrecorded = refl

pub order : typeline.typeline (text_of order_input) ≡ text_of order_output
unfolding typeline.typeline sets.bit sets.clear sets.at sets.member sets.insert sets.remove sets.members sets.first sorted.bisect sorted.place sorted.has sorted.insert_sorted sorted.put types.depth types.arrays lists.elem types.is_reference types.wide_category types.element types.is_concrete types.categories types.hint_of_list types.concrete_hint compare.compare_numbers compare.compare_lists types.compare words.unpack words.pack words.list_of words.good_digits words.good_unknown words.base_of words.type_of words.word_of words.legal_base words.legal_word utf8.table utf8.within utf8.matches utf8.first_match utf8.sequence utf8.scan utf8.valid_prefix utf8.well_formed checks.first_refusal names.name_checks names.check_name view.insert_all view.with_parents view.grow view.level view.reached view.reach view.steps view.distance view.ancestor view.all_recorded view.complete view.relation view.relation_number view.cast_by_facts view.cast view.common view.below view.any_below view.lowest view.nearer view.nearest view.numbers view.candidates view.supertype tables.own_run tables.parents_in tables.parents_of tables.mark lattice.same_type lattice.has_all lattice.unknown_accepts lattice.in_either lattice.unknown_union lattice.primitive_assignable lattice.elements_assignable lattice.array_parent lattice.assignable_apart lattice.is_assignable lattice.producer_bound_compatible lattice.same_register_category lattice.observed_accepts lattice.any_accepts lattice.domain_accepts lattice.narrow lattice.under_double lattice.join_primitive lattice.in_both lattice.join_known lattice.join_elements lattice.join_array_class lattice.join_apart lattice.join lattice.join_from lattice.join_all lattice.assignable_to_all lattice.least_hint lattice.most_specific_upper worlds.present rows.object_name rows.cloneable_name rows.serializable_name rows.noted rows.with_name rows.no_tables rows.name_row rows.good_flags rows.all_below rows.put_all rows.marked rows.record_marks rows.record_checks rows.record_refusal rows.with_record rows.record_row layers.keys_inside layers.keys_without layers.keys_left layers.layer_refusal layers.with_layer_record layers.layer_row stacks.stack_refusal stacks.stack_row stacks.open_refusal stacks.open_row frames.ask_checks ordered.present ordered.insert ordered.set_of solving.compare_bounds solving.types_of solving.state_of solving.produced_type solving.array_element solving.produced_array solving.compare_pairs solving.partners solving.to_one solving.to_each solving.array_rules solving.additions solving.enqueue solving.insert_bound solving.insert_all solving.turn solving.run solving.propagate solving.first_failing solving.domain_cause solving.evidence_fits solving.upper_candidate solving.evidence_cast solving.fallback_join solving.hints_of solving.domain_hint solving.ways solving.first_answer solving.resolve_state solving.swapped solving.links_of solving.table_of solving.answers solving.solve problems.no_problem problems.with_row problems.row_checks problems.row_refusal problems.problem_row frames.empty_store hex.digit hex.hex_bytes hex.bad_hex frames.bad_kind frames.good_length frames.bad_order hex.number_at hex.numbers_in hex.bytes_number frames.message_of frames.message_refusal frames.frame_checks frames.with_message frames.answer frames.accepted frames.frame_bytes frames.frame typeline.lines_of printed.decimal_from printed.decimal printed.hex_digits typeline.print_answers typeline.print typeline.print_from text.ascii texts.text_of
order = refl

pub lines : typeline.typeline (text_of lines_input) ≡ text_of lines_output
unfolding typeline.typeline sets.bit sets.clear sets.at sets.member sets.insert sets.remove sets.members sets.first sorted.bisect sorted.place sorted.has sorted.insert_sorted sorted.put types.depth types.arrays lists.elem types.is_reference types.wide_category types.element types.is_concrete types.categories types.hint_of_list types.concrete_hint compare.compare_numbers compare.compare_lists types.compare words.unpack words.pack words.list_of words.good_digits words.good_unknown words.base_of words.type_of words.word_of words.legal_base words.legal_word utf8.table utf8.within utf8.matches utf8.first_match utf8.sequence utf8.scan utf8.valid_prefix utf8.well_formed checks.first_refusal names.name_checks names.check_name view.insert_all view.with_parents view.grow view.level view.reached view.reach view.steps view.distance view.ancestor view.all_recorded view.complete view.relation view.relation_number view.cast_by_facts view.cast view.common view.below view.any_below view.lowest view.nearer view.nearest view.numbers view.candidates view.supertype tables.own_run tables.parents_in tables.parents_of tables.mark lattice.same_type lattice.has_all lattice.unknown_accepts lattice.in_either lattice.unknown_union lattice.primitive_assignable lattice.elements_assignable lattice.array_parent lattice.assignable_apart lattice.is_assignable lattice.producer_bound_compatible lattice.same_register_category lattice.observed_accepts lattice.any_accepts lattice.domain_accepts lattice.narrow lattice.under_double lattice.join_primitive lattice.in_both lattice.join_known lattice.join_elements lattice.join_array_class lattice.join_apart lattice.join lattice.join_from lattice.join_all lattice.assignable_to_all lattice.least_hint lattice.most_specific_upper worlds.present rows.object_name rows.cloneable_name rows.serializable_name rows.noted rows.with_name rows.no_tables rows.name_row rows.good_flags rows.all_below rows.put_all rows.marked rows.record_marks rows.record_checks rows.record_refusal rows.with_record rows.record_row layers.keys_inside layers.keys_without layers.keys_left layers.layer_refusal layers.with_layer_record layers.layer_row stacks.stack_refusal stacks.stack_row stacks.open_refusal stacks.open_row frames.ask_checks ordered.present ordered.insert ordered.set_of solving.compare_bounds solving.types_of solving.state_of solving.produced_type solving.array_element solving.produced_array solving.compare_pairs solving.partners solving.to_one solving.to_each solving.array_rules solving.additions solving.enqueue solving.insert_bound solving.insert_all solving.turn solving.run solving.propagate solving.first_failing solving.domain_cause solving.evidence_fits solving.upper_candidate solving.evidence_cast solving.fallback_join solving.hints_of solving.domain_hint solving.ways solving.first_answer solving.resolve_state solving.swapped solving.links_of solving.table_of solving.answers solving.solve problems.no_problem problems.with_row problems.row_checks problems.row_refusal problems.problem_row frames.empty_store hex.digit hex.hex_bytes hex.bad_hex frames.bad_kind frames.good_length frames.bad_order hex.number_at hex.numbers_in hex.bytes_number frames.message_of frames.message_refusal frames.frame_checks frames.with_message frames.answer frames.accepted frames.frame_bytes frames.frame typeline.lines_of printed.decimal_from printed.decimal printed.hex_digits typeline.print_answers typeline.print typeline.print_from text.ascii texts.text_of
lines = refl

pub late : typeline.typeline (text_of late_input) ≡ text_of late_output
unfolding typeline.typeline sets.bit sets.clear sets.at sets.member sets.insert sets.remove sets.members sets.first sorted.bisect sorted.place sorted.has sorted.insert_sorted sorted.put types.depth types.arrays lists.elem types.is_reference types.wide_category types.element types.is_concrete types.categories types.hint_of_list types.concrete_hint compare.compare_numbers compare.compare_lists types.compare words.unpack words.pack words.list_of words.good_digits words.good_unknown words.base_of words.type_of words.word_of words.legal_base words.legal_word utf8.table utf8.within utf8.matches utf8.first_match utf8.sequence utf8.scan utf8.valid_prefix utf8.well_formed checks.first_refusal names.name_checks names.check_name view.insert_all view.with_parents view.grow view.level view.reached view.reach view.steps view.distance view.ancestor view.all_recorded view.complete view.relation view.relation_number view.cast_by_facts view.cast view.common view.below view.any_below view.lowest view.nearer view.nearest view.numbers view.candidates view.supertype tables.own_run tables.parents_in tables.parents_of tables.mark lattice.same_type lattice.has_all lattice.unknown_accepts lattice.in_either lattice.unknown_union lattice.primitive_assignable lattice.elements_assignable lattice.array_parent lattice.assignable_apart lattice.is_assignable lattice.producer_bound_compatible lattice.same_register_category lattice.observed_accepts lattice.any_accepts lattice.domain_accepts lattice.narrow lattice.under_double lattice.join_primitive lattice.in_both lattice.join_known lattice.join_elements lattice.join_array_class lattice.join_apart lattice.join lattice.join_from lattice.join_all lattice.assignable_to_all lattice.least_hint lattice.most_specific_upper worlds.present rows.object_name rows.cloneable_name rows.serializable_name rows.noted rows.with_name rows.no_tables rows.name_row rows.good_flags rows.all_below rows.put_all rows.marked rows.record_marks rows.record_checks rows.record_refusal rows.with_record rows.record_row layers.keys_inside layers.keys_without layers.keys_left layers.layer_refusal layers.with_layer_record layers.layer_row stacks.stack_refusal stacks.stack_row stacks.open_refusal stacks.open_row frames.ask_checks ordered.present ordered.insert ordered.set_of solving.compare_bounds solving.types_of solving.state_of solving.produced_type solving.array_element solving.produced_array solving.compare_pairs solving.partners solving.to_one solving.to_each solving.array_rules solving.additions solving.enqueue solving.insert_bound solving.insert_all solving.turn solving.run solving.propagate solving.first_failing solving.domain_cause solving.evidence_fits solving.upper_candidate solving.evidence_cast solving.fallback_join solving.hints_of solving.domain_hint solving.ways solving.first_answer solving.resolve_state solving.swapped solving.links_of solving.table_of solving.answers solving.solve problems.no_problem problems.with_row problems.row_checks problems.row_refusal problems.problem_row frames.empty_store hex.digit hex.hex_bytes hex.bad_hex frames.bad_kind frames.good_length frames.bad_order hex.number_at hex.numbers_in hex.bytes_number frames.message_of frames.message_refusal frames.frame_checks frames.with_message frames.answer frames.accepted frames.frame_bytes frames.frame typeline.lines_of printed.decimal_from printed.decimal printed.hex_digits typeline.print_answers typeline.print typeline.print_from text.ascii texts.text_of
late = refl

pub ranked : typeline.typeline (text_of ranked_input) ≡ text_of ranked_output
unfolding typeline.typeline sets.bit sets.clear sets.at sets.member sets.insert sets.remove sets.members sets.first sorted.bisect sorted.place sorted.has sorted.insert_sorted sorted.put types.depth types.arrays lists.elem types.is_reference types.wide_category types.element types.is_concrete types.categories types.hint_of_list types.concrete_hint compare.compare_numbers compare.compare_lists types.compare words.unpack words.pack words.list_of words.good_digits words.good_unknown words.base_of words.type_of words.word_of words.legal_base words.legal_word utf8.table utf8.within utf8.matches utf8.first_match utf8.sequence utf8.scan utf8.valid_prefix utf8.well_formed checks.first_refusal names.name_checks names.check_name view.insert_all view.with_parents view.grow view.level view.reached view.reach view.steps view.distance view.ancestor view.all_recorded view.complete view.relation view.relation_number view.cast_by_facts view.cast view.common view.below view.any_below view.lowest view.nearer view.nearest view.numbers view.candidates view.supertype tables.own_run tables.parents_in tables.parents_of tables.mark lattice.same_type lattice.has_all lattice.unknown_accepts lattice.in_either lattice.unknown_union lattice.primitive_assignable lattice.elements_assignable lattice.array_parent lattice.assignable_apart lattice.is_assignable lattice.producer_bound_compatible lattice.same_register_category lattice.observed_accepts lattice.any_accepts lattice.domain_accepts lattice.narrow lattice.under_double lattice.join_primitive lattice.in_both lattice.join_known lattice.join_elements lattice.join_array_class lattice.join_apart lattice.join lattice.join_from lattice.join_all lattice.assignable_to_all lattice.least_hint lattice.most_specific_upper worlds.present rows.object_name rows.cloneable_name rows.serializable_name rows.noted rows.with_name rows.no_tables rows.name_row rows.good_flags rows.all_below rows.put_all rows.marked rows.record_marks rows.record_checks rows.record_refusal rows.with_record rows.record_row layers.keys_inside layers.keys_without layers.keys_left layers.layer_refusal layers.with_layer_record layers.layer_row stacks.stack_refusal stacks.stack_row stacks.open_refusal stacks.open_row frames.ask_checks ordered.present ordered.insert ordered.set_of solving.compare_bounds solving.types_of solving.state_of solving.produced_type solving.array_element solving.produced_array solving.compare_pairs solving.partners solving.to_one solving.to_each solving.array_rules solving.additions solving.enqueue solving.insert_bound solving.insert_all solving.turn solving.run solving.propagate solving.first_failing solving.domain_cause solving.evidence_fits solving.upper_candidate solving.evidence_cast solving.fallback_join solving.hints_of solving.domain_hint solving.ways solving.first_answer solving.resolve_state solving.swapped solving.links_of solving.table_of solving.answers solving.solve problems.no_problem problems.with_row problems.row_checks problems.row_refusal problems.problem_row frames.empty_store hex.digit hex.hex_bytes hex.bad_hex frames.bad_kind frames.good_length frames.bad_order hex.number_at hex.numbers_in hex.bytes_number frames.message_of frames.message_refusal frames.frame_checks frames.with_message frames.answer frames.accepted frames.frame_bytes frames.frame typeline.lines_of printed.decimal_from printed.decimal printed.hex_digits typeline.print_answers typeline.print typeline.print_from text.ascii texts.text_of
ranked = refl

pub layered : typeline.typeline (text_of layered_input) ≡ text_of layered_output
unfolding typeline.typeline sets.bit sets.clear sets.at sets.member sets.insert sets.remove sets.members sets.first sorted.bisect sorted.place sorted.has sorted.insert_sorted sorted.put types.depth types.arrays lists.elem types.is_reference types.wide_category types.element types.is_concrete types.categories types.hint_of_list types.concrete_hint compare.compare_numbers compare.compare_lists types.compare words.unpack words.pack words.list_of words.good_digits words.good_unknown words.base_of words.type_of words.word_of words.legal_base words.legal_word utf8.table utf8.within utf8.matches utf8.first_match utf8.sequence utf8.scan utf8.valid_prefix utf8.well_formed checks.first_refusal names.name_checks names.check_name view.insert_all view.with_parents view.grow view.level view.reached view.reach view.steps view.distance view.ancestor view.all_recorded view.complete view.relation view.relation_number view.cast_by_facts view.cast view.common view.below view.any_below view.lowest view.nearer view.nearest view.numbers view.candidates view.supertype tables.own_run tables.parents_in tables.parents_of tables.mark lattice.same_type lattice.has_all lattice.unknown_accepts lattice.in_either lattice.unknown_union lattice.primitive_assignable lattice.elements_assignable lattice.array_parent lattice.assignable_apart lattice.is_assignable lattice.producer_bound_compatible lattice.same_register_category lattice.observed_accepts lattice.any_accepts lattice.domain_accepts lattice.narrow lattice.under_double lattice.join_primitive lattice.in_both lattice.join_known lattice.join_elements lattice.join_array_class lattice.join_apart lattice.join lattice.join_from lattice.join_all lattice.assignable_to_all lattice.least_hint lattice.most_specific_upper worlds.present rows.object_name rows.cloneable_name rows.serializable_name rows.noted rows.with_name rows.no_tables rows.name_row rows.good_flags rows.all_below rows.put_all rows.marked rows.record_marks rows.record_checks rows.record_refusal rows.with_record rows.record_row layers.keys_inside layers.keys_without layers.keys_left layers.layer_refusal layers.with_layer_record layers.layer_row stacks.stack_refusal stacks.stack_row stacks.open_refusal stacks.open_row frames.ask_checks ordered.present ordered.insert ordered.set_of solving.compare_bounds solving.types_of solving.state_of solving.produced_type solving.array_element solving.produced_array solving.compare_pairs solving.partners solving.to_one solving.to_each solving.array_rules solving.additions solving.enqueue solving.insert_bound solving.insert_all solving.turn solving.run solving.propagate solving.first_failing solving.domain_cause solving.evidence_fits solving.upper_candidate solving.evidence_cast solving.fallback_join solving.hints_of solving.domain_hint solving.ways solving.first_answer solving.resolve_state solving.swapped solving.links_of solving.table_of solving.answers solving.solve problems.no_problem problems.with_row problems.row_checks problems.row_refusal problems.problem_row frames.empty_store hex.digit hex.hex_bytes hex.bad_hex frames.bad_kind frames.good_length frames.bad_order hex.number_at hex.numbers_in hex.bytes_number frames.message_of frames.message_refusal frames.frame_checks frames.with_message frames.answer frames.accepted frames.frame_bytes frames.frame typeline.lines_of printed.decimal_from printed.decimal printed.hex_digits typeline.print_answers typeline.print typeline.print_from text.ascii texts.text_of
layered = refl

pub united : typeline.typeline (text_of united_input) ≡ text_of united_output
unfolding typeline.typeline sets.bit sets.clear sets.at sets.member sets.insert sets.remove sets.members sets.first sorted.bisect sorted.place sorted.has sorted.insert_sorted sorted.put types.depth types.arrays lists.elem types.is_reference types.wide_category types.element types.is_concrete types.categories types.hint_of_list types.concrete_hint compare.compare_numbers compare.compare_lists types.compare words.unpack words.pack words.list_of words.good_digits words.good_unknown words.base_of words.type_of words.word_of words.legal_base words.legal_word utf8.table utf8.within utf8.matches utf8.first_match utf8.sequence utf8.scan utf8.valid_prefix utf8.well_formed checks.first_refusal names.name_checks names.check_name view.insert_all view.with_parents view.grow view.level view.reached view.reach view.steps view.distance view.ancestor view.all_recorded view.complete view.relation view.relation_number view.cast_by_facts view.cast view.common view.below view.any_below view.lowest view.nearer view.nearest view.numbers view.candidates view.supertype tables.own_run tables.parents_in tables.parents_of tables.mark lattice.same_type lattice.has_all lattice.unknown_accepts lattice.in_either lattice.unknown_union lattice.primitive_assignable lattice.elements_assignable lattice.array_parent lattice.assignable_apart lattice.is_assignable lattice.producer_bound_compatible lattice.same_register_category lattice.observed_accepts lattice.any_accepts lattice.domain_accepts lattice.narrow lattice.under_double lattice.join_primitive lattice.in_both lattice.join_known lattice.join_elements lattice.join_array_class lattice.join_apart lattice.join lattice.join_from lattice.join_all lattice.assignable_to_all lattice.least_hint lattice.most_specific_upper worlds.present rows.object_name rows.cloneable_name rows.serializable_name rows.noted rows.with_name rows.no_tables rows.name_row rows.good_flags rows.all_below rows.put_all rows.marked rows.record_marks rows.record_checks rows.record_refusal rows.with_record rows.record_row layers.keys_inside layers.keys_without layers.keys_left layers.layer_refusal layers.with_layer_record layers.layer_row stacks.stack_refusal stacks.stack_row stacks.open_refusal stacks.open_row frames.ask_checks ordered.present ordered.insert ordered.set_of solving.compare_bounds solving.types_of solving.state_of solving.produced_type solving.array_element solving.produced_array solving.compare_pairs solving.partners solving.to_one solving.to_each solving.array_rules solving.additions solving.enqueue solving.insert_bound solving.insert_all solving.turn solving.run solving.propagate solving.first_failing solving.domain_cause solving.evidence_fits solving.upper_candidate solving.evidence_cast solving.fallback_join solving.hints_of solving.domain_hint solving.ways solving.first_answer solving.resolve_state solving.swapped solving.links_of solving.table_of solving.answers solving.solve problems.no_problem problems.with_row problems.row_checks problems.row_refusal problems.problem_row frames.empty_store hex.digit hex.hex_bytes hex.bad_hex frames.bad_kind frames.good_length frames.bad_order hex.number_at hex.numbers_in hex.bytes_number frames.message_of frames.message_refusal frames.frame_checks frames.with_message frames.answer frames.accepted frames.frame_bytes frames.frame typeline.lines_of printed.decimal_from printed.decimal printed.hex_digits typeline.print_answers typeline.print typeline.print_from text.ascii texts.text_of
united = refl

pub fifth : typeline.typeline (text_of fifth_input) ≡ text_of fifth_output
unfolding typeline.typeline sets.bit sets.clear sets.at sets.member sets.insert sets.remove sets.members sets.first sorted.bisect sorted.place sorted.has sorted.insert_sorted sorted.put types.depth types.arrays lists.elem types.is_reference types.wide_category types.element types.is_concrete types.categories types.hint_of_list types.concrete_hint compare.compare_numbers compare.compare_lists types.compare words.unpack words.pack words.list_of words.good_digits words.good_unknown words.base_of words.type_of words.word_of words.legal_base words.legal_word utf8.table utf8.within utf8.matches utf8.first_match utf8.sequence utf8.scan utf8.valid_prefix utf8.well_formed checks.first_refusal names.name_checks names.check_name view.insert_all view.with_parents view.grow view.level view.reached view.reach view.steps view.distance view.ancestor view.all_recorded view.complete view.relation view.relation_number view.cast_by_facts view.cast view.common view.below view.any_below view.lowest view.nearer view.nearest view.numbers view.candidates view.supertype tables.own_run tables.parents_in tables.parents_of tables.mark lattice.same_type lattice.has_all lattice.unknown_accepts lattice.in_either lattice.unknown_union lattice.primitive_assignable lattice.elements_assignable lattice.array_parent lattice.assignable_apart lattice.is_assignable lattice.producer_bound_compatible lattice.same_register_category lattice.observed_accepts lattice.any_accepts lattice.domain_accepts lattice.narrow lattice.under_double lattice.join_primitive lattice.in_both lattice.join_known lattice.join_elements lattice.join_array_class lattice.join_apart lattice.join lattice.join_from lattice.join_all lattice.assignable_to_all lattice.least_hint lattice.most_specific_upper worlds.present rows.object_name rows.cloneable_name rows.serializable_name rows.noted rows.with_name rows.no_tables rows.name_row rows.good_flags rows.all_below rows.put_all rows.marked rows.record_marks rows.record_checks rows.record_refusal rows.with_record rows.record_row layers.keys_inside layers.keys_without layers.keys_left layers.layer_refusal layers.with_layer_record layers.layer_row stacks.stack_refusal stacks.stack_row stacks.open_refusal stacks.open_row frames.ask_checks ordered.present ordered.insert ordered.set_of solving.compare_bounds solving.types_of solving.state_of solving.produced_type solving.array_element solving.produced_array solving.compare_pairs solving.partners solving.to_one solving.to_each solving.array_rules solving.additions solving.enqueue solving.insert_bound solving.insert_all solving.turn solving.run solving.propagate solving.first_failing solving.domain_cause solving.evidence_fits solving.upper_candidate solving.evidence_cast solving.fallback_join solving.hints_of solving.domain_hint solving.ways solving.first_answer solving.resolve_state solving.swapped solving.links_of solving.table_of solving.answers solving.solve problems.no_problem problems.with_row problems.row_checks problems.row_refusal problems.problem_row frames.empty_store hex.digit hex.hex_bytes hex.bad_hex frames.bad_kind frames.good_length frames.bad_order hex.number_at hex.numbers_in hex.bytes_number frames.message_of frames.message_refusal frames.frame_checks frames.with_message frames.answer frames.accepted frames.frame_bytes frames.frame typeline.lines_of printed.decimal_from printed.decimal printed.hex_digits typeline.print_answers typeline.print typeline.print_from text.ascii texts.text_of
fifth = refl
