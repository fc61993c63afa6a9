-- Solves by computation: the scope paper's example, and the cases in which a reader could take another result.
use Rattle.std.specs.Prelude.{◌≡◌, refl, true, false, [], ◌∷◌}
use Rattle.std.proofs.Math.Option.{some, none}
use Rattle.order.specs.Compare.{compare_numbers, compare_lists}
use Rattle.order.specs.Lists.{elem}
use Rattle.sets.specs.Sets.{bit, at, member, insert as insert_member, members, first}
use Rattle.ty.specs.Types.{Primitive, Object, Array, Unknown, arrays, depth, element, is_primitive, is_reference, is_concrete, concrete_hint, hint_of_list, wide_category, compare, categories, Boolean, Byte, Int}
use Rattle.ty.specs.Answers.{unknown_type}
use Rattle.view.specs.View.{insert_all as insert_members, with_parents, grow, level, reached, reach, steps, distance, ancestor, all_recorded, complete, relation, common, below, any_below, lowest, nearer, nearest, numbers, candidates, supertype}
use Rattle.lattice.specs.Lattice.{same_type, has_all, unknown_accepts, in_either, unknown_union, primitive_assignable, elements_assignable, array_parent, assignable_apart, is_assignable, producer_bound_compatible, same_register_category, observed_accepts, any_accepts, domain_accepts, narrow, under_double, join_primitive, in_both, join_known, join_elements, join_array_class, join_apart, join, join_from, join_all, assignable_to_all, least_hint, most_specific_upper}
use Rattle.lattice.specs.Examples.{world}
use Rattle.solving.specs.Ordered.{present, insert, set_of}
use Rattle.solving.specs.Solving.{Domain, Upper, Lower, Exact, bound, compare_bounds, types_of, state_of, produced_type, array_element, produced_array, compare_pairs, partners, to_one, to_each, array_rules, additions, enqueue, insert_bound, insert_all, turn, run, propagate, first_failing, domain_cause, evidence_fits, upper_candidate, evidence_cast, fallback_join, hints_of, domain_hint, ways, first_answer, resolve_state, swapped, links_of, table_of, answers, Unsolved, Solved, solve, all_present, settled, all_settled, closed}
use Rattle.solving.specs.Examples.{problem, trusses, final, small}

pub paper : solve world trusses ≡ Solved final 3 (some (Object 0) ∷ some (Object 0) ∷ [])
unfolding bit at member insert_member members first elem depth is_concrete compare_numbers compare_lists compare categories insert_members with_parents grow level reached reach steps distance ancestor all_recorded complete relation common below any_below lowest nearer nearest numbers candidates supertype same_type assignable_apart is_assignable join_apart join join_from join_all present insert set_of compare_bounds types_of state_of produced_type array_element produced_array compare_pairs partners to_one to_each array_rules additions enqueue insert_bound insert_all turn run propagate first_failing evidence_fits ways first_answer resolve_state swapped links_of table_of answers solve
paper = refl

-- its table is closed; as given, and after one turn, it is not
pub paper-closed : (closed world (links_of trusses) 2 final ≡ true) × (closed world (links_of trusses) 2 (table_of trusses) ≡ false)
    × (closed world (links_of trusses) 2 (insert compare_bounds (bound 1 Lower (Object 0)) (table_of trusses)) ≡ false)
unfolding bit at member insert_member members first elem depth is_concrete compare_numbers compare_lists compare categories insert_members with_parents grow level reached reach steps distance ancestor all_recorded complete relation common below any_below lowest nearer nearest numbers candidates supertype same_type assignable_apart is_assignable join_apart join join_from join_all present insert set_of compare_bounds types_of state_of produced_type array_element produced_array compare_pairs partners to_one to_each array_rules additions enqueue insert_bound insert_all turn run propagate first_failing evidence_fits ways first_answer resolve_state swapped links_of table_of answers solve all_present settled all_settled closed
paper-closed = (refl, refl, refl)

-- targets are taken ascending, in whatever order the flows are given
pub targets : solve small (problem 3 (bound 2 Lower (Array (Array (Object 0))) ∷ []) ((2, 1) ∷ (2, 0) ∷ (1, 2) ∷ []) [] [] ((0, 1) ∷ []))
    ≡ Solved (bound 0 Lower (Array (Array (Object 0))) ∷ bound 0 Lower (Array (Array (Array (Object 0)))) ∷ bound 1 Upper (Array (Object 0)) ∷ bound 1 Upper (Array (Unknown (9 ∷ 10 ∷ []))) ∷ bound 1 Lower (Array (Array (Object 0))) ∷ bound 2 Upper (Array (Object 0)) ∷ bound 2 Upper (Array (Unknown (9 ∷ 10 ∷ []))) ∷ bound 2 Lower (Array (Array (Object 0))) ∷ []) 9 (none ∷ some (Array (Object 0)) ∷ some (Array (Object 0)) ∷ [])
unfolding bit at member insert_member members first elem arrays depth element is_primitive is_reference is_concrete concrete_hint hint_of_list wide_category compare_numbers compare_lists compare categories insert_members with_parents grow level reached reach steps distance ancestor all_recorded complete relation common below any_below lowest nearer nearest numbers candidates supertype same_type has_all unknown_accepts in_either unknown_union primitive_assignable elements_assignable array_parent assignable_apart is_assignable producer_bound_compatible same_register_category observed_accepts any_accepts domain_accepts narrow under_double join_primitive in_both join_known join_elements join_array_class join_apart join join_from join_all assignable_to_all least_hint most_specific_upper present insert set_of compare_bounds types_of state_of produced_type array_element produced_array compare_pairs partners to_one to_each array_rules additions enqueue insert_bound insert_all turn run propagate first_failing domain_cause evidence_fits upper_candidate evidence_cast fallback_join hints_of domain_hint ways first_answer resolve_state swapped links_of table_of answers solve
targets = refl

-- and so are sources, flows and upper flows in one set
pub sources : solve small (problem 2 (bound 1 Exact (Array (Object 0)) ∷ []) ((0, 0) ∷ (0, 1) ∷ []) ((1, 1) ∷ []) ((0, 0) ∷ (1, 1) ∷ []) [])
    ≡ Solved (bound 0 Upper (Object 0) ∷ bound 0 Upper (Array (Object 0)) ∷ bound 0 Lower (Object 0) ∷ bound 0 Exact (Object 0) ∷ bound 1 Upper (Object 0) ∷ bound 1 Upper (Array (Object 0)) ∷ bound 1 Lower (Object 0) ∷ bound 1 Exact (Object 0) ∷ bound 1 Exact (Array (Object 0)) ∷ []) 7 (some (Object 0) ∷ none ∷ [])
unfolding bit at member insert_member members first elem arrays depth element is_primitive is_reference is_concrete concrete_hint hint_of_list wide_category compare_numbers compare_lists compare categories insert_members with_parents grow level reached reach steps distance ancestor all_recorded complete relation common below any_below lowest nearer nearest numbers candidates supertype same_type has_all unknown_accepts in_either unknown_union primitive_assignable elements_assignable array_parent assignable_apart is_assignable producer_bound_compatible same_register_category observed_accepts any_accepts domain_accepts narrow under_double join_primitive in_both join_known join_elements join_array_class join_apart join join_from join_all assignable_to_all least_hint most_specific_upper present insert set_of compare_bounds types_of state_of produced_type array_element produced_array compare_pairs partners to_one to_each array_rules additions enqueue insert_bound insert_all turn run propagate first_failing domain_cause evidence_fits upper_candidate evidence_cast fallback_join hints_of domain_hint ways first_answer resolve_state swapped links_of table_of answers solve
sources = refl

-- array constraints are taken in one pass by pair, and not array sides first
pub one-pass : solve small (problem 2 (bound 1 Lower (Array (Array (Primitive Int))) ∷ []) [] [] ((0, 1) ∷ (1, 1) ∷ []) [])
    ≡ Solved (bound 0 Lower (Array (Object 1)) ∷ bound 0 Lower (Array (Array (Array (Primitive Int)))) ∷ bound 1 Lower (Array (Array (Primitive Int))) ∷ bound 1 Exact (Object 1) ∷ bound 1 Exact (Array (Primitive Int)) ∷ bound 1 Exact (Array (Array (Primitive Int))) ∷ []) 6 (some (Array (Object 1)) ∷ some (Object 1) ∷ [])
unfolding bit at member insert_member members first elem arrays depth element is_primitive is_reference is_concrete concrete_hint hint_of_list wide_category compare_numbers compare_lists compare categories insert_members with_parents grow level reached reach steps distance ancestor all_recorded complete relation common below any_below lowest nearer nearest numbers candidates supertype same_type has_all unknown_accepts in_either unknown_union primitive_assignable elements_assignable array_parent assignable_apart is_assignable producer_bound_compatible same_register_category observed_accepts any_accepts domain_accepts narrow under_double join_primitive in_both join_known join_elements join_array_class join_apart join join_from join_all assignable_to_all least_hint most_specific_upper present insert set_of compare_bounds types_of state_of produced_type array_element produced_array compare_pairs partners to_one to_each array_rules additions enqueue insert_bound insert_all turn run propagate first_failing domain_cause evidence_fits upper_candidate evidence_cast fallback_join hints_of domain_hint ways first_answer resolve_state swapped links_of table_of answers solve
one-pass = refl

-- reads before writes
pub reads-first : solve small (problem 2 (bound 1 Lower (Array (Object 0)) ∷ []) [] [] ((1, 1) ∷ []) ((0, 1) ∷ []))
    ≡ Solved (bound 0 Lower (Array (Object 0)) ∷ bound 0 Lower (Array (Array (Object 0))) ∷ bound 1 Upper (Unknown (9 ∷ 10 ∷ [])) ∷ bound 1 Lower (Array (Object 0)) ∷ bound 1 Exact (Object 0) ∷ []) 5 (none ∷ some (Object 0) ∷ [])
unfolding bit at member insert_member members first elem arrays depth element is_primitive is_reference is_concrete concrete_hint hint_of_list wide_category compare_numbers compare_lists compare categories insert_members with_parents grow level reached reach steps distance ancestor all_recorded complete relation common below any_below lowest nearer nearest numbers candidates supertype same_type has_all unknown_accepts in_either unknown_union primitive_assignable elements_assignable array_parent assignable_apart is_assignable producer_bound_compatible same_register_category observed_accepts any_accepts domain_accepts narrow under_double join_primitive in_both join_known join_elements join_array_class join_apart join join_from join_all assignable_to_all least_hint most_specific_upper present insert set_of compare_bounds types_of state_of produced_type array_element produced_array compare_pairs partners to_one to_each array_rules additions enqueue insert_bound insert_all turn run propagate first_failing domain_cause evidence_fits upper_candidate evidence_cast fallback_join hints_of domain_hint ways first_answer resolve_state swapped links_of table_of answers solve
reads-first = refl

-- a turn goes by its copy: the element that its read adds is not yet the one that its write takes
pub copy : solve small (problem 1 (bound 0 Lower (Array (Array (Object 0))) ∷ []) [] [] ((0, 0) ∷ []) ((0, 0) ∷ []))
    ≡ Solved (bound 0 Upper (Object 0) ∷ bound 0 Upper (Array (Object 0)) ∷ bound 0 Lower (Array (Array (Object 0))) ∷ bound 0 Exact (Object 0) ∷ bound 0 Exact (Array (Object 0)) ∷ []) 3 (none ∷ [])
unfolding bit at member insert_member members first elem arrays depth element is_primitive is_reference is_concrete concrete_hint hint_of_list wide_category compare_numbers compare_lists compare categories insert_members with_parents grow level reached reach steps distance ancestor all_recorded complete relation common below any_below lowest nearer nearest numbers candidates supertype same_type has_all unknown_accepts in_either unknown_union primitive_assignable elements_assignable array_parent assignable_apart is_assignable producer_bound_compatible same_register_category observed_accepts any_accepts domain_accepts narrow under_double join_primitive in_both join_known join_elements join_array_class join_apart join join_from join_all assignable_to_all least_hint most_specific_upper present insert set_of compare_bounds types_of state_of produced_type array_element produced_array compare_pairs partners to_one to_each array_rules additions enqueue insert_bound insert_all turn run propagate first_failing domain_cause evidence_fits upper_candidate evidence_cast fallback_join hints_of domain_hint ways first_answer resolve_state swapped links_of table_of answers solve
copy = refl

-- a constraint that names one component twice is taken from its array side only
pub array-side : solve small (problem 1 (bound 0 Lower (Primitive Boolean) ∷ []) [] [] ((0, 0) ∷ []) [])
    ≡ Solved (bound 0 Lower (Primitive Boolean) ∷ []) 1 (some (Primitive Boolean) ∷ [])
unfolding bit at member insert_member members first elem arrays depth element is_primitive is_reference is_concrete concrete_hint hint_of_list wide_category compare_numbers compare_lists compare categories insert_members with_parents grow level reached reach steps distance ancestor all_recorded complete relation common below any_below lowest nearer nearest numbers candidates supertype same_type has_all unknown_accepts in_either unknown_union primitive_assignable elements_assignable array_parent assignable_apart is_assignable producer_bound_compatible same_register_category observed_accepts any_accepts domain_accepts narrow under_double join_primitive in_both join_known join_elements join_array_class join_apart join join_from join_all assignable_to_all least_hint most_specific_upper present insert set_of compare_bounds types_of state_of produced_type array_element produced_array compare_pairs partners to_one to_each array_rules additions enqueue insert_bound insert_all turn run propagate first_failing domain_cause evidence_fits upper_candidate evidence_cast fallback_join hints_of domain_hint ways first_answer resolve_state swapped links_of table_of answers solve
array-side = refl

-- who gains a bound from its own turn comes again
pub own-turn : solve small (problem 1 (bound 0 Exact (Primitive Byte) ∷ []) [] ((0, 0) ∷ []) [] [])
    ≡ Solved (bound 0 Upper (Primitive Byte) ∷ bound 0 Exact (Primitive Byte) ∷ []) 2 (some (Primitive Byte) ∷ [])
unfolding bit at member insert_member members first elem arrays depth element is_primitive is_reference is_concrete concrete_hint hint_of_list wide_category compare_numbers compare_lists compare categories insert_members with_parents grow level reached reach steps distance ancestor all_recorded complete relation common below any_below lowest nearer nearest numbers candidates supertype same_type has_all unknown_accepts in_either unknown_union primitive_assignable elements_assignable array_parent assignable_apart is_assignable producer_bound_compatible same_register_category observed_accepts any_accepts domain_accepts narrow under_double join_primitive in_both join_known join_elements join_array_class join_apart join join_from join_all assignable_to_all least_hint most_specific_upper present insert set_of compare_bounds types_of state_of produced_type array_element produced_array compare_pairs partners to_one to_each array_rules additions enqueue insert_bound insert_all turn run propagate first_failing domain_cause evidence_fits upper_candidate evidence_cast fallback_join hints_of domain_hint ways first_answer resolve_state swapped links_of table_of answers solve
own-turn = refl

-- the first way does not ask the domain
pub no-domain : solve small (problem 1 (bound 0 Domain (Array (Primitive Boolean)) ∷ bound 0 Exact (Primitive Boolean) ∷ []) [] [] [] [])
    ≡ Solved (bound 0 Domain (Array (Primitive Boolean)) ∷ bound 0 Exact (Primitive Boolean) ∷ []) 1 (some (Primitive Boolean) ∷ [])
unfolding bit at member insert_member members first elem arrays depth element is_primitive is_reference is_concrete concrete_hint hint_of_list wide_category compare_numbers compare_lists compare categories insert_members with_parents grow level reached reach steps distance ancestor all_recorded complete relation common below any_below lowest nearer nearest numbers candidates supertype same_type has_all unknown_accepts in_either unknown_union primitive_assignable elements_assignable array_parent assignable_apart is_assignable producer_bound_compatible same_register_category observed_accepts any_accepts domain_accepts narrow under_double join_primitive in_both join_known join_elements join_array_class join_apart join join_from join_all assignable_to_all least_hint most_specific_upper present insert set_of compare_bounds types_of state_of produced_type array_element produced_array compare_pairs partners to_one to_each array_rules additions enqueue insert_bound insert_all turn run propagate first_failing domain_cause evidence_fits upper_candidate evidence_cast fallback_join hints_of domain_hint ways first_answer resolve_state swapped links_of table_of answers solve
no-domain = refl

-- two lists with nothing in common join to the full one, which then sorts between them, and the three join to the last: no least fixpoint
pub no-fixpoint : solve small (problem 1 (bound 0 Lower (Unknown []) ∷ bound 0 Lower (Unknown (9 ∷ 10 ∷ [])) ∷ []) ((0, 0) ∷ []) [] [] [])
    ≡ Solved (bound 0 Lower (Unknown []) ∷ bound 0 Lower unknown_type ∷ bound 0 Lower (Unknown (9 ∷ 10 ∷ [])) ∷ []) 2 (none ∷ [])
unfolding bit at member insert_member members first elem arrays depth element is_primitive is_reference is_concrete concrete_hint hint_of_list wide_category compare_numbers compare_lists compare categories insert_members with_parents grow level reached reach steps distance ancestor all_recorded complete relation common below any_below lowest nearer nearest numbers candidates supertype same_type has_all unknown_accepts in_either unknown_union primitive_assignable elements_assignable array_parent assignable_apart is_assignable producer_bound_compatible same_register_category observed_accepts any_accepts domain_accepts narrow under_double join_primitive in_both join_known join_elements join_array_class join_apart join join_from join_all assignable_to_all least_hint most_specific_upper present insert set_of compare_bounds types_of state_of produced_type array_element produced_array compare_pairs partners to_one to_each array_rules additions enqueue insert_bound insert_all turn run propagate first_failing domain_cause evidence_fits upper_candidate evidence_cast fallback_join hints_of domain_hint ways first_answer resolve_state swapped links_of table_of answers solve
no-fixpoint = refl

-- the element is that of what is produced, and of the upper bounds only if nothing is
pub produced-first : solve small (problem 2 (bound 0 Upper (Array (Primitive Int)) ∷ bound 0 Lower (Object 0) ∷ []) [] [] ((0, 1) ∷ []) [])
    ≡ Solved (bound 0 Upper (Array (Primitive Int)) ∷ bound 0 Lower (Object 0) ∷ []) 2 (some (Array (Primitive Int)) ∷ none ∷ [])
unfolding bit at member insert_member members first elem arrays depth element is_primitive is_reference is_concrete concrete_hint hint_of_list wide_category compare_numbers compare_lists compare categories insert_members with_parents grow level reached reach steps distance ancestor all_recorded complete relation common below any_below lowest nearer nearest numbers candidates supertype same_type has_all unknown_accepts in_either unknown_union primitive_assignable elements_assignable array_parent assignable_apart is_assignable producer_bound_compatible same_register_category observed_accepts any_accepts domain_accepts narrow under_double join_primitive in_both join_known join_elements join_array_class join_apart join join_from join_all assignable_to_all least_hint most_specific_upper present insert set_of compare_bounds types_of state_of produced_type array_element produced_array compare_pairs partners to_one to_each array_rules additions enqueue insert_bound insert_all turn run propagate first_failing domain_cause evidence_fits upper_candidate evidence_cast fallback_join hints_of domain_hint ways first_answer resolve_state swapped links_of table_of answers solve
produced-first = refl

-- an array of 256 dimensions is refused
pub deep : solve small (problem 2 (bound 0 Exact (arrays 255 (Primitive Int)) ∷ []) [] [] [] ((1, 0) ∷ []))
    ≡ Unsolved 20
unfolding bit at member insert_member members first elem arrays depth element is_primitive is_reference is_concrete concrete_hint hint_of_list wide_category compare_numbers compare_lists compare categories insert_members with_parents grow level reached reach steps distance ancestor all_recorded complete relation common below any_below lowest nearer nearest numbers candidates supertype same_type has_all unknown_accepts in_either unknown_union primitive_assignable elements_assignable array_parent assignable_apart is_assignable producer_bound_compatible same_register_category observed_accepts any_accepts domain_accepts narrow under_double join_primitive in_both join_known join_elements join_array_class join_apart join join_from join_all assignable_to_all least_hint most_specific_upper present insert set_of compare_bounds types_of state_of produced_type array_element produced_array compare_pairs partners to_one to_each array_rules additions enqueue insert_bound insert_all turn run propagate first_failing domain_cause evidence_fits upper_candidate evidence_cast fallback_join hints_of domain_hint ways first_answer resolve_state swapped links_of table_of answers solve
deep = refl
