-- The bench table holds: every case's outcome is the one expected, computed by the very definitions that the contracts cite.
use mathlib.Core.Path.{◌≡◌, refl}
use mathlib.Core.List.{[], ◌∷◌, map, flatten}
use Rattle.numbers.specs.Refusals.{first}
use Rattle.lists.specs.Lists.{overlay, chain_from, numbers_from, sums_from, elem, repeats, lacks, reaches, sum_of}
use Rattle.graph.specs.Graph.{edges, offsets_of, targets_of}
use Rattle.graph.specs.File.{word, words_at, vertex_count, edge_count, head_index, target, next, heads, record_targets, record_nexts, chain, chains, reached, graph_of}
use Rattle.graph.specs.Read.{outside_sizes, header_refusals, scan_refusals, chain_refusals, rows_short, clears_marks}
use Rattle.graph.specs.BenchFiles.{words_a}
use Rattle.graph.specs.Encode.{bytes_of}
use Rattle.pennant.specs.Pennant.{pennant_union, pennant_first, pennant_second}
use Rattle.pennant.specs.Bag.{empty_bag, insert_pennant, bag_insert, insert_filled, adder_sum, adder_carry, add_from, bag_union, split_first, split_second}
use Rattle.pennant.specs.Bag.{spread, take_from, take_rest, taken_number, is_empty, at_least_two}
use Rattle.pennant.specs.Held.{weigh_tree, weigh_slot, weigh, up_to}
use Rattle.schedule.specs.Events.{form_of, event_of, within}
use Rattle.schedule.specs.Check.{any_stray, schedule_refusals}
use Rattle.model.specs.State.{opening_labels, opening_state}
use Rattle.model.specs.Table.{hold_at, look, mark, name, move, after_move, split_inputs, unite_outputs, is_free, all_idle, united_outputs, closed, act}
use Rattle.model.specs.Play.{tally, step, play_from, play, state_at}
use Rattle.model.specs.Call.{lengths_short, early_refusals, run_of, input_refusals, search_refusals, search_number, plays, answer_by, sweeps_marks, lent_after, outcome_of_search}
use Rattle.model.specs.Words.{word_of}
use Rattle.model.specs.Histogram.{recount, first_mark, added_at, counts_at}
use Rattle.model.specs.Bench.{Case, Expected, lent_for, answers_of, outcome_of_case, schedule_a, bench_table}

-- each outcome is the expected one
pub bench_cases : map (λ (c : Case × Expected). outcome_of_case c.0) bench_table ≡ map (λ (c : Case × Expected). c.1) bench_table
unfolding first overlay chain_from numbers_from sums_from elem repeats lacks reaches sum_of flatten edges offsets_of targets_of word words_at vertex_count
    edge_count head_index next heads record_targets record_nexts chain chains reached graph_of target outside_sizes header_refusals scan_refusals
    chain_refusals rows_short clears_marks bytes_of pennant_union pennant_first pennant_second empty_bag insert_pennant bag_insert insert_filled adder_sum
    adder_carry add_from bag_union split_first split_second spread take_from take_rest taken_number is_empty at_least_two weigh_tree weigh_slot weigh form_of
    event_of within any_stray schedule_refusals opening_labels opening_state hold_at look mark name move after_move split_inputs unite_outputs is_free
    all_idle united_outputs closed act tally step play_from play lengths_short early_refusals run_of input_refusals search_refusals search_number plays answer_by word_of
    sweeps_marks lent_after recount outcome_of_search lent_for answers_of up_to outcome_of_case bench_table
bench_cases = refl

-- A's counts as they are kept, after all its bytes: two workers mark vertex 3, and it counts once
pub kept_case : counts_at (graph_of (bytes_of words_a)) 0 2 (schedule_a 8 0) 25 ≡ 1 ∷ 2 ∷ 1 ∷ 0 ∷ []
unfolding chain_from numbers_from sum_of word words_at vertex_count edge_count head_index next target heads record_targets record_nexts chain chains graph_of bytes_of flatten edges pennant_union pennant_first pennant_second empty_bag insert_pennant bag_insert insert_filled adder_sum adder_carry add_from bag_union
    split_first split_second spread take_from take_rest taken_number is_empty at_least_two form_of event_of opening_labels opening_state hold_at look mark name move
    after_move split_inputs unite_outputs is_free all_idle united_outputs closed act tally step play_from play state_at first_mark added_at counts_at
kept_case = refl
