-- The program's cases hold: every byte of the output is the one expected, computed by the very definitions that the contract cites.
use mathlib.Core.Path.{◌≡◌, refl}
use mathlib.Core.List.{flatten}
use Rattle.numbers.specs.Refusals.{first}
use Rattle.lists.specs.Lists.{overlay, chain_from, numbers_from, sums_from, elem, repeats, lacks, reaches, sum_of}
use Rattle.graph.specs.Graph.{edges, offsets_of, targets_of}
use Rattle.graph.specs.File.{word, words_at, vertex_count, edge_count, head_index, target, next, heads, record_targets, record_nexts}
use Rattle.graph.specs.File.{chain, chains, reached, graph_of}
use Rattle.graph.specs.Read.{outside_sizes, header_refusals, scan_refusals, chain_refusals, rows_short, clears_marks}
use Rattle.graph.specs.Encode.{bytes_of}
use Rattle.text.specs.Text.{decimal_in, decimal, label_text}
use Rattle.pennant.specs.Pennant.{pennant_union, pennant_first, pennant_second}
use Rattle.pennant.specs.Bag.{empty_bag, insert_pennant, bag_insert, insert_filled, adder_sum, adder_carry, add_from, bag_union, split_first, split_second}
use Rattle.pennant.specs.Bag.{spread, take_from, take_rest, taken_number, is_empty, at_least_two}
use Rattle.schedule.specs.Events.{form_of, event_of, within}
use Rattle.schedule.specs.Check.{any_stray, schedule_refusals}
use Rattle.model.specs.State.{opening_labels, opening_state}
use Rattle.model.specs.Table.{hold_at, look, mark, name, move, after_move, split_inputs, unite_outputs, is_free, all_idle, united_outputs, closed, act}
use Rattle.model.specs.Play.{tally, step, play_from, play}
use Rattle.model.specs.Call.{lengths_short, early_refusals, run_of, input_refusals, search_refusals, search_number}
use Rattle.model.specs.Call.{plays, answer_by, sweeps_marks, lent_after, outcome_of_search}
use Rattle.model.specs.Words.{word_of}
use Rattle.model.specs.Histogram.{recount}
use Rattle.report.specs.Input.{source_in, workers_in, events_in, schedule_in, file_in, sizes_refusals, own_refusals, program_lists}
use Rattle.report.specs.Lines.{first_line, vertex_line, vertex_lines}
use Rattle.report.specs.Respond.{searched, lines, response}
use Rattle.report.specs.Cases.{input_of, input_a, output_a, input_b, output_b}

-- A and B
pub program_cases : (response input_a ≡ output_a) × (response input_b ≡ output_b)
unfolding first overlay chain_from numbers_from sums_from elem repeats lacks reaches sum_of flatten edges offsets_of targets_of word words_at vertex_count
    edge_count head_index next heads record_targets record_nexts chain chains reached graph_of target outside_sizes header_refusals scan_refusals
    chain_refusals rows_short clears_marks bytes_of pennant_union pennant_first pennant_second empty_bag insert_pennant bag_insert insert_filled adder_sum
    adder_carry add_from bag_union split_first split_second spread take_from take_rest taken_number is_empty at_least_two form_of event_of within any_stray
    schedule_refusals opening_labels opening_state hold_at look mark name move after_move split_inputs unite_outputs is_free all_idle united_outputs closed
    act tally step play_from play lengths_short early_refusals run_of input_refusals search_refusals search_number plays answer_by word_of recount sweeps_marks
    lent_after outcome_of_search source_in workers_in events_in schedule_in file_in sizes_refusals own_refusals program_lists decimal_in decimal label_text
    first_line vertex_line vertex_lines searched lines response input_of
program_cases = (refl, refl)

-- A alone
pub case_a : response input_a ≡ output_a
case_a = program_cases.0

-- B alone
pub case_b : response input_b ≡ output_b
case_b = program_cases.1
