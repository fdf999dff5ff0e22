-- The page program's cases hold: every byte of the output is the one expected, computed by the very definitions that the contract cites. Cut or
-- damaged inputs are runs.
use mathlib.Core.Path.{◌≡◌, refl}
use mathlib.Core.List.{[], ◌∷◌, flatten}
use Rattle.numbers.specs.Refusals.{first}
use Rattle.lists.specs.Lists.{chain_from, numbers_from, elem, repeats, lacks, reaches, any_of, chunks_in, chunks}
use Rattle.graph.specs.Graph.{edges}
use Rattle.graph.specs.File.{word, words_at, vertex_count, edge_count, head_index, target, next, heads, record_targets, record_nexts}
use Rattle.graph.specs.File.{chain, chains, reached, graph_of}
use Rattle.graph.specs.Read.{outside_sizes, header_refusals, scan_refusals, chain_refusals, rows_short}
use Rattle.graph.specs.Encode.{bytes_of}
use Rattle.model.specs.Words.{option_of, labels_of, labels_in}
use Rattle.verify.specs.Certificate.{beyond, any_beyond, is_not, not_before, parent_wrong, label_wrong, vertex_wrong, result_wrong}
use Rattle.verify.specs.Check.{check_short, check_early, check_input, check_refusals}
use Rattle.text.specs.Text.{decimal_in, decimal, label_text, right_aligned}
use Rattle.page.specs.Layout.{head_line, vertex_line, lines_by_vertex, headed, pages, page_text}
use Rattle.page.specs.Page.{page_short, page_refusals}
use Rattle.page.specs.Cases.{page_a}
use Rattle.page_report.specs.Input.{source_in, count_in, distances_in, parents_in, file_in, own_refusals, program_lists}
use Rattle.page_report.specs.Respond.{respond_refusals, number_line, response}
use Rattle.page_report.specs.Cases.{input_of, input_a, input_wrong}

-- A's page; `10` where a parent is wrong; `1` for an empty input
pub program_cases : (response input_a ≡ page_a) × (response input_wrong ≡ 49 ∷ 48 ∷ 10 ∷ []) × (response [] ≡ 49 ∷ 10 ∷ [])
unfolding first chain_from numbers_from elem repeats lacks reaches any_of chunks_in chunks flatten edges word words_at vertex_count edge_count head_index
    target next heads record_targets record_nexts chain chains reached graph_of outside_sizes header_refusals scan_refusals chain_refusals rows_short
    bytes_of option_of labels_of labels_in beyond any_beyond is_not not_before parent_wrong label_wrong vertex_wrong result_wrong check_short check_early
    check_input check_refusals decimal_in decimal label_text right_aligned head_line vertex_line lines_by_vertex headed pages page_text page_short page_refusals
    source_in count_in distances_in parents_in file_in own_refusals program_lists respond_refusals number_line response input_of
program_cases = (refl, refl, refl)
