-- The definitions computed, on case A: its page, a page with unset labels, every refusal of the page list's, and the columns read back.
use mathlib.Core.Path.{◌≡◌, refl}
use mathlib.Core.List.{List, [], ◌∷◌, ◌++◌, flatten}
use Prim.Native.Nat.{ℕ}
use lib.ListN.{replicate}
use Rattle.numbers.specs.Numbers.{unset}
use Rattle.numbers.specs.Refusals.{first}
use Rattle.lists.specs.Lists.{overlay, chain_from, numbers_from, sums_from, elem, repeats, lacks, reaches, any_of, chunks_in, chunks}
use Rattle.graph.specs.BenchFiles.{words_a}
use Rattle.graph.specs.Graph.{edges, offsets_of, targets_of}
use Rattle.graph.specs.File.{word, words_at, vertex_count, edge_count, head_index, target, next, heads, record_targets, record_nexts}
use Rattle.graph.specs.File.{chain, chains, reached, graph_of}
use Rattle.graph.specs.Read.{outside_sizes, header_refusals, scan_refusals, chain_refusals, rows_short, clears_marks}
use Rattle.graph.specs.Encode.{bytes_of}
use Rattle.model.specs.Words.{option_of, labels_of, labels_in}
use Rattle.verify.specs.Certificate.{beyond, any_beyond, is_not, not_before, parent_wrong, label_wrong, vertex_wrong, result_wrong}
use Rattle.verify.specs.Check.{CheckLent, check_short, check_early, check_input, check_refusals, check_number, judges, lent_after_check, outcome_of_check}
use Rattle.verify.specs.Promise.{lent_lists}
use Rattle.text.specs.Text.{decimal_in, decimal, label_text, right_aligned}
use Rattle.page.specs.Layout.{head_line, vertex_line, lines_by_vertex, headed, pages, page_text}
use Rattle.page.specs.Columns.{digits_from, number_read, label_read, lines_read, read_pages}
use Rattle.page.specs.Page.{page_short, page_refusals, page_answer, PageOutcome, outcome_of_page}
use Rattle.page.specs.Promise.{page_exit}
use Rattle.page.specs.Cases.{distances_a, parents_a, page_a, page_one}

-- rows and marks have six places, filled with 9
abbrev pub nines : CheckLent
nines = lent_lists (replicate 6 9) (replicate 6 9) (replicate 6 9)

-- the rows of A written, its four marks cleared
abbrev pub written : CheckLent
written = lent_lists (0 ∷ 2 ∷ 3 ∷ 4 ∷ 4 ∷ 9 ∷ []) (1 ∷ 2 ∷ 3 ∷ 3 ∷ 9 ∷ 9 ∷ []) (0 ∷ 0 ∷ 0 ∷ 0 ∷ 9 ∷ 9 ∷ [])

-- a call with A's file, a source, distances and parents, and a page list of so many places, filled with 7
unfoldable pub called : ℕ → List ℕ → List ℕ → ℕ → PageOutcome
called source distances parents room = outcome_of_page (bytes_of words_a) source distances parents nines (replicate room 7)

-- all of them: the page at its need, with places behind it, and one place short (20, with rows and marks written); the same file from vertex 1; a
-- wrong result with a page list that is short too (10 comes first); distances one short (20 as well, and nothing is changed); the page read back
pub page_cases : (called 0 distances_a parents_a 105 ≡ page_exit 0 written page_a)
    × (called 0 distances_a parents_a 107 ≡ page_exit 0 written (page_a ++ 7 ∷ 7 ∷ []))
    × (called 0 distances_a parents_a 104 ≡ page_exit 20 written (replicate 104 7))
    × (called 1 (unset ∷ 0 ∷ unset ∷ 1 ∷ []) (unset ∷ 1 ∷ unset ∷ 1 ∷ []) 105 ≡ page_exit 0 written page_one)
    × (called 0 distances_a (0 ∷ 0 ∷ 0 ∷ 0 ∷ []) 104 ≡ page_exit 10 written (replicate 104 7))
    × (called 0 (0 ∷ 1 ∷ 1 ∷ []) parents_a 104 ≡ page_exit 20 nines (replicate 104 7))
    × (read_pages page_a ≡ record { numbers = 1 ∷ []; vertices = 0 ∷ 1 ∷ 2 ∷ 3 ∷ []; distances = distances_a; parents = parents_a })
    × (read_pages page_one
    ≡ record { numbers = 1 ∷ []; vertices = 0 ∷ 1 ∷ 2 ∷ 3 ∷ []; distances = unset ∷ 0 ∷ unset ∷ 1 ∷ []; parents = unset ∷ 1 ∷ unset ∷ 1 ∷ [] })
unfolding first overlay chain_from numbers_from sums_from elem repeats lacks reaches any_of chunks_in chunks flatten edges offsets_of targets_of word words_at
    vertex_count edge_count head_index target next heads record_targets record_nexts chain chains reached graph_of outside_sizes header_refusals scan_refusals
    chain_refusals rows_short clears_marks bytes_of option_of labels_of labels_in beyond any_beyond is_not not_before parent_wrong label_wrong vertex_wrong
    result_wrong check_short check_early check_input check_refusals check_number judges lent_after_check outcome_of_check decimal_in decimal label_text right_aligned
    head_line vertex_line lines_by_vertex headed pages page_text digits_from number_read label_read lines_read read_pages page_short page_refusals page_answer
    outcome_of_page called
page_cases = (refl, refl, refl, refl, refl, refl, refl, refl)
