-- The checker's definitions computed, on the files of document 01's cases: the results of A and B, results that are wrong at one device, the
-- numbers of the refusals, and the lists that a wrong result leaves.
use mathlib.Core.Path.{◌≡◌, refl}
use mathlib.Core.List.{List, [], ◌∷◌, map, flatten}
use Prim.Native.Nat.{ℕ}
use lib.ListN.{replicate}
use Rattle.numbers.specs.Numbers.{unset}
use Rattle.numbers.specs.Refusals.{first}
use Rattle.lists.specs.Lists.{overlay, chain_from, numbers_from, sums_from, elem, repeats, lacks, reaches, any_of}
use Rattle.graph.specs.BenchFiles.{words_a, words_c, words_e, words_f, words_g}
use Rattle.graph.specs.Graph.{edges, offsets_of, targets_of}
use Rattle.graph.specs.File.{word, words_at, vertex_count, edge_count, head_index, target, next, heads, record_targets, record_nexts}
use Rattle.graph.specs.File.{chain, chains, reached, graph_of}
use Rattle.graph.specs.Read.{outside_sizes, header_refusals, scan_refusals, chain_refusals, rows_short, clears_marks}
use Rattle.graph.specs.Encode.{bytes_of}
use Rattle.model.specs.Words.{option_of, labels_of, labels_in}
use Rattle.verify.specs.Certificate.{beyond, any_beyond, is_not, not_before, parent_wrong, label_wrong, vertex_wrong, result_wrong}
use Rattle.verify.specs.Check.{check_short, check_early, check_input, check_refusals, check_number, judges, lent_after_check, outcome_of_check}
use Rattle.verify.specs.Promise.{lent_lists, check_exit}

-- a file by its words, a source, distances and parents
pub record Case : Type 0 where
  pub words : List ℕ
  pub source : ℕ
  pub distances : List ℕ
  pub parents : List ℕ

-- by these four
abbrev pub case_of : List ℕ → ℕ → List ℕ → List ℕ → Case
case_of words source distances parents = record { words = words; source = source; distances = distances; parents = parents }

-- the checker's number where rows and marks have six places, filled with 9
unfoldable pub number_of : Case → ℕ
number_of c =
    check_number (bytes_of c.words) c.source c.distances c.parents (lent_lists (replicate 6 9) (replicate 6 9) (replicate 6 9))

-- A's result and B's, A's from device 1, and C's, with a place more than is needed
abbrev pub right_cases : List Case
right_cases =
    case_of words_a 0 (0 ∷ 1 ∷ 1 ∷ 2 ∷ []) (0 ∷ 0 ∷ 0 ∷ 1 ∷ [])
    ∷ case_of words_a 0 (0 ∷ 1 ∷ 1 ∷ 2 ∷ []) (0 ∷ 0 ∷ 0 ∷ 2 ∷ [])
    ∷ case_of words_a 1 (unset ∷ 0 ∷ unset ∷ 1 ∷ []) (unset ∷ 1 ∷ unset ∷ 1 ∷ [])
    ∷ case_of words_c 0 (0 ∷ 7 ∷ []) (0 ∷ 7 ∷ [])
    ∷ []

-- A's result, wrong at one device: a parent without a link, one that isn't nearer, one of n, none; a longer distance; no distance and no parent;
-- the source's own parent; and an unreached device with a parent, or with a distance and a parent
abbrev pub wrong_cases : List Case
wrong_cases =
    case_of words_a 0 (0 ∷ 1 ∷ 1 ∷ 2 ∷ []) (0 ∷ 0 ∷ 0 ∷ 0 ∷ [])
    ∷ case_of words_a 0 (0 ∷ 1 ∷ 1 ∷ 2 ∷ []) (0 ∷ 0 ∷ 0 ∷ 3 ∷ [])
    ∷ case_of words_a 0 (0 ∷ 1 ∷ 1 ∷ 2 ∷ []) (0 ∷ 0 ∷ 0 ∷ 4 ∷ [])
    ∷ case_of words_a 0 (0 ∷ 1 ∷ 1 ∷ 2 ∷ []) (0 ∷ 0 ∷ 0 ∷ unset ∷ [])
    ∷ case_of words_a 0 (0 ∷ 1 ∷ 1 ∷ 3 ∷ []) (0 ∷ 0 ∷ 0 ∷ 1 ∷ [])
    ∷ case_of words_a 0 (0 ∷ 1 ∷ 1 ∷ unset ∷ []) (0 ∷ 0 ∷ 0 ∷ unset ∷ [])
    ∷ case_of words_a 0 (0 ∷ 1 ∷ 1 ∷ 2 ∷ []) (1 ∷ 0 ∷ 0 ∷ 1 ∷ [])
    ∷ case_of words_a 1 (unset ∷ 0 ∷ unset ∷ 1 ∷ []) (1 ∷ 1 ∷ unset ∷ 1 ∷ [])
    ∷ case_of words_a 1 (unset ∷ 0 ∷ 1 ∷ 1 ∷ []) (unset ∷ 1 ∷ 1 ∷ 1 ∷ [])
    ∷ []

-- a source of n; distances one short; the files of E, F and G
abbrev pub refused_cases : List Case
refused_cases =
    case_of words_a 4 (0 ∷ 1 ∷ 1 ∷ 2 ∷ []) (0 ∷ 0 ∷ 0 ∷ 1 ∷ [])
    ∷ case_of words_a 0 (0 ∷ 1 ∷ 1 ∷ []) (0 ∷ 0 ∷ 0 ∷ 1 ∷ [])
    ∷ case_of words_e 0 (0 ∷ []) (0 ∷ [])
    ∷ case_of words_f 0 (0 ∷ []) (0 ∷ [])
    ∷ case_of words_g 0 (0 ∷ []) (0 ∷ [])
    ∷ []

-- the first result of the wrong ones leaves the rows of A, zeros in the first four marks, and the places behind as they were
abbrev pub AfterWrong : Type 0
AfterWrong =
    outcome_of_check (bytes_of words_a) 0 (0 ∷ 1 ∷ 1 ∷ 2 ∷ []) (0 ∷ 0 ∷ 0 ∷ 0 ∷ []) (lent_lists (replicate 6 9) (replicate 6 9) (replicate 6 9))
    ≡ check_exit 10 (lent_lists (0 ∷ 2 ∷ 3 ∷ 4 ∷ 4 ∷ 9 ∷ []) (1 ∷ 2 ∷ 3 ∷ 3 ∷ 9 ∷ 9 ∷ []) (0 ∷ 0 ∷ 0 ∷ 0 ∷ 9 ∷ 9 ∷ []))

-- all of them
pub check_cases : (map number_of right_cases ≡ replicate 4 0) × (map number_of wrong_cases ≡ replicate 9 10)
    × (map number_of refused_cases ≡ 7 ∷ 20 ∷ 6 ∷ 5 ∷ 2 ∷ []) × AfterWrong
unfolding first overlay chain_from numbers_from sums_from elem repeats lacks reaches any_of flatten edges offsets_of targets_of word words_at vertex_count
    edge_count head_index target next heads record_targets record_nexts chain chains reached graph_of outside_sizes header_refusals scan_refusals
    chain_refusals rows_short clears_marks bytes_of option_of labels_of labels_in beyond any_beyond is_not not_before parent_wrong label_wrong vertex_wrong
    result_wrong check_short check_early check_input check_refusals check_number judges lent_after_check outcome_of_check number_of
check_cases = (refl, refl, refl, refl)
