-- What the checker answers and what every lent list holds at exit, for every file, source, result and list. The
-- order of refusals is `check_refusals`. Distances and parents are lent for reading alone, so nothing is said of
-- them at exit.
use Rattle.std.specs.Prelude.{Bool, cond, ◌||◌, List, [], ◌∷◌, ◌++◌, ℕ, leb, ltb, length, replicate}
use Rattle.numbers.specs.Numbers.{success, bad_source, bad_result, short_list}
use Rattle.numbers.specs.Refusals.{Refusal, ◌gives◌, first}
use Rattle.lists.specs.Lists.{overlay, elem}
use Rattle.graph.specs.Graph.{offsets_of, targets_of}
use Rattle.graph.specs.File.{vertex_count, edge_count, graph_of}
use Rattle.graph.specs.Read.{header_refusals, scan_refusals, chain_refusals, rows_short, clears_marks}
use Rattle.model.specs.Words.{labels_in}
use Rattle.verify.specs.Certificate.{result_wrong}

-- the lists that the caller lends for writing
pub record CheckLent : Type 0 where
  pub offsets : List ℕ
  pub targets : List ℕ
  pub marks : List ℕ

-- the lengths of all lists that the caller lends
pub record CheckLengths : Type 0 where
  pub distances : ℕ
  pub parents : ℕ
  pub offsets : ℕ
  pub targets : ℕ
  pub marks : ℕ

-- the lengths of these lists
abbrev pub lent_lengths : List ℕ → List ℕ → CheckLent → CheckLengths
lent_lengths distances parents lent = record {
  distances = length distances;
  parents = length parents;
  offsets = length lent.offsets;
  targets = length lent.targets;
  marks = length lent.marks;
}

-- "20: a lent list is shorter than its need": "offsets n + 1, targets and marks m, distances and parents n" (§10.3)
unfoldable pub check_short : ℕ → ℕ → CheckLengths → Bool
check_short n m lengths =
    rows_short n m lengths.offsets lengths.targets lengths.marks
    || ltb lengths.distances n
    || ltb lengths.parents n

-- "Order: 1 (under 4), 2, 1 (length), 4, 3, 7, .., 20": what is judged before a list is written (§10.2)
unfoldable pub check_early : List ℕ → ℕ → CheckLengths → List Refusal
check_early file source lengths =
    header_refusals file
    ++ scan_refusals file
    ++ (leb (vertex_count file) source gives bad_source ∷ [])
    ++ (check_short (vertex_count file) (edge_count file) lengths gives short_list ∷ [])

-- ".. 5, 6", all of it before the result is looked at (§10.2)
unfoldable pub check_input : List ℕ → ℕ → List ℕ → List ℕ → CheckLent → List Refusal
check_input file source distances parents lent =
    check_early file source (lent_lengths distances parents lent) ++ chain_refusals file

-- "then 10": longer lists count by their first n places (§10.2)
unfoldable pub check_refusals : List ℕ → ℕ → List ℕ → List ℕ → CheckLent → List Refusal
check_refusals file source distances parents lent =
    check_input file source distances parents lent
    ++ (result_wrong (graph_of file) source (labels_in (vertex_count file) distances parents) gives bad_result ∷ [])

-- the checker's number
unfoldable pub check_number : List ℕ → ℕ → List ℕ → List ℕ → CheckLent → ℕ
check_number file source distances parents lent = first (check_refusals file source distances parents lent)

-- whether the result was looked at: "Every call that gets past 6 .. writes rows" (§10.4)
unfoldable pub judges : ℕ → Bool
judges number = elem number (success ∷ bad_result ∷ [])

-- the lists at exit: "A refusal .. other than 10 and 21 changes nothing, but with 5 and 6 the first m marks
-- become 0. Every call that gets past 6 leaves the first m marks 0 and writes rows. .. Places past the need keep
-- their contents." (§10.4)
unfoldable pub lent_after_check : ℕ → List ℕ → CheckLent → CheckLent
lent_after_check number file lent = record {
  offsets = cond (judges number) (overlay (offsets_of (graph_of file)) lent.offsets) lent.offsets;
  targets = cond (judges number) (overlay (targets_of (graph_of file)) lent.targets) lent.targets;
  marks =
      cond (judges number || clears_marks number) (overlay (replicate (edge_count file) 0) lent.marks) lent.marks;
}

-- what a call answers, and the lists at exit
pub record CheckOutcome : Type 0 where
  pub number : ℕ
  pub lent : CheckLent

-- the outcome of a check (§8.2)
unfoldable pub outcome_of_check : List ℕ → ℕ → List ℕ → List ℕ → CheckLent → CheckOutcome
outcome_of_check file source distances parents lent =
    let number = check_number file source distances parents lent in
    record { number = number; lent = lent_after_check number file lent }
