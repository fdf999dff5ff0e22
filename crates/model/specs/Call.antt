-- The whole call: what a search answers and what every lent list holds at exit, for every file, source, P,
-- schedule and list. The order of refusals is `search_refusals`.
use Rattle.std.specs.Prelude.{Bool, cond, not, ◌||◌, List, [], ◌∷◌, ◌++◌, map, ℕ, ◌+◌, ◌*◌, leb, ltb, length, replicate}
use Rattle.numbers.specs.Numbers.{success, bad_source, short_list, unfinished}
use Rattle.numbers.specs.Refusals.{Refusal, ◌gives◌, first}
use Rattle.lists.specs.Lists.{overlay, elem}
use Rattle.graph.specs.Graph.{offsets_of, targets_of}
use Rattle.graph.specs.File.{vertex_count, edge_count, graph_of}
use Rattle.graph.specs.Read.{header_refusals, scan_refusals, chain_refusals, rows_short, clears_marks}
use Rattle.schedule.specs.Check.{schedule_refusals}
use Rattle.model.specs.Play.{Run, play}
use Rattle.model.specs.Words.{word_of}
use Rattle.model.specs.Histogram.{recount}

-- the lists that the caller lends
pub record Lent : Type 0 where
  pub offsets : List ℕ
  pub targets : List ℕ
  pub marks : List ℕ
  pub distances : List ℕ
  pub parents : List ℕ
  pub histogram : List ℕ
  pub left : List ℕ
  pub right : List ℕ
  pub values : List ℕ

-- "The run's answer: number, events used, effective events, d." (§6.10)
pub record Answer : Type 0 where
  pub number : ℕ
  pub used : ℕ
  pub effective : ℕ
  pub layer : ℕ

-- "three node lists P × n + 1 each" (§10.3)
abbrev pub node_places : ℕ → ℕ → ℕ
node_places n P = P * n + 1

-- the lengths of the lists that the caller lends
pub record Lengths : Type 0 where
  pub offsets : ℕ
  pub targets : ℕ
  pub marks : ℕ
  pub distances : ℕ
  pub parents : ℕ
  pub histogram : ℕ
  pub left : ℕ
  pub right : ℕ
  pub values : ℕ

-- the lengths of these lists
abbrev pub lengths_of : Lent → Lengths
lengths_of lent = record {
  offsets = length lent.offsets;
  targets = length lent.targets;
  marks = length lent.marks;
  distances = length lent.distances;
  parents = length lent.parents;
  histogram = length lent.histogram;
  left = length lent.left;
  right = length lent.right;
  values = length lent.values;
}

-- "20: a lent list is shorter than its need": "offsets n + 1, targets and marks m, distances and parents n,
-- three node lists P × n + 1 each"; "The census list joins the lent lists under number 20", n counts (§10.3)
unfoldable pub lengths_short : ℕ → ℕ → ℕ → Lengths → Bool
lengths_short n m P lengths =
    rows_short n m lengths.offsets lengths.targets lengths.marks
    || ltb lengths.distances n
    || ltb lengths.parents n
    || ltb lengths.histogram n
    || ltb lengths.left (node_places n P)
    || ltb lengths.right (node_places n P)
    || ltb lengths.values (node_places n P)

-- the run of the file's graph
unfoldable pub run_of : List ℕ → ℕ → ℕ → List ℕ → Run
run_of file source P schedule = play (graph_of file) source P schedule

-- "Order: 1 (under 4), 2, 1 (length), 4, 3, 7, 8, 9, 20": what is judged before a list is written (§10.2)
unfoldable pub early_refusals : List ℕ → ℕ → ℕ → List ℕ → Lengths → List Refusal
early_refusals file source P schedule lengths =
    header_refusals file
    ++ scan_refusals file
    ++ (leb (vertex_count file) source gives bad_source ∷ [])
    ++ schedule_refusals schedule P
    ++ (lengths_short (vertex_count file) (edge_count file) P lengths gives short_list ∷ [])

-- ".. 5, 6", all of it before the schedule is played (§10.2)
unfoldable pub input_refusals : List ℕ → ℕ → ℕ → List ℕ → Lent → List Refusal
input_refusals file source P schedule lent =
    early_refusals file source P schedule (lengths_of lent) ++ chain_refusals file

-- "then .. 21" (§10.2)
unfoldable pub search_refusals : List ℕ → ℕ → ℕ → List ℕ → Lent → List Refusal
search_refusals file source P schedule lent =
    input_refusals file source P schedule lent
    ++ (not (run_of file source P schedule).state.finished gives unfinished ∷ [])

-- the search's number
unfoldable pub search_number : List ℕ → ℕ → ℕ → List ℕ → Lent → ℕ
search_number file source P schedule lent = first (search_refusals file source P schedule lent)

-- whether the schedule was played
unfoldable pub plays : ℕ → Bool
plays number = elem number (success ∷ unfinished ∷ [])

-- "A refusal other than 21 gives zeros beside its number." (§10.5)
unfoldable pub answer_by : ℕ → Run → Answer
answer_by number r = cond (plays number)
    (record { number = number; used = r.used; effective = r.effective; layer = r.state.layer })
    (record { number = number; used = 0; effective = 0; layer = 0 })

-- "with 5 and 6 the first m marks become 0. Every call that gets past 6 leaves the first m marks 0" (§10.4)
unfoldable pub sweeps_marks : ℕ → Bool
sweeps_marks number = plays number || clears_marks number

-- the lists at exit: "A refusal .. other than 10 and 21 changes nothing, but with 5 and 6 the first m marks
-- become 0. Every call that gets past 6 .. writes rows. A run also leaves the first P × n + 1 places of each node
-- list 0, with 0 and 21 alike. On 21 distances and parents are those written so far. .. Places past the need keep
-- their contents." The census "holds the recount with 0 and 21 alike." (§10.4)
unfoldable pub lent_after : ℕ → Run → List ℕ → ℕ → Lent → Lent
lent_after number r file P lent =
    let g = graph_of file in
    let rewritten : List ℕ → List ℕ → List ℕ = λ new old. cond (plays number) (overlay new old) old in
    let nodes : List ℕ = replicate (node_places (vertex_count file) P) 0 in
    record {
      offsets = rewritten (offsets_of g) lent.offsets;
      targets = rewritten (targets_of g) lent.targets;
      marks = cond (sweeps_marks number) (overlay (replicate (edge_count file) 0) lent.marks) lent.marks;
      distances = rewritten (map word_of r.state.labels.distances) lent.distances;
      parents = rewritten (map word_of r.state.labels.parents) lent.parents;
      histogram = rewritten (recount r.state.labels.distances) lent.histogram;
      left = rewritten nodes lent.left;
      right = rewritten nodes lent.right;
      values = rewritten nodes lent.values;
    }

-- what a call answers, and the lists at exit
pub record Outcome : Type 0 where
  pub answer : Answer
  pub lent : Lent

-- the outcome of a search (§6.10)
unfoldable pub outcome_of_search : List ℕ → ℕ → ℕ → List ℕ → Lent → Outcome
outcome_of_search file source P schedule lent = record {
  answer = answer_by (search_number file source P schedule lent) (run_of file source P schedule);
  lent = lent_after (search_number file source P schedule lent) (run_of file source P schedule) file P lent;
}
