-- What `play` takes for granted and promises: the run on the first places of longer lists, and the node lists
-- cleared. A prime marks what stands there afterwards. Only the contracts of inner steps cite these, but for
-- `refused_with`.
use Rattle.std.specs.Prelude.{◌≡◌, List, map, ℕ, ◌+◌, ◌≤◌, length, take, replicate}
use Rattle.numbers.specs.Numbers.{max_events}
use Rattle.lists.specs.Lists.{overlay}
use Rattle.graph.specs.Graph.{rows_of}
use Rattle.graph.specs.Steps.{GraphRows}
use Rattle.model.specs.Play.{Run}
use Rattle.model.specs.Call.{node_places}
use Rattle.model.specs.Words.{word_of}
use Rattle.model.specs.Histogram.{recount}
use Rattle.model.specs.Demand.{Accepted}
use Rattle.model.specs.Call.{Answer}
use Rattle.engine.specs.Runs.{answer_of, Tells}

-- "A refusal other than 21 gives zeros beside its number."
abbrev pub refused_with : ℕ → Answer
refused_with number = answer_of number 0 0 0

-- what `play` takes for granted: of the first places of longer lists, what `run` does of whole ones
pub record Playable (n m source P : ℕ)
    (schedule offsets targets distances parents histogram left right values : List ℕ) : Type 0 where
  pub rows : GraphRows (take (n + 1) offsets) (take m targets) n
  pub accepted : Accepted (rows_of (take (n + 1) offsets) (take m targets)) source P schedule
  pub few_events : length schedule ≤ max_events
  pub offsets_there : n + 1 ≤ length offsets
  pub targets_there : m ≤ length targets
  pub distances_there : n ≤ length distances
  pub parents_there : n ≤ length parents
  pub histogram_there : n ≤ length histogram
  pub left_there : node_places n P ≤ length left
  pub right_there : node_places n P ≤ length right
  pub values_there : node_places n P ≤ length values

-- what `play` promises: labels and counts in the first places, the nodes' first places 0, the others as they were
pub record PlayedOut (r : Run) (places : ℕ)
    (distances parents histogram left right values : List ℕ)
    (distances' parents' histogram' left' right' values' : List ℕ)
    (answer : Answer) : Type 0 where
  pub told : Tells r answer
  pub labelled : distances' ≡ overlay (map word_of r.state.labels.distances) distances
  pub named : parents' ≡ overlay (map word_of r.state.labels.parents) parents
  pub counted : histogram' ≡ overlay (recount r.state.labels.distances) histogram
  pub left_clear : left' ≡ overlay (replicate places 0) left
  pub right_clear : right' ≡ overlay (replicate places 0) right
  pub values_clear : values' ≡ overlay (replicate places 0) values
