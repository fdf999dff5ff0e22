-- What the opening takes for granted and promises: "The source starts with distance 0, itself as parent, alone in
-- worker 0's input bag". A prime marks what stands there afterwards. Only the contracts of inner steps cite these.
use Rattle.std.specs.Prelude.{◌≡◌, List, [], ◌∷◌, map, ℕ, ◌+◌, ◌*◌, ◌≤◌, length}
use Rattle.numbers.specs.Numbers.{max_vertices, max_workers}
use Rattle.pennant.specs.Bag.{empty_bag, bag_insert}
use Rattle.pennant.specs.Held.{one}
use Rattle.bag.specs.declared.Bag as declared
use Rattle.bag.specs.Nodes.{held_by}
use Rattle.bag.specs.Promises.{Pooled, weigh_nodes, weigh_free}
use Rattle.model.specs.State.{opening_labels}
use Rattle.model.specs.Call.{node_places}
use Rattle.model.specs.Words.{option_of, labels_of}
use Rattle.model.specs.Histogram.{recount}

-- as many parents and counts as distances, at most as many as n may be; P within its size; node lists for P
-- workers, left exactly at its need
pub record Sized (P : ℕ) (distances parents histogram left right values : List ℕ) : Type 0 where
  pub few-vertices : length distances ≤ max_vertices
  pub some_worker : 1 ≤ P
  pub few_workers : P ≤ max_workers
  pub parents_all : length parents ≡ length distances
  pub histogram_all : length histogram ≡ length distances
  pub nodes : length left ≡ node_places (length distances) P
  pub wide : length left ≤ length right
  pub numbered : length left ≤ length values

-- `open`: the opening labels and their counts, and the source alone in the bag, all other nodes free
pub record FirstLayer (P source : ℕ)
    (distances distances' parents' histogram' left' right' values' : List ℕ) (bag : declared.Bag) : Type 0 where
  pub labels : labels_of distances' parents' ≡ opening_labels (length distances) source
  pub counts : histogram' ≡ recount (map option_of distances')
  pub held : held_by left' right' values' bag ≡ bag_insert source empty_bag
  pub pool : Pooled left' right' (bag ∷ [])
  pub whole : weigh_nodes one left' right' (bag ∷ []) + weigh_free one left' ≡ P * length distances
