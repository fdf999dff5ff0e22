-- Lists with room for a pool of nodes.
use Rattle.std.specs.Prelude.{ℕ, ◌<◌, ◌≤◌, List, length}

-- lists with room for so many nodes and their numbers
pub record Room (nodes : ℕ) (left right values : List ℕ) : Type 0 where
  pub enough : nodes < length left
  pub few : length left ≤ 65536
  pub wide : length left ≤ length right
  pub valued : length left ≤ length values
