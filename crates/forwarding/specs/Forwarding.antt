-- The graph of a call with sleepers: the file's graph with the rows of sleepers that are not the source taken out. No
-- call takes sleepers yet: paths, event table, play, link-by-link run, certificate and view are to speak of it then.
use Rattle.std.specs.Prelude.{ℕ, Bool, cond, List, [], map, length}
use Rattle.lists.specs.Lists.{numbers_from}
use Rattle.graph.specs.Graph.{Graph, edges}
use Rattle.graph.specs.File.{graph_of}
use Rattle.forwarding.specs.Sleepers.{may_forward}

-- the rows of the vertices for which the test holds; every other vertex has an empty row
unfoldable pub rows_where : (ℕ → Bool) → Graph → Graph
rows_where test g = map (λ (u : ℕ). cond (test u) (edges g u) []) (numbers_from 0 (length g))

-- "sleep and never forward": the rows of the source and of the devices that are awake
abbrev pub forwarding : Graph → ℕ → List ℕ → Graph
forwarding g source sleepers = rows_where (may_forward source sleepers) g

-- the graph of a call with this file, source and list of sleepers
abbrev pub call_graph : List ℕ → ℕ → List ℕ → Graph
call_graph file source sleepers = forwarding (graph_of file) source sleepers
