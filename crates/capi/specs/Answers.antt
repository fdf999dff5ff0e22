-- The C interface passes numbers and lists alone: `hopmap_read` and `hopmap_search` leave their answers in a
-- lent list of 32-bit numbers. Here is how an answer is read off such a list, so that the contracts say of the
-- list what those of `graph::read` and `search::search` say of their answer; and how large the numbers of an
-- answer are, so that each fits its place.
use Rattle.std.specs.Prelude.{List, ℕ, ◌≤◌, ◌<◌, get_or}
use Rattle.numbers.specs.Numbers.{max_vertices, max_edges, max_events, short_list, unfinished}
use Rattle.graph.specs.Read.{ReadAnswer}
use Rattle.model.specs.Call.{Answer}

-- the reader's answer that stands in a list: number, n, m (§13.2)
abbrev pub read_answer_in : List ℕ → ReadAnswer
read_answer_in answer = record { number = get_or answer 0 0; vertices = get_or answer 1 0; edges = get_or answer 2 0 }

-- the search's answer that stands in a list: number, events used, effective events, d (§13.2)
abbrev pub answer_in : List ℕ → Answer
answer_in answer = record {
  number = get_or answer 0 0;
  used = get_or answer 1 0;
  effective = get_or answer 2 0;
  layer = get_or answer 3 0;
}

-- a reader's answer of small numbers: every one that is given (`read_small`)
pub record ReadSmall (r : ReadAnswer) : Type 0 where
  pub number : r.number ≤ short_list
  pub vertices : r.vertices ≤ max_vertices
  pub edges : r.edges ≤ max_edges

-- a search's answer of small numbers: every one that is given (`search_small`)
pub record SearchSmall (r : Answer) : Type 0 where
  pub number : r.number ≤ unfinished
  pub used : r.used ≤ max_events
  pub effective : r.effective ≤ r.used
  pub layer : r.layer < max_vertices
