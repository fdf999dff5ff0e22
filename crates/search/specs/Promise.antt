-- What a search promises, whatever it is called with: the model's outcome, and demand 3 of this very call, in
-- terms of its answer and of the lists that it leaves.
use Rattle.std.specs.Prelude.{◌≡◌, true, false, List, ℕ, ◌≤◌, ◌<◌, length, take}
use Rattle.std.proofs.Math.Option.{some}
use Rattle.numbers.specs.Numbers.{success, unfinished}
use Rattle.numbers.specs.Refusals.{first}
use Rattle.lists.specs.Lists.{numbers_from, sum_of}
use Rattle.graph.specs.File.{vertex_count, graph_of}
use Rattle.model.specs.Paths.{Distance, distance_of, RightResult}
use Rattle.model.specs.State.{opening_labels}
use Rattle.model.specs.Play.{play, met_at, rounds, event_bound}
use Rattle.model.specs.Serial.{Serial}
use Rattle.model.specs.Demand.{Demand, Finisher}
use Rattle.model.specs.Call as call
use Rattle.model.specs.Words.{labels_in}
use Rattle.model.specs.Histogram.{counts_at, Counts}
use Rattle.model.specs.Call.{Answer}

-- the lists that the caller lends
abbrev pub lent_lists : List ℕ → List ℕ → List ℕ → List ℕ → List ℕ → List ℕ → List ℕ → List ℕ → List ℕ → call.Lent
lent_lists offsets targets marks distances parents histogram left right values = record {
  offsets = offsets;
  targets = targets;
  marks = marks;
  distances = distances;
  parents = parents;
  histogram = histogram;
  left = left;
  right = right;
  values = values;
}

-- what the call answered, and the lists at exit
abbrev pub search_exit : Answer → call.Lent → call.Outcome
search_exit r after = record { answer = r; lent = after }

module _ (file : List ℕ) (source P : ℕ) (schedule : List ℕ) (lent : call.Lent) where
  -- demand 3 of a call that answered so and left the lists so
  pub record Kept (r : Answer) (after : call.Lent) : Type 0 where
    -- the model's theorem, field by field: a call that answers 0 or 21 was accepted, so the theorem holds of what
    -- it was given
    pub demand : call.plays r.number ≡ true → Demand (graph_of file) source P schedule
    -- "with 21 all of them": 21 only after the whole schedule is played and the search isn't finished (§6.9)
    pub spent : r.number ≡ unfinished → r.used ≡ length schedule
    pub not_finished : r.number ≡ unfinished → (play (graph_of file) source P schedule).state.finished ≡ false
    -- 0 only with a finishing event, the last one used (§6.9)
    pub finished : r.number ≡ success → Finisher (graph_of file) source P schedule r.used
    -- d is the run's (§6.10)
    pub layer : call.plays r.number ≡ true → r.layer ≡ (play (graph_of file) source P schedule).state.layer
    -- "The effective events reported are the number of used bytes whose condition, by that table, was met at
    -- their turn." (§6.9)
    pub counted : call.plays r.number ≡ true
        → r.effective ≡ sum_of (met_at (graph_of file) source P schedule) (numbers_from 0 r.used)
    -- "Their count is at most P × (6 × n + m) + n": with any number, and below it with 21 (§7.4)
    pub bounded : r.effective ≤ event_bound (graph_of file) P
    pub below : r.number ≡ unfinished → r.effective < event_bound (graph_of file) P
    -- that many full rounds finish: with an input that passes every test the number is then 0 (§7.5)
    pub enough_rounds : first (call.input_refusals file source P schedule lent) ≡ success
        → event_bound (graph_of file) P ≤ rounds P schedule
        → r.number ≡ success
    -- "Written distances are final": what stands in the caller's list is the distance, with 0 and 21 alike (§7.3)
    pub final : call.plays r.number ≡ true → (v d : ℕ)
        → distance_of (labels_in (vertex_count file) after.distances after.parents) v ≡ some d
        → Distance (graph_of file) source v d
    -- with 0 the caller's lists hold the right result .. (§7.6)
    pub right_result : r.number ≡ success
        → RightResult (graph_of file) source (labels_in (vertex_count file) after.distances after.parents)
    -- .. as a link-by-link run leaves it, with some order of each layer's links (§7.8)
    pub link_by_link : r.number ≡ success
        → Serial (graph_of file) 0 (opening_labels (vertex_count file) source)
        (labels_in (vertex_count file) after.distances after.parents)
    -- the caller's counts are a recount of the caller's distances, with 0 and 21 alike, and tell what counts tell ..
    -- (§7.9)
    pub counts_told : call.plays r.number ≡ true
        → Counts (labels_in (vertex_count file) after.distances after.parents).distances r.layer
        (take (vertex_count file) after.histogram)
    -- .. and they are the counts as kept over the bytes of the schedule (§7.9)
    pub counts_kept : call.plays r.number ≡ true
        → take (vertex_count file) after.histogram ≡ counts_at (graph_of file) source P schedule (length schedule)
