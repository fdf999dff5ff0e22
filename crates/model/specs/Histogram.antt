-- How many vertices stand at each distance, document 02's census, in two ways: as a recount of the distances, and
-- as counts that are kept byte by byte.
use Rattle.std.specs.Prelude.{◌≡◌, Bool, false, cond, not, ◌&&◌, List, map, ℕ, suc, ◌+◌, ◌≤◌, eqb, ltb, length, get_or}
use Rattle.std.proofs.Math.Option.{Option, none, some}
use Rattle.lists.specs.Lists.{numbers_from, sum_of, some_one}
use Rattle.graph.specs.Graph.{Graph}
use Rattle.pennant.specs.Held.{only}
use Rattle.schedule.specs.declared.Event.{Event}
use Rattle.schedule.specs.declared.Event.TheVariants.{Work, Split, Unite, Close, Malformed}
use Rattle.schedule.specs.Events.{event_of}
use Rattle.model.specs.Paths.{Labels, distance_of, is_set}
use Rattle.model.specs.State.{Phase, free, holding, in_hand, marked, named, State, worker_at}
use Rattle.model.specs.Play.{state_at}

-- 1 for a distance that is written and is h
abbrev pub stands_at : ℕ → Option ℕ → ℕ
stands_at h none = 0
stands_at h (some d) = only d h

-- "place h holds how many devices have the written distance h", for each h below n: "a recount of the distance list"
-- (§6.11)
unfoldable pub recount : List (Option ℕ) → List ℕ
recount distances = map (λ (h : ℕ). sum_of (stands_at h) distances) (numbers_from 0 (length distances))

-- whether a worker in this phase marks next, and what it marks is unset
abbrev pub marks_unset : Labels → Phase → Bool
marks_unset x free = false
marks_unset x (holding u i) = false
marks_unset x (in_hand u i t) = not (is_set (distance_of x t))
marks_unset x (marked u i t) = false
marks_unset x (named u i t) = false

-- whether an event is the mark of a vertex that is unset: "also where two workers mark the same device" (§6.11)
unfoldable pub first_mark : State → Event → Bool
first_mark s (Work w) = marks_unset s.labels (worker_at s.workers w).phase
first_mark s (Split w v) = false
first_mark s (Unite w v) = false
first_mark s Close = false
first_mark s Malformed = false

-- 1 where byte k is used, marks a vertex that is unset at its turn, and so writes distance h = d + 1; a byte behind
-- the finishing one has no turn (§6.11)
unfoldable pub added_at : Graph → ℕ → ℕ → List ℕ → ℕ → ℕ → ℕ
added_at g source P schedule h k =
    let s = state_at g source P schedule k in
    let used = ltb k (length schedule) && not s.finished in
    cond (used && first_mark s (event_of (get_or schedule k 0)) && eqb h (suc s.layer)) 1 0

-- "Keep a list of n counts while the search runs": after k bytes, 1 at place 0 from the start, and what the bytes
-- so far have added (§6.11)
unfoldable pub counts_at : Graph → ℕ → ℕ → List ℕ → ℕ → List ℕ
counts_at g source P schedule k =
    map (λ (h : ℕ). stands_at h (some 0) + sum_of (added_at g source P schedule h) (numbers_from 0 k))
    (numbers_from 0 (length g))

-- what counts tell of the distances that are written while the layer is d (§7.9)
pub record Counts (distances : List (Option ℕ)) (d : ℕ) (counts : List ℕ) : Type 0 where
  -- "It must equal a recount of the distance list"
  pub recounted : counts ≡ recount distances
  -- they add up to the number of vertices whose distance is written
  pub total : sum_of (λ (count : ℕ). count) counts ≡ sum_of some_one distances
  -- place h is 0 exactly where no written distance is h
  pub zero_absent : (h v : ℕ) → get_or counts h 0 ≡ 0 → get_or distances v none ≡ some h → ⊥
  pub absent_zero : (h : ℕ) → ((v : ℕ) → get_or distances v none ≡ some h → ⊥) → get_or counts h 0 ≡ 0
  -- places 0 to d are positive
  pub up_to_layer : (h : ℕ) → h ≤ d → 1 ≤ get_or counts h 0
