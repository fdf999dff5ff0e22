-- A close, where all workers are free and all input bags empty: the united bag holds the next layer. If it isn't empty, the state that the close
-- leaves is sound and opens that layer; if it is, the labels are certified.
use mathlib.Core.Path.{◌≡◌, refl, ◌∙◌}
use mathlib.Core.Bool.{Bool, true, false}
use mathlib.Core.List.{List, map}
use mathlib.Core.Option.{Option, none, some}
use Prim.Native.Nat.{ℕ, suc, ◌≤◌, ◌<◌}
use native.Mathlib.Decide.{dec_le, ℕ_discrete}
use native.Mathlib.Omega.{arith}
use lib.Dec.{leb, ltb}
use lib.ListN.{length, length-map, get_or-map}
use borrow.Author.Tests.{ltb-true, ltb-false, leb-true, leb-false}
use Rattle.lists.specs.Lists.{some_one}
use Rattle.graph.specs.Graph.{Graph, edges}
use Rattle.pennant.specs.Bag.{taken_number, is_empty}
use Rattle.pennant.specs.Held.{only, copies}
use Rattle.pennant.proofs.Laws.{empty_bag_lem, empty_weighs, taken_held, shaped_empty}
use Rattle.model.specs.Paths.{edge_target, Walk, stay, Distance, Labels, distance_of, parent_of, is_set}
use Rattle.model.proofs.Certified.{Certified}
use Rattle.model.specs.State.{free, Worker, idle_worker, State, worker_at}
use Rattle.model.specs.Table.{all_idle, united_outputs, handed_in, raised_state, closed}
use Rattle.model.specs.Demand.{LayerOpen}
use Rattle.model.proofs.Counts.{hand_of, naming_of, at_of, outputs}
use Rattle.model.proofs.Sound.{LabelsSound, CrewSound, Sound}
use Rattle.model.proofs.Walks.{walk_more, walk_last, distance_source}
use Rattle.model.proofs.LabelFacts.{not_both, set_value, one_set, label_is}
use Rattle.model.proofs.Workers.{weigh_unions, shaped_unions, Idle, idle_each}
use Rattle.model.proofs.Fresh.{no_copies, none_busy, LayerBag, SpareCrew, fresh_sound, fresh_opens}

-- The end of a layer: sound labels, and a sound crew that is idle.
module _ {g : Graph} {source P d : ℕ} {x : Labels} {workers : List Worker}
    (l : LabelsSound g source d x) (c : CrewSound g source P d x workers) (idle : (w : ℕ) → Idle (worker_at workers w)) where
  -- all are free
  all-free : (w : ℕ) → (worker_at workers w).phase ≡ free
  all-free w = (idle w).phase_free

  -- a path through a vertex that is set
  through : (u k i : ℕ) → distance_of x u ≡ some k → i < length (edges g u) → Walk g source (edge_target g u i) (suc k)
  through u k i e there = walk_more (l.written u k e).walk i there

  -- every edge of a vertex up to this layer leads to a vertex that is set
  target_set : (u k i : ℕ) → distance_of x u ≡ some k → k ≤ d → i < length (edges g u) → is_set (distance_of x (edge_target g u i)) ≡ true
  target_set u k i e h there = go (ltb k d) refl
    where
      go : (b : Bool) → ltb k d ≡ b → is_set (distance_of x (edge_target g u i)) ≡ true
      go true q = l.near (edge_target g u i) (suc k) (through u k i e there) (ltb-true k d q)
      go false q =
          let same : k ≡ d = omega (arith, ltb-false k d q) in
          let looked = c.covered u i (rw same at (l.written u k e)) there in
          let taken = no_copies (λ w. w.input) workers (λ w. (idle w).input_empty) u in
          one_set (distance_of x (edge_target g u i)) (omega (arith, none_busy workers all-free (at_of u i) refl))

  -- what d + 1 links reach is set
  next_set : (v k : ℕ) → Walk g source v k → k ≤ suc d → is_set (distance_of x v) ≡ true
  next_set v k w h = go (leb k d) refl
    where
      go : (b : Bool) → leb k d ≡ b → is_set (distance_of x v) ≡ true
      go true q = l.near v k w (leb-true k d q)
      go false q =
          let last = walk_last w d (omega (arith, leb-false k d q)) in
          let label = set_value (distance_of x last.before) (l.near last.before d last.walk (omega arith)) in
          let low = (l.written last.before label.value label.is).least d last.walk in
          rw last.edge.leads at (target_set last.before label.value last.edge.place label.is low last.edge.there)

  -- every vertex of the next layer has its label
  next_labelled : (v : ℕ) → Distance g source v (suc d) → distance_of x v ≡ some (suc d)
  next_labelled v far = label_is l v (suc d) (next_set v (suc d) far.walk (omega arith)) far

  -- every vertex that is set has its parent
  parent_set : (v : ℕ) → is_set (distance_of x v) ≡ true → 1 ≤ some_one (parent_of x v)
  parent_set v e = omega (arith, c.parented v e, none_busy workers all-free (naming_of v) refl)

  -- the united bag holds what the output bags hold
  united_copies : (v : ℕ) → copies v (united_outputs workers) ≡ outputs v workers
  unfolding united_outputs
  united_copies v =
      let before = (worker_at workers 0).input in
      omega (arith, weigh_unions (λ (w : Worker). w.output) (only v) before workers, empty_weighs (only v) before (idle 0).input_empty)

  -- which is the vertices that are set for the next layer
  united_next : (v : ℕ) → 1 ≤ copies v (united_outputs workers) → distance_of x v ≡ some (suc d)
  united_next v h = c.output_next v (omega (arith, united_copies v))

  -- all of them
  next_united : (v : ℕ) → distance_of x v ≡ some (suc d) → 1 ≤ copies v (united_outputs workers)
  next_united v e = omega (arith, united_copies v, c.stowed v e, none_busy workers all-free (hand_of v) refl)

  -- so it holds the next layer
  united_bag : LayerBag g source P (suc d) (united_outputs workers)
  unfolding united_outputs
  united_bag = record {
    every = λ v far. next_united v (next_labelled v far);
    no_other = λ v h. l.written v (suc d) (united_next v h);
    at_most = λ v. omega (arith, united_copies v, c.few_outputs v);
    shaped = shaped_unions (λ (w : Worker). w.output) idle_worker (worker_at workers 0).input workers
        (c.each 0).input_shaped (λ w. (c.each w).output_shaped);
  }

  -- workers whose output bags have been united are spare
  handed_in_lem : 1 ≤ P → SpareCrew P (map handed_in workers)
  handed_in_lem p = record {
    some_worker = p;
    crew = length-map workers handed_in ∙ c.crew;
    each = λ w. rw (get_or-map handed_in workers w idle_worker) (record {
      idle = record { input_empty = (idle w).input_empty; phase_free = (idle w).phase_free };
      output_empty = empty_bag_lem;
      input_shaped = (c.each w).input_shaped;
      output_shaped = shaped_empty;
    });
  }

  -- labels of a layer with a vertex after it are sound for the next one
  next_labels : (v : ℕ) → distance_of x v ≡ some (suc d) → LabelsSound g source (suc d) x
  next_labels v e = record {
    distances_all = l.distances_all;
    parents_all = l.parents_all;
    written = l.written;
    not_far = λ u k f. omega (arith, l.not_far u k f);
    near = next_set;
    some_vertex = (v, l.written v (suc d) e);
    room = omega (arith, l.more_room v e);
    more_room = λ u f. absurd (omega (arith, l.not_far u (suc (suc d)) f));
    own_parent = l.own_parent;
    parent = l.parent;
  }

  -- the state that a close leaves, if it raises the layer
  abbrev raised : State
  raised = raised_state (record { labels = x; workers = workers; layer = d; finished = false }) (united_outputs workers)

  -- is sound, if an output bag holds a vertex
  next_sound : 1 ≤ P → is_empty (united_outputs workers) ≡ false → Sound g source P raised
  next_sound p filled = let v = taken_number (united_outputs workers) in record {
    labels_sound = next_labels v (united_next v (taken_held (united_outputs workers) filled));
    crew_sound = fresh_sound (handed_in_lem p) united_bag (λ u e. omega (arith, l.not_far u (suc (suc d)) e)) parent_set;
  }

  -- and opens the next layer
  next_opens : 1 ≤ P → LayerOpen g source P raised
  next_opens p = fresh_opens (handed_in_lem p) united_bag x false

  -- a vertex that has a parent is set
  named_set : (v p : ℕ) → parent_of x v ≡ some p → is_set (distance_of x v) ≡ true
  named_set v p e = elim (ℕ_discrete v source) [ yes q ↦ rw q (l.near source 0 stay (omega arith)) | no q ↦ rw (l.parent v p q e).there ]

  -- if no output bag holds anything, no vertex is set for the next layer
  last_layer : is_empty (united_outputs workers) ≡ true → (v k : ℕ) → distance_of x v ≡ some k → k ≤ d
  last_layer empty v k e = elim (dec_le k d) [
    | yes h ↦ h
    | no h ↦
        let same : k ≡ suc d = omega (arith, l.not_far v k e) in
        absurd (omega (arith, next_united v (rw same at e), empty_weighs (only v) (united_outputs workers) empty))
  ]

  -- and the labels are certified
  last_certified : is_empty (united_outputs workers) ≡ true → Certified g source x
  last_certified empty = record {
    distances_all = l.distances_all;
    parents_all = l.parents_all;
    source = label_is l source 0 (l.near source 0 stay (omega arith)) distance_source;
    own_parent = l.own_parent;
    onward = λ u k i below e there.
        let label = set_value (distance_of x (edge_target g u i)) (target_set u k i e (last_layer empty u k e) there) in
        (label.value, label.is, (l.written (edge_target g u i) label.value label.is).least (suc k) (through u k i e there));
    no_parent_lem = λ v below e. unnamed v e (parent_of x v) refl;
    parent = λ v below apart e.
        let name = set_value (parent_of x v) (one_set (parent_of x v) (parent_set v e)) in
        (name.value, name.is, l.parent v name.value apart name.is);
  }
    where
      -- a vertex that is unset has no parent
      unnamed : (v : ℕ) → distance_of x v ≡ none → (p : Option ℕ) → parent_of x v ≡ p → p ≡ none
      unnamed v e none f = refl
      unnamed v e (some p) f = not_both e (named_set v p f)

module _ {g : Graph} {source : ℕ} where
  -- a close that raises the layer leaves a sound state
  pub close_sound : {P : ℕ} {s : State} → 1 ≤ P → Sound g source P s → all_idle s.workers ≡ true → is_empty (united_outputs s.workers) ≡ false
      → Sound g source P (closed s (united_outputs s.workers))
  unfolding closed
  close_sound {s = s} p h idle filled = rw filled (next_sound h.labels_sound h.crew_sound (idle_each s.workers idle) p filled)

  -- and opens the next layer
  pub close_opens : {P : ℕ} {s : State} → 1 ≤ P → Sound g source P s → all_idle s.workers ≡ true → is_empty (united_outputs s.workers) ≡ false
      → LayerOpen g source P (closed s (united_outputs s.workers))
  unfolding closed
  close_opens {s = s} p h idle filled = rw filled (next_opens h.labels_sound h.crew_sound (idle_each s.workers idle) p)

  -- a close that finishes leaves labels that are certified
  pub close_certified : {P : ℕ} {s : State} → Sound g source P s → all_idle s.workers ≡ true → is_empty (united_outputs s.workers) ≡ true
      → Certified g source s.labels
  close_certified {s = s} h idle empty = last_certified h.labels_sound h.crew_sound (idle_each s.workers idle) empty
