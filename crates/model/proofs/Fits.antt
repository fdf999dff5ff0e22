-- What a sound state needs of the engine's lists: all bags together hold at most P copies of each vertex, no slot above the sixteenth is filled,
-- input bags hold vertices, and distances, parents and the layer are below n.
use mathlib.Core.Path.{◌≡◌, refl, sym}
use mathlib.Core.List.{List, [], ◌∷◌, ◌++◌}
use mathlib.Core.Option.{some, mem_unique}
use Prim.Native.Nat.{ℕ, suc, ◌+◌, ◌*◌, ◌^◌, ◌≤◌, ◌<◌}
use native.Mathlib.Nat.{mul-le-mul}
use native.Mathlib.Decide.{dec_le, ℕ_discrete}
use native.Mathlib.Omega.{arith}
use lib.ListN.{length}
use borrow.Author.Tests.{ne_eqb}
use Rattle.numbers.specs.Numbers.{max_vertices, max_workers}
use Rattle.lists.specs.Lists.{numbers_from, sum_of}
use Rattle.lists.proofs.Sums.{sum_append, sum_at, sum_both, sum_within, sum_only}
use Rattle.lists.proofs.Tests.{length_range}
use Rattle.graph.specs.Graph.{Graph}
use Rattle.pennant.specs.Bag.{slot_count}
use Rattle.pennant.specs.Held.{items, weigh, one, only, size, copies}
use Rattle.pennant.proofs.Laws.{weigh_empty, weigh_items, only_self, no_slot_above}
use Rattle.model.specs.Paths.{Distance, distance_of, parent_of}
use Rattle.model.specs.State.{Worker, State, worker_at, idle_worker}
use Rattle.model.specs.Demand.{held, Fitting}
use Rattle.model.proofs.Counts.{inputs, outputs}
use Rattle.model.proofs.Sound.{Ground, Sound}
use Rattle.model.proofs.Walks.{walk_below, distance_unique}
use Rattle.model.proofs.LabelFacts.{label_below}

-- a number below n is counted among 0, 1, .., n - 1
range_counts : (x n : ℕ) → x < n → 1 ≤ sum_of (λ (v : ℕ). only v x) (numbers_from 0 n)
range_counts x n h =
    let alone = sum_only (λ (v : ℕ). only v x) x (λ v apart. rw (ne_eqb x v (λ q. apart (sym q)))) 0 n (omega arith) (omega arith) in
    omega (arith, only_self x)

-- a list of numbers below n is no longer than its counts of 0, 1, .., n - 1 together
counts_long : (n : ℕ) (l : List ℕ) → ((v : ℕ) → 1 ≤ sum_of (only v) l → v < n) → sum_of one l ≤ sum_of (λ (v : ℕ). sum_of (only v) l) (numbers_from 0 n)
unfolding sum_of
counts_long n [] below = omega arith
counts_long n (x ∷ l) below =
    let here : x < n = below x (omega (arith, only_self x)) in
    let more : sum_of one l ≤ sum_of (λ (v : ℕ). sum_of (only v) l) (numbers_from 0 n) = counts_long n l (λ v h. below v (omega arith)) in
    omega (arith, range_counts x n here, sum_both (λ (v : ℕ). only v x) (λ (v : ℕ). sum_of (only v) l) (numbers_from 0 n))

-- .. so it holds at most n times as many numbers as it holds of any one
counts_most : (n most : ℕ) (l : List ℕ) → ((v : ℕ) → 1 ≤ sum_of (only v) l → v < n) → ((v : ℕ) → sum_of (only v) l ≤ most) → sum_of one l ≤ most * n
counts_most n most l below few =
    let all = sum_within (λ (v : ℕ). sum_of (only v) l) most few (numbers_from 0 n) in
    omega (arith, counts_long n l below, rw (length_range 0 n) at all)

-- the numbers of all bags
unfoldable all_items : List Worker → List ℕ
all_items [] = []
all_items (w ∷ workers) = items w.input ++ items w.output ++ all_items workers

-- a weight summed over all input bags and all output bags
weigh_all : (f : ℕ → ℕ) (workers : List Worker)
    → sum_of (λ (w : Worker). weigh f w.input) workers + sum_of (λ (w : Worker). weigh f w.output) workers ≡ sum_of f (all_items workers)
unfolding sum_of all_items
weigh_all f [] = refl
weigh_all f (w ∷ workers) =
    let front = sum_append f (items w.input) (items w.output) in
    let all = sum_append f (items w.input ++ items w.output) (all_items workers) in
    omega (arith, front, all, weigh_items f w.input, weigh_items f w.output, weigh_all f workers)

module _ {g : Graph} {source : ℕ} (ground : Ground g source) where
  module _ {P : ℕ} {s : State} (h : Sound g source P s) where
    -- a vertex in an output bag belongs to the next layer
    output_far : (v : ℕ) → 1 ≤ outputs v s.workers → Distance g source v (suc s.layer)
    output_far v k = h.labels_sound.written v (suc s.layer) (h.crew_sound.output_next v k)

    -- a number in a bag is a vertex
    held_below : (v : ℕ) → 1 ≤ inputs v s.workers + outputs v s.workers → v < length g
    held_below v k = go (dec_le 1 (inputs v s.workers))
      where
        go : Dec (1 ≤ inputs v s.workers) → v < length g
        go (yes a) = walk_below ground (h.crew_sound.input_near v a).walk
        go (no a) = walk_below ground (output_far v (omega arith)).walk

    -- at most P copies of a vertex are in bags, since no vertex belongs to two layers
    held_few : (v : ℕ) → inputs v s.workers + outputs v s.workers ≤ P
    held_few v = elim (dec_le 1 (inputs v s.workers)) [
      | no a ↦ omega (arith, h.crew_sound.few_outputs v)
      | yes a ↦ elim (dec_le 1 (outputs v s.workers)) [
        | yes b ↦ absurd (omega (arith, distance_unique (h.crew_sound.input_near v a) (output_far v b)))
        | no b ↦ omega (arith, h.crew_sound.few_inputs v)
      ]
    ]

    -- all bags together hold at most P * n numbers
    held_most : held s.workers ≤ P * length g
    unfolding held
    held_most =
        let all = all_items s.workers in
        let below : (v : ℕ) → 1 ≤ sum_of (only v) all → v < length g = λ v k. held_below v (omega (arith, weigh_all (only v) s.workers)) in
        let few : (v : ℕ) → sum_of (only v) all ≤ P = λ v. omega (arith, held_few v, weigh_all (only v) s.workers) in
        let both = sum_both (λ (w : Worker). size w.input) (λ (w : Worker). size w.output) s.workers in
        omega (arith, both, weigh_all one s.workers, counts_most (length g) P all below few)

    -- the two bags of a worker together hold fewer than 2^16 numbers
    held_small : P ≤ max_workers → length g ≤ max_vertices → (w : ℕ)
        → size (worker_at s.workers w).input + size (worker_at s.workers w).output < 2 ^ slot_count
    unfolding held
    held_small p q w =
        let idle : size idle_worker.input + size idle_worker.output ≡ 0 = omega (arith, weigh_empty one) in
        omega (arith, held_most, mul-le-mul p q, sum_at (λ (x : Worker). size x.input + size x.output) s.workers w idle_worker idle)

    -- a number in a worker's input bag is a vertex
    input_below : (w v : ℕ) → 1 ≤ copies v (worker_at s.workers w).input → v < length g
    input_below w v k =
        let idle : copies v idle_worker.input ≡ 0 = weigh_empty (only v) in
        held_below v (omega (arith, sum_at (λ (x : Worker). copies v x.input) s.workers w idle_worker idle))

    -- a distance that is set is below n: each layer up to it has a vertex
    distance_below : (v d : ℕ) → distance_of s.labels v ≡ some d → d < length g
    distance_below v d e = go (dec_le d s.layer)
      where
        go : Dec (d ≤ s.layer) → d < length g
        go (yes a) = omega (arith, h.labels_sound.room)
        go (no a) =
            let same : d ≡ suc s.layer = omega (arith, h.labels_sound.not_far v d e) in
            omega (arith, h.labels_sound.more_room v (rw same at e))

    -- a parent that is set is a vertex
    parent_below : (v p : ℕ) → parent_of s.labels v ≡ some p → p < length g
    parent_below v p e = go (ℕ_discrete v source)
      where
        go : Dec (v ≡ source) → p < length g
        go (yes same) = omega (arith, ground.starts, mem_unique h.labels_sound.own_parent (rw same at e))
        go (no apart) =
            let n = h.labels_sound.parent v p apart e in
            label_below s.labels p h.labels_sound.distances_all n.here

  -- every sound state fits
  pub sound_fits : {P : ℕ} {s : State} → P ≤ max_workers → Sound g source P s → Fitting g P s
  sound_fits {s = s} p h = record {
    all_there = h.crew_sound.crew;
    all_held = held_most h;
    inputs_low = λ q w. no_slot_above (worker_at s.workers w).input (h.crew_sound.each w).input_shaped (omega (arith, held_small h p q w));
    outputs_low = λ q w. no_slot_above (worker_at s.workers w).output (h.crew_sound.each w).output_shaped (omega (arith, held_small h p q w));
    inputs_below = input_below h;
    distances_all = h.labels_sound.distances_all;
    parents_all = h.labels_sound.parents_all;
    distances_below = distance_below h;
    parents_below = parent_below h;
    layer_below = omega (arith, h.labels_sound.room);
  }
