-- The opening: the labels and counts that are written, the new pool of nodes, and the source in its bag.
use mathlib.Core.Path.{◌≡◌, sym, ap, ap₂, ◌∙◌}
use mathlib.Core.List.{List, [], ◌∷◌, ◌++◌, map}
use mathlib.Core.Option.{Option, none, some}
use Prim.Native.Nat.{ℕ, ◌*◌, ◌≤◌, ◌<◌}
use native.Mathlib.Nat.{mul-le-mul}
use native.Mathlib.Omega.{arith}
use lib.ListN.{length, get_or, set, replicate}
use Rattle.numbers.specs.Numbers.{max_vertices, max_workers, unset}
use Rattle.lists.specs.Lists.{overlay, numbers_from}
use Rattle.lists.proofs.Overlay.{overlay_whole}
use Rattle.lists.proofs.Replaced.{map_set, map_repeated}
use Rattle.pennant.specs.Bag.{bag_insert}
use Rattle.pennant.specs.Held.{one}
use Rattle.bag.specs.declared.Bag as declared
use Rattle.bag.specs.Nodes.{held_by, free_nodes, new_bag}
use Rattle.bag.specs.Promises.{Pooled, Inserted, weigh_nodes}
use Rattle.bag.proofs.Family.{moved_pool}
use Rattle.bag.proofs.Free.{free_some, free_chained, free_count, pool_free, weigh_new}
use Rattle.bag.proofs.HeldFacts.{held_none}
use Rattle.model.specs.State.{opening_labels}
use Rattle.model.specs.Call.{node_places}
use Rattle.model.specs.Words.{option_of, labels_of}
use Rattle.model.specs.Histogram.{recount}
use Rattle.opening.specs.Opening.{Sized, FirstLayer}
use Rattle.model.proofs.WordFacts.{word_set, word_unset}
use Rattle.model.proofs.HistogramFacts.{recount_opening}

-- Labels and counts.

-- a list with the same word in all places but one
pub filled_but_one : (word n i x : ℕ) (l : List ℕ) {filled stored : List ℕ} (count : ℕ) → length l ≡ n → count ≡ length l
    → filled ≡ overlay (replicate count word) l → stored ≡ set filled i x
    → stored ≡ set (replicate n word) i x
filled_but_one word n i x l count long all fill store =
    store
    ∙ ap (λ (k : List ℕ). set k i x)
    (fill ∙ ap (λ (k : ℕ). overlay (replicate k word) l) all ∙ overlay_whole l word ∙ ap (λ (k : ℕ). replicate k word) long)

-- one of the two lists of labels stands for the model's
label_shown : (n source x : ℕ) → x < unset → map option_of (set (replicate n unset) source x) ≡ set (replicate n none) source (some x)
label_shown n source x small =
    map_set option_of (replicate n unset) source x
    ∙ ap₂ (λ (l : List (Option ℕ)) (o : Option ℕ). set l source o) (map_repeated option_of n unset ∙ ap (replicate n) word_unset) (word_set x small)

-- both lists
labels_shown : (n source : ℕ) {distances parents : List ℕ} → source < unset → distances ≡ set (replicate n unset) source 0
    → parents ≡ set (replicate n unset) source source
    → labels_of distances parents ≡ opening_labels n source
unfolding labels_of opening_labels
labels_shown n source small first second =
    ap₂ (λ (a b : List (Option ℕ)). record { distances = a; parents = b })
    (ap (map option_of) first ∙ label_shown n source 0 (omega arith)) (ap (map option_of) second ∙ label_shown n source source small)

-- 1 at distance 0 is a recount of them
counts_shown : (n source : ℕ) {distances histogram : List ℕ} → source < n → distances ≡ set (replicate n unset) source 0
    → histogram ≡ set (replicate n 0) 0 1
    → histogram ≡ recount (map option_of distances)
counts_shown n source small first counted =
    counted ∙ sym (ap (λ (l : List ℕ). recount (map option_of l)) first ∙ ap recount (label_shown n source 0 (omega arith)) ∙ recount_opening n source small)

-- The nodes.

-- P × n nodes are few
pub nodes_few : {P n : ℕ} → P ≤ max_workers → n ≤ max_vertices → P * n ≤ 32768
nodes_few p q = omega (arith, mul-le-mul p q)

-- as many fit into left, in numbers of 16 bits and in words
pub nodes_room : {P n : ℕ} {m long : ℕ} → P ≤ max_workers → n ≤ max_vertices → m ≡ n → long ≡ node_places n P → (P * m < long) × (P * m < 65536)
nodes_room {P} {n} {m} {long} p q same all = let product = ap (λ (k : ℕ). P * k) same in (omega arith, omega (arith, nodes_few p q))

pub nodes_word : {P n m : ℕ} → P ≤ max_workers → n ≤ max_vertices → m ≡ n → P * m < 18446744073709551616
nodes_word {P} p q same = let product = ap (λ (k : ℕ). P * k) same in omega (arith, nodes_few p q)

-- the new pool
module _ {P source : ℕ} {distances parents histogram left left' right values : List ℕ} {none : declared.Bag}
    (sized : Sized P distances parents histogram left right values)
    (some_vertex : source < length distances) (m : ℕ) (same : m ≡ length distances)
    (chained : left' ≡ overlay (numbers_from 1 (P * m) ++ 0 ∷ []) left) (long : length left' ≡ length left) (empty : none ≡ new_bag) where
  -- how many nodes
  abbrev nodes : ℕ
  nodes = P * length distances

  -- they are free
  all-free : free_nodes left' ≡ numbers_from 1 nodes
  all-free =
      ap free_nodes (chained ∙ ap (λ (k : ℕ). overlay (numbers_from 1 (P * k) ++ 0 ∷ []) left) same) ∙ free_chained left nodes (omega (arith, sized.nodes))

  -- with an empty bag the pool is well-formed
  pub new_pool : Pooled left' right (none ∷ [])
  new_pool =
      let size = sized.nodes in
      let few = nodes_few sized.few_workers sized.few-vertices in
      rw empty (pool_free left' right nodes 1 all-free (omega (arith, size, long)) (omega (arith, size, long, few)) (omega (arith, sized.wide, long)))

  -- and a node is free
  pub new_room : get_or left' 0 0 ≡ 0 → ⊥
  new_room = free_some left' (omega (arith, free_count left' nodes all-free, mul-le-mul sized.some_worker some_vertex))

  -- after the source is inserted
  pub new_opened : {distances' parents' histogram' left'' right'' values'' : List ℕ} {bag : declared.Bag}
      → distances' ≡ set (replicate (length distances) unset) source 0 → parents' ≡ set (replicate (length distances) unset) source source
      → histogram' ≡ set (replicate (length histogram) 0) 0 1 → Inserted left' right values none source left'' right'' values'' bag
      → FirstLayer P source distances distances' parents' histogram' left'' right'' values'' bag
  new_opened first second counted inserted = record {
    labels = labels_shown (length distances) source (omega (arith, sized.few-vertices)) first second;
    counts =
        counts_shown (length distances) source some_vertex first (counted ∙ ap (λ (k : ℕ). set (replicate k 0) 0 1) sized.histogram_all);
    held = inserted.held ∙ ap (bag_insert source) (ap (held_by left' right values) empty ∙ held_none left' right values);
    pool = moved_pool new_pool inserted.moved;
    whole =
        inserted.moved.nodes one
        ∙ omega (
          arith,
          ap (λ (b : declared.Bag). weigh_nodes one left' right (b ∷ [])) empty,
          weigh_new left' right one 1,
          free_count left' nodes all-free,
        );
  }
