-- From what the steps leave on the lists to what the operations promise: trees, numbers held, free chain, and nodes that nobody of them has.
use Prim.Native.Nat.{ℕ, ◌+◌, ◌≤◌, ◌<◌}
use native.Mathlib.Omega.{arith}
use mathlib.Core.Path.{◌≡◌, refl, sym, ap, ◌∙◌}
use mathlib.Core.Bool.{false}
use mathlib.Core.List.{List, [], ◌∷◌, ◌++◌, map}
use lib.ListN.{length, get_or, drop, set, length-set}
use lib.Seq.{get_or-set_same, get_or-set_other}
use Rattle.lists.specs.Lists.{sum_of}
use Rattle.pennant.specs.Pennant.{Slot, gap, tip, null, pennant_first, pennant_second}
use Rattle.pennant.specs.Bag.{Bag, is_empty, bag_insert, insert_filled, bag_union, split_first, split_second, take_rest, taken_number}
use Rattle.pennant.specs.Held.{weigh_tree, weigh_slot, weigh, only, copies, map_bag}
use Rattle.pennant.proofs.Laws.{only_self, weigh_insert, weigh_union, weigh_split, weigh_halves, weigh_end, weigh_rest, map_insert, map_union, map_first, map_second, map_rest, map_taken, map_same}
use Rattle.bag.specs.declared.Bag as declared
use Rattle.bag.specs.Nodes.{pennant_at, tree_at, slot_nodes, bag_with, held_by, free_nodes}
use Rattle.bag.specs.Promises.{in_pool, weigh_nodes, weigh_free, uses, Pooled, Inserted, United, SplitInto, TakenFrom}
use Rattle.bag.specs.Steps.{Loose, Placed, Shifted, Spilled}
use Rattle.bag.proofs.Only.{other_only, in_pool_once, in_pool_within, in_pool_zero}
use Rattle.bag.proofs.Kept.{Same, nodes_kept, nodes_at, nodes_shaped, length_nodes}
use Rattle.bag.proofs.Pairs.{pennant_some}
use Rattle.bag.proofs.PlaceFacts.{none_gap}
use Rattle.bag.proofs.FilledFacts.{Lowest}
use Rattle.bag.proofs.FormedFacts.{new_formed}
use Rattle.bag.proofs.Free.{free_kept, free_pop, free_push, empty_weight}

-- 0 is in no bag and in no chain
none_zero : (left right : List ℕ) (bags : List declared.Bag) → Pooled left right bags → uses 0 left right bags ≡ 0
none_zero left right bags p = omega (arith, p.apart 0, in_pool_zero (length left))

-- a list that is changed at nodes of the bags alone has the free chain that it had
free_same : (left right : List ℕ) (bags : List declared.Bag) (left' : List ℕ) → Pooled left right bags → length left' ≡ length left
    → ((i : ℕ) → weigh_nodes (only i) left right bags ≡ 0 → get_or left' i 0 ≡ get_or left i 0) → free_nodes left' ≡ free_nodes left
unfolding weigh_free
free_same left right bags left' p l kept =
    free_kept left left' l (kept 0 (omega (arith, none_zero left right bags p))) (λ i h. kept i (omega (arith, h, p.apart i, in_pool_once (length left) i)))

module _ (left right slots : List ℕ) {left' : List ℕ} {x : ℕ} (e : x ≡ get_or left 0 0) (d : left' ≡ set left 0 (get_or left x 0)) where
  popped_list : left' ≡ set left 0 (get_or left (get_or left 0 0) 0)
  popped_list = d ∙ ap (λ (n : ℕ). set left 0 (get_or left n 0)) e

  -- the list and the node as the code leaves them, for the node that is to be placed
  pub loosened : Loose (set left 0 (get_or left (get_or left 0 0) 0)) right slots (get_or left 0 0) → Loose left' right slots x
  loosened w = rw (popped_list, e) w

  -- and for the bag that it is placed in
  pub placed_in : {left'' right'' slots'' : List ℕ} → Placed left' right slots x left'' right'' slots'' → Placed (set left 0 (get_or left (get_or left 0 0) 0)) right slots (get_or left 0 0) left'' right'' slots''
  placed_in w = rw (popped_list, e) at w

module _ (left right : List ℕ) where
  -- union
  pub unites : (a b left' right' slots' : List ℕ) → Pooled left right (bag_with a ∷ bag_with b ∷ []) → slot_nodes left' right' slots' ≡ bag_union (slot_nodes left right a) (slot_nodes left right b)
      → ((i : ℕ) → weigh_nodes (only i) left right (bag_with a ∷ bag_with b ∷ []) ≡ 0 → Same left right left' right' i)
      → length left' ≡ length left → length right' ≡ length right → length slots' ≡ 16
      → United left right (bag_with a) (bag_with b) left' right' (bag_with slots')
  unfolding held_by weigh_nodes weigh_free sum_of
  unites a b left' right' slots' p e kept ll rl long = record {
    free = free;
    nodes = e;
    held = λ values. ap (map_bag (λ x. get_or values x 0)) e ∙ map_union (λ x. get_or values x 0) (slot_nodes left right a) (slot_nodes left right b);
    moved = record {
      nodes = λ f. omega (arith, ap (weigh f) e, weigh_union f (slot_nodes left right a) (slot_nodes left right b), empty_weight left' right' f, ap (sum_of f) free);
      kept_left = λ x h c. (kept x (omega arith)).0;
      kept_right = λ x c. (kept x (omega arith)).1;
      left_length = ll;
      right_length = rl;
      formed = (record { sixteen = long }, (new_formed, tt));
    };
  }
    where
      free : free_nodes left' ≡ free_nodes left
      free = free_same left right (bag_with a ∷ bag_with b ∷ []) left' p ll (λ i c. (kept i (omega arith)).0)

  -- split, from the two bags as trees
  splits : (slots left' right' first second : List ℕ) → Pooled left right (bag_with slots ∷ []) → slot_nodes left' right' first ≡ split_first (slot_nodes left right slots) → slot_nodes left' right' second ≡ split_second (slot_nodes left right slots)
      → ((i : ℕ) → copies i (slot_nodes left right slots) ≡ 0 → Same left right left' right' i)
      → length left' ≡ length left → length right' ≡ length right → length first ≡ 16 → length second ≡ 16
      → SplitInto left right (bag_with slots) left' right' (bag_with first) (bag_with second)
  unfolding held_by weigh_nodes weigh_free sum_of
  splits slots left' right' first second p e d kept ll rl first-long second-long = record {
    free = free;
    nodes_first = e;
    nodes_second = d;
    held_first = λ values. ap (map_bag (λ x. get_or values x 0)) e ∙ map_first (λ x. get_or values x 0) (slot_nodes left right slots);
    held_second = λ values. ap (map_bag (λ x. get_or values x 0)) d ∙ map_second (λ x. get_or values x 0) (slot_nodes left right slots);
    moved = record {
      nodes = λ f. omega (arith, ap (weigh f) e, ap (weigh f) d, weigh_split f (slot_nodes left right slots), ap (sum_of f) free);
      kept_left = λ x h c. (kept x (omega arith)).0;
      kept_right = λ x c. (kept x (omega arith)).1;
      left_length = ll;
      right_length = rl;
      formed = (record { sixteen = first-long }, (record { sixteen = second-long }, tt));
    };
  }
    where
      free : free_nodes left' ≡ free_nodes left
      free = free_same left right (bag_with slots ∷ []) left' p ll (λ i c. (kept i (omega arith)).0)

  module _ (slots : List ℕ) (p : Pooled left right (bag_with slots ∷ [])) where
    -- it has 16 slots
    l : length slots ≡ 16
    l = p.formed.0.sixteen

    -- each node of the bag is in it once
    pool_once : (i : ℕ) → copies i (slot_nodes left right slots) ≤ 1
    unfolding weigh_nodes sum_of
    pool_once i = omega (arith, p.apart i, in_pool_once (length left) i)

    -- the bag by its slot 0 and the others
    parts : slot_nodes left right slots ≡ pennant_at left right 0 (get_or slots 0 0) ∷ drop 1 (slot_nodes left right slots)
    parts = go (slot_nodes left right slots) (length_nodes left right slots ∙ l) (nodes_at left right slots 0)
      where
        go : (s : Bag) {x : Slot} → length s ≡ 16 → get_or s 0 gap ≡ x → s ≡ x ∷ drop 1 s
        go [] e d = absurd (omega arith)
        go (y ∷ s) e d = ap (λ (x : Slot). x ∷ s) d

    parts_weigh : (f : ℕ → ℕ) → weigh f (slot_nodes left right slots) ≡ weigh_slot f (pennant_at left right 0 (get_or slots 0 0)) + weigh f (drop 1 (slot_nodes left right slots))
    unfolding weigh sum_of
    parts_weigh f = ap (weigh f) parts

    first_parts : split_first (slot_nodes left right slots) ≡ insert_filled (pennant_at left right 0 (get_or slots 0 0)) (map pennant_first (drop 1 (slot_nodes left right slots)) ++ gap ∷ [])
    unfolding split_first
    first_parts = ap split_first parts

    second_parts : split_second (slot_nodes left right slots) ≡ map pennant_second (drop 1 (slot_nodes left right slots)) ++ gap ∷ []
    unfolding split_second
    second_parts = ap split_second parts

    module _ (left' first second : List ℕ) (d : Shifted left right slots left' first second) (ll : length left' ≡ length left)
        (first-long : length first ≡ 16) (second-long : length second ≡ 16) where
      halves_weigh : (f : ℕ → ℕ) → weigh f (slot_nodes left' right first) + weigh f (slot_nodes left' right second) ≡ weigh f (drop 1 (slot_nodes left right slots))
      halves_weigh f =
          omega (
            arith,
            ap (weigh f) d.nodes_first,
            ap (weigh f) d.nodes_second,
            weigh_end f (map pennant_first (drop 1 (slot_nodes left right slots))),
            weigh_end f (map pennant_second (drop 1 (slot_nodes left right slots))),
            weigh_halves f (drop 1 (slot_nodes left right slots)),
          )

      -- split of a bag with slot 0 empty
      pub split_even : get_or slots 0 0 ≡ 0 → SplitInto left right (bag_with slots) left' right (bag_with first) (bag_with second)
      unfolding insert_filled
      split_even e =
          splits slots left' right first second p
          (d.nodes_first ∙ sym (first_parts ∙ ap (λ (x : Slot). insert_filled x (map pennant_first (drop 1 (slot_nodes left right slots)) ++ gap ∷ [])) (none_gap left right 0 (get_or slots 0 0) e)))
          (d.nodes_second ∙ sym second_parts)
          (λ i c. (d.kept i (omega (arith, c, parts_weigh (only i))), refl))
          ll
          refl
          first-long
          second-long

      module _ (odd : get_or slots 0 0 ≡ 0 → ⊥) where
        odd_slot : pennant_at left right 0 (get_or slots 0 0) ≡ tip (get_or slots 0 0) null
        unfolding tree_at
        odd_slot = pennant_some left right 0 (get_or slots 0 0) odd

        odd_weigh : (f : ℕ → ℕ) → weigh f (slot_nodes left right slots) ≡ f (get_or slots 0 0) + weigh f (drop 1 (slot_nodes left right slots))
        unfolding weigh_slot weigh_tree
        odd_weigh f = rw odd_slot at (parts_weigh f) ∙ omega arith

        -- the odd node is apart from the first half
        pub odd_loose : Loose left' right first (get_or slots 0 0)
        unfolding weigh_nodes sum_of
        odd_loose = record {
          few = omega (arith, p.few);
          wide = omega (arith, p.wide);
          some = odd;
          apart = λ i. rw ll (omega (arith, odd_weigh (only i), halves_weigh (only i), p.apart i));
        }

        -- split of a bag with an odd node
        pub split_odd : (left'' right'' whole : List ℕ) → Placed left' right first (get_or slots 0 0) left'' right'' whole → length left'' ≡ length left' → length right'' ≡ length right
            → length whole ≡ 16 → SplitInto left right (bag_with slots) left'' right'' (bag_with whole) (bag_with second)
        unfolding insert_filled bag_insert
        split_odd left'' right'' whole q ll' rl whole_long =
            splits slots left'' right'' whole second p
            (q.nodes ∙ ap (bag_insert (get_or slots 0 0)) d.nodes_first ∙ sym (first_parts ∙ ap (λ (x : Slot). insert_filled x (map pennant_first (drop 1 (slot_nodes left right slots)) ++ gap ∷ [])) odd_slot))
            (nodes_kept left' right left'' right'' second (λ i c. off i (omega (arith, c, odd_weigh (only i), halves_weigh (only i), pool_once i))) ∙ d.nodes_second ∙ sym second_parts)
            (λ i c.
            let same = off i (omega (arith, c, odd_weigh (only i), halves_weigh (only i))) in
            (same.0 ∙ d.kept i (omega (arith, c, odd_weigh (only i))), same.1))
            (ll' ∙ ll)
            rl
            whole_long
            second-long
          where
            off : (i : ℕ) → only i (get_or slots 0 0) + copies i (slot_nodes left' right first) ≡ 0 → Same left' right left'' right'' i
            off i c = (q.kept_left i c, q.kept_right i c)

    -- what is taken: the root of the lowest filled slot
    module _ (f : is_empty (slot_nodes left right slots) ≡ false) (r : ℕ) (low : Lowest left right slots 0 r) where
      taken_root : taken_number (slot_nodes left right slots) ≡ get_or slots r 0
      taken_root = low.taken

      taken_weigh : (g : ℕ → ℕ) → g (get_or slots r 0) + weigh g (take_rest (slot_nodes left right slots)) ≡ weigh g (slot_nodes left right slots)
      taken_weigh g = rw taken_root at (weigh_rest g (slot_nodes left right slots) (nodes_shaped left right slots) f)

      taken_apart : (i : ℕ) → only i (get_or slots r 0) + copies i (take_rest (slot_nodes left right slots)) + sum_of (only i) (free_nodes left) ≤ in_pool (length left) i
      unfolding weigh_nodes weigh_free sum_of
      taken_apart i = omega (arith, p.apart i, taken_weigh (only i))

      -- it is within the lists
      pub taken_within : get_or slots r 0 < length left
      taken_within = (in_pool_within (length left) (get_or slots r 0) (omega (arith, taken_apart (get_or slots r 0), only_self (get_or slots r 0)))).1

      module _ (left' slots' : List ℕ) (d : Spilled left right slots r left' slots') (ll : length left' ≡ length left)
          (long : length slots' ≡ 16) where
        free_left : free_nodes left' ≡ free_nodes left
        unfolding weigh_nodes sum_of
        free_left = free_same left right (bag_with slots ∷ []) left' p ll (λ i c. d.kept i (omega arith))

        left'' : List ℕ
        left'' = set (set left' (get_or slots r 0) (get_or left' 0 0)) 0 (get_or slots r 0)

        -- but for the root and place 0 the list is as the splits leave it
        off : (i : ℕ) → only i (get_or slots r 0) ≡ 0 → (i ≡ 0 → ⊥) → get_or left'' i 0 ≡ get_or left' i 0
        unfolding left''
        off i c h =
            get_or-set_other (set left' (get_or slots r 0) (get_or left' 0 0)) 0 i (get_or slots r 0) 0 h
            ∙ get_or-set_other left' (get_or slots r 0) i (get_or left' 0 0) 0 (λ (e : i ≡ get_or slots r 0). other_only i (get_or slots r 0) c (sym e))

        rest : slot_nodes left'' right slots' ≡ take_rest (slot_nodes left right slots)
        unfolding take_rest left''
        rest =
            nodes_kept left' right left'' right slots'
            (λ i c.
            let held : 1 ≤ copies i (take_rest (slot_nodes left right slots)) = rw before at c in
            (off i (omega (arith, held, taken_apart i, in_pool_once (length left) i)) (λ (e : i ≡ 0). some i held e), refl))
            ∙ before
          where
            before : slot_nodes left' right slots' ≡ take_rest (slot_nodes left right slots)
            before = d.nodes ∙ sym low.rest

            some : (i : ℕ) → 1 ≤ copies i (take_rest (slot_nodes left right slots)) → i ≡ 0 → ⊥
            some i h e = omega (arith, (in_pool_within (length left) i (omega (arith, h, taken_apart i))).0)

        chain : free_nodes left'' ≡ get_or slots r 0 ∷ free_nodes left
        unfolding left''
        chain =
            free_push left' (get_or slots r 0) (λ i. rw (free_left, ll) (omega (arith, taken_apart i)))
            ∙ ap (λ (l : List ℕ). get_or slots r 0 ∷ l) free_left

        -- take
        pub takes : (values : List ℕ) {left''' : List ℕ} {value : ℕ} → left''' ≡ set (set left' (get_or slots r 0) (get_or left' 0 0)) 0 (get_or slots r 0) → value ≡ get_or values (get_or slots r 0) 0
            → TakenFrom left right values (bag_with slots) left''' (bag_with slots') value
        unfolding left'' held_by weigh_nodes weigh_free sum_of
        takes values {left'''} {value} e v = rw (e, v) (record {
          free = chain ∙ ap (λ (x : ℕ). x ∷ free_nodes left) (sym taken_root);
          nodes = rest;
          taken = sym (map_taken (λ x. get_or values x 0) (slot_nodes left right slots) f ∙ ap (λ (x : ℕ). get_or values x 0) taken_root);
          held = ap (map_bag (λ x. get_or values x 0)) rest ∙ map_rest (λ x. get_or values x 0) (slot_nodes left right slots);
          moved = record {
            nodes = λ g. omega (arith, ap (weigh g) rest, ap (sum_of g) chain, taken_weigh g);
            kept_left = λ x h c. off x (omega (arith, c, taken_weigh (only x))) (λ (q : x ≡ 0). omega arith) ∙ d.kept x (omega arith);
            kept_right = λ x c. refl;
            left_length = length-set (set left' (get_or slots r 0) (get_or left' 0 0)) 0 (get_or slots r 0) ∙ length-set left' (get_or slots r 0) (get_or left' 0 0) ∙ ll;
            right_length = refl;
            formed = (record { sixteen = long }, tt);
          };
        })

  -- insert: the first free node, apart from the bag
  module _ (slots : List ℕ) (p : Pooled left right (bag_with slots ∷ [])) (some : get_or left 0 0 ≡ 0 → ⊥) where
    popped : free_nodes left ≡ get_or left 0 0 ∷ free_nodes (set left 0 (get_or left (get_or left 0 0) 0))
    unfolding weigh_free
    popped = free_pop left some (λ i. omega (arith, p.apart i))

    next_apart : (i : ℕ) → only i (get_or left 0 0) + copies i (slot_nodes left right slots) + sum_of (only i) (free_nodes (set left 0 (get_or left (get_or left 0 0) 0))) ≤ in_pool (length left) i
    unfolding weigh_nodes weigh_free sum_of
    next_apart i = omega (arith, p.apart i, ap (sum_of (only i)) popped)

    -- it is within the lists
    pub next_within : get_or left 0 0 < length left
    next_within = (in_pool_within (length left) (get_or left 0 0) (omega (arith, next_apart (get_or left 0 0), only_self (get_or left 0 0)))).1

    left' : List ℕ
    left' = set left 0 (get_or left (get_or left 0 0) 0)

    -- what is used is not 0
    used : (i : ℕ) → 1 ≤ copies i (slot_nodes left right slots) → i ≡ 0 → ⊥
    used i h e = omega (arith, (in_pool_within (length left) i (omega (arith, h, next_apart i))).0)

    bag_same : slot_nodes left' right slots ≡ slot_nodes left right slots
    unfolding left'
    bag_same = nodes_kept left right left' right slots (λ i c. (get_or-set_other left 0 i (get_or left (get_or left 0 0) 0) 0 (used i c), refl))

    pub next_loose : Loose (set left 0 (get_or left (get_or left 0 0) 0)) right slots (get_or left 0 0)
    unfolding left'
    next_loose = record {
      few = rw (length-set left 0 (get_or left (get_or left 0 0) 0)) p.few;
      wide = rw (length-set left 0 (get_or left (get_or left 0 0) 0)) p.wide;
      some = some;
      apart = λ i. rw (bag_same, length-set left 0 (get_or left (get_or left 0 0) 0)) (omega (arith, next_apart i));
    }

    -- insert
    pub inserts : (values : List ℕ) (value : ℕ) (left'' right'' slots'' : List ℕ) {values'' : List ℕ} → length left ≤ length values → values'' ≡ set values (get_or left 0 0) value
        → Placed (set left 0 (get_or left (get_or left 0 0) 0)) right slots (get_or left 0 0) left'' right'' slots''
        → length left'' ≡ length left → length right'' ≡ length right → length slots'' ≡ 16
        → Inserted left right values (bag_with slots) value left'' right'' values'' (bag_with slots'')
    unfolding left' held_by weigh_nodes weigh_free sum_of
    inserts values value left'' right'' slots'' {values''} wide e d ll rl long = record {
      free = popped ∙ ap (λ (l : List ℕ). get_or left 0 0 ∷ l) (sym chain);
      nodes = nodes;
      stored = e;
      kept_value = λ x h c. rw e (get_or-set_other values (get_or left 0 0) x value 0 (λ (q : x ≡ get_or left 0 0). omega (arith, c, ap (sum_of (only x)) popped, only_self x, ap (λ (n : ℕ). only x n) q)));
      held =
          ap (map_bag (λ x. get_or values'' x 0)) nodes
          ∙ map_insert (λ x. get_or values'' x 0) (get_or left 0 0) (slot_nodes left right slots)
          ∙ rw (stored, map_same (λ x. get_or values'' x 0) (λ x. get_or values x 0) (slot_nodes left right slots) others);
      moved = record {
        nodes = λ f. omega (arith, ap (weigh f) nodes, weigh_insert f (get_or left 0 0) (slot_nodes left right slots), ap (sum_of f) chain, ap (sum_of f) popped);
        kept_left = λ x h c. d.kept_left x (rw bag_same (omega (arith, c, ap (sum_of (only x)) popped))) ∙ get_or-set_other left 0 x (get_or left (get_or left 0 0) 0) 0 (λ (q : x ≡ 0). omega arith);
        kept_right = λ x c. d.kept_right x (rw bag_same (omega (arith, c, ap (sum_of (only x)) popped)));
        left_length = ll;
        right_length = rl;
        formed = (record { sixteen = long }, tt);
      };
    }
      where
        nodes : slot_nodes left'' right'' slots'' ≡ bag_insert (get_or left 0 0) (slot_nodes left right slots)
        nodes = d.nodes ∙ ap (bag_insert (get_or left 0 0)) bag_same

        chain : free_nodes left'' ≡ free_nodes left'
        chain =
            free_kept left' left'' (ll ∙ sym (length-set left 0 (get_or left (get_or left 0 0) 0)))
            (d.kept_left 0 (rw bag_same (omega (arith, next_apart 0, in_pool_zero (length left)))))
            (λ i h. d.kept_left i (rw bag_same (omega (arith, h, next_apart i, in_pool_once (length left) i))))

        stored : get_or values'' (get_or left 0 0) 0 ≡ value
        stored = rw e (get_or-set_same values (get_or left 0 0) value 0 (omega (arith, next_within)))

        others : (i : ℕ) → 1 ≤ copies i (slot_nodes left right slots) → get_or values'' i 0 ≡ get_or values i 0
        others i h = rw e (get_or-set_other values (get_or left 0 0) i value 0 (λ (q : i ≡ get_or left 0 0). omega (arith, h, next_apart i, in_pool_once (length left) i, only_self i, ap (λ (n : ℕ). only i n) q)))
