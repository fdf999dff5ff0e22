-- The free chain: where it stays as it was, its first node taken, a node put in front of it, and the chain of a new pool.
use Prim.Native.Nat.{ℕ, zero, suc, ◌+◌, ◌≤◌, ◌<◌}
use native.Mathlib.Omega.{arith}
use native.Mathlib.Nat.{zero-add, add-zero, add-suc, suc-add}
use mathlib.Core.Path.{◌≡◌, refl, sym, ap, ◌∙◌}
use mathlib.Core.List.{List, [], ◌∷◌, ◌++◌}
use lib.ListN.{length, get_or, set, drop, replicate, length-append, length-set, get_or-append}
use lib.Seq.{get_or-set_same, get_or-set_other, get_or_at}
use Rattle.lists.specs.Lists.{sum_of, overlay, numbers_from, chain_from}
use Rattle.lists.proofs.Chains.{chain_none, chain_longer}
use Rattle.lists.proofs.Tests.{length_range, get_or_range}
use Rattle.pennant.specs.Bag.{empty_bag}
use Rattle.pennant.specs.Held.{weigh, one, only}
use Rattle.pennant.proofs.Laws.{only_self, weigh_empty}
use Rattle.bag.specs.Nodes.{pennant_at, slots_from, slot_nodes, free_from, free_nodes, empty_slots, new_bag}
use Rattle.bag.specs.Promises.{in_pool, weigh_nodes, weigh_free, uses, Pooled}
use Rattle.bag.proofs.Only.{other_only, in_pool_once, in_pool_within, in_pool_zero, in_pool_past, in_pool_next, in_pool_more}
use Rattle.bag.proofs.FormedFacts.{all_new}
use Rattle.bag.proofs.Few.{few_nodes, sum_one}

-- Chains.

-- a chain whose nodes are as they were
chain_kept : (left left' : List ℕ) (steps x : ℕ) → ((i : ℕ) → 0 < i → 1 ≤ sum_of (only i) (free_from left steps x) → get_or left' i 0 ≡ get_or left i 0)
    → free_from left' steps x ≡ free_from left steps x
unfolding free_from sum_of chain_from
chain_kept left left' zero x same = refl
chain_kept left left' (suc steps) zero same = refl
chain_kept left left' (suc steps) (suc x) same =
    rw (
      same (suc x) (omega arith) (omega (arith, only_self (suc x))),
      chain_kept left left' steps (get_or left (suc x) 0) (λ i g h. same i g (omega arith)),
    )

module _ (left : List ℕ) where
  -- a chain that ended before its steps did is the same with one step more
  free_more : (steps x : ℕ) → length (free_from left steps x) < steps → free_from left (suc steps) x ≡ free_from left steps x
  unfolding free_from
  free_more steps x h = chain_longer (λ n. get_or left n 0) steps (suc steps) x h (omega arith)

  -- with one step more it is no shorter
  free_longer : (steps x : ℕ) → length (free_from left steps x) ≤ length (free_from left (suc steps) x)
  unfolding free_from chain_from
  free_longer zero x = omega arith
  free_longer (suc steps) zero = omega arith
  free_longer (suc steps) (suc x) = omega (arith, free_longer steps (get_or left (suc x) 0))

  -- 0 ends a chain
  free_none : (steps : ℕ) → free_from left steps 0 ≡ []
  unfolding free_from
  free_none steps = chain_none (λ n. get_or left n 0) steps

  -- a chain along consecutive places, which ends after k of them
  free_range : (steps a k : ℕ) → k ≤ steps → ((i : ℕ) → i < k → get_or left (a + i) 0 ≡ suc (a + i)) → get_or left (a + k) 0 ≡ 0
      → free_from left steps (get_or left a 0) ≡ numbers_from (suc a) k
  unfolding free_from numbers_from chain_from
  free_range steps a zero h next last = rw (← add-zero a, last) (free_none steps)
  free_range zero a (suc k) h next last = absurd (omega arith)
  free_range (suc steps) a (suc k) h next last =
      rw (rw add-zero at (next 0 (omega arith)))
      (ap (λ (l : List ℕ). suc a ∷ l)
      (free_range steps (suc a) k (omega arith) (λ i g. rw (suc-add a i, ← add-suc a i) (next (suc i) (omega arith))) (rw (suc-add a k, ← add-suc a k) last)))

-- The free nodes.

-- a list that is as it was at place 0 and at the free nodes
pub free_kept : (left left' : List ℕ) → length left' ≡ length left → get_or left' 0 0 ≡ get_or left 0 0
    → ((i : ℕ) → 1 ≤ sum_of (only i) (free_nodes left) → get_or left' i 0 ≡ get_or left i 0)
    → free_nodes left' ≡ free_nodes left
unfolding free_nodes
free_kept left left' long first same = rw (long, first) (chain_kept left left' (length left) (get_or left 0 0) (λ i g h. same i h))

-- the first free node taken off the chain
pub free_pop : (left : List ℕ) → (get_or left 0 0 ≡ 0 → ⊥) → ((i : ℕ) → sum_of (only i) (free_nodes left) ≤ in_pool (length left) i)
    → free_nodes left ≡ get_or left 0 0 ∷ free_nodes (set left 0 (get_or left (get_or left 0 0) 0))
unfolding free_nodes free_from chain_from
free_pop [] some apart = absurd (some refl)
free_pop (zero ∷ rest) some apart = absurd (some refl)
free_pop (suc x ∷ rest) some apart =
    ap (λ (l : List ℕ). suc x ∷ l)
    (sym (chain_kept left left' (suc (length rest)) next same ∙ free_more left (length rest) next (omega (arith, few_nodes (length left) (free_nodes left) apart))))
  where
    left : List ℕ
    left = suc x ∷ rest

    next : ℕ
    next = get_or rest x 0

    left' : List ℕ
    left' = next ∷ rest

    same : (i : ℕ) → 0 < i → 1 ≤ sum_of (only i) (free_from left (suc (length rest)) next) → get_or left' i 0 ≡ get_or left i 0
    same i g h = get_or-set_other left 0 i next 0 (λ (e : i ≡ 0). omega arith)

-- a node put in front of the chain
pub free_push : (left : List ℕ) (x : ℕ) → ((i : ℕ) → only i x + sum_of (only i) (free_nodes left) ≤ in_pool (length left) i)
    → free_nodes (set (set left x (get_or left 0 0)) 0 x) ≡ x ∷ free_nodes left
unfolding free_nodes free_from sum_of chain_from
free_push left zero apart = absurd (omega (arith, apart 0, only_self 0, in_pool_zero (length left)))
free_push [] (suc x) apart = absurd (omega (arith, (in_pool_within 0 (suc x) (omega (arith, apart (suc x), only_self (suc x)))).1))
free_push (first ∷ rest) (suc x) apart =
    rw (length-set rest x first, get_or-set_same rest x first 0 (omega (arith, within.1)))
    (ap (λ (l : List ℕ). suc x ∷ l) (chain_kept left left' (length rest) first same ∙ sym more))
  where
    left : List ℕ
    left = first ∷ rest

    left' : List ℕ
    left' = suc x ∷ set rest x first

    within : (0 < suc x) × (suc x < length left)
    within = in_pool_within (length left) (suc x) (omega (arith, apart (suc x), only_self (suc x)))

    -- the chain ends within one step less
    more : free_nodes left ≡ free_from left (length rest) first
    more =
        free_more left (length rest) first (omega (arith, few_nodes (length left) (suc x ∷ free_nodes left) apart, free_longer left (length rest) first))

    -- and x is not on it
    same : (i : ℕ) → 0 < i → 1 ≤ sum_of (only i) (free_from left (length rest) first) → get_or left' i 0 ≡ get_or left i 0
    same zero g h = absurd (omega arith)
    same (suc i) g h =
        let off : only (suc i) (suc x) ≡ 0 = omega (arith, apart (suc i), in_pool_once (length left) (suc i), ap (sum_of (only (suc i))) more) in
        get_or-set_other rest x i first 0 (λ (e : i ≡ x). other_only (suc i) (suc x) off (ap suc (sym e)))

-- a chain that has a node has a first one
pub free_some : (left : List ℕ) → 1 ≤ weigh_free one left → get_or left 0 0 ≡ 0 → ⊥
unfolding weigh_free free_nodes sum_of
free_some left h e = omega (arith, h, ap (sum_of one) (ap (free_from left (length left)) e ∙ free_none left (length left)))

-- A new pool.

module _ (nodes : ℕ) where
  -- what is written at the front of the list: node after node, and 0 at the last
  abbrev chain : List ℕ
  chain = numbers_from 1 nodes ++ 0 ∷ []

  -- one place more than nodes
  pub chain_length : length chain ≡ nodes + 1
  chain_length = length-append (numbers_from 1 nodes) (0 ∷ []) ∙ ap (λ (n : ℕ). n + 1) (length_range 1 nodes)

  -- each place leads to the next node
  pub chain_next : (i : ℕ) → i < nodes → get_or chain i 0 ≡ i + 1
  chain_next i h = get_or-append (numbers_from 1 nodes) (0 ∷ []) 0 i (rw length_range h) ∙ get_or_range 1 nodes i 0 h ∙ omega arith

  -- and the last to none
  pub chain_end : get_or chain nodes 0 ≡ 0
  chain_end = get_or_at (numbers_from 1 nodes) 0 [] 0 nodes (length_range 1 nodes)

-- so the free nodes are 1 to nodes
pub free_chained : (left : List ℕ) (nodes : ℕ) → nodes < length left → free_nodes (overlay (numbers_from 1 nodes ++ 0 ∷ []) left) ≡ numbers_from 1 nodes
unfolding free_nodes overlay
free_chained left nodes h =
    free_range (chain nodes ++ past) (length (chain nodes ++ past)) 0 nodes
    (omega (arith, chain_length nodes, length-append (chain nodes) past))
    (λ i g. rw zero-add (get_or-append (chain nodes) past 0 i (omega (arith, chain_length nodes)) ∙ chain_next nodes i g ∙ omega arith))
    (rw zero-add (get_or-append (chain nodes) past 0 nodes (omega (arith, chain_length nodes)) ∙ chain_end nodes))
  where
    past : List ℕ
    past = drop (length (chain nodes)) left

-- as many as there are nodes
pub free_count : (left : List ℕ) (nodes : ℕ) → free_nodes left ≡ numbers_from 1 nodes → weigh_free one left ≡ nodes
unfolding weigh_free
free_count left nodes e = ap (sum_of one) e ∙ sum_one (numbers_from 1 nodes) ∙ length_range 1 nodes

-- the nodes up to a and those from there on
range_whole : (x a n : ℕ) → sum_of (only x) (numbers_from (suc a) n) + in_pool (suc a) x ≡ in_pool (suc (a + n)) x
unfolding sum_of numbers_from
range_whole x a zero = rw (add-zero a) (omega arith)
range_whole x a (suc n) =
    omega (arith, range_whole x (suc a) n, in_pool_next a x, ap (λ (m : ℕ). in_pool (suc m) x) (suc-add a n ∙ sym (add-suc a n)))

module _ (left right : List ℕ) where
  -- an empty bag has no nodes
  pub nodes_empty : slot_nodes left right empty_slots ≡ empty_bag
  unfolding slot_nodes slots_from pennant_at empty_bag
  nodes_empty = refl

  -- an empty bag weighs nothing
  pub empty_weight : (f : ℕ → ℕ) → weigh f (slot_nodes left right empty_slots) ≡ 0
  empty_weight f = rw nodes_empty (weigh_empty f)

  -- nor do any number of them
  pub weigh_new : (f : ℕ → ℕ) (count : ℕ) → weigh_nodes f left right (replicate count new_bag) ≡ 0
  unfolding weigh_nodes sum_of
  weigh_new f zero = refl
  weigh_new f (suc count) = omega (arith, empty_weight f, weigh_new f count)

  -- in a new pool each node from 1 on stands in exactly one place, and nothing else does
  pub pool_whole : (nodes count : ℕ) → free_nodes left ≡ numbers_from 1 nodes → (x : ℕ) → uses x left right (replicate count new_bag) ≡ in_pool (suc nodes) x
  unfolding weigh_free
  pool_whole nodes count chain x =
      rw chain (omega (arith, weigh_new (only x) count, range_whole x 0 nodes, ap (λ (m : ℕ). in_pool (suc m) x) (zero-add nodes), none))
    where
      none : in_pool 1 x ≡ 0
      none = first x
        where
          first : (x : ℕ) → in_pool 1 x ≡ 0
          first zero = in_pool_zero 1
          first (suc x) = in_pool_past 1 (suc x) (omega arith)

  -- a new pool with any number of empty bags
  pub pool_free : (nodes count : ℕ) → free_nodes left ≡ numbers_from 1 nodes → nodes < length left → length left ≤ 65536 → length left ≤ length right
      → Pooled left right (replicate count new_bag)
  unfolding weigh_free
  pool_free nodes count chain h few wide = record {
    some = omega arith;
    few = few;
    wide = wide;
    apart = λ x. omega (arith, pool_whole nodes count chain x, in_pool_more (suc nodes) (length left) x h);
    formed = all_new count;
  }
