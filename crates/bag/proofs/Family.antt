-- A family of bags over one pool: what an operation on one or two of the bags requires, and that it leaves the others as they were.
use Prim.Native.Nat.{ℕ, zero, suc, ◌+◌, ◌≤◌, ◌<◌}
use native.Mathlib.Omega.{arith}
use mathlib.Core.Path.{◌≡◌, refl, sym, ap, ◌∙◌}
use mathlib.Core.Bool.{true}
use mathlib.Core.List.{List, [], ◌∷◌, ◌++◌, map}
use lib.ListN.{length, get_or, set, replicate, length-set}
use lib.Seq.{get_or-set_same, get_or-set_other, set-set}
use Rattle.lists.specs.Lists.{sum_of}
use Rattle.lists.proofs.Sums.{sum_set, sum_at, sum_same, sum_append}
use Rattle.lists.proofs.Replaced.{map_set, map_agree, set_two_again}
use Rattle.pennant.specs.Bag.{Bag, is_empty}
use Rattle.pennant.specs.Held.{weigh, only, copies}
use Rattle.pennant.proofs.Laws.{empty_weighs, map_same}
use Rattle.bag.specs.declared.Bag as declared
use Rattle.bag.specs.Nodes.{slots_from, slot_nodes, nodes_of, held_by, new_bag, past_bag}
use Rattle.bag.specs.Promises.{in_pool, weigh_nodes, uses, AllFormed, Pooled, Moved}
use Rattle.bag.proofs.Only.{in_pool_once, in_pool_within}
use Rattle.bag.proofs.Kept.{nodes_kept}
use Rattle.bag.proofs.FormedFacts.{formed_at, formed_set}
use Rattle.bag.proofs.Free.{empty_weight, weigh_new}
use Rattle.bag.proofs.HeldFacts.{held_empty}

-- A pool that an operation has gone over.

-- what was moved is well-formed still
pub moved_pool : {left right left' right' : List ℕ} {bags bags' : List declared.Bag} → Pooled left right bags
    → Moved left right bags left' right' bags' → Pooled left' right' bags'
moved_pool pool moved = record {
  some = omega (arith, pool.some, moved.left_length);
  few = omega (arith, pool.few, moved.left_length);
  wide = omega (arith, pool.wide, moved.left_length, moved.right_length);
  apart = λ x. rw (moved.nodes (only x), moved.left_length) (pool.apart x);
  formed = moved.formed;
}

-- where nothing is done to the lists, bags that weigh the same are moved
pub same_moved : {left right : List ℕ} {bags bags' : List declared.Bag}
    → ((f : ℕ → ℕ) → weigh_nodes f left right bags' ≡ weigh_nodes f left right bags) → AllFormed bags'
    → Moved left right bags left right bags'
same_moved same formed = record {
  nodes = λ f. rw (same f);
  kept_left = λ x h c. refl;
  kept_right = λ x c. refl;
  left_length = refl;
  right_length = refl;
  formed = formed;
}

-- where each node stood in exactly one place, it still does: free chain and bags partition the nodes
pub moved_whole : {left right left' right' : List ℕ} {bags bags' : List declared.Bag} (places : ℕ)
    → ((x : ℕ) → uses x left right bags ≡ in_pool places x) → Moved left right bags left' right' bags'
    → (x : ℕ) → uses x left' right' bags' ≡ in_pool places x
moved_whole places whole moved x = moved.nodes (only x) ∙ whole x

-- an empty bag is left out of what was moved
pub moved_less : {left right left' right' : List ℕ} {b : declared.Bag} {bags rest : List declared.Bag}
    → Moved left right bags left' right' (b ∷ new_bag ∷ rest)
    → Moved left right bags left' right' (b ∷ rest)
unfolding weigh_nodes sum_of
moved_less {left' = left'} {right' = right'} moved = record {
  nodes = λ f. omega (arith, moved.nodes f, empty_weight left' right' f);
  kept_left = moved.kept_left;
  kept_right = moved.kept_right;
  left_length = moved.left_length;
  right_length = moved.right_length;
  formed = (moved.formed.0, moved.formed.1.1);
}

-- what is moved twice is moved
pub moved_again : {left right left' right' left'' right'' : List ℕ} {bags bags' bags'' : List declared.Bag}
    → Moved left right bags left' right' bags' → Moved left' right' bags' left'' right'' bags''
    → Moved left right bags left'' right'' bags''
moved_again first second = record {
  nodes = λ f. second.nodes f ∙ first.nodes f;
  kept_left = λ x h c. second.kept_left x h (first.nodes (only x) ∙ c) ∙ first.kept_left x h c;
  kept_right = λ x c. second.kept_right x (first.nodes (only x) ∙ c) ∙ first.kept_right x c;
  left_length = second.left_length ∙ first.left_length;
  right_length = second.right_length ∙ first.right_length;
  formed = second.formed;
}

-- Empty bags beside others.

module _ (left right : List ℕ) where
  -- two families weigh what each of them weighs
  pub weigh_both : (f : ℕ → ℕ) (first second : List declared.Bag)
      → weigh_nodes f left right (first ++ second) ≡ weigh_nodes f left right first + weigh_nodes f left right second
  unfolding weigh_nodes
  weigh_both f first second = sum_append (λ (b : declared.Bag). weigh f (nodes_of left right b)) first second

  -- an empty bag weighs nothing
  pub weigh_bare : (f : ℕ → ℕ) (values : List ℕ) (b : declared.Bag) → is_empty (held_by left right values b) ≡ true
      → weigh_nodes f left right (b ∷ []) ≡ 0
  unfolding weigh_nodes sum_of
  weigh_bare f values b empty = omega (arith, empty_weighs f (nodes_of left right b) (sym (held_empty left right values b) ∙ empty))

  -- a bag before new ones weighs what it does alone
  pub weigh_first : (f : ℕ → ℕ) (count : ℕ) (b : declared.Bag) → 1 ≤ count
      → weigh_nodes f left right (set (replicate count new_bag) 0 b) ≡ weigh_nodes f left right (b ∷ [])
  unfolding weigh_nodes sum_of
  weigh_first f zero b some = absurd (omega arith)
  weigh_first f (suc count) b some = omega (arith, weigh_new left right f count)

-- a bag that is empty may stand beside the one that is split
pub split_two : {left right left' right' : List ℕ} {a : declared.Bag} {bags' : List declared.Bag} (values : List ℕ) (b : declared.Bag)
    → is_empty (held_by left right values b) ≡ true → Moved left right (a ∷ []) left' right' bags'
    → Moved left right (a ∷ b ∷ []) left' right' bags'
unfolding weigh_nodes sum_of
split_two {left} {right} values b empty moved =
    let none : (f : ℕ → ℕ) → weigh_nodes f left right (b ∷ []) ≡ 0 = λ f. weigh_bare left right f values b empty in
    record {
      nodes = λ f. moved.nodes f ∙ omega (arith, none f);
      kept_left = λ x h c. moved.kept_left x h (omega (arith, none (only x)));
      kept_right = λ x c. moved.kept_right x (omega (arith, none (only x)));
      left_length = moved.left_length;
      right_length = moved.right_length;
      formed = moved.formed;
    }

-- A family in two parts: the bags that an operation moves, and the rest, which has empty bags in their places.

-- a bag of a family weighs no more than the family
bag_within : (f : ℕ → ℕ) (left right : List ℕ) (bags : List declared.Bag) (m : ℕ)
    → weigh f (nodes_of left right (get_or bags m past_bag)) ≤ weigh_nodes f left right bags
unfolding weigh_nodes slot_nodes slots_from weigh sum_of
bag_within f left right bags m = sum_at (λ (b : declared.Bag). weigh f (nodes_of left right b)) bags m past_bag refl

-- a bag whose tree and whose numbers are as they were
pub held_kept : (left right left' right' values values' : List ℕ) (b : declared.Bag) → nodes_of left' right' b ≡ nodes_of left right b
    → ((x : ℕ) → 1 ≤ copies x (nodes_of left right b) → get_or values' x 0 ≡ get_or values x 0)
    → held_by left' right' values' b ≡ held_by left right values b
unfolding held_by
held_kept left right left' right' values values' b same agree =
    rw same (map_same (λ x. get_or values' x 0) (λ x. get_or values x 0) (nodes_of left right b) agree)

-- in any lists a family weighs what its two parts weigh
abbrev Parts : List declared.Bag → List declared.Bag → List declared.Bag → Type 0
Parts bags part rest =
    (f : ℕ → ℕ) (left right : List ℕ) → weigh_nodes f left right bags ≡ weigh_nodes f left right part + weigh_nodes f left right rest

-- what is well-formed with the family is so with the part
pool_part : {left right : List ℕ} {bags : List declared.Bag} (part rest : List declared.Bag) → Pooled left right bags
    → Parts bags part rest → AllFormed part → Pooled left right part
pool_part {left} {right} part rest pool parts formed = record {
  some = pool.some;
  few = pool.few;
  wide = pool.wide;
  apart = λ x. omega (arith, pool.apart x, parts (only x) left right);
  formed = formed;
}

-- a family after an operation on some of its bags: it is moved, well-formed, and the other bags are as they were
pub record FamilyAfter (left right left' right' : List ℕ) (bags bags' : List declared.Bag) (Other : ℕ → Type 0) : Type 0 where
  pub moved : Moved left right bags left' right' bags'
  pub pool : Pooled left' right' bags'
  pub others : (m : ℕ) → Other m → nodes_of left' right' (get_or bags m past_bag) ≡ nodes_of left right (get_or bags m past_bag)

module _ {left right left' right' : List ℕ} {bags part part' : List declared.Bag} (rest : List declared.Bag) (pool : Pooled left right bags)
    (parts : Parts bags part rest) (moved : Moved left right part left' right' part') where
  -- a node of the rest is none of those that move
  rest_off : (m x : ℕ) → 1 ≤ copies x (nodes_of left right (get_or rest m past_bag)) → (0 < x) × (uses x left right part ≡ 0)
  rest_off m x h =
      let inside = bag_within (only x) left right rest m in
      let whole = parts (only x) left right in
      let apart = pool.apart x in
      ((in_pool_within (length left) x (omega arith)).0, omega (arith, in_pool_once (length left) x))

  -- the trees of the rest are as they were
  rest_kept : (m : ℕ) → nodes_of left' right' (get_or rest m past_bag) ≡ nodes_of left right (get_or rest m past_bag)
  rest_kept m =
      nodes_kept left right left' right' (get_or rest m past_bag).slots
      (λ i h. let off = rest_off m i h in (moved.kept_left i off.0 off.1, moved.kept_right i off.1))

  -- so the rest weighs what it did
  rest_weighs : (f : ℕ → ℕ) → weigh_nodes f left' right' rest ≡ weigh_nodes f left right rest
  unfolding weigh_nodes
  rest_weighs f =
      sum_same (λ (b : declared.Bag). weigh f (nodes_of left' right' b)) (λ (b : declared.Bag). weigh f (nodes_of left right b)) past_bag rest
      (λ i h. ap (weigh f) (rest_kept i))

  -- and holds the numbers it held, if numbers change only at nodes that move
  rest_held : (values values' : List ℕ) → ((x : ℕ) → 0 < x → uses x left right part ≡ 0 → get_or values' x 0 ≡ get_or values x 0)
      → map (held_by left' right' values') rest ≡ map (held_by left right values) rest
  rest_held values values' agree =
      map_agree (held_by left' right' values') (held_by left right values) past_bag rest
      (λ m h. held_kept left right left' right' values values' (get_or rest m past_bag) (rest_kept m)
      (λ x c. let off = rest_off m x c in agree x off.0 off.1))

  -- the family after it, the others being those that the rest still has
  family_after : (bags' : List declared.Bag) → Parts bags' part' rest → AllFormed bags'
      → (Other : ℕ → Type 0) → ((m : ℕ) → Other m → get_or rest m past_bag ≡ get_or bags m past_bag)
      → FamilyAfter left right left' right' bags bags' Other
  family_after bags' parts' formed Other other = record {
    moved = all_moved;
    pool = moved_pool pool all_moved;
    others = λ m off. rw (other m off) at (rest_kept m);
  }
    where
      -- the family moves where the part does
      all_moved : Moved left right bags left' right' bags'
      all_moved = record {
        nodes = λ f. omega (arith, parts f left right, parts' f left' right', rest_weighs f, moved.nodes f);
        kept_left = λ x h c. moved.kept_left x h (omega (arith, parts (only x) left right));
        kept_right = λ x c. moved.kept_right x (omega (arith, parts (only x) left right));
        left_length = moved.left_length;
        right_length = moved.right_length;
        formed = formed;
      }

-- One bag.

-- a family with one bag taken out
one_parts : (bags : List declared.Bag) (i : ℕ) → i < length bags → Parts bags (get_or bags i past_bag ∷ []) (set bags i new_bag)
unfolding weigh_nodes sum_of
one_parts bags i h f left right = omega (
  arith,
  sum_set (λ (b : declared.Bag). weigh f (nodes_of left right b)) bags i new_bag past_bag h,
  empty_weight left right f,
)

-- and with another in its place
one_parts_after : (bags : List declared.Bag) (i : ℕ) (b : declared.Bag) → i < length bags → Parts (set bags i b) (b ∷ []) (set bags i new_bag)
one_parts_after bags i b h f left right =
    rw (get_or-set_same bags i b past_bag h, set-set bags i b new_bag) at (one_parts (set bags i b) i (rw length-set h) f left right)

-- what an operation on one bag requires
pub pool_one : {left right : List ℕ} (bags : List declared.Bag) (i : ℕ) → Pooled left right bags → i < length bags
    → Pooled left right (get_or bags i past_bag ∷ [])
pool_one bags i pool h =
    pool_part (get_or bags i past_bag ∷ []) (set bags i new_bag) pool (one_parts bags i h) (formed_at bags i past_bag pool.formed h, tt)

module _ (left right left' right' : List ℕ) (bags : List declared.Bag) (i : ℕ) (b' : declared.Bag) (pool : Pooled left right bags)
    (inside : i < length bags) (moved : Moved left right (get_or bags i past_bag ∷ []) left' right' (b' ∷ [])) where
  -- the family after an operation on one bag
  pub family_one : FamilyAfter left right left' right' bags (set bags i b') (λ (m : ℕ). m ≡ i → ⊥)
  family_one =
      family_after (set bags i new_bag) pool (one_parts bags i inside) moved (set bags i b') (one_parts_after bags i b' inside)
      (formed_set bags i b' pool.formed moved.formed.0) (λ (m : ℕ). m ≡ i → ⊥)
      (λ m off. get_or-set_other bags i m new_bag past_bag off)

  -- and the numbers held
  pub family_held_one : (values values' : List ℕ)
      → ((x : ℕ) → 0 < x → uses x left right (get_or bags i past_bag ∷ []) ≡ 0 → get_or values' x 0 ≡ get_or values x 0)
      → map (held_by left' right' values') (set bags i b') ≡ set (map (held_by left right values) bags) i (held_by left' right' values' b')
  family_held_one values values' agree =
      rw (
        ← set-set bags i new_bag b',
        map_set held' rest i b',
        rest_held rest pool (one_parts bags i inside) moved values values' agree,
        map_set held bags i new_bag,
        set-set (map held bags) i (held new_bag) (held' b'),
      )
    where
      rest : List declared.Bag
      rest = set bags i new_bag

      held : declared.Bag → Bag
      held = held_by left right values

      held' : declared.Bag → Bag
      held' = held_by left' right' values'

-- Two bags.

-- a family with two bags taken out
two_parts : (bags : List declared.Bag) (i j : ℕ) → i < length bags → j < length bags → (i ≡ j → ⊥)
    → Parts bags (get_or bags i past_bag ∷ get_or bags j past_bag ∷ []) (set (set bags i new_bag) j new_bag)
unfolding weigh_nodes sum_of
two_parts bags i j h k apart f left right = omega (
  arith,
  one_parts bags i h f left right,
  one_parts (set bags i new_bag) j (rw length-set k) f left right,
  ap (λ (b : declared.Bag). weigh f (nodes_of left right b)) (get_or-set_other bags i j new_bag past_bag (λ (e : j ≡ i). apart (sym e))),
)

-- and with others in their places
two_parts_after : (bags : List declared.Bag) (i j : ℕ) (first second : declared.Bag) → i < length bags → j < length bags → (i ≡ j → ⊥)
    → Parts (set (set bags i first) j second) (first ∷ second ∷ []) (set (set bags i new_bag) j new_bag)
two_parts_after bags i j first second h k apart f left right =
    rw (
      get_or-set_other (set bags i first) j i second past_bag apart,
      get_or-set_same bags i first past_bag h,
      get_or-set_same (set bags i first) j second past_bag (rw length-set k),
      set_two_again bags i j first second new_bag new_bag apart,
    ) at (two_parts (set (set bags i first) j second) i j (simp length-set h) (simp length-set k) apart f left right)

-- what an operation on two bags requires
pub pool_two : {left right : List ℕ} (bags : List declared.Bag) (i j : ℕ) → Pooled left right bags → i < length bags → j < length bags
    → (i ≡ j → ⊥) → Pooled left right (get_or bags i past_bag ∷ get_or bags j past_bag ∷ [])
pool_two bags i j pool h k apart =
    pool_part (get_or bags i past_bag ∷ get_or bags j past_bag ∷ []) (set (set bags i new_bag) j new_bag) pool (two_parts bags i j h k apart)
    (formed_at bags i past_bag pool.formed h, (formed_at bags j past_bag pool.formed k, tt))

module _ (left right left' right' : List ℕ) (bags : List declared.Bag) (i j : ℕ) (first' second' : declared.Bag) (pool : Pooled left right bags)
    (within-i : i < length bags) (within-j : j < length bags) (apart : i ≡ j → ⊥)
    (moved : Moved left right (get_or bags i past_bag ∷ get_or bags j past_bag ∷ []) left' right' (first' ∷ second' ∷ [])) where
  -- the family after an operation on two bags
  pub family_two : FamilyAfter left right left' right' bags (set (set bags i first') j second') (λ (m : ℕ). (m ≡ i → ⊥) × (m ≡ j → ⊥))
  family_two =
      family_after (set (set bags i new_bag) j new_bag) pool (two_parts bags i j within-i within-j apart) moved
      (set (set bags i first') j second') (two_parts_after bags i j first' second' within-i within-j apart)
      (formed_set (set bags i first') j second' (formed_set bags i first' pool.formed moved.formed.0) moved.formed.1.0)
      (λ (m : ℕ). (m ≡ i → ⊥) × (m ≡ j → ⊥))
      (λ m off. get_or-set_other (set bags i new_bag) j m new_bag past_bag off.1 ∙ get_or-set_other bags i m new_bag past_bag off.0)

  -- and the numbers held
  pub family_held_two : (values values' : List ℕ)
      → ((x : ℕ) → 0 < x → uses x left right (get_or bags i past_bag ∷ get_or bags j past_bag ∷ []) ≡ 0 → get_or values' x 0 ≡ get_or values x 0)
      → map (held_by left' right' values') (set (set bags i first') j second')
      ≡ set (set (map (held_by left right values) bags) i (held_by left' right' values' first')) j (held_by left' right' values' second')
  family_held_two values values' agree =
      rw (
        ← set_two_again bags i j new_bag new_bag first' second' apart,
        map_set held' (set rest i first') j second',
        map_set held' rest i first',
        rest_held rest pool (two_parts bags i j within-i within-j apart) moved values values' agree,
        map_set held (set bags i new_bag) j new_bag,
        map_set held bags i new_bag,
        set_two_again (map held bags) i j (held new_bag) (held new_bag) (held' first') (held' second') apart,
      )
    where
      rest : List declared.Bag
      rest = set (set bags i new_bag) j new_bag

      held : declared.Bag → Bag
      held = held_by left right values

      held' : declared.Bag → Bag
      held' = held_by left' right' values'
