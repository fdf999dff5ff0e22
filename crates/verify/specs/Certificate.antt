-- The checker's condition as a test that computes, vertex by vertex and edge by edge, without paths. That it is
-- document 01's condition, which speaks of paths, is proved in proofs/Exact.antt and promised in Promise.antt.
use Rattle.std.specs.Prelude.{Bool, true, cond, not, ◌||◌, List, ℕ, suc, eqb, ltb, length, get_or}
use Rattle.std.proofs.Math.Option.{Option, none, some}
use Rattle.lists.specs.Lists.{numbers_from, elem, any_of}
use Rattle.graph.specs.Graph.{Graph, edges}
use Rattle.model.specs.Paths.{Labels, distance_of, parent_of, is_set}

-- whether a label is unset or more than `most`: an unset distance is judged by itself, not as a large number
unfoldable pub beyond : ℕ → Option ℕ → Bool
beyond most none = true
beyond most (some k) = ltb most k

-- whether some target of the row is unset or farther than `most`, by these distances
unfoldable pub any_beyond : List (Option ℕ) → ℕ → List ℕ → Bool
any_beyond distances most row = any_of (λ (t : ℕ). beyond most (get_or distances t none)) row

-- whether a label is other than the number k
unfoldable pub is_not : ℕ → Option ℕ → Bool
is_not k none = true
is_not k (some j) = not (eqb j k)

-- whether a label is other than one less than d
unfoldable pub not_before : ℕ → Option ℕ → Bool
not_before d none = true
not_before d (some k) = not (eqb (suc k) d)

-- whether this parent is wrong for v at distance d: "each other parent has a link to its device and a distance
-- one less"; an unset parent is wrong (§8.3)
unfoldable pub parent_wrong : Graph → List (Option ℕ) → ℕ → ℕ → Option ℕ → Bool
parent_wrong g distances v d none = true
parent_wrong g distances v d (some p) = not_before d (get_or distances p none) || not (elem v (edges g p))

-- whether this distance or this parent is wrong for v. An unset distance is right for any device but the source,
-- with an unset parent ("unreached devices have an unset parent"). A set one is right where each link of v leads
-- to a device that is reached and at most one farther, and the parent fits: "the source is its own parent", at
-- distance 0; any other device has a parent as above (§8.3)
unfoldable pub label_wrong : Graph → ℕ → Labels → ℕ → Option ℕ → Option ℕ → Bool
label_wrong g source x v none parent = eqb v source || is_set parent
label_wrong g source x v (some d) parent =
    any_beyond x.distances (suc d) (edges g v)
    || cond (eqb v source) (not (eqb d 0) || is_not source parent) (parent_wrong g x.distances v d parent)

-- whether the label of v is wrong
unfoldable pub vertex_wrong : Graph → ℕ → Labels → ℕ → Bool
vertex_wrong g source x v = label_wrong g source x v (distance_of x v) (parent_of x v)

-- "10: the checker finds the result wrong" (§8.3)
unfoldable pub result_wrong : Graph → ℕ → Labels → Bool
result_wrong g source x = any_of (vertex_wrong g source x) (numbers_from 0 (length g))
