-- Laws of a graph with some rows taken out, and so of the graph of a call: it has as many vertices, each row is the graph's or empty, its targets are
-- among the graph's and no more, and with no sleeper it is the graph itself.
use mathlib.Core.Path.{◌≡◌, refl, sym, ap, ap₂, ◌∙◌}
use mathlib.Core.Bool.{Bool, true, false, cond, or-true}
use mathlib.Core.List.{List, [], ◌∷◌, flatten}
use Prim.Native.Nat.{ℕ, suc, ◌≤◌, ◌<◌}
use native.Mathlib.Decide.{dec_lt}
use native.Mathlib.Omega.{arith}
use lib.ListN.{length, get_or, replicate, length-map, length-append, get_or-eq_default}
use Rattle.lists.specs.Lists.{numbers_from, reaches}
use Rattle.lists.proofs.Or.{or_none, none_or}
use Rattle.lists.proofs.Parts.{get_or_repeated}
use Rattle.lists.proofs.Tests.{length_range, map_range_at, map_range_next, reaches_append}
use Rattle.graph.specs.Graph.{Graph, edges, targets_of}
use Rattle.graph.specs.File.{vertex_count, graph_of}
use Rattle.graph.proofs.FileLists.{length_graph}
use Rattle.forwarding.specs.Sleepers.{is_sleepy, may_forward}
use Rattle.forwarding.specs.Forwarding.{rows_where, forwarding, call_graph}

-- as many vertices
pub where_length : (test : ℕ → Bool) (g : Graph) → length (rows_where test g) ≡ length g
unfolding rows_where
where_length test g = length-map (numbers_from 0 (length g)) _ ∙ length_range 0 (length g)

-- a row is the graph's, or it is empty
pub where_row : (test : ℕ → Bool) (g : Graph) (u : ℕ) → edges (rows_where test g) u ≡ cond (test u) (edges g u) []
unfolding rows_where edges
where_row test g u = elim (dec_lt u (length g)) [ yes inside ↦ map_range_at _ (length g) u [] inside | no outside ↦ none outside ]
  where
    same : (b : Bool) → ◌≡◌ {A = List ℕ} [] (cond b [] [])
    same true = refl
    same false = refl

    none : (u < length g → ⊥) → get_or (rows_where test g) u [] ≡ cond (test u) (get_or g u []) []
    none outside =
        let over : length g ≤ u = omega arith in
        get_or-eq_default (rows_where test g) [] (omega (arith, where_length test g))
        ∙ same (test u)
        ∙ ap (λ (row : List ℕ). cond (test u) row []) (sym (get_or-eq_default g [] over))

-- where the test holds it is the graph's
pub where_kept : (test : ℕ → Bool) (g : Graph) (u : ℕ) → test u ≡ true → edges (rows_where test g) u ≡ edges g u
where_kept test g u e = where_row test g u ∙ ap (λ (b : Bool). cond b (edges g u) []) e

-- elsewhere it is empty
pub where_gone : (test : ℕ → Bool) (g : Graph) (u : ℕ) → test u ≡ false → edges (rows_where test g) u ≡ []
where_gone test g u e = where_row test g u ∙ ap (λ (b : Bool). cond b (edges g u) []) e

-- a vertex with a link passes the test
pub where_linked : (test : ℕ → Bool) (g : Graph) (u i : ℕ) → i < length (edges (rows_where test g) u) → test u ≡ true
where_linked test g u i there = go (test u) refl
  where
    go : (b : Bool) → test u ≡ b → b ≡ true
    go true e = refl
    go false e = absurd (omega (arith, ap length (where_gone test g u e)))

-- of no row none is left
where_none : (test : ℕ → Bool) → rows_where test [] ≡ []
unfolding rows_where numbers_from
where_none test = refl

-- the first row, and the others
where_first : (test : ℕ → Bool) (row : List ℕ) (g : Graph)
    → rows_where test (row ∷ g) ≡ cond (test 0) row [] ∷ rows_where (λ (u : ℕ). test (suc u)) g
unfolding rows_where edges numbers_from
where_first test row g = ap (λ (rest : Graph). cond (test 0) row [] ∷ rest) (map_range_next _ 0 (length g))

-- the targets are among the graph's
pub where_below : (test : ℕ → Bool) (g : Graph) (n : ℕ) → reaches n (targets_of g) ≡ false → reaches n (targets_of (rows_where test g)) ≡ false
unfolding targets_of flatten reaches
where_below test [] n e = ap (λ (g : Graph). reaches n (flatten g)) (where_none test) ∙ e
where_below test (row ∷ g) n e =
    let both = or_none (reaches n row) (reaches n (flatten g)) (sym (reaches_append n row (flatten g)) ∙ e) in
    let next : Graph = rows_where (λ (u : ℕ). test (suc u)) g in
    rw (where_first test row g)
    (reaches_append n (cond (test 0) row []) (flatten next)
    ∙ none_or (reaches n (cond (test 0) row [])) (reaches n (flatten next)) (first (test 0) both.0) (where_below _ g n both.1))
  where
    first : (b : Bool) → reaches n row ≡ false → reaches n (cond b row []) ≡ false
    first true h = h
    first false h = refl

-- and no more than the graph's
pub where_few : (test : ℕ → Bool) (g : Graph) → length (targets_of (rows_where test g)) ≤ length (targets_of g)
unfolding targets_of flatten
where_few test [] = omega (arith, ap (λ (g : Graph). length (flatten g)) (where_none test))
where_few test (row ∷ g) =
    let next : Graph = rows_where (λ (u : ℕ). test (suc u)) g in
    rw (where_first test row g)
    (omega (arith, length-append (cond (test 0) row []) (flatten next), length-append row (flatten g), first (test 0), where_few (λ (u : ℕ). test (suc u)) g))
  where
    first : (b : Bool) → length (cond b row []) ≤ length row
    first true = omega arith
    first false = omega arith

-- where the test holds of every vertex it is the graph
pub where_all : (test : ℕ → Bool) (g : Graph) → ((u : ℕ) → test u ≡ true) → rows_where test g ≡ g
where_all test [] h = where_none test
where_all test (row ∷ g) h =
    where_first test row g
    ∙ ap₂ (λ (x : List ℕ) (rest : Graph). x ∷ rest) (ap (λ (b : Bool). cond b row []) (h 0)) (where_all _ g (λ u. h (suc u)))

-- The graph of a call.

-- it has the file's n vertices
pub call_length : (file : List ℕ) (source : ℕ) (sleepers : List ℕ) → length (call_graph file source sleepers) ≡ vertex_count file
call_length file source sleepers = where_length (may_forward source sleepers) (graph_of file) ∙ length_graph file

-- a vertex that is awake may forward
pub awake_forwards : (source : ℕ) (sleepers : List ℕ) (v : ℕ) → is_sleepy sleepers v ≡ false → may_forward source sleepers v ≡ true
unfolding may_forward
awake_forwards source sleepers v e = rw (e, or-true)

-- with no sleeper it is the graph
pub all_awake : (g : Graph) (source : ℕ) (sleepers : List ℕ) → ((v : ℕ) → is_sleepy sleepers v ≡ false) → forwarding g source sleepers ≡ g
all_awake g source sleepers awake = where_all (may_forward source sleepers) g (λ u. awake_forwards source sleepers u (awake u))

-- "An all-zero list gives the earlier results."
pub all_zero : (g : Graph) (source n : ℕ) → forwarding g source (replicate n 0) ≡ g
unfolding is_sleepy
all_zero g source n = all_awake g source (replicate n 0) zero_awake
  where
    zero_awake : (v : ℕ) → is_sleepy (replicate n 0) v ≡ false
    zero_awake v = rw (get_or_repeated {A = ℕ} n v 0)
