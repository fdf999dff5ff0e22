-- A walk along the chains, vertex by vertex: the records that are still to come, and how they are met one at a time; and the words of a record.
use mathlib.Core.Path.{◌≡◌, ap, ◌∙◌}
use mathlib.Core.List.{List, [], ◌∷◌, map}
use Prim.Native.Nat.{ℕ, suc, ◌+◌, ◌*◌, ◌-◌, ◌≤◌, ◌<◌}
use native.Mathlib.Nat.{sub-zero, le_of_eq}
use native.Mathlib.Omega.{arith}
use lib.ListN.{length, take, drop, length-drop}
use lib.Seq.{take_all, get_or-drop}
use Rattle.lists.specs.Lists.{numbers_from}
use Rattle.lists.proofs.Chains.{chain_none, chain_some}
use Rattle.graph.specs.File.{word, vertex_count, edge_count, head_index, target, next, chain, chains}
use Rattle.graph.specs.Steps.{Sized}

-- the chain of vertex u
unfoldable pub chain_of : List ℕ → ℕ → List ℕ
chain_of file u = chain file (suc (edge_count file)) (head_index file u)

-- the chains of the vertices from u on
unfoldable pub chains_from : List ℕ → ℕ → List (List ℕ)
chains_from file u = map (chain_of file) (numbers_from u (vertex_count file - u))

-- at vertex 0 they are all
pub chains_all : (file : List ℕ) → chains file ≡ chains_from file 0
unfolding chains_from chains chain_of
chains_all file = rw (sub-zero (vertex_count file))

-- the next vertex's chain comes first
pub chains_next : (file : List ℕ) (u : ℕ) → u < vertex_count file → chains_from file u ≡ chain_of file u ∷ chains_from file (suc u)
unfolding chains_from numbers_from
chains_next file u h = rw more
  where
    more : vertex_count file - u ≡ suc (vertex_count file - suc u)
    more = omega arith

-- after the last vertex there is none
pub chains_none : (file : List ℕ) (u : ℕ) → vertex_count file ≤ u → chains_from file u ≡ []
unfolding chains_from numbers_from
chains_none file u h = rw none
  where
    none : vertex_count file - u ≡ 0
    none = omega arith

-- a chain ends at 0
pub chain_end : (file : List ℕ) (steps : ℕ) → chain file steps 0 ≡ []
unfolding chain
chain_end file steps = chain_none (next file) steps

-- and goes on at any other index
pub chain_step : (file : List ℕ) (steps r : ℕ) → (r ≡ 0 → ⊥) → chain file (suc steps) r ≡ r ∷ chain file steps (next file r)
unfolding chain
chain_step file steps r h = chain_some (next file) steps r h

-- what stands behind the first n words
abbrev pub behind : List ℕ → ℕ → List ℕ
behind file n = take (length file - 2 * n) (drop (2 * n) file)

-- a word of it
word_behind : (file : List ℕ) (n i : ℕ) → word (behind file n) i ≡ word file (n + i)
unfolding word
word_behind file n i =
    let whole : behind file n ≡ drop (2 * n) file = take_all (length file - 2 * n) (drop (2 * n) file) (le_of_eq (length-drop (2 * n) file)) in
    let low : 2 * n + 2 * i ≡ 2 * (n + i) = omega arith in
    let high : 2 * n + (2 * i + 1) ≡ 2 * (n + i) + 1 = omega arith in
    rw (whole, get_or-drop (2 * n) file (2 * i) 0, get_or-drop (2 * n) file (2 * i + 1) 0, low, high)

-- the words of record r, counted from n
pub target_word : {file : List ℕ} {n m : ℕ} → Sized file n m → (r : ℕ) → word file (n + 2 * r) ≡ target file r
unfolding target
target_word {file} s r = ap (λ (k : ℕ). word file (k + 2 * r)) s.vertices

next_word : {file : List ℕ} {n m : ℕ} → Sized file n m → (r : ℕ) → word file (n + 2 * r + 1) ≡ next file r
unfolding next
next_word {file} s r = ap (λ (k : ℕ). word file (k + 2 * r + 1)) s.vertices

-- the same in what stands behind the first n words
pub next_behind : {file : List ℕ} {n m : ℕ} → Sized file n m → (r : ℕ) → word (behind file n) (2 * r + 1) ≡ next file r
next_behind {file} {n} s r =
    let same : n + (2 * r + 1) ≡ n + 2 * r + 1 = omega arith in
    word_behind file n (2 * r + 1) ∙ ap (word file) same ∙ next_word s r
