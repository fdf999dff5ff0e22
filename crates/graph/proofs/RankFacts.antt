-- The walk that ranks the records: what holds between its steps, that each step keeps it, what it says of 5 and 6 at the end, and that it leaves the
-- ranks.
use mathlib.Core.Path.{◌≡◌, refl, sym, ap, ◌∙◌}
use mathlib.Core.Logic.{◌≢◌}
use mathlib.Core.Bool.{Bool, true, false, true≢false}
use mathlib.Core.List.{List, [], ◌∷◌, ◌++◌, append_assoc, append-nil, flatten}
use Prim.Native.Nat.{ℕ, suc, ◌+◌, ◌-◌, ◌≤◌, ◌<◌}
use native.Mathlib.Numerals.{add-one}
use native.Mathlib.Omega.{arith}
use lib.Dec.{eqb}
use lib.ListN.{length, get_or, set, length-append, get_or-append}
use lib.Seq.{get_or-set_same, get_or-set_other, get_or_at}
use borrow.Author.Tests.{eqb-true, eqb-false}
use Rattle.numbers.specs.Numbers.{success, repeated, unreached}
use Rattle.numbers.specs.Refusals.{first}
use Rattle.lists.specs.Lists.{elem, repeats}
use Rattle.lists.proofs.Or.{or_none, not_so}
use Rattle.lists.proofs.Any.{elem_place, place_elem}
use Rattle.lists.proofs.Tests.{elem_append, elem_none, repeats_append, repeats_again, InRange, in_range_nil, in_range_append, in_range_one, distinct_short, distinct_full, short_lacks}
use Rattle.graph.specs.File.{head_index, next, chain, reached}
use Rattle.graph.specs.Read.{chain_refusals}
use Rattle.graph.specs.Steps.{Scanned, Ranked}
use Rattle.graph.proofs.ScanFacts.{head_within, next_within}
use Rattle.graph.proofs.WalkFacts.{chains_from, chain_of, chains_all, chains_next, chains_none, chain_end, chain_step}

-- the marks of the records met: each has its rank, and a record that was not met has 0
pub record Marked (m : ℕ) (marks met : List ℕ) : Type 0 where
  pub ranks : (j : ℕ) → j < length met → get_or marks (get_or met j 0 - 1) 0 ≡ j + 1
  pub blank : (i : ℕ) → i < m → elem (suc i) met ≡ false → get_or marks i 0 ≡ 0

-- between two steps: the records met so far are distinct, marked and counted, and the rest of the walk meets what is still to come
pub record Ranking (file : List ℕ) (n m : ℕ) (marks : List ℕ) (vertex index count : ℕ) : Type 0 where
  pub met : List ℕ
  pub steps : ℕ
  pub rest : reached file ≡ met ++ (chain file steps index ++ flatten (chains_from file vertex))
  pub distinct : repeats met ≡ false
  pub ranged : InRange m met
  pub counted : length met ≡ count
  pub enough : m < steps + count
  pub inside : index ≤ m
  pub passed : vertex ≤ n
  pub marked : Marked m marks met

-- Marks, of a record r.
module _ (m : ℕ) (marks met : List ℕ) (k : Marked m marks met) (r : ℕ) (some : r ≡ 0 → ⊥) (inside : r ≤ m) where
  -- one that is not 0 is that of a record that was met
  marked_on : (get_or marks (r - 1) 0 ≡ 0 → ⊥) → elem r met ≡ true
  marked_on h = go (elem r met) refl
    where
      go : (b : Bool) → elem r met ≡ b → b ≡ true
      go true e = refl
      go false e = let same : suc (r - 1) ≡ r = omega arith in absurd (h (k.blank (r - 1) (omega arith) (rw same e)))

  -- one that is 0 is that of a record that was not
  marked_off : get_or marks (r - 1) 0 ≡ 0 → elem r met ≡ false
  marked_off h = not_so (elem r met) (λ e. let p = elem_place r met e in omega (arith, rw p.is at (k.ranks p.place p.there)))

  -- a new record is marked with its rank
  marked_more : {rank : ℕ} → elem r met ≡ false → InRange m met → r ≤ length marks → rank ≡ length met + 1
      → Marked m (set marks (r - 1) rank) (met ++ r ∷ [])
  marked_more {rank} new ranged long e = record { ranks = λ j h. ranks_more j h (eqb j (length met)) refl; blank = blank_more }
    where
      after : List ℕ
      after = set marks (r - 1) rank

      ranks_more : (j : ℕ) → j < length (met ++ r ∷ []) → (b : Bool) → eqb j (length met) ≡ b → get_or after (get_or (met ++ r ∷ []) j 0 - 1) 0 ≡ j + 1
      ranks_more j h true q =
          let last : j ≡ length met = eqb-true j (length met) q in
          rw (get_or_at met r [] 0 j (sym last)) (get_or-set_same marks (r - 1) rank 0 (omega arith) ∙ omega arith)
      ranks_more j h false q =
          let other : j ≢ length met = eqb-false j (length met) q in
          let early : j < length met = omega (arith, length-append met (r ∷ [])) in
          let there = place_elem (get_or met j 0) met j early refl in
          let apart : get_or met j 0 - 1 ≢ r - 1 = λ (z : get_or met j 0 - 1 ≡ r - 1).
          let same : get_or met j 0 ≡ r = omega (arith, ranged (get_or met j 0) there) in true≢false (sym (rw same at there) ∙ new) in
          rw (get_or-append met (r ∷ []) 0 j early) (get_or-set_other marks (r - 1) (get_or met j 0 - 1) rank 0 apart ∙ k.ranks j early)

      blank_more : (i : ℕ) → i < m → elem (suc i) (met ++ r ∷ []) ≡ false → get_or after i 0 ≡ 0
      blank_more i h f =
          let p = or_none (elem (suc i) met) (elem (suc i) (r ∷ [])) (sym (elem_append (suc i) met (r ∷ [])) ∙ f) in
          let other : suc i ≢ r = eqb-false (suc i) r (elem_none (suc i) r [] p.1).0 in
          get_or-set_other marks (r - 1) i rank 0 (λ (z : i ≡ r - 1). other (omega arith)) ∙ k.blank i h p.0

-- where nothing is marked, the walk begins
pub rank_start : (file : List ℕ) {n m : ℕ} (marks : List ℕ) → ((i : ℕ) → i < m → get_or marks i 0 ≡ 0) → Ranking file n m marks 0 0 0
unfolding reached repeats
rank_start file {n} {m} marks zeros = record {
  met = [];
  steps = suc m;
  rest = rw (chain_end file (suc m)) (ap flatten (chains_all file));
  distinct = refl;
  ranged = in_range_nil m;
  counted = refl;
  enough = omega arith;
  inside = omega arith;
  passed = omega arith;
  marked = record { ranks = λ j h. absurd (omega arith); blank = λ i h e. zeros i h };
}

module _ (file : List ℕ) {n m : ℕ} (s : Scanned file n m) (marks : List ℕ) where
  -- at a chain's end the walk goes to the next vertex's head
  pub rank_head : {vertex index count r : ℕ} → Ranking file n m marks vertex index count → index ≡ 0 → vertex < n → r ≡ head_index file vertex
      → Ranking file n m marks (vertex + 1) r count
  unfolding chain_of flatten
  rank_head {vertex} {index} {count} {r} w end h e = record {
    met = w.met;
    steps = suc m;
    rest = rw (add-one, e, s.sized.edges) (rw (end, chain_end file w.steps, chains_next file vertex (omega (arith, s.sized.vertices))) at w.rest);
    distinct = w.distinct;
    ranged = w.ranged;
    counted = w.counted;
    enough = omega arith;
    inside = rw e (head_within file s vertex h);
    passed = omega arith;
    marked = w.marked;
  }

  module _ {vertex index count : ℕ} (w : Ranking file n m marks vertex index count) (some : index ≡ 0 → ⊥) where
    -- a record is met
    here : reached file ≡ w.met ++ (index ∷ (chain file (w.steps - 1) (next file index) ++ flatten (chains_from file vertex)))
    here =
        let few = distinct_short m w.met w.distinct w.ranged in
        let more : w.steps ≡ suc (w.steps - 1) = omega (arith, w.counted, w.enough) in
        w.rest
        ∙ ap (λ (l : List ℕ). w.met ++ (l ++ flatten (chains_from file vertex)))
        (ap (λ (k : ℕ). chain file k index) more ∙ chain_step file (w.steps - 1) index some)

    -- it is marked already: 5
    pub rank_again : (get_or marks (index - 1) 0 ≡ 0 → ⊥) → repeated ≡ first (chain_refusals file)
    unfolding first chain_refusals
    rank_again h =
        let again : repeats (reached file) ≡ true =
        ap repeats here ∙ repeats_again w.met index (chain file (w.steps - 1) (next file index) ++ flatten (chains_from file vertex)) (marked_on m marks w.met w.marked index some w.inside h) in
        rw again

    -- it is new: it is counted and marked with the count, and the walk goes to its next index
    pub rank_new : {r : ℕ} → m ≤ length marks → get_or marks (index - 1) 0 ≡ 0 → r ≡ next file index
        → Ranking file n m (set marks (index - 1) (count + 1)) vertex r (count + 1)
    rank_new {r} long h e =
        let new = marked_off m marks w.met w.marked index some w.inside h in
        let distinct = repeats_append w.met index w.distinct new in
        let ranged = in_range_append m w.met (index ∷ []) w.ranged (in_range_one m index (omega arith) w.inside) in
        let few = distinct_short m w.met w.distinct w.ranged in
        record {
          met = w.met ++ index ∷ [];
          steps = w.steps - 1;
          rest = rw e (here ∙ sym (append_assoc w.met (index ∷ []) (chain file (w.steps - 1) (next file index) ++ flatten (chains_from file vertex))));
          distinct = distinct;
          ranged = ranged;
          counted = length-append w.met (index ∷ []) ∙ ap (λ (k : ℕ). k + 1) w.counted;
          enough = omega (arith, w.counted, w.enough);
          inside = rw e (next_within file s index (omega arith) w.inside);
          passed = w.passed;
          marked = marked_more m marks w.met w.marked index some w.inside new w.ranged (omega (arith, w.inside)) (omega (arith, w.counted));
        }

    -- so there was room for one more
    pub rank_room : m ≤ length marks → get_or marks (index - 1) 0 ≡ 0 → count < m
    rank_room long h =
        let more = rank_new long h refl in
        omega (arith, distinct_short m more.met more.distinct more.ranged, more.counted)

  -- the walk is over
  module _ {vertex index count : ℕ} (w : Ranking file n m marks vertex index count) (end : index ≡ 0) (last : vertex ≡ n) where
    all : reached file ≡ w.met
    unfolding flatten
    all = rw (end, chain_end file w.steps, chains_none file vertex (omega (arith, s.sized.vertices)), append-nil) at w.rest

    -- 6: fewer than m records were met
    pub rank_few : count < m → unreached ≡ first (chain_refusals file)
    unfolding first chain_refusals
    rank_few h = rw (all, w.distinct, ← s.sized.edges, short_lacks m w.met (omega (arith, w.counted)))

    -- all were
    pub rank_full : m ≤ count → success ≡ first (chain_refusals file)
    unfolding first chain_refusals
    rank_full h =
        let few = distinct_short m w.met w.distinct w.ranged in
        rw (all, w.distinct, ← s.sized.edges, distinct_full m w.met w.distinct w.ranged (omega (arith, w.counted)))

    -- and the marks hold their ranks
    pub rank_left : Ranked file marks
    rank_left = record { ranks = rw all w.marked.ranks }
