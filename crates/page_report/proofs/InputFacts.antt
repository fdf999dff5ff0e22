-- The program's own order of refusals, one fact for each way through it, what an input that passes it holds, and the words that are copied out of it.
use mathlib.Core.Path.{◌≡◌, ap, ◌∙◌}
use mathlib.Core.List.{List, [], ◌∷◌}
use Prim.Native.Nat.{ℕ, ◌+◌, ◌*◌, ◌≤◌, ◌<◌}
use native.Mathlib.Omega.{arith}
use lib.Dec.{ltb}
use lib.ListN.{length, take, drop, length-drop}
use borrow.Author.Tests.{ltb-false, lt-ltb, le-ltb}
use Rattle.numbers.specs.Numbers.{max_vertices, success, bad_length, short_list}
use Rattle.numbers.specs.Refusals.{◌gives◌, first}
use Rattle.numbers.proofs.First.{first_passed}
use Rattle.lists.specs.Lists.{overlay}
use Rattle.lists.proofs.Overlay.{overlay_front}
use Rattle.graph.specs.File.{word, words_at}
use Rattle.graph.proofs.WordRuns.{length_words}
use Rattle.page_report.specs.Input.{count_in, distances_in, parents_in, file_in, own_refusals}

module _ (input : List ℕ) where
  -- 1: fewer than two words
  pub own_words : length input < 4 → bad_length ≡ first (own_refusals input)
  unfolding own_refusals first
  own_words h = rw (lt-ltb (length input) 4 h)

  module _ (four : 4 ≤ length input) {count : ℕ} (told : count ≡ word input 1) where
    -- 20: more distances than the lists have places
    pub own_count : max_vertices < count → short_list ≡ first (own_refusals input)
    unfolding own_refusals first count_in
    own_count h = rw (le-ltb (length input) 4 four, ← told, lt-ltb max_vertices count h)

    module _ (few : count ≤ max_vertices) where
      -- 1: fewer than 4 bytes of file
      pub own_file : length input < 8 + 4 * count → bad_length ≡ first (own_refusals input)
      unfolding own_refusals first count_in file_in
      own_file h =
          let short : length (drop (4 + 4 * count) input) < 4 = omega (arith, length-drop (4 + 4 * count) input) in
          rw (le-ltb (length input) 4 four, ← told, le-ltb max_vertices count few, lt-ltb (length (drop (4 + 4 * count) input)) 4 short)

      -- or none of these
      pub own_fit : 8 + 4 * count ≤ length input → success ≡ first (own_refusals input)
      unfolding own_refusals first count_in file_in
      own_fit h =
          let long : 4 ≤ length (drop (4 + 4 * count) input) = omega (arith, length-drop (4 + 4 * count) input) in
          rw (le-ltb (length input) 4 four, ← told, le-ltb max_vertices count few, le-ltb (length (drop (4 + 4 * count) input)) 4 long)

  -- an input that passes
  pub record OwnPassed : Type 0 where
    pub few : count_in input ≤ max_vertices
    pub there : 8 + 4 * count_in input ≤ length input
    pub four : 4 ≤ length (file_in input)

  -- one that is not refused does
  pub own_passed : first (own_refusals input) ≡ 0 → OwnPassed
  unfolding own_refusals file_in
  own_passed e =
      let file = file_in input in
      let short = ltb (length file) 4 gives bad_length in
      let many = ltb max_vertices (count_in input) gives short_list in
      let p = first_passed (ltb (length input) 4) bad_length (many ∷ short ∷ []) (omega arith) e in
      let q = first_passed (ltb max_vertices (count_in input)) short_list (short ∷ []) (omega arith) p.1 in
      let r = first_passed (ltb (length file) 4) bad_length [] (omega arith) q.1 in
      let long = ltb-false (length file) 4 r.0 in
      record {
        few = ltb-false max_vertices (count_in input) q.0;
        there = omega (arith, length-drop (4 + 4 * count_in input) input);
        four = long;
      }

-- each way through the order
pub ruleset own_order = (own_words, own_count, own_file, own_fit)

-- words laid over the front of a list are its first places
pub words_front : (input : List ℕ) (place count : ℕ) (old : List ℕ) {list : List ℕ} → list ≡ overlay (words_at input place 1 count) old
    → take count list ≡ words_at input place 1 count
words_front input place count old e = ap (take count) e ∙ overlay_front (words_at input place 1 count) old count (length_words input place 1 count)

-- The input's parts, as the program takes them.
module _ (input : List ℕ) {count : ℕ} (told : count ≡ word input 1) where
  -- the file
  pub file_as : {file : List ℕ} → file ≡ drop (4 + 4 * count) input → file ≡ file_in input
  unfolding file_in count_in
  file_as e = rw (← told) e

  -- the distances
  pub distances_as : {distances : List ℕ} → distances ≡ words_at input 2 1 count → distances ≡ distances_in input
  unfolding distances_in count_in
  distances_as e = rw (← told) e

  -- the parents
  pub parents_as : {parents : List ℕ} → parents ≡ words_at input (2 + count) 1 count → parents ≡ parents_in input
  unfolding parents_in count_in
  parents_as e = rw (← told) e
