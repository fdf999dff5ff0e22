-- The program's own order of refusals, one fact for each way through it, and what an input that passes it holds.
use mathlib.Core.Path.{◌≡◌}
use mathlib.Core.Bool.{true, false, ◌||◌}
use mathlib.Core.List.{List, [], ◌∷◌}
use Prim.Native.Nat.{ℕ, ◌+◌, ◌≤◌, ◌<◌}
use native.Mathlib.Omega.{arith}
use lib.Dec.{ltb}
use lib.ListN.{length, drop, length-drop}
use borrow.Author.Tests.{ltb-false, lt-ltb, le-ltb}
use Rattle.numbers.specs.Numbers.{success, bad_length, bad_size, short_list}
use Rattle.numbers.specs.Refusals.{◌gives◌, first}
use Rattle.numbers.proofs.First.{first_passed}
use Rattle.lists.proofs.Or.{or_none}
use Rattle.graph.specs.File.{word, vertex_count, edge_count}
use Rattle.graph.specs.Read.{outside_sizes}
use Rattle.report.specs.Input.{program_vertices, program_edges, program_events, events_in, file_in, sizes_refusals, own_refusals}

-- Sizes.
module _ (n m : ℕ) where
  -- 2
  pub sizes_outside : outside_sizes n m ≡ true → bad_size ≡ first (sizes_refusals n m)
  unfolding sizes_refusals first
  sizes_outside h = rw h

  module _ (inside : outside_sizes n m ≡ false) where
    -- 20 by n
    pub sizes_vertices : program_vertices < n → short_list ≡ first (sizes_refusals n m)
    unfolding sizes_refusals first
    sizes_vertices h = rw (inside, lt-ltb program_vertices n h)

    -- 20 by m
    pub sizes_edges : n ≤ program_vertices → program_edges < m → short_list ≡ first (sizes_refusals n m)
    unfolding sizes_refusals first
    sizes_edges h k = rw (inside, le-ltb program_vertices n h, lt-ltb program_edges m k)

    -- or nothing is refused
    pub sizes_fit : n ≤ program_vertices → m ≤ program_edges → success ≡ first (sizes_refusals n m)
    unfolding sizes_refusals first
    sizes_fit h k = rw (inside, le-ltb program_vertices n h, le-ltb program_edges m k)

  -- n and m that pass
  pub record SizesFit : Type 0 where
    pub inside : outside_sizes n m ≡ false
    pub few-vertices : n ≤ program_vertices
    pub few-edges : m ≤ program_edges

  -- those that are not refused do
  pub sizes_passed : first (sizes_refusals n m) ≡ 0 → SizesFit
  unfolding sizes_refusals
  sizes_passed e =
      let many = ltb program_vertices n || ltb program_edges m in
      let p = first_passed (outside_sizes n m) bad_size (many gives short_list ∷ []) (omega arith) e in
      let q = first_passed many short_list [] (omega arith) p.1 in
      let both = or_none (ltb program_vertices n) (ltb program_edges m) q.0 in
      record { inside = p.0; few-vertices = ltb-false program_vertices n both.0; few-edges = ltb-false program_edges m both.1 }

-- The whole order.
module _ (input : List ℕ) where
  -- 1: fewer than three words
  pub own_words : length input < 6 → bad_length ≡ first (own_refusals input)
  unfolding own_refusals first
  own_words h = rw (lt-ltb (length input) 6 h)

  module _ (six : 6 ≤ length input) {events : ℕ} (told : events ≡ word input 2) where
    -- 20: a schedule that is too long
    pub own_events : program_events < events → short_list ≡ first (own_refusals input)
    unfolding own_refusals first events_in
    own_events h = rw (le-ltb (length input) 6 six, ← told, lt-ltb program_events events h)

    module _ (few : events ≤ program_events) where
      -- 1: fewer than 4 bytes of file
      pub own_file : length input < 6 + events + 4 → bad_length ≡ first (own_refusals input)
      unfolding own_refusals first events_in file_in
      own_file h =
          let short : length (drop (6 + events) input) < 4 = omega (arith, length-drop (6 + events) input) in
          rw (le-ltb (length input) 6 six, ← told, le-ltb program_events events few, lt-ltb (length (drop (6 + events) input)) 4 short)

      -- or the number of the sizes
      pub own_sizes : {file : List ℕ} {n m r : ℕ} → file ≡ drop (6 + events) input → 6 + events + 4 ≤ length input → n ≡ word file 0 → m ≡ word file 1
          → r ≡ first (sizes_refusals n m) → r ≡ first (own_refusals input)
      unfolding own_refusals first events_in file_in vertex_count edge_count
      own_sizes {file} s h p q e =
          let long : 4 ≤ length file = rw s (omega (arith, length-drop (6 + events) input)) in
          rw (le-ltb (length input) 6 six, ← told, le-ltb program_events events few, ← s, le-ltb (length file) 4 long, ← p, ← q) e

  -- an input that passes
  pub record SizesPassed : Type 0 where
    pub few_events : events_in input ≤ program_events
    pub file_there : 6 + events_in input + 4 ≤ length input
    pub four : 4 ≤ length (file_in input)
    pub sizes : SizesFit (vertex_count (file_in input)) (edge_count (file_in input))

  -- one that is not refused does
  pub own_passed : first (own_refusals input) ≡ 0 → SizesPassed
  unfolding own_refusals file_in
  own_passed e =
      let file = file_in input in
      let sizes = sizes_refusals (vertex_count file) (edge_count file) in
      let short = ltb (length file) 4 gives bad_length in
      let many = ltb program_events (events_in input) gives short_list in
      let p = first_passed (ltb (length input) 6) bad_length (many ∷ short ∷ sizes) (omega arith) e in
      let q = first_passed (ltb program_events (events_in input)) short_list (short ∷ sizes) (omega arith) p.1 in
      let r = first_passed (ltb (length file) 4) bad_length sizes (omega arith) q.1 in
      let long = ltb-false (length file) 4 r.0 in
      record {
        few_events = ltb-false program_events (events_in input) q.0;
        file_there = omega (arith, length-drop (6 + events_in input) input);
        four = long;
        sizes = sizes_passed (vertex_count file) (edge_count file) r.1;
      }

  -- what lies behind the schedule is the file
  pub file_as : {events : ℕ} {file : List ℕ} → events ≡ word input 2 → file ≡ drop (6 + events) input → file ≡ file_in input
  unfolding file_in events_in
  file_as e f = rw (← e) f

-- Each way through the sizes, and through the whole order.
pub ruleset sizes_order = (sizes_outside, sizes_vertices, sizes_edges, sizes_fit)

pub ruleset own_order = (own_words, own_events, own_file, own_sizes)
