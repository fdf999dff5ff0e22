-- The page program's output as a whole: an input longer than any that can be accepted is answered as its first bytes are.
use mathlib.Core.Path.{◌≡◌, refl, sym, ◌∙◌}
use mathlib.Core.Bool.{Bool, true, false, cond}
use mathlib.Core.List.{List}
use Prim.Native.Nat.{ℕ, suc, ◌+◌, ◌*◌, ◌≤◌, ◌<◌}
use native.Mathlib.Omega.{arith}
use lib.Dec.{ltb}
use lib.ListN.{length, take, length-drop}
use lib.Seq.{length-take-le}
use borrow.Author.Tests.{ltb-true, ltb-false, le-ltb, ne_eqb}
use Rattle.numbers.specs.Numbers.{max_vertices, max_edges, success, bad_length, bad_size, short_list}
use Rattle.numbers.specs.Refusals.{first}
use Rattle.graph.specs.File.{word, vertex_count, edge_count, file_length}
use Rattle.graph.specs.Read.{outside_sizes, header_refusals}
use Rattle.graph.proofs.Bridge.{within_sizes}
use Rattle.graph.proofs.WordRuns.{part_word}
use Rattle.verify.specs.Check.{CheckLent, check_early, check_input, check_refusals}
use Rattle.page.specs.Page.{page_refusals, page_answer}
use Rattle.page_report.specs.Input.{source_in, count_in, distances_in, parents_in, file_in, own_refusals, program_lists, longest_input}
use Rattle.page_report.specs.Respond.{output_places, number_line, response}
use Rattle.page_report.proofs.InputFacts.{own_count, own_fit}
use Rattle.page_report.proofs.RespondFacts.{number_later, refusal_line, own_line}

-- the number of an input that is too long, by its n and m: 2, or 1
last_number : ℕ → ℕ → ℕ
last_number n m = cond (outside_sizes n m) bad_size bad_length

-- it is a refusal
last_refused : (n m : ℕ) → last_number n m ≡ success → ⊥
unfolding last_number
last_refused n m = go (outside_sizes n m)
  where
    go : (b : Bool) → cond b bad_size bad_length ≡ success → ⊥
    go true e = omega arith
    go false e = omega arith

-- a file that is longer than any
file_long : (file : List ℕ) (source : ℕ) (distances parents : List ℕ) (lent : CheckLent) (room : ℕ) → file_length max_vertices max_edges < length file
    → page_answer file source distances parents lent room ≡ last_number (vertex_count file) (edge_count file)
unfolding page_answer page_refusals check_refusals check_input check_early header_refusals first last_number
file_long file source distances parents lent room far = go (outside_sizes (vertex_count file) (edge_count file)) refl
  where
    n : ℕ
    n = vertex_count file

    m : ℕ
    m = edge_count file

    go : (b : Bool) → outside_sizes n m ≡ b → page_answer file source distances parents lent room ≡ last_number n m
    go true e = rw (le-ltb (length file) 4 (omega arith), e)
    go false e =
        let fit = within_sizes n m e in
        let apart : length file ≡ file_length n m → ⊥ = λ q. omega (arith, fit.few_vertices, fit.few_edges) in
        rw (le-ltb (length file) 4 (omega arith), e, ne_eqb (length file) (file_length n m) apart)

-- Inputs that are too long.
module _ (input : List ℕ) (long : longest_input < length input) where
  -- 20 where there are too many distances
  long_count : max_vertices < count_in input → response input ≡ number_line short_list
  unfolding count_in
  long_count h = own_line input (own_count input (omega arith) refl h) (λ z. absurd (omega arith))

  -- otherwise by n and m
  long_file : count_in input ≤ max_vertices → response input ≡ number_line (last_number (vertex_count (file_in input)) (edge_count (file_in input)))
  unfolding count_in file_in
  long_file few =
      let file = file_in input in
      let passed : first (own_refusals input) ≡ success = sym (own_fit input (omega arith) refl few (omega arith)) in
      let size : length file + (4 + 4 * count_in input) ≡ length input = omega (arith, length-drop (4 + 4 * count_in input) input) in
      refusal_line input (number_later input passed
      ∙ file_long file (source_in input) (distances_in input) (parents_in input) program_lists output_places (omega (arith, size)))
      (last_refused (vertex_count file) (edge_count file))

-- An input longer than any that can be accepted, and its first k bytes, still longer than any such.
module _ (input : List ℕ) (k : ℕ) (far : longest_input < k) (there : k ≤ length input) where
  -- these bytes
  abbrev short : List ℕ
  short = take k input

  -- as many as k
  size : length short ≡ k
  size = length-take-le k input there

  -- they have as many distances
  counts : count_in short ≡ count_in input
  unfolding count_in
  counts = part_word 0 k input 1 (omega arith)

  -- the file has the same n and m
  same : count_in input ≤ max_vertices → (i : ℕ) → i ≤ 1 → word (file_in short) i ≡ word (file_in input) i
  unfolding file_in
  same few i h = rw counts (part_word (4 + 4 * count_in input) k input i (omega arith))

  -- they are answered as the input is
  long_part : response short ≡ response input
  unfolding vertex_count edge_count
  long_part = go (ltb max_vertices (count_in input)) refl
    where
      go : (b : Bool) → ltb max_vertices (count_in input) ≡ b → response short ≡ response input
      go true e =
          let many = ltb-true max_vertices (count_in input) e in
          long_count short (omega (arith, size)) (omega (arith, counts)) ∙ sym (long_count input (omega arith) many)
      go false e =
          let few = ltb-false max_vertices (count_in input) e in
          long_file short (omega (arith, size)) (omega (arith, counts))
          ∙ (λ i. number_line (last_number (same few 0 (omega arith) i) (same few 1 (omega arith) i)))
          ∙ sym (long_file input (omega arith) few)

-- so the program may stop reading one byte past that length
pub long_input : (input : List ℕ) → longest_input < length input → response (take (suc longest_input) input) ≡ response input
long_input input h = long_part input (suc longest_input) (omega arith) h
