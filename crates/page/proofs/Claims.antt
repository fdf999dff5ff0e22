-- What is said of the pages besides their bytes, from the definitions: which pages there are, how long they are, and what a refusal leaves.
use mathlib.Core.Path.{◌≡◌, refl, ap, ◌∙◌}
use mathlib.Core.List.{List, [], map, flatten}
use Prim.Native.Nat.{ℕ, ◌<◌}
use native.Mathlib.Omega.{arith}
use lib.ListN.{length, get_or, drop}
use borrow.Author.Tests.{ne_eqb}
use Rattle.numbers.specs.Numbers.{success, bad_result, short_list}
use Rattle.lists.specs.Lists.{numbers_from, elem, chunks}
use Rattle.lists.proofs.Chunks.{Cut, chunks_cut, flatten_chunks}
use Rattle.graph.specs.File.{vertex_count}
use Rattle.graph.specs.Read.{clears_marks}
use Rattle.verify.specs.Check.{CheckLent, check_number, judges, lent_after_check, outcome_of_check}
use Rattle.page.specs.Layout.{page_vertices, lines_by_vertex, pages, page_count, page_need, head_line}
use Rattle.page.specs.Page.{page_answer, outcome_of_page}
use Rattle.page.specs.Promise.{page_exit}
use Rattle.page.proofs.ReadBack.{length_headed, headed_heads, headed_others, count_pieces}
use Rattle.page.proofs.CallFacts.{number_stopped, number_short}

-- Pages.

-- "Then come up to 50 device lines in device order": behind the lines one, all pages together have the vertices' lines and no other, so none is padded
pub pages_lines : (n : ℕ) (distances parents : List ℕ) → flatten (map (drop 1) (pages n distances parents)) ≡ lines_by_vertex n distances parents
unfolding pages
pages_lines n distances parents =
    let lines = lines_by_vertex n distances parents in
    ap flatten (headed_others 1 (chunks page_vertices lines)) ∙ flatten_chunks page_vertices (omega arith) lines

-- "none is without a device and only the final one may be short": behind its line one a page has 50 of them, the last page 1 to 50
pub pages_cut : (n : ℕ) (distances parents : List ℕ) → Cut page_vertices (map (drop 1) (pages n distances parents))
unfolding pages
pages_cut n distances parents =
    let pieces = chunks page_vertices (lines_by_vertex n distances parents) in
    rw (headed_others 1 pieces) (chunks_cut page_vertices (omega arith) (lines_by_vertex n distances parents))

-- "Pages count from 1": their lines one
pub pages_heads : (n : ℕ) (distances parents : List ℕ)
    → map (λ (page : List (List ℕ)). get_or page 0 []) (pages n distances parents) ≡ map head_line (numbers_from 1 (page_count n))
unfolding pages
pages_heads n distances parents =
    headed_heads 1 (chunks page_vertices (lines_by_vertex n distances parents))
    ∙ ap (λ (k : ℕ). map head_line (numbers_from 1 k)) (count_pieces n distances parents)

-- how many there are
pub pages_count : (n : ℕ) (distances parents : List ℕ) → length (pages n distances parents) ≡ page_count n
unfolding pages
pages_count n distances parents = length_headed 1 (chunks page_vertices (lines_by_vertex n distances parents)) ∙ count_pieces n distances parents

-- 4,096 vertices make 82 pages and 87,738 bytes
pub most_pages : (page_count 4096 ≡ 82) × (page_need 4096 ≡ 87738)
most_pages = (refl, refl)

-- Refusals.
module _ (file : List ℕ) (source : ℕ) (distances parents : List ℕ) (lent : CheckLent) (bytes : List ℕ) where
  -- the number
  abbrev number : ℕ
  number = page_answer file source distances parents lent (length bytes)

  -- "No refusal changes a page byte."
  pub refusal_keeps : (number ≡ success → ⊥) → (outcome_of_page file source distances parents lent bytes).bytes ≡ bytes
  unfolding outcome_of_page
  refusal_keeps h = rw (ne_eqb number success h)

  -- "then 20 for a page list too short, with rows and marks as after 10"
  pub late_short : check_number file source distances parents lent ≡ success → length bytes < page_need (vertex_count file)
      → outcome_of_page file source distances parents lent bytes ≡ page_exit short_list (lent_after_check bad_result file lent) bytes
  unfolding outcome_of_page outcome_of_check lent_after_check judges elem
  late_short z h = rw (number_short file source distances parents lent (length bytes) z h, z)

  -- the checker's own 20, which comes early, changes nothing
  pub early_short : check_number file source distances parents lent ≡ short_list → outcome_of_page file source distances parents lent bytes ≡ page_exit short_list lent bytes
  unfolding outcome_of_page outcome_of_check lent_after_check judges clears_marks elem
  early_short z = rw (number_stopped file source distances parents lent (length bytes) (λ e. omega (arith, z, e)) ∙ z, z)
