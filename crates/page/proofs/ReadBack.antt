-- The pages read back: their columns give the page numbers, the vertices, and the lists. First of any lists whose words fit their columns, then of
-- every result that is right, so of every one that passes the checker.
use mathlib.Core.Bool.{Bool, true, false}
use mathlib.Core.Path.{◌≡◌, refl, sym, ap, ◌∙◌}
use mathlib.Core.List.{List, [], ◌∷◌, map, map-map, flatten}
use mathlib.Core.Option.{none, some}
use Prim.Native.Nat.{ℕ, zero, suc, ◌+◌, ◌≤◌, ◌<◌}
use native.Mathlib.Nat.{zero-add}
use native.Mathlib.Omega.{arith}
use lib.Dec.{eqb}
use lib.ListN.{length, get_or, take, drop, length-append, length-map}
use lib.Seq.{ext_get_or, get_or-take, length-take-le}
use borrow.Author.Tests.{eqb-true}
use Rattle.numbers.specs.Numbers.{max_vertices, unset, success}
use Rattle.lists.specs.Lists.{numbers_from, chunks}
use Rattle.lists.proofs.Chunks.{Cut, no_piece, last, more, flatten_chunks, chunks_cut, chunks_flatten, cut_count, Each, each_cut, each_append, each_split, length_each}
use Rattle.lists.proofs.Replaced.{map_at}
use Rattle.lists.proofs.Tests.{length_range, get_or_range}
use Rattle.graph.specs.File.{vertex_count}
use Rattle.graph.proofs.FileLists.{length_graph}
use Rattle.model.specs.Words.{option_of, labels_of, labels_in}
use Rattle.model.proofs.RightFacts.{right_below, parent_vertex}
use Rattle.verify.specs.Check.{CheckLent, check_number}
use Rattle.verify.specs.Promise.{Passed, RightLists}
use Rattle.verify.proofs.Judging.{check_judged, passed_sized, passed_distances, passed_parents}
use Rattle.page.specs.Layout.{line_bytes, head_line, lines_by_vertex, headed, pages, page_text, page_count, page_need}
use Rattle.page.specs.Columns.{number_read, label_read, columns, lines_read, read_pages, lists_on_pages}
use Rattle.page.proofs.LineFacts.{length_head, head_read, length_vertex, vertex_read, distance_read, parent_read}
use Rattle.page.proofs.PageFacts.{line_of, length_lines}

-- Pages with their line one.

-- as many as without
pub length_headed : (number : ℕ) (pieces : List (List (List ℕ))) → length (headed number pieces) ≡ length pieces
unfolding headed
length_headed number [] = refl
length_headed number (page ∷ rest) = ap suc (length_headed (suc number) rest)

-- their lines are those without, and one for each
length_headed_lines : (number : ℕ) (pieces : List (List (List ℕ))) → length (flatten (headed number pieces)) ≡ length (flatten pieces) + length pieces
unfolding headed flatten
length_headed_lines number [] = refl
length_headed_lines number (page ∷ rest) =
    omega (arith, length-append page (flatten (headed (suc number) rest)), length-append page (flatten rest), length_headed_lines (suc number) rest)

-- their lines one
pub headed_heads : (number : ℕ) (pieces : List (List (List ℕ)))
    → map (λ (page : List (List ℕ)). get_or page 0 []) (headed number pieces) ≡ map head_line (numbers_from number (length pieces))
unfolding headed numbers_from
headed_heads number [] = refl
headed_heads number (page ∷ rest) = ap (λ (l : List (List ℕ)). head_line number ∷ l) (headed_heads (suc number) rest)

-- their other lines
pub headed_others : (number : ℕ) (pieces : List (List (List ℕ))) → map (drop 1) (headed number pieces) ≡ pieces
unfolding headed
headed_others number [] = refl
headed_others number (page ∷ rest) = ap (λ (l : List (List (List ℕ))). page ∷ l) (headed_others (suc number) rest)

-- each has one line more
headed_cut : (number : ℕ) {pieces : List (List (List ℕ))} → Cut 50 pieces → Cut 51 (headed number pieces)
unfolding headed
headed_cut number no_piece = no_piece
headed_cut number (last {piece = piece} a b) = last {piece = head_line number ∷ piece} (omega arith) (omega arith)
headed_cut number (more {piece = piece} e r) = more {piece = head_line number ∷ piece} (omega arith) (headed_cut (suc number) r)

-- each line has 21 bytes
headed_each : (number : ℕ) (pieces : List (List (List ℕ))) → number + length pieces ≤ suc max_vertices → Each line_bytes (flatten pieces)
    → Each line_bytes (flatten (headed number pieces))
unfolding headed flatten
headed_each number [] h e = tt
headed_each number (page ∷ rest) h e =
    let both = each_split line_bytes page (flatten rest) e in (
      length_head number (omega arith),
      each_append line_bytes page (flatten (headed (suc number) rest)) both.0 (headed_each (suc number) rest (omega arith) both.1),
    )

-- numbers that are read as they are written
heads_read : (number count : ℕ) → number + count ≤ suc max_vertices
    → map (λ (line : List ℕ). number_read (columns 11 20 line)) (map head_line (numbers_from number count)) ≡ numbers_from number count
unfolding numbers_from
heads_read number zero h = refl
heads_read number (suc count) h = λ i. head_read number (omega arith) i ∷ heads_read (suc number) count (omega arith) i

-- The pieces that n vertices' lines make.
module _ (n : ℕ) (distances parents : List ℕ) where
  -- they hold a line for each vertex
  length_pieces : length (flatten (chunks 50 (lines_by_vertex n distances parents))) ≡ n
  length_pieces = ap length (flatten_chunks 50 (omega arith) (lines_by_vertex n distances parents)) ∙ length_lines distances parents n

  -- as many as said
  pub count_pieces : length (chunks 50 (lines_by_vertex n distances parents)) ≡ page_count n
  count_pieces = omega (arith, length_pieces, cut_count 50 (omega arith) (chunks_cut 50 (omega arith) (lines_by_vertex n distances parents)))

-- Lists whose words fit their columns.
module _ (n : ℕ) (distances parents : List ℕ) (few : n ≤ max_vertices) (far : n ≤ length distances) (up : n ≤ length parents)
    (small-distances : (v : ℕ) → v < n → get_or distances v 0 < 65536) (small-parents : (v : ℕ) → v < n → get_or parents v 0 < 65536) where
  -- the vertices' lines
  abbrev lines : List (List ℕ)
  lines = lines_by_vertex n distances parents

  -- in pieces
  abbrev pieces : List (List (List ℕ))
  pieces = chunks 50 lines

  -- the vertices' lines have 21 bytes each
  each_vertex : (a count : ℕ) → a + count ≤ n → Each line_bytes (map (line_of distances parents) (numbers_from a count))
  unfolding numbers_from
  each_vertex a zero h = tt
  each_vertex a (suc count) h = (
    length_vertex a (get_or distances a 0) (get_or parents a 0) (omega arith) (small-distances a (omega arith)) (small-parents a (omega arith)),
    each_vertex (suc a) count (omega arith),
  )

  each_line : Each line_bytes lines
  unfolding lines_by_vertex
  each_line = each_vertex 0 n (omega arith)

  -- as many pages as said
  count_pages : length pieces ≡ page_count n
  count_pages = count_pieces n distances parents

  -- every line of them has 21 bytes
  each_page : Each line_bytes (flatten (pages n distances parents))
  unfolding pages
  each_page = headed_each 1 pieces (omega (arith, count_pages)) (rw (flatten_chunks 50 (omega arith) lines) each_line)

  -- all bytes
  pub length_pages : length (page_text n distances parents) ≡ page_need n
  unfolding page_text pages
  length_pages =
      omega (
        arith,
        length_each line_bytes (flatten (headed 1 pieces)) each_page,
        length_headed_lines 1 pieces,
        length_pieces n distances parents,
        count_pages,
      )

  -- what is read in a column of each vertex's line
  column_read : (f : List ℕ → ℕ) (l : List ℕ) → length l ≡ n → ((v : ℕ) → v < n → f (line_of distances parents v) ≡ get_or l v 0) → map f lines ≡ l
  unfolding lines_by_vertex
  column_read f l size same =
      let shown : length (map f lines) ≡ n = length-map lines f ∙ length_lines distances parents n in
      ext_get_or 0 (map f lines) l (shown ∙ sym size) (λ (v : ℕ) (h : v < length (map f lines)). go v (omega (arith, shown)))
    where
      go : (v : ℕ) → v < n → get_or (map f lines) v 0 ≡ get_or l v 0
      go v h =
          let vertex : get_or (numbers_from 0 n) v 0 ≡ v = omega (arith, get_or_range 0 n v 0 h) in
          map_at f lines v [] 0 (omega (arith, length_lines distances parents n))
          ∙ ap f (map_at (line_of distances parents) (numbers_from 0 n) v 0 [] (omega (arith, length_range 0 n)) ∙ ap (line_of distances parents) vertex)
          ∙ same v h

  -- the pages read back are the lists
  pub pages_read : read_pages (page_text n distances parents) ≡ lists_on_pages n distances parents
  unfolding read_pages page_text pages lines_read lists_on_pages
  pages_read =
      ap (λ (l : List (List ℕ)). lines_read (chunks 51 l)) (chunks_flatten line_bytes (omega arith) (each_cut line_bytes (omega arith) (flatten (headed 1 pieces)) each_page))
      ∙ ap lines_read (chunks_flatten 51 (omega arith) (headed_cut 1 (chunks_cut 50 (omega arith) lines)))
      ∙ (λ i. record {
        numbers = numbers i;
        vertices = column (λ (line : List ℕ). number_read (columns 1 5 line)) vertices i;
        distances = column (λ (line : List ℕ). label_read (columns 7 13 line)) far_column i;
        parents = column (λ (line : List ℕ). label_read (columns 15 20 line)) up_column i;
      })
    where
      numbers : map (λ (page : List (List ℕ)). number_read (columns 11 20 (get_or page 0 []))) (headed 1 pieces) ≡ numbers_from 1 (page_count n)
      numbers =
          sym (map-map (λ (line : List ℕ). number_read (columns 11 20 line)) (λ (page : List (List ℕ)). get_or page 0 []) (headed 1 pieces))
          ∙ ap (map (λ (line : List ℕ). number_read (columns 11 20 line))) (headed_heads 1 pieces)
          ∙ heads_read 1 (length pieces) (omega (arith, count_pages))
          ∙ ap (numbers_from 1) count_pages

      column : (f : List ℕ → ℕ) {l : List ℕ} → map f lines ≡ l → map f (flatten (map (drop 1) (headed 1 pieces))) ≡ l
      column f e = ap (map f) (ap flatten (headed_others 1 pieces) ∙ flatten_chunks 50 (omega arith) lines) ∙ e

      vertices : map (λ (line : List ℕ). number_read (columns 1 5 line)) lines ≡ numbers_from 0 n
      vertices = column_read (λ (line : List ℕ). number_read (columns 1 5 line)) (numbers_from 0 n) (length_range 0 n) (λ v h.
          vertex_read v (get_or distances v 0) (get_or parents v 0) (omega arith) (small-distances v h) (small-parents v h)
          ∙ sym (get_or_range 0 n v 0 h ∙ zero-add v))

      far_column : map (λ (line : List ℕ). label_read (columns 7 13 line)) lines ≡ take n distances
      far_column = column_read (λ (line : List ℕ). label_read (columns 7 13 line)) (take n distances) (length-take-le n distances far) (λ v h.
          distance_read v (get_or distances v 0) (get_or parents v 0) (omega arith) (small-distances v h) (small-parents v h)
          ∙ sym (get_or-take n distances v 0 h))

      up_column : map (λ (line : List ℕ). label_read (columns 15 20 line)) lines ≡ take n parents
      up_column = column_read (λ (line : List ℕ). label_read (columns 15 20 line)) (take n parents) (length-take-le n parents up) (λ v h.
          parent_read v (get_or distances v 0) (get_or parents v 0) (omega arith) (small-distances v h) (small-parents v h)
          ∙ sym (get_or-take n parents v 0 h))

-- Right results.

-- a word that is unset, or below a number of vertices, fits
word_small : (n word : ℕ) → n ≤ max_vertices → ((k : ℕ) → option_of word ≡ some k → k < n) → word < 65536
unfolding option_of
word_small n word few below = go (eqb word unset) refl
  where
    go : (b : Bool) → eqb word unset ≡ b → word < 65536
    go true e = omega (arith, eqb-true word unset e)
    go false e = omega (arith, below word (rw e))

module _ (file : List ℕ) (source : ℕ) (distances parents : List ℕ) (few : vertex_count file ≤ max_vertices)
    (far : vertex_count file ≤ length distances) (up : vertex_count file ≤ length parents) (r : RightLists file source distances parents) where
  -- the label that stands for the word at a place
  label_word : (l : List ℕ) (v : ℕ) → vertex_count file ≤ length l → v < vertex_count file
      → get_or (map option_of (take (vertex_count file) l)) v none ≡ option_of (get_or l v 0)
  label_word l v there h =
      map_at option_of (take (vertex_count file) l) v 0 none (omega (arith, length-take-le (vertex_count file) l there))
      ∙ ap option_of (get_or-take (vertex_count file) l v 0 h)

  -- distances fit
  distances_small : (v : ℕ) → v < vertex_count file → get_or distances v 0 < 65536
  unfolding labels_in labels_of
  distances_small v h = word_small (vertex_count file) (get_or distances v 0) few (λ k e.
      omega (arith, right_below r v k (label_word distances v far h ∙ e), length_graph file))

  -- and so do parents
  parents_small : (v : ℕ) → v < vertex_count file → get_or parents v 0 < 65536
  unfolding labels_in labels_of
  parents_small v h = word_small (vertex_count file) (get_or parents v 0) few (λ k e.
      omega (arith, parent_vertex r v k (label_word parents v up h ∙ e), length_graph file))

  -- every line of the pages of a right result has 21 bytes
  right_each : Each line_bytes (flatten (pages (vertex_count file) distances parents))
  right_each = each_page (vertex_count file) distances parents few far up distances_small parents_small

  -- the pages have as many bytes as said
  right_length : length (page_text (vertex_count file) distances parents) ≡ page_need (vertex_count file)
  right_length = length_pages (vertex_count file) distances parents few far up distances_small parents_small

  -- and are read back
  right_read : read_pages (page_text (vertex_count file) distances parents) ≡ lists_on_pages (vertex_count file) distances parents
  right_read = pages_read (vertex_count file) distances parents few far up distances_small parents_small

-- Results that pass the checker.
module _ (file : List ℕ) (source : ℕ) (distances parents : List ℕ) (lent : CheckLent) (z : check_number file source distances parents lent ≡ success) where
  -- the input passes its tests, and the result is right
  pub accepted : Passed file source distances parents lent × RightLists file source distances parents
  accepted = (check_judged file source distances parents lent refl).accepted z

  -- n is within its size
  pub accepted_few : vertex_count file ≤ max_vertices
  accepted_few = (passed_sized file source distances parents lent accepted.0).few_vertices

  -- "lines of exactly 20 characters and a line feed"
  pub accepted_each : Each line_bytes (flatten (pages (vertex_count file) distances parents))
  accepted_each =
      right_each file source distances parents accepted_few (passed_distances file source distances parents lent accepted.0)
      (passed_parents file source distances parents lent accepted.0) accepted.1

  -- their pages have as many bytes as said
  pub accepted_length : length (page_text (vertex_count file) distances parents) ≡ page_need (vertex_count file)
  accepted_length =
      right_length file source distances parents accepted_few (passed_distances file source distances parents lent accepted.0)
      (passed_parents file source distances parents lent accepted.0) accepted.1

  -- "reading the columns back gives the lists"
  pub accepted_read : read_pages (page_text (vertex_count file) distances parents) ≡ lists_on_pages (vertex_count file) distances parents
  accepted_read =
      right_read file source distances parents accepted_few (passed_distances file source distances parents lent accepted.0)
      (passed_parents file source distances parents lent accepted.0) accepted.1
