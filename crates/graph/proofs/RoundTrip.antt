-- What is written is read back: the encoding of a graph within the sizes is refused nowhere, and its graph is the one that was written.
use mathlib.Core.Path.{◌≡◌, refl, sym, ap, ap₂, ◌∙◌}
use mathlib.Core.Bool.{false}
use mathlib.Core.List.{List, [], ◌∷◌, ◌++◌, map, map-append, map-map, flatten}
use Prim.Native.Nat.{ℕ, zero, suc, ◌+◌, ◌*◌, ◌/◌, ◌%◌, ◌≤◌, ◌<◌}
use native.Mathlib.Nat.{not-suc-le-zero, le_of_suc-le-suc, zero-add, suc-add}
use native.Mathlib.Omega.{arith}
use lib.Dec.{leb, ltb}
use lib.ListN.{length, get_or, take, replicate, length-append, get_or-append}
use lib.Seq.{get_or-append-add}
use borrow.Author.Tests.{ltb-false, leb-false, lt-leb}
use Rattle.numbers.specs.Numbers.{bad_rows, short_list}
use Rattle.numbers.specs.Refusals.{first, ◌gives◌}
use Rattle.numbers.proofs.First.{first_passed}
use Rattle.lists.specs.Lists.{chain_from, numbers_from, elem, reaches, overlay}
use Rattle.lists.proofs.Overlay.{overlay_front}
use Rattle.lists.proofs.Or.{or_none, none_or}
use Rattle.lists.proofs.Tests.{reaches_append, reaches_weaken, range_append, repeats_range, elem_lacks}
use Rattle.graph.specs.Graph.{Graph, offsets_of, targets_of, rows_of}
use Rattle.graph.specs.File.{word, words_at, vertex_count, edge_count, file_length, head_index, target, next, heads, record_targets, record_nexts, chain, chains, reached, graph_of}
use Rattle.graph.specs.Read.{header_refusals, scan_refusals, chain_refusals, read_number, answer_with, writes_rows, clears_marks, read_exit, read_outcome_by, outcome_of_read}
use Rattle.graph.specs.Write.{row_count, malformed, write_refusals, write_number, write_outcome_by, outcome_of_write}
use Rattle.graph.specs.Steps.{Sized}
use Rattle.graph.specs.Encode.{head_of, heads_from, row_records, records_from, file_words, bytes_of, encode}
use Rattle.graph.proofs.Bridge.{Fits, accept_rows, accepted_fits, accepted_offsets, accepted_targets, length_rows, offsets_count}
use Rattle.graph.proofs.EncodeFacts.{length_bytes, word_bytes, length_row, length_heads, length_records}
use Rattle.graph.proofs.FileLists.{heads_map, targets_map, nexts_map}
use Rattle.graph.proofs.WellFormed.{sized_header, bounded_scan, partitioned_chains, taken_read, needs_met}

-- Words that stand in a file from a place on.

abbrev Holds : List ℕ → ℕ → List ℕ → Type 0
Holds file place words = (i : ℕ) → i < length words → word file (place + i) ≡ get_or words i 0

holds_left : (file : List ℕ) (place : ℕ) (a b : List ℕ) → Holds file place (a ++ b) → Holds file place a
holds_left file place a b h i k = h i (simp length-append (omega arith)) ∙ get_or-append a b 0 i k

holds_right : (file : List ℕ) (place : ℕ) (a b : List ℕ) → Holds file place (a ++ b) → Holds file (place + length a) b
holds_right file place a b h i k =
    let there : place + length a + i ≡ place + (length a + i) = omega arith in
    rw there (h (length a + i) (simp length-append (omega arith)) ∙ get_or-append-add a b i 0)

-- all words of a file stand in it
holds_bytes : (words : List ℕ) → Holds (bytes_of words) 0 words
holds_bytes words i h = rw zero-add (word_bytes words i)

-- Records that stand in a file as the writer numbers them: "records 1 to m in row order".

-- a row that stands after k records
abbrev Linked : List ℕ → ℕ → List ℕ → Type 0
Linked file k [] = Unit {0}
Linked file k (t ∷ row) = (target file (suc k) ≡ t) × (next file (suc k) ≡ head_of (suc k) row) × Linked file (suc k) row

-- rows that stand after k records
abbrev AllLinked : List ℕ → ℕ → Graph → Type 0
AllLinked file k [] = Unit {0}
AllLinked file k (row ∷ g) = Linked file k row × AllLinked file (k + length row) g

linked_row : (file : List ℕ) (k : ℕ) (row : List ℕ) → Holds file (vertex_count file + 2 * suc k) (row_records k row) → Linked file k row
unfolding row_records target next
linked_row file k [] h = tt
linked_row file k (t ∷ row) h =
    let here : vertex_count file + 2 * suc k ≡ vertex_count file + 2 * suc k + 0 = omega arith in
    let later : (i : ℕ) → vertex_count file + 2 * suc (suc k) + i ≡ vertex_count file + 2 * suc k + suc (suc i) = λ i. omega arith in
    (ap (word file) here ∙ h 0 (omega arith), h 1 (omega arith), linked_row file (suc k) row (λ i l. ap (word file) (later i) ∙ h (suc (suc i)) (omega arith)))

linked_rows : (file : List ℕ) (k : ℕ) (g : Graph) → Holds file (vertex_count file + 2 * suc k) (records_from k g) → AllLinked file k g
unfolding records_from
linked_rows file k [] h = tt
linked_rows file k (row ∷ g) h =
    let there : vertex_count file + 2 * suc (k + length row) ≡ vertex_count file + 2 * suc k + length (row_records k row) = omega (arith, length_row k row) in (
      linked_row file k row (holds_left file (vertex_count file + 2 * suc k) (row_records k row) (records_from (k + length row) g) h),
      linked_rows file (k + length row) g (rw there (holds_right file (vertex_count file + 2 * suc k) (row_records k row) (records_from (k + length row) g) h)),
    )

-- What such records give: targets, chains and next indices.

row-targets : (file : List ℕ) (k : ℕ) (row : List ℕ) → Linked file k row → map (target file) (numbers_from (suc k) (length row)) ≡ row
unfolding numbers_from
row-targets file k [] l = refl
row-targets file k (t ∷ row) l = ap₂ (λ (x : ℕ) (xs : List ℕ). x ∷ xs) l.0 (row-targets file (suc k) row l.2)

row_chain : (file : List ℕ) (k : ℕ) (row : List ℕ) (steps : ℕ) → Linked file k row → length row ≤ steps → chain file steps (head_of k row) ≡ numbers_from (suc k) (length row)
unfolding numbers_from chain head_of chain_from
row_chain file k [] zero l h = refl
row_chain file k [] (suc steps) l h = refl
row_chain file k (t ∷ row) zero l h = absurd (not-suc-le-zero h)
row_chain file k (t ∷ row) (suc steps) l h = rw l.1 (ap (λ (xs : List ℕ). suc k ∷ xs) (row_chain file (suc k) row steps l.2 (le_of_suc-le-suc h)))

-- a head or next of the rows is no more than the records up to their end
head_of_low : (k : ℕ) (row : List ℕ) → head_of k row ≤ k + length row
unfolding head_of
head_of_low k [] = omega arith
head_of_low k (t ∷ row) = omega arith

row_nexts : (file : List ℕ) (k m : ℕ) (row : List ℕ) → Linked file k row → k + length row ≤ m → reaches (suc m) (map (next file) (numbers_from (suc k) (length row))) ≡ false
unfolding numbers_from reaches
row_nexts file k m [] l h = refl
row_nexts file k m (t ∷ row) l h =
    none_or (leb (suc m) (next file (suc k))) (reaches (suc m) (map (next file) (numbers_from (suc (suc k)) (length row))))
    (lt-leb (suc m) (next file (suc k)) (rw l.1 (omega (arith, head_of_low (suc k) row))))
    (row_nexts file (suc k) m row l.2 (omega arith))

all_nexts : (file : List ℕ) (k m : ℕ) (g : Graph) → AllLinked file k g → k + length (flatten g) ≤ m → reaches (suc m) (map (next file) (numbers_from (suc k) (length (flatten g)))) ≡ false
unfolding flatten numbers_from reaches
all_nexts file k m [] l h = refl
all_nexts file k m (row ∷ g) l h =
    let n = length-append row (flatten g) in
    rw (n, ← range_append (suc k) (length row) (length (flatten g)), map-append, reaches_append)
    (none_or (reaches (suc m) (map (next file) (numbers_from (suc k) (length row)))) (reaches (suc m) (map (next file) (numbers_from (suc k + length row) (length (flatten g)))))
    (row_nexts file k m row l.0 (omega arith))
    (rw (suc-add k (length row)) (all_nexts file (k + length row) m g l.1 (omega arith))))

all_heads : (k m : ℕ) (g : Graph) → k + length (flatten g) ≤ m → reaches (suc m) (heads_from k g) ≡ false
unfolding flatten heads_from reaches
all_heads k m [] h = refl
all_heads k m (row ∷ g) h =
    let n = length-append row (flatten g) in
    none_or (leb (suc m) (head_of k row)) (reaches (suc m) (heads_from (k + length row) g))
    (lt-leb (suc m) (head_of k row) (omega (arith, head_of_low k row)))
    (all_heads (k + length row) m g (omega arith))

all_targets : (file : List ℕ) (k : ℕ) (g : Graph) → AllLinked file k g → map (target file) (numbers_from (suc k) (length (flatten g))) ≡ flatten g
unfolding flatten numbers_from
all_targets file k [] l = refl
all_targets file k (row ∷ g) l =
    let n = length-append row (flatten g) in
    rw (n, ← range_append (suc k) (length row) (length (flatten g)), map-append)
    (ap₂ (λ (a b : List ℕ). a ++ b) (row-targets file k row l.0) (rw (suc-add k (length row)) (all_targets file (k + length row) g l.1)))

-- the records of each row, the rows standing after k records
records_of : ℕ → Graph → List (List ℕ)
records_of k [] = []
records_of k (row ∷ g) = numbers_from (suc k) (length row) ∷ records_of (k + length row) g

flatten_records : (k : ℕ) (g : Graph) → flatten (records_of k g) ≡ numbers_from (suc k) (length (flatten g))
unfolding records_of flatten numbers_from
flatten_records k [] = refl
flatten_records k (row ∷ g) =
    rw (flatten_records (k + length row) g, ← suc-add k (length row), range_append (suc k) (length row) (length (flatten g)), length-append)

all_chains : (file : List ℕ) (k steps : ℕ) (g : Graph) → AllLinked file k g → length (flatten g) ≤ steps → map (chain file steps) (heads_from k g) ≡ records_of k g
unfolding records_of flatten heads_from
all_chains file k steps [] l h = refl
all_chains file k steps (row ∷ g) l h =
    let n = length-append row (flatten g) in
    ap₂ (λ (r : List ℕ) (rs : List (List ℕ)). r ∷ rs) (row_chain file k row steps l.0 (omega arith)) (all_chains file (k + length row) steps g l.1 (omega arith))

all_rows : (file : List ℕ) (k : ℕ) (g : Graph) → AllLinked file k g → map (λ (records : List ℕ). map (target file) records) (records_of k g) ≡ g
unfolding records_of
all_rows file k [] l = refl
all_rows file k (row ∷ g) l = ap₂ (λ (r : List ℕ) (rs : Graph). r ∷ rs) (row-targets file k row l.0) (all_rows file (k + length row) g l.1)

-- The file of a graph.

-- n, m, the heads and the records
encode_holds : (g : Graph) → Holds (encode g) 0 (length g ∷ length (targets_of g) ∷ (heads_from 0 g ++ records_from 0 g))
unfolding encode file_words
encode_holds g = holds_bytes (file_words g)

pub encode_length : (g : Graph) → length (encode g) ≡ file_length (length g) (length (targets_of g))
unfolding encode file_words targets_of
encode_length g =
    let a = length-append (heads_from 0 g) (records_from 0 g) in
    omega (arith, length_bytes (file_words g), length_heads 0 g, length_records 0 g)

pub encode_vertices : (g : Graph) → vertex_count (encode g) ≡ length g
unfolding vertex_count
encode_vertices g = encode_holds g 0 (omega arith)

pub encode_edges : (g : Graph) → edge_count (encode g) ≡ length (targets_of g)
unfolding edge_count
encode_edges g = encode_holds g 1 (omega arith)

-- the heads and records from place 2 on
encode_rest : (g : Graph) → Holds (encode g) 2 (heads_from 0 g ++ records_from 0 g)
encode_rest g i h = ap (word (encode g)) (omega arith) ∙ encode_holds g (suc (suc i)) (omega arith)

encode_linked : (g : Graph) → AllLinked (encode g) 0 g
encode_linked g =
    let place : vertex_count (encode g) + 2 * suc 0 ≡ 2 + length (heads_from 0 g) = omega (arith, encode_vertices g, length_heads 0 g) in
    linked_rows (encode g) 0 g (rw place (holds_right (encode g) 2 (heads_from 0 g) (records_from 0 g) (encode_rest g)))

-- the words at a run of places
held_words : (file words : List ℕ) (place : ℕ) → Holds file place words → words_at file place 1 (length words) ≡ words
unfolding words_at
held_words file [] place h = refl
held_words file (w ∷ words) place h = ap₂ (λ (x : ℕ) (xs : List ℕ). x ∷ xs) (ap (word file) (omega arith) ∙ h 0 (omega arith))
    (held_words file words (place + 1) (λ i k. ap (word file) (omega arith) ∙ h (suc i) (omega arith)))

pub encode_heads : (g : Graph) → heads (encode g) ≡ heads_from 0 g
unfolding heads
encode_heads g = rw (encode_vertices g, ← length_heads 0 g) (held_words (encode g) (heads_from 0 g) 2 (holds_left (encode g) 2 (heads_from 0 g) (records_from 0 g) (encode_rest g)))

pub encode_targets : (g : Graph) → record_targets (encode g) ≡ targets_of g
unfolding targets_of
encode_targets g = targets_map (encode g) ∙ rw (encode_edges g) (all_targets (encode g) 0 g (encode_linked g))

-- each vertex's chain is its records in row order
encode_chains : (g : Graph) → chains (encode g) ≡ records_of 0 g
unfolding chains targets_of
encode_chains g =
    let file = encode g in
    let steps = suc (edge_count file) in
    let enough : length (flatten g) ≤ suc (edge_count file) = omega (arith, encode_edges g) in
    sym (map-map (chain file steps) (head_index file) (numbers_from 0 (vertex_count file)))
    ∙ ap (map (chain file steps)) (sym (heads_map file) ∙ encode_heads g)
    ∙ all_chains file 0 steps g (encode_linked g) enough

-- the records are reached in order, each once
pub encode_reached : (g : Graph) → reached (encode g) ≡ numbers_from 1 (length (targets_of g))
unfolding reached targets_of
encode_reached g = rw (encode_chains g) (flatten_records 0 g)

-- the graph of its encoding is the graph
pub encode_graph : (g : Graph) → graph_of (encode g) ≡ g
unfolding graph_of
encode_graph g = rw (encode_chains g) (all_rows (encode g) 0 g (encode_linked g))

-- The words of the file are 16-bit numbers, so its bytes are bytes.

row_small : (limit k : ℕ) (row : List ℕ) → reaches limit row ≡ false → k + length row < limit → reaches limit (row_records k row) ≡ false
unfolding row_records reaches
row_small limit k [] e h = refl
row_small limit k (t ∷ row) e h =
    let p = or_none (leb limit t) (reaches limit row) e in
    let low : leb limit (head_of (suc k) row) ≡ false = lt-leb limit (head_of (suc k) row) (omega (arith, head_of_low (suc k) row)) in
    rw (p.0, low) (row_small limit (suc k) row p.1 (omega arith))

rows_small : (limit k : ℕ) (g : Graph) → reaches limit (flatten g) ≡ false → k + length (flatten g) < limit → reaches limit (records_from k g) ≡ false
unfolding records_from flatten reaches
rows_small limit k [] e h = refl
rows_small limit k (row ∷ g) e h =
    let n = length-append row (flatten g) in
    let p = or_none (reaches limit row) (reaches limit (flatten g)) (sym (reaches_append limit row (flatten g)) ∙ e) in
    rw (reaches_append limit (row_records k row) (records_from (k + length row) g), row_small limit k row p.0 (omega arith))
    (rows_small limit (k + length row) g p.1 (omega arith))

pub words_small : (g : Graph) → Fits g → reaches 65536 (file_words g) ≡ false
unfolding file_words reaches targets_of
words_small g f =
    let m = length (flatten g) in
    let heads-under = reaches_weaken (suc m) 65536 (heads_from 0 g) (omega arith) (all_heads 0 m g (omega arith)) in
    let targets-under = reaches_weaken (length g) 65536 (flatten g) (omega arith) f.below in
    rw (
      lt-leb 65536 (length g) (omega arith),
      lt-leb 65536 m (omega arith),
      reaches_append 65536 (heads_from 0 g) (records_from 0 g),
      heads-under,
    ) (rows_small 65536 0 g targets-under (omega arith))

bytes_small : (words : List ℕ) → reaches 65536 words ≡ false → reaches 256 (bytes_of words) ≡ false
unfolding bytes_of reaches
bytes_small [] e = refl
bytes_small (w ∷ words) e =
    let p = or_none (leb 65536 w) (reaches 65536 words) e in
    let small = leb-false 65536 w p.0 in
    rw (lt-leb 256 (w % 256) (omega arith), lt-leb 256 (w / 256) (omega arith)) (bytes_small words p.1)

pub encode_bytes : (g : Graph) → Fits g → reaches 256 (encode g) ≡ false
unfolding encode
encode_bytes g f = bytes_small (file_words g) (words_small g f)

-- The encoding is refused nowhere.

pub encode_sized : (g : Graph) → Fits g → Sized (encode g) (length g) (length (targets_of g))
encode_sized g f = record {
  vertices = sym (encode_vertices g);
  edges = sym (encode_edges g);
  some = f.some;
  few_vertices = f.few_vertices;
  few_edges = f.few_edges;
  bytes = encode_length g;
}

pub encode_header : (g : Graph) → Fits g → first (header_refusals (encode g)) ≡ 0
encode_header g f = sized_header (encode g) (length g) (length (targets_of g)) (encode_sized g f)

encode_indices : (g : Graph) → reaches (suc (edge_count (encode g))) (heads (encode g) ++ record_nexts (encode g)) ≡ false
unfolding targets_of
encode_indices g =
    rw (reaches_append, encode_heads g, nexts_map (encode g), encode_edges g)
    (none_or (reaches (suc (length (flatten g))) (heads_from 0 g)) (reaches (suc (length (flatten g))) (map (next (encode g)) (numbers_from 1 (length (flatten g)))))
    (all_heads 0 (length (flatten g)) g (omega arith))
    (all_nexts (encode g) 0 (length (flatten g)) g (encode_linked g) (omega arith)))

pub encode_scan : (g : Graph) → Fits g → first (scan_refusals (encode g)) ≡ 0
encode_scan g f = bounded_scan (encode g) (record { indices = encode_indices g; targets = rw (encode_vertices g, encode_targets g) f.below })

pub encode_whole : (g : Graph) → first (chain_refusals (encode g)) ≡ 0
encode_whole g =
    let m = length (targets_of g) in
    partitioned_chains (encode g) (record {
      once = rw (encode_reached g) (repeats_range 1 m);
      each = rw (encode_edges g, encode_reached g) (elem_lacks (numbers_from 1 m) (numbers_from 1 m) (λ x e. e));
    })

-- with lists long enough, it is read with number 0
pub encode_read : (g : Graph) → Fits g → (offsets targets marks : List ℕ) → length g < length offsets → length (targets_of g) ≤ length targets → length (targets_of g) ≤ length marks
    → read_number (encode g) offsets targets marks ≡ 0
encode_read g f offsets targets marks a b c = taken_read (encode g) offsets targets marks (record {
  header = encode_header g f;
  scan = encode_scan g f;
  needs = needs_met (encode g) offsets targets marks (rw (encode_vertices g) (omega arith)) (rw (encode_edges g) b) (rw (encode_edges g) c);
  whole = encode_whole g;
})

-- and gives the graph's rows
pub encode_outcome : (g : Graph) → Fits g → (offsets targets marks : List ℕ) → length g < length offsets → length (targets_of g) ≤ length targets → length (targets_of g) ≤ length marks
    → outcome_of_read (encode g) offsets targets marks
    ≡ read_exit (record { number = 0; vertices = length g; edges = length (targets_of g) })
    (overlay (offsets_of g) offsets) (overlay (targets_of g) targets) (overlay (replicate (length (targets_of g)) 0) marks)
unfolding outcome_of_read read_outcome_by answer_with writes_rows clears_marks elem
encode_outcome g f offsets targets marks a b c = rw (encode_read g f offsets targets marks a b c, encode_vertices g, encode_edges g, encode_graph g)

-- What `write` leaves is read back.

-- rows that were written: they are not malformed, and the list was long enough
pub written_passed : (offsets targets bytes : List ℕ) → write_number offsets targets bytes ≡ 0
    → (malformed offsets targets ≡ false) × (file_length (row_count offsets) (length targets) ≤ length bytes)
unfolding write_number write_refusals
written_passed offsets targets bytes e =
    let long = ltb (length bytes) (file_length (row_count offsets) (length targets)) in
    let p = first_passed (malformed offsets targets) bad_rows (long gives short_list ∷ []) (omega arith) e in
    let q = first_passed long short_list [] (omega arith) p.1 in
    (p.0, ltb-false (length bytes) (file_length (row_count offsets) (length targets)) q.0)

pub written_bytes : (offsets targets bytes : List ℕ) → (outcome_of_write offsets targets bytes).number ≡ 0
    → take (file_length (row_count offsets) (length targets)) (outcome_of_write offsets targets bytes).file ≡ encode (rows_of offsets targets)
unfolding outcome_of_write write_outcome_by
written_bytes offsets targets bytes e =
    let g = rows_of offsets targets in
    let ok = (written_passed offsets targets bytes e).0 in
    let n = length_rows offsets targets in
    let t = accepted_targets offsets targets ok in
    rw e (overlay_front (encode g) bytes (file_length (row_count offsets) (length targets)) (encode_length g ∙ rw (n, t)))

pub written_read : (offsets targets bytes o t k : List ℕ) → (outcome_of_write offsets targets bytes).number ≡ 0
    → length offsets ≤ length o → length targets ≤ length t → length targets ≤ length k
    → outcome_of_read (take (file_length (row_count offsets) (length targets)) (outcome_of_write offsets targets bytes).file) o t k
    ≡ read_exit (record { number = 0; vertices = row_count offsets; edges = length targets })
    (overlay offsets o) (overlay targets t) (overlay (replicate (length targets) 0) k)
unfolding outcome_of_write write_outcome_by
written_read offsets targets bytes o t k e a b c =
    let g = rows_of offsets targets in
    let ok = (written_passed offsets targets bytes e).0 in
    let vertices = length_rows offsets targets in
    let same-offsets = accepted_offsets offsets targets ok in
    let same-targets = accepted_targets offsets targets ok in
    let enough : row_count offsets < length o = omega (arith, offsets_count offsets (accept_rows offsets targets ok).rows.some) in
    let outcome = encode_outcome g (accepted_fits offsets targets ok) o t k (rw vertices enough) (rw same-targets b) (rw same-targets c) in
    rw (written_bytes offsets targets bytes e) (rw (vertices, same-offsets, same-targets) at outcome)
