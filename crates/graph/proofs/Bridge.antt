-- Rows as the graph, and offsets with targets, are the same thing: each is got back from the other, and the view of a vertex is its row.
use mathlib.Core.Path.{◌≡◌, refl, ap, ap₂, ◌∙◌}
use mathlib.Core.Bool.{false, not, ◌||◌}
use mathlib.Core.List.{List, [], ◌∷◌, ◌++◌, map, append_assoc, flatten}
use Prim.Native.Nat.{ℕ, zero, suc, pred, ◌+◌, ◌-◌, ◌≤◌, ◌<◌}
use native.Mathlib.Nat.{not-suc-le-zero, le_of_suc-le-suc}
use native.Mathlib.Numerals.{add-one}
use native.Mathlib.Omega.{arith}
use lib.Dec.{ltb, eqb}
use lib.ListN.{length, get_or, take, drop, length-append, length-take, length-drop, length-map, take-append-drop}
use lib.Seq.{drop-length, drop-drop, drop-append_seam, take-append_seam}
use borrow.Author.Tests.{ltb-false, eqb-true, eqb-false, not-false, lt-ltb, le-ltb, eq-eqb, ne_eqb}
use Rattle.numbers.specs.Numbers.{max_vertices, max_edges, bad_rows}
use Rattle.numbers.specs.Refusals.{first}
use Rattle.numbers.proofs.First.{first_skip}
use Rattle.lists.specs.Lists.{sums_from, reaches, falls_from}
use Rattle.lists.proofs.Or.{or_none, none_or}
use Rattle.lists.proofs.Rows.{Rising, ends, rises, rise_of, rising_below, rising_step}
use Rattle.lists.proofs.Tests.{falls_none, length_sums, falls_sums, first_sums, last_sums}
use Rattle.graph.specs.Graph.{Graph, edges, offsets_of, targets_of, rows_of}
use Rattle.graph.specs.Read.{outside_sizes}
use Rattle.graph.specs.Write.{row_count, malformed}
use Rattle.graph.specs.Links.{out_of_view, links_number, links_of}

-- "offsets (n + 1 places, first 0, last m)", none falling
pub record Rows (offsets targets : List ℕ) : Type 0 where
  pub some : 1 ≤ length offsets
  pub rise : falls_from 0 offsets ≡ false
  pub start : get_or offsets 0 0 ≡ 0
  pub stop : get_or offsets (row_count offsets) 0 ≡ length targets

-- rows that the writer accepts: besides, the sizes hold and each target is a vertex
pub record Accepted (offsets targets : List ℕ) : Type 0 where
  pub rows : Rows offsets targets
  pub some_vertices : 1 ≤ row_count offsets
  pub few_vertices : row_count offsets ≤ max_vertices
  pub few_edges : length targets ≤ max_edges
  pub below : reaches (row_count offsets) targets ≡ false

-- n and m within their sizes
pub record WithinSizes (n m : ℕ) : Type 0 where
  pub some : 1 ≤ n
  pub few_vertices : n ≤ max_vertices
  pub few_edges : m ≤ max_edges

pub within_sizes : (n m : ℕ) → outside_sizes n m ≡ false → WithinSizes n m
unfolding outside_sizes
within_sizes n m e =
    let p = or_none (eqb n 0 || ltb max_vertices n) (ltb max_edges m) e in
    let q = or_none (eqb n 0) (ltb max_vertices n) p.0 in
    let apart : n ≡ 0 → ⊥ = eqb-false n 0 q.0 in
    record { some = positive n apart; few_vertices = ltb-false max_vertices n q.1; few_edges = ltb-false max_edges m p.1 }
  where
    positive : (k : ℕ) → (k ≡ 0 → ⊥) → 1 ≤ k
    positive zero h = absurd (h refl)
    positive (suc k) h = omega arith

pub sizes_within : (n m : ℕ) → WithinSizes n m → outside_sizes n m ≡ false
unfolding outside_sizes
sizes_within n m s =
    none_or (eqb n 0 || ltb max_vertices n) (ltb max_edges m)
    (none_or (eqb n 0) (ltb max_vertices n) (ne_eqb n 0 (λ (q : n ≡ 0). omega arith)) (le-ltb max_vertices n s.few_vertices))
    (le-ltb max_edges m s.few_edges)

-- a row for each offset but the last
pub offsets_count : (offsets : List ℕ) → 1 ≤ length offsets → length offsets ≡ suc (row_count offsets)
offsets_count [] h = absurd (not-suc-le-zero h)
offsets_count (a ∷ offsets) h = refl

some_offsets : (offsets : List ℕ) → 1 ≤ row_count offsets → 1 ≤ length offsets
some_offsets [] h = absurd (not-suc-le-zero h)
some_offsets (a ∷ offsets) h = omega arith

-- what the writer's test finds nothing wrong with
pub accept_rows : (offsets targets : List ℕ) → malformed offsets targets ≡ false → Accepted offsets targets
unfolding malformed
accept_rows offsets targets e =
    let n = row_count offsets in
    let sizes = outside_sizes n (length targets) in
    let empty = eqb (length offsets) 0 in
    let falls = falls_from 0 offsets in
    let start = eqb (get_or offsets 0 0) 0 in
    let stop = eqb (get_or offsets n 0) (length targets) in
    let p₅ = or_none (sizes || empty || falls || not start || not stop) (reaches n targets) e in
    let p₄ = or_none (sizes || empty || falls || not start) (not stop) p₅.0 in
    let p₃ = or_none (sizes || empty || falls) (not start) p₄.0 in
    let p₂ = or_none (sizes || empty) falls p₃.0 in
    let p₁ = or_none sizes empty p₂.0 in
    let s = within_sizes n (length targets) p₁.0 in
    record {
      rows = record {
        some = some_offsets offsets s.some;
        rise = p₂.1;
        start = eqb-true (get_or offsets 0 0) 0 (not-false start p₃.1);
        stop = eqb-true (get_or offsets n 0) (length targets) (not-false stop p₄.1);
      };
      some_vertices = s.some;
      few_vertices = s.few_vertices;
      few_edges = s.few_edges;
      below = p₅.1;
    }

-- rows in order are not malformed
pub not_malformed : (offsets targets : List ℕ) → Accepted offsets targets → malformed offsets targets ≡ false
unfolding malformed
not_malformed offsets targets a = rw (
  sizes_within (row_count offsets) (length targets) (record { some = a.some_vertices; few_vertices = a.few_vertices; few_edges = a.few_edges }),
  ne_eqb (length offsets) 0 (λ (q : length offsets ≡ 0). omega arith),
  a.rows.rise,
  eq-eqb (get_or offsets 0 0) 0 a.rows.start,
  eq-eqb (get_or offsets (row_count offsets) 0) (length targets) a.rows.stop,
) a.below

-- the offsets of a graph: n + 1 places, from 0 up to m
pub length_offsets : (g : Graph) → length (offsets_of g) ≡ suc (length g)
unfolding offsets_of
length_offsets g = rw (length_sums 0 (map length g), length-map g length)

pub first_offset : (g : Graph) → get_or (offsets_of g) 0 0 ≡ 0
unfolding offsets_of
first_offset g = first_sums 0 0 (map length g)

pub last_offset : (g : Graph) → get_or (offsets_of g) (length g) 0 ≡ length (targets_of g)
unfolding offsets_of targets_of
last_offset g = last_sums 0 0 g ∙ omega arith

pub rising_offsets : (g : Graph) → falls_from 0 (offsets_of g) ≡ false
unfolding offsets_of
rising_offsets g = falls_sums 0 0 (map length g) (omega arith)

pub graph_rows : (g : Graph) → Rows (offsets_of g) (targets_of g)
graph_rows g = record {
  some = omega (arith, length_offsets g);
  rise = rising_offsets g;
  start = first_offset g;
  stop = rw (length_offsets g) (last_offset g);
}

-- so many rows
pub length_rows : (offsets targets : List ℕ) → length (rows_of offsets targets) ≡ row_count offsets
unfolding rows_of
length_rows [] targets = refl
length_rows (a ∷ []) targets = refl
length_rows (a ∷ b ∷ offsets) targets = ap suc (length_rows (b ∷ offsets) targets)

-- row u is the part of the targets from its offset up to the next one
pub row_at : (offsets targets : List ℕ) (u : ℕ) → u < row_count offsets
    → edges (rows_of offsets targets) u ≡ take (get_or offsets (suc u) 0 - get_or offsets u 0) (drop (get_or offsets u 0) targets)
unfolding rows_of edges
row_at [] targets u h = absurd (not-suc-le-zero h)
row_at (a ∷ []) targets u h = absurd (not-suc-le-zero h)
row_at (a ∷ b ∷ offsets) targets zero h = refl
row_at (a ∷ b ∷ offsets) targets (suc u) h = row_at (b ∷ offsets) targets u (le_of_suc-le-suc h)

-- offsets in order rise from the first one to the end of the targets
pub rows_rising : (a : ℕ) (offsets targets : List ℕ) → Rows (a ∷ offsets) targets → Rising (length targets) a offsets
rows_rising a offsets targets r = rise_of (length targets) a offsets (falls_none 0 a offsets r.rise).1 r.stop

-- so each row's two offsets do not fall or pass the end of the targets
pub offsets_rise : (offsets targets : List ℕ) → Rows offsets targets → (u : ℕ) → u < row_count offsets → get_or offsets u 0 ≤ get_or offsets (suc u) 0
offsets_rise [] targets r u h = absurd (not-suc-le-zero r.some)
offsets_rise (a ∷ offsets) targets r u h = rising_step (rows_rising a offsets targets r) u h

pub offsets_end : (offsets targets : List ℕ) → Rows offsets targets → (u : ℕ) → u < row_count offsets → get_or offsets (suc u) 0 ≤ length targets
offsets_end [] targets r u h = absurd (not-suc-le-zero r.some)
offsets_end (a ∷ offsets) targets r u h = rising_below (rows_rising a offsets targets r) (suc u)

-- so the view finds nothing wrong
in_view : (offsets targets : List ℕ) → Rows offsets targets → (u : ℕ) → u < row_count offsets → out_of_view offsets targets u ≡ false
unfolding out_of_view
in_view offsets targets r u h = rw (
  add-one,
  le-ltb (length offsets) 2 (omega (arith, offsets_count offsets r.some)),
  lt-ltb u (length offsets - 1) (omega (arith, offsets_count offsets r.some)),
  le-ltb (get_or offsets (suc u) 0) (get_or offsets u 0) (offsets_rise offsets targets r u h),
  le-ltb (length targets) (get_or offsets (suc u) 0) (offsets_end offsets targets r u h),
)

pub links_number_lem : (offsets targets : List ℕ) → Rows offsets targets → (u : ℕ) → u < row_count offsets → links_number offsets targets u ≡ 0
unfolding links_number first
links_number_lem offsets targets r u h = first_skip (out_of_view offsets targets u) bad_rows [] (in_view offsets targets r u h)

-- the view of a vertex is its row
pub links_edges : (offsets targets : List ℕ) → Rows offsets targets → (u : ℕ) → u < row_count offsets → links_of offsets targets u ≡ edges (rows_of offsets targets) u
unfolding links_of
links_edges offsets targets r u h = rw (in_view offsets targets r u h)

-- the rows that the running sums of lengths cut out
rows_step : (a b : ℕ) (l targets : List ℕ) → rows_of (a ∷ sums_from b l) targets ≡ take (b - a) (drop a targets) ∷ rows_of (sums_from b l) targets
unfolding rows_of sums_from
rows_step a b [] targets = refl
rows_step a b (x ∷ l) targets = refl

-- the first row of the targets behind those of the rows before
first_row : (before row rest : List ℕ) → take ((length before + length row) - length before) (drop (length before) (before ++ (row ++ rest))) ≡ row
first_row before row rest =
    let size : (length before + length row) - length before ≡ length row = omega arith in
    rw (size, drop-append_seam, take-append_seam)

rows_behind : (before : List ℕ) (g : Graph) → rows_of (sums_from (length before) (map length g)) (before ++ flatten g) ≡ g
unfolding rows_of sums_from flatten
rows_behind before [] = refl
rows_behind before (row ∷ g) =
    rows_step (length before) (length before + length row) (map length g) (before ++ (row ++ flatten g))
    ∙ ap₂ (λ (r : List ℕ) (rest : Graph). r ∷ rest) (first_row before row (flatten g))
    (rw (← append_assoc before row (flatten g), ← length-append before row) (rows_behind (before ++ row) g))

-- offsets and targets of a graph give the graph back
pub graph_again : (g : Graph) → rows_of (offsets_of g) (targets_of g) ≡ g
unfolding offsets_of targets_of
graph_again g = rows_behind [] g

-- a row between two offsets that do not fall or pass the end
pub row_between : (a b : ℕ) (targets : List ℕ) → a ≤ b → b ≤ length targets → a + length (take (b - a) (drop a targets)) ≡ b
row_between a b targets h k = simp (length-take, length-drop) (omega arith)

row_and_rest : (a b : ℕ) (targets : List ℕ) → a ≤ b → take (b - a) (drop a targets) ++ drop b targets ≡ drop a targets
row_and_rest a b targets h =
    let whole : a + (b - a) ≡ b = omega arith in
    let rest : drop (b - a) (drop a targets) ≡ drop b targets = drop-drop (b - a) a targets ∙ ap (λ (k : ℕ). drop k targets) whole in
    rw (← rest) (take-append-drop (b - a) (drop a targets))

-- the sums and the rows from a place on
sums-from : (targets : List ℕ) {a : ℕ} {rest : List ℕ} → Rising (length targets) a rest → sums_from a (map length (rows_of (a ∷ rest) targets)) ≡ a ∷ rest
unfolding rows_of sums_from
sums-from targets (ends e) = refl
sums-from targets (rises {a} {b} h r) = ap (λ (l : List ℕ). a ∷ l) (rw (row_between a b targets h (rising_below r 0)) (sums-from targets r))

pub rows_from : (targets : List ℕ) {a : ℕ} {rest : List ℕ} → Rising (length targets) a rest → targets_of (rows_of (a ∷ rest) targets) ≡ drop a targets
unfolding rows_of targets_of flatten
rows_from targets (ends e) = rw (e, drop-length)
rows_from targets (rises {a} {b} h r) = rw (rows_from targets r) (row_and_rest a b targets h)

-- offsets and targets in order are those of their rows
pub offsets_again : (offsets targets : List ℕ) → Rows offsets targets → offsets_of (rows_of offsets targets) ≡ offsets
unfolding offsets_of
offsets_again [] targets r = absurd (not-suc-le-zero r.some)
offsets_again (a ∷ offsets) targets r = rw (← r.start) (sums-from targets (rows_rising a offsets targets r))

pub targets_again : (offsets targets : List ℕ) → Rows offsets targets → targets_of (rows_of offsets targets) ≡ targets
targets_again [] targets r = absurd (not-suc-le-zero r.some)
targets_again (a ∷ offsets) targets r = rows_from targets (rows_rising a offsets targets r) ∙ rw r.start

-- The same for a graph: the view of each of its vertices is its row.

graph_count : (g : Graph) → row_count (offsets_of g) ≡ length g
graph_count g = ap pred (length_offsets g)

pub graph_links : (g : Graph) (u : ℕ) → u < length g → links_of (offsets_of g) (targets_of g) u ≡ edges g u
graph_links g u h = links_edges (offsets_of g) (targets_of g) (graph_rows g) u (rw (graph_count g) h) ∙ ap (λ (rows : Graph). edges rows u) (graph_again g)

-- The same for offsets and targets that the writer accepts.

module _ (offsets targets : List ℕ) (e : malformed offsets targets ≡ false) where
  pub accepted_offsets : offsets_of (rows_of offsets targets) ≡ offsets
  accepted_offsets = offsets_again offsets targets (accept_rows offsets targets e).rows

  pub accepted_targets : targets_of (rows_of offsets targets) ≡ targets
  accepted_targets = targets_again offsets targets (accept_rows offsets targets e).rows

  pub accepted_links : (u : ℕ) → u < row_count offsets → links_of offsets targets u ≡ edges (rows_of offsets targets) u
  accepted_links = links_edges offsets targets (accept_rows offsets targets e).rows

  pub accepted_links_number : (u : ℕ) → u < row_count offsets → links_number offsets targets u ≡ 0
  accepted_links_number = links_number_lem offsets targets (accept_rows offsets targets e).rows

-- A graph within the sizes, each target a vertex: what can be written, and what is read.
pub record Fits (g : Graph) : Type 0 where
  pub some : 1 ≤ length g
  pub few_vertices : length g ≤ max_vertices
  pub few_edges : length (targets_of g) ≤ max_edges
  pub below : reaches (length g) (targets_of g) ≡ false

-- the writer accepts it
pub fits_accepted : (g : Graph) → Fits g → malformed (offsets_of g) (targets_of g) ≡ false
fits_accepted g f = not_malformed (offsets_of g) (targets_of g) (record {
  rows = graph_rows g;
  some_vertices = rw (graph_count g) f.some;
  few_vertices = rw (graph_count g) f.few_vertices;
  few_edges = f.few_edges;
  below = rw (graph_count g) f.below;
})

-- and what the writer accepts is one
pub accepted_fits : (offsets targets : List ℕ) → malformed offsets targets ≡ false → Fits (rows_of offsets targets)
accepted_fits offsets targets e =
    let a = accept_rows offsets targets e in
    let n = length_rows offsets targets in
    let t = accepted_targets offsets targets e in
    record { some = rw n a.some_vertices; few_vertices = rw n a.few_vertices; few_edges = rw t a.few_edges; below = rw (n, t) a.below }
