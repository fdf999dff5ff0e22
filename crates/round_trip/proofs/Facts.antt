-- Writing and reading back: what the two calls ensure makes up the outcome, and the outcome is that the rows come back.
use mathlib.Core.Path.{◌≡◌, refl, sym, ap, ◌∙◌}
use mathlib.Core.List.{List}
use Prim.Native.Nat.{ℕ, ◌+◌, ◌-◌, ◌≤◌}
use native.Mathlib.Numerals.{sub-one}
use native.Mathlib.Omega.{arith}
use lib.ListN.{length, take, replicate}
use borrow.Author.Tests.{ne_eqb}
use Rattle.numbers.specs.Numbers.{max_vertices, max_edges}
use Rattle.lists.specs.Lists.{overlay}
use Rattle.graph.specs.Graph.{rows_of}
use Rattle.graph.specs.File.{file_length}
use Rattle.graph.specs.Read.{read_exit, outcome_of_read}
use Rattle.graph.specs.Encode.{encode}
use Rattle.graph.specs.Write.{row_count, WriteOutcome, write_exit, write_number, outcome_of_write, write_outcome_by}
use Rattle.graph.specs.Read.{ReadAnswer}
use Rattle.graph.proofs.Bridge.{accept_rows, offsets_count}
use Rattle.graph.proofs.RoundTrip.{written_passed, written_read}
use Rattle.round_trip.specs.Trip.{trip_exit, trip_after, outcome_of_trip}

-- rows that were written, and the list that they were written to
pub record Fitting (offsets targets file : List ℕ) : Type 0 where
  pub some : 1 ≤ length offsets
  pub few_vertices : length offsets ≤ max_vertices + 1
  pub few_edges : length targets ≤ max_edges
  pub room : file_length (length offsets - 1) (length targets) ≤ length file

module _ (offsets targets bytes : List ℕ) {number : ℕ} {file : List ℕ} (wrote : write_exit number file ≡ outcome_of_write offsets targets bytes) where
  -- with 0 the rows fit the list that was lent
  pub wrote_fitting : number ≡ 0 → Fitting offsets targets bytes
  unfolding outcome_of_write write_outcome_by
  wrote_fitting h =
      let passed = written_passed offsets targets bytes (sym (ap (λ (o : WriteOutcome). o.number) wrote) ∙ h) in
      let rows = accept_rows offsets targets passed.0 in
      let count = offsets_count offsets rows.rows.some in
      record {
        some = rows.rows.some;
        few_vertices = omega (arith, rows.few_vertices);
        few_edges = rows.few_edges;
        room = rw (sub-one (length offsets)) passed.1;
      }

  module _ (offsets₀ targets₀ marks₀ : List ℕ) where
    -- a refusal of the writer is handed on
    pub trip_refused : (number ≡ 0 → ⊥) → trip_exit number file offsets₀ targets₀ marks₀ ≡ outcome_of_trip offsets targets bytes offsets₀ targets₀ marks₀
    unfolding outcome_of_trip trip_after
    trip_refused h = rw (← wrote, ne_eqb number 0 h)

    -- with 0 the rest is the reader's
    pub trip_read : {answer : ReadAnswer} {offsets₁ targets₁ marks₁ : List ℕ} → number ≡ 0
        → read_exit answer offsets₁ targets₁ marks₁ ≡ outcome_of_read (take (file_length (length offsets - 1) (length targets)) file) offsets₀ targets₀ marks₀
        → trip_exit answer.number file offsets₁ targets₁ marks₁ ≡ outcome_of_trip offsets targets bytes offsets₀ targets₀ marks₀
    unfolding outcome_of_trip trip_after
    trip_read h read = rw (← wrote, h, ← sub-one (length offsets), ← read)

-- the reader's lists are long enough for these rows
pub record LongEnough (offsets targets offsets₀ targets₀ marks₀ : List ℕ) : Type 0 where
  pub starts : length offsets ≤ length offsets₀
  pub ends : length targets ≤ length targets₀
  pub marks : length targets ≤ length marks₀

-- what is written is read back: number 0, the rows, and zeros for marks
pub returned : (offsets targets bytes offsets₀ targets₀ marks₀ : List ℕ) → write_number offsets targets bytes ≡ 0 → LongEnough offsets targets offsets₀ targets₀ marks₀
    → outcome_of_trip offsets targets bytes offsets₀ targets₀ marks₀
    ≡ trip_exit 0 (overlay (encode (rows_of offsets targets)) bytes) (overlay offsets offsets₀) (overlay targets targets₀) (overlay (replicate (length targets) 0) marks₀)
unfolding outcome_of_write write_outcome_by
returned offsets targets bytes offsets₀ targets₀ marks₀ h long =
    let wrote : WriteOutcome = outcome_of_write offsets targets bytes in
    let back = written_read offsets targets bytes offsets₀ targets₀ marks₀ h long.starts long.ends long.marks in
    let file : wrote.file ≡ overlay (encode (rows_of offsets targets)) bytes = rw h in
    let bytes_read : file_length (row_count offsets) (length targets) ≡ file_length (length offsets - 1) (length targets) =
    ap (λ (n : ℕ). file_length n (length targets)) (sym (sub-one (length offsets))) in
    let read = sym back ∙ ap (λ (k : ℕ). outcome_of_read (take k wrote.file) offsets₀ targets₀ marks₀) bytes_read in
    sym (trip_read offsets targets bytes {number = wrote.number} {file = wrote.file} refl offsets₀ targets₀ marks₀ h read)
    ∙ ap (λ (f : List ℕ). trip_exit 0 f (overlay offsets offsets₀) (overlay targets targets₀) (overlay (replicate (length targets) 0) marks₀)) file
