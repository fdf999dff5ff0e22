-- `writer::put_records` meets its contract: a turn stores record k as the file has it.
use mathlib.Core.Path.{◌≡◌, refl, sym, ap, ◌∙◌}
use mathlib.Core.List.{List}
use Prim.Native.Nat.{ℕ, ◌+◌, ◌*◌, ◌/◌, ◌%◌, ◌≤◌, ◌<◌}
use native.Mathlib.Numerals.{add-one}
use native.Mathlib.Omega.{arith}
use lib.ListN.{length, get_or, set}
use Rattle.graph.specs.Graph.{rows_of}
use Rattle.graph.specs.Encode.{file_words, encode}
use Rattle.writer.specs.Steps.{index_after}
use Rattle.writer.proofs.Encoding.{Written, same_index}
use Rattle.writer.proofs.Storing.{begun_put, begun_count, begun_all}
use Rattle.writer.proofs.WellFormedRows.{written_rows}
use Rattle.writer.proofs.put_records.Invariants.{Reached}
use Rattle.writer.proofs.put_records.Goals.{Start}
use Rattle.writer.proofs.put_records.Goals as goal

-- the two words of record k are stored, which is of a vertex whose row goes up to `end`
record_done : {offsets targets : List ℕ} {n : ℕ} (rows : Written offsets targets n) {old file : List ℕ} {vertex k end : ℕ} → Reached offsets targets n old file k
    → vertex < n → end ≡ get_or offsets (vertex + 1) 0 → get_or offsets vertex 0 ≤ k → k < end
    → (t x : ℕ) {one two : List ℕ} → t ≡ get_or targets k 0 → x ≡ index_after (k + 1) end
    → one ≡ set (set file (2 * (2 + n + 2 * k)) (t % 256)) (2 * (2 + n + 2 * k) + 1) (t / 256)
    → two ≡ set (set one (2 * (2 + n + 2 * k + 1)) (x % 256)) (2 * (2 + n + 2 * k + 1) + 1) (x / 256)
    → Reached offsets targets n old two (k + 1)
record_done {offsets} {targets} {n} rows {old} {file} {vertex} {k} done below e low high t x te xe one two =
    let words : List ℕ = file_words (rows_of offsets targets) in
    let p : ℕ = 2 + n + 2 * k in
    let inside : k < length targets = omega (arith, rows.below (vertex + 1)) in
    let here = rows.entry vertex k below low (omega arith) in
    let target : t ≡ get_or words p 0 = te ∙ sym here.fst in
    let next : x ≡ get_or words (p + 1) 0 = xe ∙ same_index refl e ∙ sym here.snd ∙ ap (λ (i : ℕ). get_or words i 0) (sym (add-one p)) in
    let first = begun_put done t (omega (arith, rows.size)) target one in
    begun_count (begun_put first x (omega (arith, rows.size)) next two) (omega arith)

-- what is known of the rows
rows : (c : Start) → Written c.args.offsets.now c.args.targets.now c.args.n
rows c = written_rows c.requires.well_formed

pub loop-vertex-init : goal.loop-vertex-init
unfolding encode
loop-vertex-init c =
    let known = rows (goal.at.loop-vertex-init c).Start in
    begun_count {i = 2 + c.args.n}
    (record {
      bytes = c.requires.file_value;
      room = omega (arith, known.size, c.requires.targets_in_bounds);
    })
    (omega (arith, known.from))

pub element-requires : goal.element-requires
element-requires c = omega (arith, (rows (goal.at.element-requires c).Start).below (c.loop-vertex.vertex + 1))

pub put-requires-clause-i_in_bounds : goal.put-requires-clause-i_in_bounds
put-requires-clause-i_in_bounds c =
    omega (arith, (rows (goal.at.put-requires-clause-i_in_bounds c).Start).below (c.loop-vertex.vertex + 1))

pub index_after-requires : goal.index_after-requires
index_after-requires c = omega (arith, (rows (goal.at.index_after-requires c).Start).below (c.loop-vertex.vertex + 1))

pub put-requires-in-loop-k-clause-i_in_bounds : goal.put-requires-in-loop-k-clause-i_in_bounds
put-requires-in-loop-k-clause-i_in_bounds c =
    omega (arith, (rows (goal.at.put-requires-in-loop-k-clause-i_in_bounds c).Start).below (c.loop-vertex.vertex + 1))

pub loop-k-preserved : goal.loop-k-preserved
loop-k-preserved c =
    record_done
    (rows (goal.at.loop-k-preserved c).Start)
    c.loop-k.invariant
    (omega arith)
    c.element-end.ensures.value
    (omega arith)
    c.loop-k-test.true
    c.element.result
    c.index_after.result
    c.element.ensures.value
    c.index_after.ensures.value
    c.put.ensures
    c.put-in-loop-k.ensures

pub loop-vertex-preserved : goal.loop-vertex-preserved
loop-vertex-preserved c =
    begun_count c.loop-k.invariant
    (omega (arith, (rows (goal.at.loop-vertex-preserved c).Start).rise c.loop-vertex.vertex (omega arith)))

pub returns : goal.returns
unfolding encode
returns c =
    let known = rows (goal.at.returns c).Start in
    let all : c.loop-vertex.vertex ≡ c.args.n = omega arith in
    let last = ap (λ (u : ℕ). get_or c.args.offsets.now u 0) all ∙ known.to in
    begun_all c.loop-vertex.invariant (omega (arith, known.size, last))
