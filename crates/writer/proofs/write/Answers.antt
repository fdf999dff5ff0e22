-- `writer::write` meets its contract: each way out has the number of the tests that led there, and only the last one, behind both
-- stores, leaves other bytes.
use mathlib.Core.Bool.{true, false}
use mathlib.Core.Path.{◌≡◌, sym, ap, ◌∙◌}
use mathlib.Core.List.{List}
use Prim.Native.Nat.{ℕ, ◌+◌, ◌*◌, ◌-◌, ◌≤◌, ◌<◌}
use native.Mathlib.Numerals.{sub-one}
use native.Mathlib.Omega.{arith}
use lib.ListN.{length, take}
use borrow.Author.Tests.{lt-ltb, le-ltb}
use Rattle.numbers.specs.Numbers.{success, bad_rows, short_list}
use Rattle.numbers.specs.Refusals.{first}
use Rattle.lists.specs.Lists.{overlay}
use Rattle.lists.proofs.Overlay.{overlay_again, overlay_here}
use Rattle.lists.proofs.Rows.{length_take_most}
use Rattle.graph.specs.Graph.{rows_of}
use Rattle.graph.specs.File.{file_length}
use Rattle.graph.specs.Encode.{encode}
use Rattle.graph.specs.Write.{row_count, write_refusals, write_number, write_outcome_by, outcome_of_write, write_exit}
use Rattle.writer.specs.Steps.{WellFormed}
use Rattle.graph.specs.Write.{malformed as Write·malformed}
use Rattle.writer.proofs.WellFormedRows.{well_formed}
use Rattle.writer.proofs.write.Goals.{Else-malformed}
use Rattle.writer.proofs.write.Goals as goal

module _ (offsets targets file : List ℕ) where
  -- 11
  bad-rows : Write·malformed offsets targets ≡ true → write_exit bad_rows file ≡ outcome_of_write offsets targets file
  unfolding outcome_of_write write_outcome_by write_number write_refusals first
  bad-rows h = simp h

  module _ (good : Write·malformed offsets targets ≡ false) where
    -- the need, as the contract and as the code count vertices
    need : file_length (length offsets - 1) (length targets) ≡ file_length (row_count offsets) (length targets)
    need = ap (λ (n : ℕ). file_length n (length targets)) (sub-one (length offsets))

    -- 20
    short : length file < file_length (length offsets - 1) (length targets) → write_exit short_list file ≡ outcome_of_write offsets targets file
    unfolding outcome_of_write write_outcome_by write_number write_refusals first
    short h = simp (good, ← need, lt-ltb _ _ h)

    -- 0
    whole : {heads put : List ℕ} → file_length (length offsets - 1) (length targets) ≤ length file
        → heads ≡ overlay (take (2 * (2 + (length offsets - 1))) (encode (rows_of offsets targets))) file
        → put ≡ overlay (encode (rows_of offsets targets)) heads
        → write_exit success put ≡ outcome_of_write offsets targets file
    unfolding outcome_of_write write_outcome_by write_number write_refusals first
    whole h a b =
        let bytes : List ℕ = encode (rows_of offsets targets) in
        let part : List ℕ = take (2 * (2 + (length offsets - 1))) bytes in
        let all = b ∙ ap (overlay bytes) a ∙ overlay_again bytes part file (length_take_most (2 * (2 + (length offsets - 1))) bytes) in
        simp (good, ← need, le-ltb _ _ h, all)

pub returns-then-malformed : goal.returns-then-malformed
returns-then-malformed c = bad-rows _ _ _ (sym c.malformed.ensures ∙ c.if-malformed.true)

-- the rows are not malformed
good : (c : Else-malformed) → Write·malformed c.args.offsets.now c.args.targets.now ≡ false
good c = sym c.malformed.ensures ∙ c.if-malformed.false

rows : (c : Else-malformed)
    → WellFormed c.args.offsets.now c.args.targets.now (length c.args.offsets.now - 1)
rows c = well_formed _ _ (good c)

pub overflow_sub-n : goal.overflow_sub-n
overflow_sub-n c = omega (arith, rows c)

pub overflow_mul-n : goal.overflow_mul-n
overflow_mul-n c = omega (arith, rows c)

pub returns-then-file-n : goal.returns-then-file-n
returns-then-file-n c = short _ _ _ (good (goal.at.returns-then-file-n c).Else-malformed) c.if-file-n.true

pub put_heads-requires : goal.put_heads-requires
put_heads-requires c = record {
  well_formed = rows (goal.at.put_heads-requires c).Else-malformed;
  targets_in_bounds = c.if-file-n.false;
}

pub put_records-requires : goal.put_records-requires
put_records-requires c = record {
  well_formed = rows (goal.at.put_records-requires c).Else-malformed;
  targets_in_bounds = omega (arith, c.if-file-n.false, c.put_heads.auto.file);
  file_value = overlay_here _ _ c.put_heads.ensures;
}

pub returns : goal.returns
returns c = whole _ _ _ (good (goal.at.returns c).Else-malformed) c.if-file-n.false c.put_heads.ensures c.put_records.ensures
