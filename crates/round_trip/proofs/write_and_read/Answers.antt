-- `round_trip::write_and_read` meets its contract: what the two calls ensure, one after the other.
use native.Mathlib.Omega.{arith}
use mathlib.Core.Path.{refl, sym}
use lib.Seq.{length-take-le}
use Rattle.numbers.proofs.Numbering.{number_some, left_by}
use Rattle.round_trip.proofs.Facts.{Fitting, wrote_fitting, trip_refused, trip_read}
use Rattle.round_trip.proofs.write_and_read.Goals.{In_ok-write}
use Rattle.round_trip.proofs.write_and_read.Goals as goal

pub returns-in_err-write : goal.returns-in_err-write
returns-in_err-write c =
    let a = c.args in
    let refused = c.in_err-write.field-0.0 in
    rw (left_by refused c.from_residual.result c.from_residual.ensures.1)
    (trip_refused a.offsets.now a.targets.now a.file.now c.in_err-write.ensures a.offsets_read.now a.targets_read.now a.marks.now (number_some refused))

-- what was written fits
fitting : (c : In_ok-write) → Fitting c.args.offsets.now c.args.targets.now c.args.file.now
fitting c = wrote_fitting _ _ _ c.in_ok-write.ensures refl

pub overflow_sub-n : goal.overflow_sub-n
overflow_sub-n c = (fitting c).some

pub overflow_mul-end-2 : goal.overflow_mul-end-2
overflow_mul-end-2 c = omega (arith, fitting c)

pub slice_bounds-read-end : goal.slice_bounds-read-end
slice_bounds-read-end c = omega (arith, fitting c, c.write.auto.file)

pub slice_bounds-read-end-2 : goal.slice_bounds-read-end-2
slice_bounds-read-end-2 c = sym (length-take-le _ _ (omega (arith, fitting c, c.write.auto.file)))

pub returns-in_err-read : goal.returns-in_err-read
returns-in_err-read c =
    let a = c.args in
    let refused = c.in_err-read.field-0.0 in
    rw (left_by refused c.from_residual-in_err-read.result c.from_residual-in_err-read.ensures.1)
    (trip_read a.offsets.now a.targets.now a.file.now c.in_ok-write.ensures a.offsets_read.now a.targets_read.now a.marks.now refl c.in_err-read.ensures)

pub returns : goal.returns
returns c =
    let a = c.args in
    trip_read a.offsets.now a.targets.now a.file.now c.in_ok-write.ensures a.offsets_read.now a.targets_read.now a.marks.now refl c.in_ok-read.ensures
