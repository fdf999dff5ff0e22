-- `workers::moves::advance` meets its contract, by cases of the phase. That a phase is known, and its mark has room, is what is required of it; the
-- check finds it in the calls of `look`, `mark` and `put`.
use lib.ListN.{length}
use Rattle.workers.proofs.RowFacts.{fits_as, advanced_look, advanced_mark, advanced_name}
use Rattle.workers.proofs.moves.advance.Goals as goal

pub returns-in-Holding-clause-by_index : goal.returns-in-Holding-clause-by_index
returns-in-Holding-clause-by_index c =
    let a = c.args in
    let p = c.in-Holding in
    λ offsets ground low fits.
    let ends = (fits_as offsets (length a.distances.now) p.is fits).ends in
    advanced_look a.distances.now ground a.phase fits a.layer a.parents.now p.vertex p.edge p.end
    c.look.result p.is (c.look.ensures offsets ends)

pub returns-in-InHand-clause-by_index : goal.returns-in-InHand-clause-by_index
returns-in-InHand-clause-by_index c =
    let a = c.args in
    let p = c.in-InHand in
    λ offsets ground low fits.
    advanced_mark a.distances.now ground a.phase fits a.layer a.parents.now p.vertex p.edge p.end p.target
    c.mark.new.distances low p.is c.mark.ensures.distances_after

pub returns-in-Marked-clause-by_index : goal.returns-in-Marked-clause-by_index
returns-in-Marked-clause-by_index c =
    let a = c.args in
    let p = c.in-Marked in
    λ offsets ground low fits.
    advanced_name a.distances.now ground a.phase fits a.layer a.parents.now p.vertex p.edge p.end p.target
    c.put.new.list p.is c.put.ensures
