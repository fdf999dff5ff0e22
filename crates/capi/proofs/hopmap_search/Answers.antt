-- `capi::hopmap_search` meets its contract: the search's answer is small, and its list holds it.
use Rattle.model.specs.Call.{Lent}
use Rattle.search.specs.Promise.{lent_lists}
use Rattle.capi.proofs.Small.{search_small}
use mathlib.Core.Path.{◌∙◌}
use Rattle.capi.proofs.Told.{search_told}
use Rattle.capi.proofs.hopmap_search.Goals.{Start}
use Rattle.capi.proofs.hopmap_search.Goals as goal

-- the lists that were lent
abbrev lent_of : Start → Lent
lent_of s =
    let a = s.args in
    lent_lists a.offsets.now a.targets.now a.marks.now a.distances.now a.parents.now a.census.now a.left.now a.right.now
    a.values.now

pub tell_search-requires : goal.tell_search-requires
tell_search-requires c =
    let a = c.args in
    search_small a.file.now a.source a.workers a.schedule.now (lent_of (goal.at.tell_search-requires c).Start) c.search-found.ensures.values_after

pub returns : goal.returns
returns c =
    let a = c.args in
    let promised = c.search-found.ensures in
    let facts =
    search_told a.file.now a.source a.workers a.schedule.now (lent_of (goal.at.returns c).Start) c.tell_search.ensures
    (promised.values_after, promised.kept) in
    record { values_after = facts.0; kept = facts.1.0; value = c.number.ensures ∙ facts.1.1 }
