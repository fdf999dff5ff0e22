-- `page::call::page` meets its contract: each return is one of the ways out, and what is promised besides follows from its outcome.
use mathlib.Core.Path.{◌≡◌, refl, sym, ◌∙◌}
use native.Mathlib.Omega.{arith}
use Rattle.numbers.specs.Told.{told}
use Rattle.numbers.proofs.Numbering.{whole_same, broken_other}
use Rattle.graph.specs.File.{vertex_count, edge_count}
use Rattle.graph.specs.Steps.{Sized}
use Rattle.verify.specs.Check.{CheckLent}
use Rattle.verify.specs.Promise.{lent_lists, Passed}
use Rattle.verify.proofs.Judging.{passed_sized, passed_distances, passed_parents}
use Rattle.page.proofs.CallFacts.{page_refused, page_short_lem, page_printed, page_on_paper}
use Rattle.page.proofs.call.page.Goals.{After-word-n, Else-refused, Start}
use Rattle.page.proofs.call.page.Goals as goal

-- the lists that were lent to the checker for writing
abbrev lent_of : Start → CheckLent
lent_of s =
    let a = s.args in
    lent_lists a.offsets.now a.targets.now a.marks.now

-- the checker found nothing
whole : (c : Else-refused) → told c.check-checked.result ≡ 0
whole c = whole_same _ _ c.check-checked.result (sym c.ne-refused.ensures ∙ c.if-refused.false)

pub returns-then-refused : goal.returns-then-refused
returns-then-refused c =
    let a = c.args in
    let e = page_refused a.file.now a.source a.distances.now a.parents.now (lent_of (goal.at.returns-then-refused c).Start) a.bytes.now c.check-checked.ensures.marks_after
    (broken_other _ _ c.check-checked.result refl (sym c.ne-refused.ensures ∙ c.if-refused.true)) in
    record {
      bytes_after = e;
      on_paper = page_on_paper a.file.now a.source a.distances.now a.parents.now (lent_of (goal.at.returns-then-refused c).Start) a.bytes.now e;
    }

-- what that tells of the input
passed : (c : Else-refused) → Passed c.args.file.now c.args.source c.args.distances.now c.args.parents.now (lent_of (goal.at.Else-refused c).Start)
passed c = (c.check-checked.ensures.judged.accepted (whole c)).0

-- n and m are within their sizes
sized : (c : Else-refused) → let file = c.args.file.now in Sized file (vertex_count file) (edge_count file)
sized c =
    let a = c.args in
    passed_sized a.file.now a.source a.distances.now a.parents.now (lent_of (goal.at.Else-refused c).Start) (passed c)

pub word-n-requires : goal.word-n-requires
word-n-requires c = omega (arith, (sized c).bytes)

-- n is the file's
counted : (c : After-word-n) → c.word-n.result ≡ vertex_count c.args.file.now
unfolding vertex_count
counted c = c.word-n.ensures.value

pub page_need-requires : goal.page_need-requires
page_need-requires c = omega (arith, counted c, (sized (goal.at.page_need-requires c).Else-refused).few_vertices)

pub returns-then-bytes-page_need : goal.returns-then-bytes-page_need
returns-then-bytes-page_need c =
    let a = c.args in
    let e = page_short_lem a.file.now a.source a.distances.now a.parents.now (lent_of (goal.at.returns-then-bytes-page_need c).Start) a.bytes.now c.check-checked.ensures.marks_after
    (whole (goal.at.returns-then-bytes-page_need c).Else-refused) (counted (goal.at.returns-then-bytes-page_need c).After-word-n) (omega (arith, c.page_need.ensures, c.if-bytes-page_need.true)) in
    record {
      bytes_after = e;
      on_paper = page_on_paper a.file.now a.source a.distances.now a.parents.now (lent_of (goal.at.returns-then-bytes-page_need c).Start) a.bytes.now e;
    }

pub put_pages-requires : goal.put_pages-requires
put_pages-requires c =
    let a = c.args in
    let far = passed_distances a.file.now a.source a.distances.now a.parents.now (lent_of (goal.at.put_pages-requires c).Start) (passed (goal.at.put_pages-requires c).Else-refused) in
    let up = passed_parents a.file.now a.source a.distances.now a.parents.now (lent_of (goal.at.put_pages-requires c).Start) (passed (goal.at.put_pages-requires c).Else-refused) in
    let n = counted (goal.at.put_pages-requires c).After-word-n in
    record {
      n_le_max_vertices = omega (arith, n, (sized (goal.at.put_pages-requires c).Else-refused).few_vertices);
      n_in_bounds = omega (arith, n, far);
      n_in_bounds_2 = omega (arith, n, up);
      n_in_bounds_3 = omega (arith, c.page_need.ensures, c.if-bytes-page_need.false);
    }

pub returns : goal.returns
returns c =
    let a = c.args in
    let e = page_printed a.file.now a.source a.distances.now a.parents.now (lent_of (goal.at.returns c).Start) a.bytes.now c.check-checked.ensures.marks_after
    (whole (goal.at.returns c).Else-refused) (counted (goal.at.returns c).After-word-n) (omega (arith, c.page_need.ensures, c.if-bytes-page_need.false)) c.put_pages.ensures.prints in
    record {
      bytes_after = e;
      on_paper = page_on_paper a.file.now a.source a.distances.now a.parents.now (lent_of (goal.at.returns c).Start) a.bytes.now e;
    }
