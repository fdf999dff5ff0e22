-- `page::layout::put_pages` meets its contract: the pages grow vertex by vertex.
use mathlib.Core.Path.{refl}
use borrow.Author.Rules.{rules}
use Rattle.text.proofs.PrintFacts.{prints_none, prints_same}
use Rattle.page.proofs.PageFacts.{pages_none, prints_entry}
use Rattle.page.proofs.layout.put_pages.Goals as goal

pub loop-vertex-init : goal.loop-vertex-init
loop-vertex-init c =
    let a = c.args in
    (refl, prints_same (prints_none a.output.now refl) (pages_none a.distances.now a.parents.now))

pub loop-vertex-preserved : goal.loop-vertex-preserved
loop-vertex-preserved c =
    let a = c.args in (
      search rules,
      prints_entry c.loop-vertex.vertex a.distances.now a.parents.now refl
          refl c.loop-vertex.invariant.1 c.put_entry-next.ensures.prints,
    )
