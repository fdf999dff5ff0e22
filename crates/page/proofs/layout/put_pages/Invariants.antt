-- The loop's invariant: the pages of the vertices passed are printed.
use mathlib.Core.Path.{◌≡◌}
use Rattle.text.specs.Printed.{Prints}
use Rattle.page.specs.Layout.{page_text, page_need}
use Rattle.page.proofs.layout.put_pages.Given as goal

abbrev pub invariant-loop-vertex : goal.invariant-loop-vertex
invariant-loop-vertex l = (l.next ≡ page_need l.vertex)
    × Prints (page_text l.vertex l.distances l.parents) l.initial.output 0 l.output l.next
