-- `page_report::input::copy_words` meets its contract: the places that are written hold the words, place by place.
use mathlib.Core.Path.{◌≡◌, sym, ◌∙◌}
use mathlib.Core.List.{List}
use Prim.Native.Nat.{ℕ, ◌<◌}
use native.Mathlib.Omega.{arith}
use lib.ListN.{length}
use lib.Seq.{length-take-le, ext_get_or}
use Rattle.lists.proofs.Overlay.{part_laid}
use Rattle.graph.specs.File.{words_at}
use Rattle.graph.proofs.WordRuns.{length_words, word_run}
use Rattle.page_report.proofs.input.copy_words.Goals as goal

pub returns : goal.returns
returns c =
    let a = c.args in
    let words : List ℕ = words_at a.input.now a.place 1 a.count in
    let size : length c.loop-i.x-items ≡ a.count = c.loop-i.auto.x-items ∙ length-take-le a.count a.list.now c.requires.count_in_bounds_2 in
    part_laid a.count a.list.now c.requires.count_in_bounds_2 c.loop-i.auto.x-items
    (ext_get_or 0 c.loop-i.x-items words (size ∙ sym (length_words a.input.now a.place 1 a.count)) (λ j h.
    let below : j < a.count = omega arith in
    c.loop-i.invariant j (omega arith) ∙ sym (word_run a.input.now a.place a.count j below)))
