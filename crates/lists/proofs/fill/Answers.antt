-- `lists::fill` meets its contract: the first `count` places are filled, the rest is as it was.
use Rattle.std.proofs.Common.{rules}
use Rattle.lists.proofs.Overlay.{part_length, part_laid}
use Rattle.lists.proofs.fill.Goals as goal

pub returns : goal.returns
returns c =
    let a = c.args in
    let long = part_length a.count a.list.now c.requires in
    part_laid a.count a.list.now c.requires c.fill.ensures.len (rw long (c.fill.ensures.after (search rules)))
