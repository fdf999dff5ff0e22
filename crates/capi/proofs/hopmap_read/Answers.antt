-- `capi::hopmap_read` meets its contract: the reader's answer is small, and its list holds it.
use Rattle.capi.proofs.Small.{read_small}
use mathlib.Core.Path.{◌∙◌}
use Rattle.capi.proofs.Told.{read_number_told, read_told}
use Rattle.capi.proofs.hopmap_read.Goals as goal

pub tell_read-requires : goal.tell_read-requires
tell_read-requires c =
    let a = c.args in
    read_small a.file.now a.offsets.now a.targets.now a.marks.now c.read-read.ensures

pub returns : goal.returns
returns c =
    let facts = read_told c.tell_read.ensures c.read-read.ensures in
    record {
      marks_after = facts.0;
      value = c.told.ensures ∙ read_number_told c.read-read.result ∙ facts.1;
    }
