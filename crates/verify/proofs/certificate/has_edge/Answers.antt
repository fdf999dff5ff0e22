-- `verify::certificate::has_edge` meets its contract: its chain makes the test of each target.
use mathlib.Core.Path.{◌∙◌, sym}
use lib.Dec.{eqb}
use Rattle.std.proofs.Common.{rules, tests}
use Rattle.std.proofs.lemmas.Iterator.{YieldsList-from_slice}
use Rattle.std.proofs.lemmas.Iterator.Search.{any_from_yields_List}
use Rattle.verify.proofs.CertificateFacts.{elem_any}
use Rattle.verify.proofs.certificate.has_edge.Goals as goal

pub returns : goal.returns
returns c =
    any_from_yields_List (λ x. eqb c.args.vertex x) _ _ _ c.any.ensures.ran (YieldsList-from_slice c.args.row.now cc) (λ x b q k. search (rules, tests))
    ∙ sym (elem_any c.args.vertex c.args.row.now)
