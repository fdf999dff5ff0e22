-- `graph::survey::Survey::unchain` meets its contract: the walk that ranks starts from zeros, what it finds decides whether rows are written, and zeros
-- laid over what it leaves are zeros laid over what was there before.
use borrow.Author.Tests.{ne_eqb}
use mathlib.Core.Path.{◌≡◌, sym, ap, ◌∙◌}
use mathlib.Core.Bool.{cond}
use mathlib.Core.List.{List}
use Prim.Native.Nat.{ℕ}
use native.Mathlib.Nat.{le_of_eq}
use lib.ListN.{length, get_or, drop, replicate, length-replicate}
use Rattle.lists.specs.Lists.{overlay}
use Rattle.lists.proofs.Overlay.{drop_overlay, overlay_kept, overlay_zeros}
use Rattle.numbers.specs.Told.{told}
use Rattle.graph.specs.Graph.{offsets_of, targets_of}
use Rattle.graph.specs.File.{graph_of}
use Rattle.graph.specs.Read.{writes_rows}
use Rattle.graph.proofs.survey.Survey.unchain.Goals.{then-whole, else-whole}
use Rattle.graph.proofs.survey.Survey.unchain.Goals as goal

-- rows are written with 0
written : (number : ℕ) (new old : List ℕ) {list : List ℕ} → number ≡ 0 → list ≡ new → list ≡ cond (writes_rows number) new old
unfolding writes_rows
written number new old h e = rw h e

-- and with no refusal
unwritten : (number : ℕ) (new old : List ℕ) {list : List ℕ} → (number ≡ 0 → ⊥) → list ≡ old → list ≡ cond (writes_rows number) new old
unfolding writes_rows
unwritten number new old h e = rw (ne_eqb number 0 h) e

-- zeros laid over a list that is, past them, as the list was
cleared_again : (m : ℕ) (marks marked : List ℕ) {zeros : List ℕ} → zeros ≡ overlay (replicate m 0) marks → drop m marked ≡ drop m zeros
    → overlay (replicate m 0) marked ≡ overlay (replicate m 0) marks
cleared_again m marks marked {zeros} e k =
    let long : length {A = ℕ} (replicate m 0) ≡ m = length-replicate m 0 in
    overlay_kept (replicate m 0) marks marked (rw long (k ∙ ap (λ (l : List ℕ). drop m l) e ∙ drop_overlay (replicate m 0) marks m (le_of_eq long)))

pub rank-ranked-requires-clause-blank : goal.rank-ranked-requires-clause-blank
rank-ranked-requires-clause-blank c = λ i h. ap (λ (l : List ℕ). get_or l i 0) c.clear.ensures ∙ overlay_zeros c.args.self.now.edges c.args.marks.now i h

pub returns : goal.returns
returns c =
    let number = told c.rank-ranked.result in
    let left : (c.if-whole.offsets ≡ cond (writes_rows number) (overlay (offsets_of (graph_of c.args.self.now.file.now)) c.args.offsets.now) c.args.offsets.now)
    × (c.if-whole.targets ≡ cond (writes_rows number) (overlay (targets_of (graph_of c.args.self.now.file.now)) c.args.targets.now) c.args.targets.now) =
    elim c.if-whole.branch [
      | then-whole w ↦
          let zero = sym c.told-number.ensures ∙ w.if-whole.true in
          (written number _ _ zero (w.offsets-is ∙ w.write_offsets.ensures), written number _ _ zero (w.targets-is ∙ w.write_targets.ensures))
      | else-whole w ↦
          let other = λ (e : number ≡ 0). w.if-whole.false (c.told-number.ensures ∙ e) in
          (unwritten number _ _ other w.offsets-is, unwritten number _ _ other w.targets-is)
    ] in record {
      judged = c.rank-ranked.ensures.value;
      starts = left.0;
      ends = left.1;
      cleared = c.clear-2.ensures ∙ cleared_again c.args.self.now.edges c.args.marks.now c.rank-ranked.new.marks c.clear.ensures c.rank-ranked.ensures.marks_unchanged;
    }
