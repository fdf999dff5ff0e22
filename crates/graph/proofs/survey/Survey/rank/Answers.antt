-- `graph::survey::Survey::rank` meets its contract. The invariant is `Ranking`, `Ahead` of the record and of the next vertex's head, and that the
-- places from m on are as they were. The measure is what is left of the vertices and of the records.
use borrow.Author.Rules.{rules}
use native.Mathlib.Omega.{arith}
use mathlib.Core.Path.{◌≡◌, refl, ap, ◌∙◌}
use mathlib.Core.List.{List}
use Prim.Native.Nat.{ℕ, ◌+◌, ◌-◌, ◌<◌, min}
use lib.ListN.{length-set}
use lib.Seq.{drop-set-lt}
use Rattle.graph.proofs.RankFacts.{rank_start, rank_head, rank_again, rank_new, rank_room, rank_few, rank_full, rank_left}
use Rattle.numbers.specs.Numbers.{success, repeated, unreached}
use Rattle.graph.specs.File.{head_index}
use Rattle.graph.proofs.AheadFacts.{ahead_none, ahead_from, ahead_next, next_of_within, head_of_within}
use Rattle.graph.proofs.survey.Survey.rank.Goals.{Else-marks-index-ne0}
use Rattle.graph.proofs.survey.Survey.rank.Goals as goal

pub next_of-second-requires : goal.next_of-second-requires
next_of-second-requires c = omega (arith, head_of_within c.args.self.now.file.now c.args.self.now.scanned 0 c.head_of-head.ensures)

pub next_of-third-requires : goal.next_of-third-requires
next_of-third-requires c =
    let head = head_of_within c.args.self.now.file.now c.args.self.now.scanned 0 c.head_of-head.ensures in
    omega (arith, next_of_within c.args.self.now.file.now c.args.self.now.scanned c.head_of-head.result head c.next_of-second.ensures)

pub loop-index-init : goal.loop-index-init
loop-index-init c = (
  rank_start c.args.self.now.file.now c.args.marks.now c.requires.blank,
  ahead_none,
  c.head_of-head.ensures,
  ahead_from c.args.self.now.file.now c.args.self.now.scanned (head_of_within c.args.self.now.file.now c.args.self.now.scanned 0 c.head_of-head.ensures)
      c.next_of-second.ensures c.next_of-third.ensures,
  refl,
  refl,
)

pub next_of-second-requires-then-index-eq0 : goal.next_of-second-requires-then-index-eq0
next_of-second-requires-then-index-eq0 c = omega (arith, head_of_within c.args.self.now.file.now c.args.self.now.scanned (c.loop-index.vertex + 1) c.head_of-head-then-index-eq0.ensures)

pub next_of-third-requires-then-index-eq0 : goal.next_of-third-requires-then-index-eq0
next_of-third-requires-then-index-eq0 c =
    let head = head_of_within c.args.self.now.file.now c.args.self.now.scanned (c.loop-index.vertex + 1) c.head_of-head-then-index-eq0.ensures in
    omega (arith, next_of_within c.args.self.now.file.now c.args.self.now.scanned c.head_of-head-then-index-eq0.result head c.next_of-second-then-index-eq0.ensures)

pub loop-index-preserved-then-index-eq0 : goal.loop-index-preserved-then-index-eq0
loop-index-preserved-then-index-eq0 c =
    let file : List ℕ = c.args.self.now.file.now in
    let vertex : ℕ = c.loop-index.vertex in
    let inv = c.loop-index.invariant in
    let room : vertex < c.args.self.now.vertices = search rules in
    let same : min vertex (c.args.self.now.vertices - 1) ≡ vertex = omega arith in (
      rank_head file c.args.self.now.scanned c.loop-index.marks inv.0 c.if-index-eq0.true room
          (inv.2 ∙ ap (head_index file) same),
      inv.3,
      c.head_of-head-then-index-eq0.ensures,
      ahead_from file c.args.self.now.scanned (head_of_within file c.args.self.now.scanned (vertex + 1) c.head_of-head-then-index-eq0.ensures)
          c.next_of-second-then-index-eq0.ensures c.next_of-third-then-index-eq0.ensures,
      inv.4,
      inv.5,
    )

pub returns-then-marks-index-ne0 : goal.returns-then-marks-index-ne0
returns-then-marks-index-ne0 c = record {
  value = rank_again c.args.self.now.file.now c.args.self.now.scanned c.loop-index.marks c.loop-index.invariant.0 c.if-index-eq0.false c.if-marks-index-ne0.true;
  ranked = λ (e : repeated ≡ 0). absurd (omega arith);
  marks_unchanged = c.loop-index.invariant.4;
}

-- the count is below m where a new record is met
room : (c : Else-marks-index-ne0) → c.loop-index.count
    < c.args.self.now.edges
room c =
    rank_room c.args.self.now.file.now c.args.self.now.scanned c.loop-index.marks c.loop-index.invariant.0 c.if-index-eq0.false
    (omega (arith, c.loop-index.invariant.5)) c.if-marks-index-ne0.false

pub overflow_add-count : goal.overflow_add-count
overflow_add-count c = omega (arith, room c)

pub overflow_cast-marks : goal.overflow_cast-marks
overflow_cast-marks c = omega (arith, room c)

pub loop-index-smaller : goal.loop-index-smaller
loop-index-smaller c = omega (arith, room (goal.at.loop-index-smaller c).Else-marks-index-ne0)

pub loop-index-preserved : goal.loop-index-preserved
loop-index-preserved c =
    let marks : List ℕ = c.loop-index.marks in
    let index : ℕ = c.loop-index.index in (
      rank_new c.args.self.now.file.now c.args.self.now.scanned marks c.loop-index.invariant.0 c.if-index-eq0.false
          (omega (arith, c.loop-index.invariant.5)) c.if-marks-index-ne0.false (c.loop-index.invariant.1.to_second c.if-index-eq0.false),
      ahead_next c.args.self.now.file.now c.args.self.now.scanned c.loop-index.invariant.1 c.if-index-eq0.false c.next_of-after.ensures,
      c.loop-index.invariant.2,
      c.loop-index.invariant.3,
      drop-set-lt c.args.self.now.edges marks (index - 1) (c.loop-index.count + 1) (omega (arith, c.loop-index.invariant.0.inside)) ∙ c.loop-index.invariant.4,
      length-set marks (index - 1) (c.loop-index.count + 1) ∙ c.loop-index.invariant.5,
    )

pub returns-then-count-self : goal.returns-then-count-self
returns-then-count-self c =
    record {
      value = rank_few c.args.self.now.file.now c.args.self.now.scanned c.loop-index.marks c.loop-index.invariant.0 c.if-index-eq0.true
          c.if-vertex-self.true c.if-count-self.true;
      ranked = λ (e : unreached ≡ 0). absurd (omega arith);
      marks_unchanged = c.loop-index.invariant.4;
    }

pub returns : goal.returns
returns c =
    record {
      value = rank_full c.args.self.now.file.now c.args.self.now.scanned c.loop-index.marks c.loop-index.invariant.0 c.if-index-eq0.true
          c.if-vertex-self.true c.if-count-self.false;
      ranked = λ (e : success ≡ 0). rank_left c.args.self.now.file.now c.args.self.now.scanned c.loop-index.marks c.loop-index.invariant.0 c.if-index-eq0.true
          c.if-vertex-self.true;
      marks_unchanged = c.loop-index.invariant.4;
    }
