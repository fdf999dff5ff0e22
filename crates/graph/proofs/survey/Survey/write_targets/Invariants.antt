-- `graph::survey::Survey::write_targets` meets its contract. The invariant is `Targets`.
use Rattle.graph.proofs.RowFacts.{Targets}
use Rattle.graph.proofs.survey.Survey.write_targets.Given as goal

abbrev pub invariant-loop-i : goal.invariant-loop-i
invariant-loop-i l = Targets l.self.file.now l.initial.targets l.targets l.i
