-- `engine::run::run` meets its contract. The invariant: the engine's values are those of the model's run over the bytes so far (Going).
use Rattle.engine.proofs.PlayingFacts.{Going}
use Rattle.engine.proofs.StartFacts.{given_by}
use Rattle.engine.proofs.run.run.Given as goal

abbrev pub invariant-loop-used : goal.invariant-loop-used
invariant-loop-used l = Going (given_by l.source l.workers l.schedule l.offsets l.targets l.initial.distances l.initial.left l.initial.right l.initial.values)
    l.distances l.parents l.histogram l.left l.right l.values l.inputs l.outputs l.phases l.pending l.found l.used l.effective l.layer
