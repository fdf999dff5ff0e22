-- `forwarding::file_size` meets its contract: n and m are the file's.
use native.Mathlib.Omega.{arith}
use Rattle.graph.specs.File.{vertex_count, edge_count}
use Rattle.forwarding.proofs.BehindFacts.{file_least}
use Rattle.forwarding.proofs.file_size.Goals as goal

pub returns : goal.returns
unfolding vertex_count edge_count
returns c = record {
  value = omega (arith, file_least c.args.bytes.now, c.word.ensures.value, c.word-2.ensures.value);
  upper_bound = omega arith;
}
