use Rattle.std.proofs.Common.{arith}
use Rattle.spliced_memory.proofs.Splices.{spliced_length}
use Rattle.spliced_memory.proofs.SplicedMemory.len.Goals as goal

pub returns : goal.returns
returns g c = omega (arith, spliced_length (g.A.Memory.cells c.args.self.now.front) (g.B.Memory.cells c.args.self.now.back))
