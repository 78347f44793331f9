use Rattle.std.proofs.Common.{arith}
use Rattle.memory.proofs.First.{first_length}
use Rattle.open_memory.proofs.OpenMemoryMemory.len.Goals as goal

pub returns : goal.returns
returns g c = omega (arith, first_length c.args.self.now.cells.now)
