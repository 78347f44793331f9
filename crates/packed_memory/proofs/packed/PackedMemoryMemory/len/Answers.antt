use Rattle.std.proofs.Common.{arith}
use Rattle.packed_memory.proofs.Packing.{words_length}
use Rattle.packed_memory.proofs.packed.PackedMemoryMemory.len.Goals as goal

pub returns : goal.returns
returns g c = omega (arith, words_length g.V.ValueKind.decoded c.args.self.now.words.now)
