use Rattle.std.proofs.Common.{◌≡◌, ◌-◌, ◌∙◌, arith}
use Rattle.memory.specs.Rules.{load_answer}
use Rattle.spliced_memory.proofs.Splices.{load_front, load_back}
use Rattle.spliced_memory.proofs.SplicedMemory.load.Goals as goal

pub returns-then-i-split : goal.returns-then-i-split
returns-then-i-split g c =
    let xs = g.A.Memory.cells c.args.self.now.front in
    let ys = g.B.Memory.cells c.args.self.now.back in
    let e : c.load.result ≡ load_answer xs c.args.i = c.load.ensures in
    e ∙ load_front xs ys c.args.i (omega arith) (omega arith)

pub returns-else-i-split : goal.returns-else-i-split
returns-else-i-split g c =
    let xs = g.A.Memory.cells c.args.self.now.front in
    let ys = g.B.Memory.cells c.args.self.now.back in
    let e : c.load-else-i-split.result ≡ load_answer ys (c.args.i - c.len-split.result) = c.load-else-i-split.ensures in
    e ∙ load_back xs ys c.args.i (omega arith) c.len-split.result c.len-split.ensures (omega arith)
