use Rattle.std.proofs.Common.{length, refl, ap, arith}
use Rattle.memory.specs.Rules.{smaller_limits}
use Rattle.memory.proofs.Admitting.{store_length}
use Rattle.spliced_memory.proofs.Splices.{store_front, store_back}
use Rattle.spliced_memory.proofs.SplicedMemory.store.Goals as goal

pub returns-then-i-split : goal.returns-then-i-split
returns-then-i-split g c =
    let v = g.V.ValueKind in
    let xs = g.A.Memory.cells c.args.self.now.front in
    let ys = g.B.Memory.cells c.args.self.now.back in
    let l = g.A.Memory.limits c.args.self.now.front in
    let m = g.B.Memory.limits c.args.self.now.back in
    let p = c.in_ok-admit.ensures.passed in
    let e = c.store.ensures in
    let s = store_front xs ys c.args.i p.0 v.coded l m c.args.cell.now p.1 (omega arith) e.answer e.after in
    record { answer = s.answer; after = s.after; kept = ap (λ k. smaller_limits k m) e.kept; beyond = (s.whole, record { split = store_length v.coded l xs c.args.i c.args.cell.now e.after; front_kept = e.kept; back_kept = refl {a = m} }) }

pub returns-else-i-split : goal.returns-else-i-split
returns-else-i-split g c =
    let v = g.V.ValueKind in
    let xs = g.A.Memory.cells c.args.self.now.front in
    let ys = g.B.Memory.cells c.args.self.now.back in
    let l = g.A.Memory.limits c.args.self.now.front in
    let m = g.B.Memory.limits c.args.self.now.back in
    let p = c.in_ok-admit.ensures.passed in
    let e = c.store-else-i-split.ensures in
    let s = store_back xs ys c.args.i p.0 v.coded l m c.args.cell.now p.1 c.len-split.result c.len-split.ensures (omega arith) e.answer e.after in
    record { answer = s.answer; after = s.after; kept = ap (λ k. smaller_limits l k) e.kept; beyond = (s.whole, record { split = refl {a = length xs}; front_kept = refl {a = l}; back_kept = e.kept }) }
