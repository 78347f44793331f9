use Rattle.std.proofs.Common.{length, refl, ap, arith}
use Rattle.memory.specs.Rules.{smaller_limits}
use Rattle.memory.proofs.Admitting.{cas_length}
use Rattle.spliced_memory.proofs.Splices.{cas_front, cas_back}
use Rattle.spliced_memory.proofs.SplicedMemory.cas.Goals as goal

pub returns-then-i-split : goal.returns-then-i-split
returns-then-i-split g c =
    let v = g.V.ValueKind in
    let xs = g.A.Memory.cells c.args.self.now.front in
    let ys = g.B.Memory.cells c.args.self.now.back in
    let l = g.A.Memory.limits c.args.self.now.front in
    let m = g.B.Memory.limits c.args.self.now.back in
    let p = c.in_ok-admit.ensures.passed in
    let e = c.cas.ensures in
    let s = cas_front xs ys c.args.i p.0 v.coded l m c.args.new.now p.1 c.args.old.now (omega arith) e.answer e.after in
    record { answer = s.answer; after = s.after; kept = ap (λ k. smaller_limits k m) e.kept; beyond = (s.whole, record { split = cas_length v.coded l xs c.args.i c.args.new.now c.args.old.now e.after; front_kept = e.kept; back_kept = refl {a = m} }) }

pub returns-else-i-split : goal.returns-else-i-split
returns-else-i-split g c =
    let v = g.V.ValueKind in
    let xs = g.A.Memory.cells c.args.self.now.front in
    let ys = g.B.Memory.cells c.args.self.now.back in
    let l = g.A.Memory.limits c.args.self.now.front in
    let m = g.B.Memory.limits c.args.self.now.back in
    let p = c.in_ok-admit.ensures.passed in
    let e = c.cas-else-i-split.ensures in
    let s = cas_back xs ys c.args.i p.0 v.coded l m c.args.new.now p.1 c.args.old.now c.len-split.result c.len-split.ensures (omega arith) e.answer e.after in
    record { answer = s.answer; after = s.after; kept = ap (λ k. smaller_limits l k) e.kept; beyond = (s.whole, record { split = refl {a = length xs}; front_kept = refl {a = l}; back_kept = e.kept }) }
