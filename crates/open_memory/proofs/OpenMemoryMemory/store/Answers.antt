use Rattle.std.proofs.Common.{refl, rules}
use Rattle.memory.specs.Rules.{open_limits}
use Rattle.memory.proofs.First.{first_below}
use Rattle.memory.proofs.Tables.{stored}
use Rattle.open_memory.proofs.OpenMemoryMemory.store.Goals as goal

pub bounds-self-i : goal.bounds-self-i
bounds-self-i g c = first_below c.args.self.now.cells.now c.args.i c.in_ok-admit.ensures.passed.0

pub offset_bounds-self-i : goal.offset_bounds-self-i
offset_bounds-self-i g c = let h = first_below c.args.self.now.cells.now c.args.i c.in_ok-admit.ensures.passed.0 in search rules

pub returns-clause-after : goal.returns-clause-after
returns-clause-after g c =
    let v = g.V.ValueKind in
    let p = c.in_ok-admit.ensures.passed in
    (stored v.coded (open_limits v.GREATEST_CODE) c.args.self.now.cells.now c.args.i c.args.cell.now p.0 p.1 refl refl).after
