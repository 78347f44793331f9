use Rattle.std.proofs.Common.{true, false, refl, rules}
use Rattle.std.proofs.lemmas.List.{get_or_read}
use Rattle.memory.specs.Rules.{open_limits, id_zero}
use Rattle.memory.proofs.First.{first_below}
use Rattle.memory.proofs.Tables.{swapped_found}
use Rattle.open_memory.proofs.OpenMemoryMemory.cas.Goals as goal

pub bounds-self-i : goal.bounds-self-i
bounds-self-i g c = first_below c.args.self.now.cells.now c.args.i c.in_ok-admit.ensures.passed.0

pub offset_bounds-self-i : goal.offset_bounds-self-i
offset_bounds-self-i g c = let h = first_below c.args.self.now.cells.now c.args.i c.in_ok-admit.ensures.passed.0 in search rules

pub bounds-self-i-2 : goal.bounds-self-i-2
bounds-self-i-2 g c = first_below c.args.self.now.cells.now c.args.i c.in_ok-admit.ensures.passed.0

pub offset_bounds-self-i-2 : goal.offset_bounds-self-i-2
offset_bounds-self-i-2 g c = let h = first_below c.args.self.now.cells.now c.args.i c.in_ok-admit.ensures.passed.0 in search rules

pub returns : goal.returns
returns g c =
    let cs = c.args.self.now.cells.now in
    let p = c.in_ok-admit.ensures.passed in
    let at = get_or_read cs c.args.i c.index-self-i.result (first_below cs c.args.i p.0) c.index-self-i.is id_zero in
    let s = swapped_found g.V.ValueKind.coded (open_limits g.V.ValueKind.GREATEST_CODE) cs c.args.i c.args.new.now p.0 p.1 c.args.old.now c.index-self-i.result true at (search rules) refl refl in
    record { answer = s.answer; after = s.after; kept = refl; beyond = (s.whole, refl) }

pub returns-then-not-same_cell : goal.returns-then-not-same_cell
returns-then-not-same_cell g c =
    let cs = c.args.self.now.cells.now in
    let p = c.in_ok-admit.ensures.passed in
    let at = get_or_read cs c.args.i c.index-self-i.result (first_below cs c.args.i p.0) c.index-self-i.is id_zero in
    let s = swapped_found g.V.ValueKind.coded (open_limits g.V.ValueKind.GREATEST_CODE) cs c.args.i c.args.new.now p.0 p.1 c.args.old.now c.index-self-i.result false at (search rules) refl refl in
    record { answer = s.answer; after = s.after; kept = refl; beyond = (s.whole, refl) }
