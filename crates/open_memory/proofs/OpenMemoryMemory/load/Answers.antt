use Rattle.std.proofs.Common.{Ok, sym, ap, ◌∙◌, arith, rules}
use Rattle.std.proofs.lemmas.List.{get_or_read}
use Rattle.memory.specs.Rules.{first_cells, id_zero}
use Rattle.memory.proofs.First.{first_below, first_at}
use Rattle.memory.proofs.Admitting.{load_yes}
use Rattle.open_memory.proofs.OpenMemoryMemory.load.Goals as goal

pub bounds-self-i : goal.bounds-self-i
bounds-self-i g c = first_below c.args.self.now.cells.now c.args.i (omega arith)

pub offset_bounds-self-i : goal.offset_bounds-self-i
offset_bounds-self-i g c = let h = first_below c.args.self.now.cells.now c.args.i (omega arith) in search rules

pub returns : goal.returns
returns g c =
    let cs = c.args.self.now.cells.now in
    let below = first_below cs c.args.i (omega arith) in
    ap Ok (sym c.index-self-i.is ∙ get_or_read cs c.args.i c.index-self-i.result below c.index-self-i.is id_zero ∙ sym (first_at cs c.args.i (omega arith)))
    ∙ sym (load_yes (first_cells cs) c.args.i (omega arith))
