use Rattle.std.proofs.Common.{set, Err, sym, refl, ap, ◌∙◌, arith}
use Rattle.memory.specs.Rules.{open_limits}
use Rattle.packed_memory.specs.Words.{cells_of}
use Rattle.memory.proofs.Admitting.{store_yes, store_outside, store_unfit}
use Rattle.packed_memory.proofs.Packing.{packed_some, packed_none, words_length, words_set}
use Rattle.packed_memory.proofs.packed.PackedMemoryMemory.store.Goals as goal

pub returns-then-i-counted_cells : goal.returns-then-i-counted_cells
returns-then-i-counted_cells g c =
    let v = g.V.ValueKind in
    let ws = c.args.self.now.words.now in
    let n = store_outside v.coded (open_limits v.GREATEST_CODE) (cells_of v.decoded ws) c.args.i c.args.cell.now (omega (arith, words_length v.decoded ws)) in
    record { answer = ap Err c.no_cell.ensures ∙ sym n.0; after = sym n.1; kept = refl {a = open_limits v.GREATEST_CODE}; beyond = (refl {a = ws}, refl {a = c.args.self.now.words.ghost_name}) }

pub returns-in_default : goal.returns-in_default
returns-in_default g c =
    let v = g.V.ValueKind in
    let ws = c.args.self.now.words.now in
    let f = packed_none v.coded v.GREATEST_CODE c.args.cell.now c.in_default.ensures.answer in
    let n = store_unfit v.coded (open_limits v.GREATEST_CODE) (cells_of v.decoded ws) c.args.i c.args.cell.now (omega (arith, words_length v.decoded ws)) f in
    record { answer = ap Err c.unfit.ensures ∙ sym n.0; after = sym n.1; kept = refl {a = open_limits v.GREATEST_CODE}; beyond = (refl {a = ws}, refl {a = c.args.self.now.words.ghost_name}) }

pub returns : goal.returns
returns g c =
    let v = g.V.ValueKind in
    let ws = c.args.self.now.words.now in
    let i = c.args.i in
    let cell = c.args.cell.now in
    let p = packed_some v.coded v.GREATEST_CODE cell c.in-Some.word c.in-Some.ensures.answer in
    let y = store_yes v.coded (open_limits v.GREATEST_CODE) (cells_of v.decoded ws) i cell (omega (arith, words_length v.decoded ws)) p.0 in
    let s = words_set v.coded v.decoded v.GREATEST_CODE g.met.V.ValueKind.returned ws i cell p.0 in
    let w = ap (set ws i) p.1 in
    record { answer = sym y.0; after = ap (cells_of v.decoded) w ∙ s ∙ sym y.1; kept = refl {a = open_limits v.GREATEST_CODE}; beyond = (w, refl {a = c.args.self.now.words.ghost_name}) }
