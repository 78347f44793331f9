use Rattle.std.proofs.Common.{◌≡◌, true, false, set, Err, sym, refl, ap, ◌∙◌, arith, rules}
use Rattle.memory.specs.Cells.{same}
use Rattle.memory.specs.Rules.{open_limits}
use Rattle.packed_memory.specs.Words.{cells_of}
use Rattle.memory.proofs.Admitting.{cas_yes, cas_no, cas_outside, cas_unfit}
use Rattle.packed_memory.proofs.Packing.{packed_some, packed_none, words_length, words_get, words_set}
use Rattle.packed_memory.proofs.packed.PackedMemoryMemory.cas.Goals as goal

pub returns-then-i-counted_cells : goal.returns-then-i-counted_cells
returns-then-i-counted_cells g c =
    let v = g.V.ValueKind in
    let ws = c.args.self.now.words.now in
    let n = cas_outside v.coded (open_limits v.GREATEST_CODE) (cells_of v.decoded ws) c.args.i c.args.new.now c.args.old.now (omega (arith, words_length v.decoded ws)) in
    record { answer = ap Err c.no_cell.ensures ∙ sym n.0; after = sym n.1; kept = refl {a = open_limits v.GREATEST_CODE}; beyond = (refl {a = ws}, refl {a = c.args.self.now.words.ghost_name}) }

pub returns-in_default : goal.returns-in_default
returns-in_default g c =
    let v = g.V.ValueKind in
    let ws = c.args.self.now.words.now in
    let f = packed_none v.coded v.GREATEST_CODE c.args.new.now c.in_default.ensures.answer in
    let n = cas_unfit v.coded (open_limits v.GREATEST_CODE) (cells_of v.decoded ws) c.args.i c.args.new.now c.args.old.now (omega (arith, words_length v.decoded ws)) f in
    record { answer = ap Err c.unfit.ensures ∙ sym n.0; after = sym n.1; kept = refl {a = open_limits v.GREATEST_CODE}; beyond = (refl {a = ws}, refl {a = c.args.self.now.words.ghost_name}) }

pub returns-then-not-same : goal.returns-then-not-same
returns-then-not-same g c =
    let v = g.V.ValueKind in
    let ws = c.args.self.now.words.now in
    let i = c.args.i in
    let new = c.args.new.now in
    let old = c.args.old.now in
    let p = packed_some v.coded v.GREATEST_CODE new c.in-Some.new_word c.in-Some.ensures.answer in
    let e = words_get v.decoded ws i (omega arith) in
    let s : same v.coded c.unpack-found.result old ≡ false = search rules in
    let y = cas_no v.coded (open_limits v.GREATEST_CODE) (cells_of v.decoded ws) i new (omega (arith, words_length v.decoded ws)) p.0 old (ap (λ x. same v.coded x old) (e ∙ sym c.unpack-found.ensures) ∙ s) in
    record { answer = sym y.0; after = sym y.1; kept = refl {a = open_limits v.GREATEST_CODE}; beyond = (refl {a = ws}, refl {a = c.args.self.now.words.ghost_name}) }

pub returns : goal.returns
returns g c =
    let v = g.V.ValueKind in
    let ws = c.args.self.now.words.now in
    let i = c.args.i in
    let new = c.args.new.now in
    let old = c.args.old.now in
    let p = packed_some v.coded v.GREATEST_CODE new c.in-Some.new_word c.in-Some.ensures.answer in
    let e = words_get v.decoded ws i (omega arith) in
    let t : same v.coded c.unpack-found.result old ≡ true = search rules in
    let y = cas_yes v.coded (open_limits v.GREATEST_CODE) (cells_of v.decoded ws) i new (omega (arith, words_length v.decoded ws)) p.0 old (ap (λ x. same v.coded x old) (e ∙ sym c.unpack-found.ensures) ∙ t) in
    let s = words_set v.coded v.decoded v.GREATEST_CODE g.met.V.ValueKind.returned ws i new p.0 in
    let w = ap (set ws i) p.1 in
    record { answer = sym y.0; after = ap (cells_of v.decoded) w ∙ s ∙ sym y.1; kept = refl {a = open_limits v.GREATEST_CODE}; beyond = (w, refl {a = c.args.self.now.words.ghost_name}) }
