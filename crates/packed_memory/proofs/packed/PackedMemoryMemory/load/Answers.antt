use Rattle.std.proofs.Common.{◌≡◌, get_or, Ok, Err, sym, ap, ◌∙◌, arith}
use Rattle.packed_memory.specs.Words.{cell_of, cells_of}
use Rattle.memory.proofs.Admitting.{load_yes, load_no}
use Rattle.packed_memory.proofs.Packing.{words_length, words_get}
use Rattle.packed_memory.proofs.packed.PackedMemoryMemory.load.Goals as goal

pub returns-then-i-counted_cells : goal.returns-then-i-counted_cells
returns-then-i-counted_cells g c =
    let d = g.V.ValueKind.decoded in
    let ws = c.args.self.now.words.now in
    ap Err c.no_cell.ensures ∙ sym (load_no (cells_of d ws) c.args.i (omega (arith, words_length d ws)))

pub returns : goal.returns
returns g c =
    let d = g.V.ValueKind.decoded in
    let ws = c.args.self.now.words.now in
    let u : c.unpack.result ≡ cell_of d (get_or ws c.args.i 0) = c.unpack.ensures in
    ap Ok (u ∙ sym (words_get d ws c.args.i (omega arith))) ∙ sym (load_yes (cells_of d ws) c.args.i (omega (arith, words_length d ws)))
