use Rattle.std.proofs.Common.{vec_items}
use Rattle.sheet_reader.proofs.Row.{Kept, Started}
use Rattle.sheet_reader.proofs.rows.read_row.Given as goal

abbrev pub invariant-loop-i : goal.invariant-loop-i
invariant-loop-i g l = Kept (g.R.Row.answer l.bytes) g.R.Row.WIDTH l.at l.count l.i (vec_items l.items)
    × Started (g.R.Row.answer l.bytes) g.R.Row.WIDTH l.at l.count l.i
