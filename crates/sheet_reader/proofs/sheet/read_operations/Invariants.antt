use Rattle.std.proofs.Common.{◌-◌, ◌≤◌, map, vec_items, vec_len}
use Rattle.sheet_format.specs.Parts.{op_of}
use Rattle.sheet_reader.proofs.Gathered.{Gathered}
use Rattle.sheet_reader.proofs.sheet.read_operations.Given as goal

abbrev pub invariant-loop-next : goal.invariant-loop-next
invariant-loop-next g l = (l.next ≤ l.end) × (vec_len l.operations ≤ 4096)
    × Gathered g.V.ValueKind.decoded l.bytes l.end 4096 l.at (map op_of (vec_items l.operations)) (vec_len l.operations) l.next

abbrev pub decreases-loop-next : goal.decreases-loop-next
decreases-loop-next g l = l.end - l.next
