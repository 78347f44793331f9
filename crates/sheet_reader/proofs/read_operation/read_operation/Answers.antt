use Rattle.std.proofs.Common.{sym, ◌∙◌, arith}
use Rattle.sheet_format.proofs.Counts.{counted_range}
use Rattle.sheet_format.proofs.WriteOperations.{head_back}
use Rattle.sheet_reader.proofs.read_operation.read_operation.Goals as goal

pub read_action-requires : goal.read_action-requires
read_action-requires g c =
    let head = c.in_ok-head.head in
    let found = head_back c.args.bytes.now c.args.at c.args.end head (sym c.read_head.ensures ∙ c.in_ok-head.was) in
    record { some = (counted_range head.kind head.count found.counts).0; inside = omega (arith, found.inside) }

pub returns-clause-next : goal.returns-clause-next
returns-clause-next g c =
    let head = c.in_ok-head.head in
    let found = head_back c.args.bytes.now c.args.at c.args.end head (sym c.read_head.ensures ∙ c.in_ok-head.was) in
    (omega (arith, found.count_byte), omega (arith, found.inside))
