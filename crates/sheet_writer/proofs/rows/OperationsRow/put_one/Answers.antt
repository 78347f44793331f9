use Rattle.std.proofs.Common.{ap, ◌∙◌, arith}
use Rattle.sheet_format.proofs.Fields.{bytes_length}
use Rattle.operation.specs.Kinds.{kind_number}
use Rattle.sheet_format.specs.Parts.{op_of}
use Rattle.sheet_writer.proofs.Made.{op_made, op_length}
use Rattle.sheet_writer.proofs.Putting.{puts_as, then_puts}
use Rattle.sheet_writer.proofs.rows.OperationsRow.put_one.Goals as goal

pub put-requires : goal.put-requires
put-requires g c = let long = op_length g.V.ValueKind.coded (op_of c.args.item.now) in record { holds = omega arith }

pub put_number-requires-clause-room : goal.put_number-requires-clause-room
put_number-requires-clause-room g c =
    let long = op_length g.V.ValueKind.coded (op_of c.args.item.now) in
    let eight = bytes_length 8 c.new_code.result in
    record { holds = omega arith }

pub put_operands-requires : goal.put_operands-requires
put_operands-requires g c =
    let long = op_length g.V.ValueKind.coded (op_of c.args.item.now) in
    let eight = bytes_length 8 c.new_code.result in
    record { holds = omega arith }

pub returns-clause-puts : goal.returns-clause-puts
returns-clause-puts g c =
    let made = op_made g.V.ValueKind.coded (op_of c.args.item.now) c.from-kind.result c.action_count.result c.new_code.result (c.from-kind.ensures ∙ ap kind_number c.action_kind.ensures) c.action_count.ensures c.new_code.ensures in
    puts_as made (then_puts c.put.ensures (then_puts c.put_number.ensures c.put_operands.ensures.puts))
