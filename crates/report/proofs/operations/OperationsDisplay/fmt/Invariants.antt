use Rattle.std.proofs.Common.{map, drop}
use Rattle.sheet.specs.Parts.{op_of}
use Rattle.report.specs.Lines.{operation_line}
use Rattle.report.specs.Texts.{numbered}
use Rattle.report.proofs.Telling.{Telling}
use Rattle.report.proofs.operations.OperationsDisplay.fmt.Given as goal

abbrev pub invariant-loop-i : goal.invariant-loop-i
invariant-loop-i g l =
    let texts = numbered (operation_line g.V.ValueKind.coded) in
    Telling g.W.Write.write_str_gives l.initial.f (texts 0 (map op_of l.operation-items)) (texts l.i (map op_of (drop l.i l.operation-items))) l.f
