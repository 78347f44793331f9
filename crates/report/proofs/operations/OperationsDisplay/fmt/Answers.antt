use Rattle.std.proofs.Common.{◌+◌, map, get_or, refl}
use Rattle.sheet.specs.Parts.{op_of}
use Rattle.report.specs.Lines.{operation_line}
use Rattle.report.specs.Texts.{numbered}
use Rattle.report.proofs.Telling.{tells_more, tells_all}
use Rattle.report.proofs.operations.OperationsDisplay.fmt.Goals as goal

pub loop-i-preserved : goal.loop-i-preserved
loop-i-preserved g c =
    let xs = c.args.self.now.0.now in
    let i = c.loop-i.i in
    let d = c.operation-item.result in
    let line = operation_line g.V.ValueKind.coded in
    tells_more g.W.Write.write_str_gives _ _ _ _ (line i (op_of (get_or xs i d))) (λ zs. numbered line i (map op_of zs)) (λ zs. numbered line (i + 1) (map op_of zs)) xs i d
    c.loop-i-test.true refl c.loop-i.invariant
    (λ plain. rw (← c.operation-item.is) (c.in_ok-writeln-2.ensures.writes plain refl))

pub returns-clause-writes : goal.returns-clause-writes
returns-clause-writes g c plain ok =
    let i = c.loop-i.i in
    tells_all g.W.Write.write_str_gives _ _ _ _ _ (λ zs. numbered (operation_line g.V.ValueKind.coded) i (map op_of zs)) c.args.self.now.0.now i c.loop-i-test.false refl
    (c.in_ok-writeln.ensures.writes plain refl) c.loop-i.invariant
