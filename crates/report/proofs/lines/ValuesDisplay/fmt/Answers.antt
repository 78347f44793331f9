use Rattle.std.proofs.Common.{◌+◌, get_or, refl}
use Rattle.report.specs.Lines.{value_line}
use Rattle.report.specs.Texts.{numbered}
use Rattle.report.proofs.Telling.{tells_more, tells_all}
use Rattle.report.proofs.lines.ValuesDisplay.fmt.Goals as goal

pub loop-location-preserved : goal.loop-location-preserved
loop-location-preserved g c =
    let xs = c.args.self.now.0.now in
    let i = c.loop-location.location-counter in
    let d = c.value-item.result in
    let code = g.V.ValueKind.coded in
    let texts = numbered (λ k v. value_line k (code v)) in
    tells_more g.W.Write.write_str_gives _ _ _ _ (value_line i (code (get_or xs i d))) (texts i) (texts (i + 1)) xs i d c.loop-location-test.true refl c.loop-location.invariant
    (λ plain. rw (← c.value-item.is, ← c.code-code.ensures) (c.in_ok-writeln-2.ensures.writes plain refl))

pub returns-clause-writes : goal.returns-clause-writes
returns-clause-writes g c plain ok =
    let i = c.loop-location.location-counter in
    tells_all g.W.Write.write_str_gives _ _ _ _ _ (numbered (λ k v. value_line k (g.V.ValueKind.coded v)) i) c.args.self.now.0.now i c.loop-location-test.false refl
    (c.in_ok-writeln.ensures.writes plain refl) c.loop-location.invariant
