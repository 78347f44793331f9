use Rattle.std.proofs.Common.{drop}
use Rattle.report.specs.Lines.{value_line}
use Rattle.report.specs.Texts.{numbered}
use Rattle.report.proofs.Telling.{Telling}
use Rattle.report.proofs.lines.ValuesDisplay.fmt.Given as goal

abbrev pub invariant-loop-location : goal.invariant-loop-location
invariant-loop-location g l =
    let texts = numbered (λ i v. value_line i (g.V.ValueKind.coded v)) in
    Telling g.W.Write.write_str_gives l.initial.f (texts 0 l.value-items) (texts l.location-counter (drop l.location-counter l.value-items)) l.f
