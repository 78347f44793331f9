use Rattle.std.proofs.Common.{◌≤◌, drop}
use Rattle.report.specs.Texts.{turns}
use Rattle.report.proofs.Telling.{Telling}
use Rattle.report.proofs.lines.ScheduleDisplay.fmt.Given as goal

abbrev pub invariant-loop-i : goal.invariant-loop-i
invariant-loop-i g l =
    (l.started ≤ l.i) × Telling g.W.Write.write_str_gives l.initial.f (turns 0 0 l.item-items) (turns l.i l.started (drop l.i l.item-items)) l.f
