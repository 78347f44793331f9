use Rattle.std.proofs.Common.{◌≡◌, ◌≤◌, ℕ, ◌+◌, ◌++◌, get_or, drop, refl, sym, ap, ◌∙◌, arith}
use Rattle.sheet.specs.declared.ScriptItem.TheVariants.{Start}
use Rattle.report.specs.Lines.{item_line, started_by}
use Rattle.report.specs.Texts.{turns}
use Rattle.report.proofs.Telling.{tells_more, tells_all}
use Rattle.report.proofs.lines.ScheduleDisplay.fmt.Goals as goal
use Rattle.report.proofs.lines.ScheduleDisplay.fmt.Goals.{in-Start+in_ok-writeln-in-Start, in-Step+in_ok-writeln-in-Step}

pub loop-i-preserved : goal.loop-i-preserved
loop-i-preserved g c =
    let xs = c.args.self.now.0.now in
    let i = c.loop-i.i in
    let n = c.loop-i.started in
    let x = get_or xs i Start in
    let after = c.match-item.started in
    let counted : (after ≡ started_by x n) × (after ≤ n + 1) =
    elim c.match-item.branch [
      | in-Start+in_ok-writeln-in-Start w ↦ (w.started-is ∙ ap (λ y. started_by y n) (sym w.in-Start.is), omega (arith, w.started-is))
      | in-Step+in_ok-writeln-in-Step w ↦ (w.started-is ∙ ap (λ y. started_by y n) (sym w.in-Step.is), omega (arith, w.started-is))
    ] in (
      omega (arith, counted.1, c.loop-i.invariant.0),
      tells_more g.W.Write.write_str_gives _ _ _ _ (item_line (i + 1) n x) (turns i n) (turns (i + 1) after) xs i Start
          c.loop-i-test.true (ap (λ (k : ℕ). item_line (i + 1) n x ++ turns (i + 1) k (drop (i + 1) xs)) (sym counted.0)) c.loop-i.invariant.1
          (λ plain. elim c.match-item.branch [
            | in-Start+in_ok-writeln-in-Start w ↦ rw (w.f-is, w.in-Start.is) (w.in_ok-writeln-in-Start.ensures.writes plain refl)
            | in-Step+in_ok-writeln-in-Step w ↦ rw (w.f-is, w.in-Step.is) (w.in_ok-writeln-in-Step.ensures.writes plain refl)
          ]),
    )

pub returns-clause-writes : goal.returns-clause-writes
returns-clause-writes g c plain ok =
    let i = c.loop-i.i in
    tells_all g.W.Write.write_str_gives _ _ _ _ _ (turns i c.loop-i.started) c.args.self.now.0.now i c.loop-i-test.false refl (c.in_ok-writeln.ensures.writes plain refl) c.loop-i.invariant.1
