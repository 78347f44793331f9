use Rattle.std.proofs.Common.{refl, ◌∙◌}
use Rattle.std.proofs.Output.{has_written_append}
use Rattle.report.proofs.whole.DescriptionDisplay.fmt.Goals as goal

pub returns-clause-writes : goal.returns-clause-writes
returns-clause-writes g c plain ok =
    let sheet = c.args.self.now.sheet.now in
    let first = c.in_ok-writeln.ensures.writes plain refl in
    let second = rw (c.KIND-kind.ensures, c.len-locations.ensures ∙ sheet.initial.ok.0, c.len-items.ensures ∙ sheet.script.ok.0) at c.in_ok-writeln-2.ensures.writes first.plain refl in
    let rest = rw (c.deref.ensures.value, c.deref-2.ensures.value, c.deref-3.ensures.value) at c.write.ensures.writes second.plain ok in
    has_written_append _ _ _ _ _ _ first (has_written_append _ _ _ _ _ _ second rest)
