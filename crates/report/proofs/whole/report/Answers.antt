use Rattle.report.specs.Texts.{report_text, is_accepted}
use Rattle.report.proofs.whole.report.Goals as goal

pub returns-then-is_links : goal.returns-then-is_links
unfolding report_text is_accepted
returns-then-is_links c = rw (← c.if-is_links.ensures) c.report_of.ensures

pub returns-else-is_links : goal.returns-else-is_links
unfolding report_text is_accepted
returns-else-is_links c = rw (← c.if-is_links.ensures) c.report_of-else-is_links.ensures
