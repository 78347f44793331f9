use Rattle.lines_lawful.proofs.scs_make_lines.Goals as goal
use Rattle.lines_lawful.proofs.Showing.{sc_lines}

pub returns : goal.returns
returns g c = sc_lines g.V.ValueKind.coded
