use Rattle.lines_lawful.proofs.lls_make_lines.Goals as goal
use Rattle.lines_lawful.proofs.Showing.{ll_lines}

pub returns : goal.returns
returns g c = ll_lines g.V.ValueKind.coded
