use Rattle.lines_lawful.proofs.reads_make_lines.Goals as goal
use Rattle.lines_lawful.proofs.Showing.{read_lines}

pub returns : goal.returns
returns g c = read_lines g.V.ValueKind.coded
