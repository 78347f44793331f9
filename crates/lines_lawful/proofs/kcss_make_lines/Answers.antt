use Rattle.lines.proofs.Operands.{one_value}
use Rattle.lines_lawful.proofs.kcss_make_lines.Goals as goal
use Rattle.lines_lawful.proofs.Several.{kcss_lines}

pub returns : goal.returns
returns g c = kcss_lines g.V.ValueKind.coded (one_value g.V.ValueKind.coded g.V.ValueKind.decoded g.met.V.ValueKind.returned)
