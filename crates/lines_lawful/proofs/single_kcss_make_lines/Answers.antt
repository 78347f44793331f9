use Rattle.lines.proofs.Operands.{one_value}
use Rattle.lines_lawful.proofs.single_kcss_make_lines.Goals as goal
use Rattle.lines_lawful.proofs.Single.{single_kcss_lines}

pub returns : goal.returns
returns g c = single_kcss_lines g.V.ValueKind.coded (one_value g.V.ValueKind.coded g.V.ValueKind.decoded g.met.V.ValueKind.returned)
