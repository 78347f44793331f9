use Rattle.steps_lawful.proofs.steps_make_lines.Goals as goal
use Rattle.steps_lawful.proofs.Stepping.{makes_lines}

pub returns : goal.returns
returns g c = makes_lines g.V.ValueKind.coded g.V.ValueKind.decoded g.met.V.ValueKind.returned
