use Rattle.steps_lawful.proofs.steps_never_stick.Goals as goal
use Rattle.steps_lawful.proofs.Stepping.{never_sticks}

pub returns : goal.returns
returns g c = never_sticks g.V.ValueKind.coded g.V.ValueKind.decoded g.met.V.ValueKind.returned
