use Rattle.protocol.proofs.runs_finish_alone.Goals as goal
use Rattle.protocol.proofs.Telling.{told_apart}
use Rattle.protocol.proofs.Soloing.{runs_finish_alone}

pub returns : goal.returns
returns g c = runs_finish_alone (told_apart g.V.ValueKind.coded g.V.ValueKind.decoded g.met.V.ValueKind.returned)
