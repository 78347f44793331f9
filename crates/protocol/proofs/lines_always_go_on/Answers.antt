use Rattle.protocol.proofs.lines_always_go_on.Goals as goal
use Rattle.protocol.proofs.Telling.{told_apart}
use Rattle.protocol.proofs.Soloing.{lines_go_on}

pub returns : goal.returns
returns g c = lines_go_on (told_apart g.V.ValueKind.coded g.V.ValueKind.decoded g.met.V.ValueKind.returned)
