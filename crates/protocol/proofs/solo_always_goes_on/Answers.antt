use Rattle.protocol.proofs.solo_always_goes_on.Goals as goal
use Rattle.protocol.proofs.Telling.{told_apart}
use Rattle.protocol.proofs.Proceeding.{always_goes_on}

pub returns : goal.returns
returns g c = always_goes_on (told_apart g.V.ValueKind.coded g.V.ValueKind.decoded g.met.V.ValueKind.returned)
