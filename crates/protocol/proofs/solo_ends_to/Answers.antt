use Rattle.protocol.proofs.solo_ends_to.Goals as goal
use Rattle.protocol.proofs.Alone.{ends_to}

pub returns : goal.returns
returns g c = ends_to
