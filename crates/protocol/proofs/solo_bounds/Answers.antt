use Rattle.protocol.proofs.solo_bounds.Goals as goal
use Rattle.protocol.proofs.Alone.{bounds}

pub returns : goal.returns
returns g c = bounds
