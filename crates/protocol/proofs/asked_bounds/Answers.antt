use Rattle.protocol.proofs.asked_bounds.Goals as goal
use Rattle.protocol.proofs.Fitting.{asked_bounds}

pub returns : goal.returns
returns g c = asked_bounds
