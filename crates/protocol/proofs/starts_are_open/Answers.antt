use Rattle.protocol.proofs.starts_are_open.Goals as goal
use Rattle.protocol.proofs.Opening.{starts_are_open}

pub returns : goal.returns
returns g c = starts_are_open
