use Rattle.protocol.proofs.starts_exactly.Goals as goal
use Rattle.protocol.proofs.Opening.{starts_exactly}

pub returns : goal.returns
returns g c = starts_exactly
