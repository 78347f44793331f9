use Rattle.protocol.proofs.solo_goes_on.Goals as goal
use Rattle.protocol.proofs.Proceeding.{goes_on}

pub returns : goal.returns
returns g c = goes_on
