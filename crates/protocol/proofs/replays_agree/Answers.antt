use Rattle.protocol.proofs.replays_agree.Goals as goal
use Rattle.protocol.proofs.Replaying.{agree}

pub returns : goal.returns
returns g c = agree
