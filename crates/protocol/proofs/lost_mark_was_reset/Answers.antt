use Rattle.protocol.proofs.lost_mark_was_reset.Goals as goal
use Rattle.protocol.proofs.Attempts.{was_reset}

pub returns : goal.returns
returns g c = was_reset
