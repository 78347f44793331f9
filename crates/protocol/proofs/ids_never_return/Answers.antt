use Rattle.protocol.proofs.ids_never_return.Goals as goal
use Rattle.protocol.proofs.Attempts.{never_return}

pub returns : goal.returns
returns g c = never_return
