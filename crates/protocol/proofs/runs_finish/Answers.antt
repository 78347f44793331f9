use Rattle.protocol.proofs.runs_finish.Goals as goal
use Rattle.protocol.proofs.Soloing.{runs_finish}

pub returns : goal.returns
returns g c = runs_finish
