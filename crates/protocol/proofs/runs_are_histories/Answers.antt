use Rattle.protocol.proofs.runs_are_histories.Goals as goal
use Rattle.protocol.proofs.Tracing.{traces}

pub returns : goal.returns
returns g c = traces
