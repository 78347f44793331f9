use Rattle.protocol.proofs.runs_are_lawful.Goals as goal
use Rattle.protocol.proofs.Cutting.{run_law}

pub returns : goal.returns
returns g c = run_law
