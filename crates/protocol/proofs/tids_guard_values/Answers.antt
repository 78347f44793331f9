use Rattle.protocol.proofs.tids_guard_values.Goals as goal
use Rattle.protocol.proofs.Tids.{tid_guards}

pub returns : goal.returns
returns g c = tid_guards
