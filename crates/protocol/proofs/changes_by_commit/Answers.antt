use Rattle.protocol.proofs.changes_by_commit.Goals as goal
use Rattle.protocol.proofs.Values.{one_value}

pub returns : goal.returns
returns g c = one_value
