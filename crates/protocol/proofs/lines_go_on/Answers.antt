use Rattle.protocol.proofs.lines_go_on.Goals as goal
use Rattle.protocol.proofs.Soloing.{lines_go_on}

pub returns : goal.returns
returns g c = lines_go_on
