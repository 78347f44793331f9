use Rattle.protocol.proofs.lines_are_events.Goals as goal
use Rattle.protocol.proofs.Asking.{one_event}

pub returns : goal.returns
returns g c = one_event
