use Rattle.protocol.proofs.order_stands.Goals as goal
use Rattle.protocol.proofs.Ordered.{order}

pub returns : goal.returns
returns g c = order
