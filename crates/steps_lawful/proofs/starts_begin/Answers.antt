use Rattle.steps_lawful.proofs.starts_begin.Goals as goal
use Rattle.steps_lawful.proofs.Starting.{starts_begin}

pub returns : goal.returns
returns g c = starts_begin
