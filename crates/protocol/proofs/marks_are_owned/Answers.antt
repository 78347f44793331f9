use Rattle.protocol.proofs.marks_are_owned.Goals as goal
use Rattle.protocol.proofs.Marks.{marked}

pub returns : goal.returns
returns g c = marked
