use Rattle.protocol.proofs.runs_are_sound.Goals as goal
use Rattle.protocol.proofs.Backing.{runs_sound}

pub returns : goal.returns
returns g c = runs_sound
