-- Which lists are the finished operations of a history.
use Rattle.std.specs.Prelude.{◌≡◌, ℕ, ◌<◌, ◌≤◌, ◌⊎◌, List, ◌≢◌}
use Rattle.memory.specs.declared.cell.Cell.TheVariants.{Value}
use Rattle.protocol.specs.Events.Event.{commit}
use Rattle.protocol.specs.History.{History}
use Rattle.protocol.specs.Operations.{Finished}
use Rattle.protocol.specs.Replay.{change}
use Rattle.protocol.specs.Replay.Change.{set}
use Rattle.protocol.specs.Lists.{◌∈◌, Apart}
use Rattle.protocol.specs.Certificates.{Certificate}

-- The commit at the step is the end of a finished yes of its process, which sets the location to the new value.
pub record Owner {V : Type 0} (ended : List (Finished V)) (step process location : ℕ) (new : V) : Type 0 where
  pub done : Finished V
  pub is_listed : done ∈ ended
  pub same_process : done.process ≡ process
  pub sets : change done.request done.answer ≡ set location new
  pub ends_there : done.last ≡ step

-- The list has the finished operations, in any order: each has its certificate, each step ends at most one, and every
-- commit belongs to a yes of the list, or puts back the saved value, as a KCSS that says no does.
pub record Certified {V : Type 0} (history : History V) (ended : List (Finished V)) : Type 0 where
  pub each : (done : Finished V) → done ∈ ended → Certificate history ended done
  pub apart : Apart ended
  pub owned : (step process location : ℕ) (new : V) → history.event step ≡ commit process location new
      → ((history.at step).saved process ≡ Value new) ⊎ Owner ended step process location new

-- From the step on the history is at rest: no commit comes, and the listed operations have ended before.
pub record AtRest {V : Type 0} (history : History V) (ended : List (Finished V)) (from : ℕ) : Type 0 where
  pub no_commit : (step process location : ℕ) (new : V) → from ≤ step
      → history.event step ≢ commit process location new
  pub all_ended : (done : Finished V) → done ∈ ended → done.last < from
