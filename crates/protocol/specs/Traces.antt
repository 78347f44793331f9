-- Every run is a history.
use Rattle.std.specs.Prelude.{◌≡◌, ℕ, suc}
use Rattle.protocol.specs.Events.{maker, Possible, after}
use Rattle.protocol.specs.History.{Opened}
use Rattle.protocol.specs.Runs.{world, Run}

-- The first world is an opened one; each step is made by its process, its event is possible in its world and leads to
-- the next.
pub record Traces {V : Type 0} (run : Run V) : Type 0 where
  pub opened : Opened (world (run.at 0)) run.initial
  pub made_by : (step : ℕ) → maker (run.event step) ≡ run.who step
  pub possible : (step : ℕ) → Possible (run.event step) (world (run.at step))
  pub leads : (step : ℕ) → world (run.at (suc step)) ≡ after (run.event step) (world (run.at step))

-- Every run is a history: its worlds and events are as told here.
abbrev pub RunsAreHistories : Type 0 → Type 0
RunsAreHistories V = (run : Run V) → Traces run
