-- Histories: worlds one after another, each from the one before by one event.
use Rattle.std.specs.Prelude.{◌≡◌, ℕ, suc}
use Rattle.memory.specs.declared.cell.Cell.TheVariants.{Value}
use Rattle.protocol.specs.World.{World, id_cell}
use Rattle.protocol.specs.World.Stage.{idle}
use Rattle.protocol.specs.Events.{Event, Possible, after}

-- The opened world: each val has its initial value, each tid and saved value is id (0, 0), and each process is idle
-- with tag 0.
pub record Opened {V : Type 0} (world : World V) (initial : ℕ → V) : Type 0 where
  pub vals : (location : ℕ) → world.val location ≡ Value (initial location)
  pub tids : (location : ℕ) → world.tid location ≡ id_cell 0 0
  pub saves : (process : ℕ) → world.saved process ≡ id_cell 0 0
  pub tags : (process : ℕ) → world.tag process ≡ 0
  pub stages : (process : ℕ) → world.stage process ≡ idle

-- A history has no end: one of n steps goes on with looks. World 0 is an opened one. Step t, counted from 0, is
-- possible in world t and leads to world t + 1.
pub record History (V : Type 0) : Type 0 where
  pub at : ℕ → World V
  pub event : ℕ → Event V
  pub initial : ℕ → V
  pub opened : Opened (at 0) initial
  pub possible : (step : ℕ) → Possible (event step) (at step)
  pub leads : (step : ℕ) → at (suc step) ≡ after (event step) (at step)
