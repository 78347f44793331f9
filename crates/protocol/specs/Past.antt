-- What every history keeps, told of marks, tids and abstract values at times past.
use Rattle.std.specs.Prelude.{◌≡◌, ℕ, suc, ◌<◌, ◌≤◌, ◌⊎◌, ◌≢◌}
use Rattle.memory.specs.declared.cell.Cell.TheVariants.{Value}
use Rattle.protocol.specs.World.{World, id_cell, own_id, Stands}
use Rattle.protocol.specs.World.Stage.{fresh, held, armed}
use Rattle.protocol.specs.Events.Event.{mark, note, commit, fail, reset}
use Rattle.protocol.specs.History.{History}

-- The id of the process with the tag is its own id; it has its mark at the location and a value saved. No mark has
-- tag 0.
pub record Marked {V : Type 0} (world : World V) (location process tag : ℕ) : Type 0 where
  pub own_tag : world.tag process ≡ tag
  pub under_way : (world.stage process ≡ held location) ⊎ (world.stage process ≡ armed location)
  pub value : V
  pub keeps : world.saved process ≡ Value value
  pub not_first : 1 ≤ tag

-- Every id in a val is such a mark.
abbrev pub MarksOwned : Type 0 → Type 0
MarksOwned V = (history : History V) (time location process tag : ℕ)
    → (history.at time).val location ≡ id_cell process tag → Marked (history.at time) location process tag

-- The id is dead: its tag is past, or it is the process's own and was already written to a tid. No later step writes
-- it to a tid.
pub record Dead {V : Type 0} (world : World V) (process tag : ℕ) : Type 0 where
  pub so_far : tag ≤ world.tag process
  pub not_fresh : tag ≡ world.tag process → world.stage process ≢ fresh
  pub not_held : (location : ℕ) → tag ≡ world.tag process → world.stage process ≢ held location

-- A tid always holds an id, a dead one. What a tid once held and then did not, it never holds again. An id that stands
-- in a val at two times stood there all the time between.
pub record NeverReturn {V : Type 0} (history : History V) : Type 0 where
  pub an_id : (time location : ℕ)
      → (process : ℕ) × (tag : ℕ) × ((history.at time).tid location ≡ id_cell process tag)
  pub dead : (time location process tag : ℕ) → (history.at time).tid location ≡ id_cell process tag
      → Dead (history.at time) process tag
  pub in_tid : (first between last location : ℕ) → first ≤ between → between ≤ last
      → ((history.at between).tid location ≢ (history.at first).tid location)
      → (history.at last).tid location ≢ (history.at first).tid location
  pub in_val : (first between last location process tag : ℕ) → first ≤ between → between ≤ last
      → (history.at first).val location ≡ id_cell process tag
      → (history.at last).val location ≡ id_cell process tag
      → (history.at between).val location ≡ id_cell process tag

-- In every history each tid holds a dead id, and an id that has left a tid or a val never comes back to it.
abbrev pub IdsNeverReturn : Type 0 → Type 0
IdsNeverReturn V = (history : History V) → NeverReturn history

-- The location holds the value, or the mark of a process that has saved the value and not yet written to the tid.
abbrev pub Calm : {V : Type 0} → World V → (location : ℕ) → V → Type 0
Calm world location value =
    (world.val location ≡ Value value)
    ⊎ ((process : ℕ) × (tag : ℕ) × (world.val location ≡ id_cell process tag)
    × (world.stage process ≡ held location) × (world.saved process ≡ Value value))

-- From a look that found the value until the last time the location is calm with it, and no commit comes there.
pub record Kept {V : Type 0} (history : History V) (look last location : ℕ) (value : V) : Type 0 where
  pub calm : (time : ℕ) → look ≤ time → time ≤ last → Calm (history.at time) location value
  pub no_commit : (step process : ℕ) (new : V) → look ≤ step → step < last
      → history.event step ≢ commit process location new

-- A value found is kept as long as no step writes the location's tid; and an unchanged tid was not written.
pub record TidGuards {V : Type 0} (history : History V) : Type 0 where
  pub unwritten_keeps : (look last location : ℕ) (value : V) → (history.at look).val location ≡ Value value
      → ((step process : ℕ) → look ≤ step → step < last → history.event step ≢ note process location)
      → Kept history look last location value
  pub same_unwritten : (first last location : ℕ) → (history.at last).tid location ≡ (history.at first).tid location
      → (step process : ℕ) → first ≤ step → step < last → history.event step ≢ note process location

-- In every history a value found in a val is kept until the tid is written, and an unchanged tid was not written.
abbrev pub TidsGuardValues : Type 0 → Type 0
TidsGuardValues V = (history : History V) → TidGuards history

-- At every time each location stands for one value. It comes to stand for another only by a commit of that value.
pub record OneValue {V : Type 0} (history : History V) : Type 0 where
  pub some_value : (time location : ℕ) → (value : V) × Stands (history.at time) location value
  pub no_other : (time location : ℕ) (value other : V)
      → Stands (history.at time) location value → Stands (history.at time) location other → value ≡ other
  pub by_commit : (time location : ℕ) (value other : V)
      → Stands (history.at time) location value → Stands (history.at (suc time)) location other
      → (value ≡ other) ⊎ ((process : ℕ) × (history.event time ≡ commit process location other))

-- In every history each location stands for one value at a time, and only a commit changes it.
abbrev pub ChangesByCommit : Type 0 → Type 0
ChangesByCommit V = (history : History V) → OneValue history

-- A step between the two reset the mark that the process put at the first.
pub record ResetBetween {V : Type 0} (history : History V) (first last process location : ℕ) : Type 0 where
  pub step : ℕ
  pub by_process : ℕ
  pub value : V
  pub after_mark : first < step
  pub before_end : step < last
  pub resets : history.event step ≡ reset by_process location value
  pub its_mark : (history.at step).val location ≡ own_id (history.at first) process

-- The last CAS of an attempt fails only if the attempt's mark was reset.
abbrev pub LostMarkWasReset : Type 0 → Type 0
LostMarkWasReset V = (history : History V) (first last process location : ℕ) (value : V) → first < last
    → history.event first ≡ mark process location value → history.event last ≡ fail process location
    → (history.at first).tag process ≡ (history.at last).tag process → ResetBetween history first last process location
