-- Worlds: the shared cells, and how far each process has come.
use Rattle.std.specs.Prelude.{◌≡◌, ℕ, cond, ◌⊎◌, ◌==◌}
use Rattle.memory.specs.declared.cell.Cell.{Cell}
use Rattle.memory.specs.declared.cell.Cell.TheVariants.{Value, Id}

-- How far the attempt of a process has come. Idle: no attempt is under way. Fresh: it has a new tag and has put no
-- mark. Held: its mark was put at the location, and its id is still to be written to the location's tid (line 9).
-- Armed: that is done, and its last CAS (line 11) is to come.
pub data Stage : Type 0 where
  idle : Stage
  fresh : Stage
  held : (location : ℕ) → Stage
  armed : (location : ℕ) → Stage

-- A world has three rows of cells: val and tid of each location, and the saved value of each process. Of each
-- process it also has the tag and the stage.
pub record World (V : Type 0) : Type 0 where
  pub val : ℕ → Cell V
  pub tid : ℕ → Cell V
  pub saved : ℕ → Cell V
  pub tag : ℕ → ℕ
  pub stage : ℕ → Stage

-- The cell that holds the tagged id of a process.
abbrev pub id_cell : {V : Type 0} (process tag : ℕ) → Cell V
id_cell process tag = Id (record { process = process; tag = tag })

-- The own id of a process, its number and its tag, as a cell. In a val it is the mark of the process.
abbrev pub own_id : {V : Type 0} → World V → ℕ → Cell V
own_id world process = id_cell process (world.tag process)

-- A row with one place changed.
unfoldable pub changed : {A : Type 0} → (ℕ → A) → ℕ → A → ℕ → A
changed row place new other = cond (other == place) new (row other)

-- What a location stands for, its abstract value: the value in its val, or the saved value of the process whose id
-- is there.
abbrev pub Stands : {V : Type 0} → World V → (location : ℕ) → V → Type 0
Stands world location value =
    (world.val location ≡ Value value)
    ⊎ ((process : ℕ) × (tag : ℕ) × (world.val location ≡ id_cell process tag)
    × (world.saved process ≡ Value value))
