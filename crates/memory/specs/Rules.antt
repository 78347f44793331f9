-- The rules of memories. A memory is a list of cells and three limits; each call has one definition for its
-- answer, and each call that may change a cell one more for the cells after it.
use Rattle.std.specs.Prelude.{ℕ, ◌≤◌, min, Bool, cond, ◌&&◌, List, length, take, Ok, Err, Result, nat_le, nat_lt, slice_index_or, slice_set}
use Rattle.std.proofs.Math.Nat.{min-le_left}
use Rattle.std.proofs.Common.{le_of_eq, le_trans, length-take}
use Rattle.memory.specs.declared.cell.Cell.{Cell}
use Rattle.memory.specs.declared.cell.Cell.TheVariants.{Value, Id}
use Rattle.memory.specs.declared.limits.Limits.{Limits}
use Rattle.memory.specs.declared.fault.MemoryFault.{MemoryFault}
use Rattle.memory.specs.Cells.{same}
use Rattle.memory.specs.Faults.{no_cell, unfit}

-- The tagged id (0, 0).
abbrev pub id_zero : {V : Type 0} → Cell V
id_zero = Id (record { process = 0; tag = 0 })

-- Cell i of a list. Every use asks first that i is below the length; past it stands id (0, 0).
abbrev pub cell_at : {V : Type 0} → List (Cell V) → ℕ → Cell V
cell_at cells i = slice_index_or cells i id_zero

-- A cell fits exactly when it passes none of the limits: a value by its code, an id by its process number
-- and its tag.
abbrev pub fitting : {V : Type 0} → (V → ℕ) → Limits → Cell V → Bool
fitting code limits (Value value) = nat_le (code value) limits.code
fitting code limits (Id id) = nat_le id.process limits.process && nat_le id.tag limits.tag

-- The limits of open and packed memory: 32,767, 2^48 - 1 and the kind's greatest code.
abbrev pub open_limits : ℕ → Limits
open_limits greatest = record { process = 32767; tag = 281474976710655; code = greatest }

-- Each limit the smaller of the two.
abbrev pub smaller_limits : Limits → Limits → Limits
smaller_limits a b = record { process = min a.process b.process; tag = min a.tag b.tag; code = min a.code b.code }

-- A memory has only the first 65,535 cells of a longer table.
unfoldable pub first_cells : {V : Type 0} → List (Cell V) → List (Cell V)
first_cells table = take 65535 table

-- So it has at most so many.
pub first_few : {V : Type 0} (table : List (Cell V)) → length (first_cells table) ≤ 65535
unfolding first_cells
first_few table = le_trans (le_of_eq (length-take 65535 table)) (min-le_left 65535 (length table))

-- Refuses a cell that does not fit, at the given place.
abbrev pub fitness : {V : Type 0} → (V → ℕ) → Limits → ℕ → Cell V → Result (Unit {0}) MemoryFault
fitness code limits place cell = cond (fitting code limits cell) (Ok tt) (Err (unfit place))

-- Refuses 1 where i is not below the length, then 2 where the cell does not fit.
abbrev pub admission : {V : Type 0} → (V → ℕ) → Limits → ℕ → ℕ → Cell V → Result (Unit {0}) MemoryFault
admission code limits count i cell = cond (nat_lt i count) (fitness code limits i cell) (Err (no_cell i))

-- Load answers cell i. It refuses 1 if i is not below the length, and changes nothing.
abbrev pub load_answer : {V : Type 0} → List (Cell V) → ℕ → Result (Cell V) MemoryFault
load_answer cells i = cond (nat_lt i (length cells)) (Ok (cell_at cells i)) (Err (no_cell i))

-- Fits refuses 2 with place 0 if the cell does not fit, and changes nothing.
abbrev pub fits_answer : {V : Type 0} → (V → ℕ) → Limits → Cell V → Result (Unit {0}) MemoryFault
fits_answer code limits cell = fitness code limits 0 cell

module _ {V : Type 0} (code : V → ℕ) (limits : Limits) (cells : List (Cell V)) (i : ℕ) where
  -- There is a cell i, and the given cell fits: Store and CAS do not refuse.
  abbrev pub admitted : Cell V → Bool
  admitted cell = nat_lt i (length cells) && fitting code limits cell

  -- Store refuses 1 if i is not below the length, then 2 if the given cell does not fit.
  abbrev pub store_answer : Cell V → Result (Unit {0}) MemoryFault
  store_answer cell = admission code limits (length cells) i cell

  -- It makes cell i the given cell; on refusal nothing changes.
  abbrev pub store_after : Cell V → List (Cell V)
  store_after cell = cond (admitted cell) (slice_set cells i cell) cells

  -- CAS refuses 1 if i is not below the length, then 2 if the new cell does not fit, even where it would have
  -- said no. The old cell is never tested for fit. It says yes if cell i is the same as the old cell, else no.
  abbrev pub cas_answer : Cell V → Cell V → Result Bool MemoryFault
  cas_answer old new = cond (nat_lt i (length cells)) (cond (fitting code limits new) (Ok (same code (cell_at cells i) old)) (Err (unfit i))) (Err (no_cell i))

  -- With a yes it makes cell i the new cell; with a no or on refusal nothing changes.
  abbrev pub cas_after : Cell V → Cell V → List (Cell V)
  cas_after old new = cond (admitted new && same code (cell_at cells i) old) (slice_set cells i new) cells

-- What stands below a memory, as a table that may be longer than 65,535, or one of words. A Store that is not refused
-- writes place i of it, and no other place changes; a refused Store changes none.
abbrev pub table_stored : {X : Type 0} → Result (Unit {0}) MemoryFault → List X → ℕ → X → List X
table_stored (Ok _) table i entry = slice_set table i entry
table_stored (Err _) table i entry = table

-- A CAS that says yes writes place i of it, and no other place changes; a no or a refusal changes none.
abbrev pub table_swapped : {X : Type 0} → Result Bool MemoryFault → List X → ℕ → X → List X
table_swapped (Ok said) table i entry = cond said (slice_set table i entry) table
table_swapped (Err _) table i entry = table
