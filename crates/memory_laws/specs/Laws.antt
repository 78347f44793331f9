-- What a change of a memory means, told by Loads alone. The theorems hold of every memory that keeps the rules.
use Rattle.std.specs.Prelude.{◌≡◌, ℕ, Bool, true, false, cond, List, length, Ok, Err, Result, ◌≢◌}
use Rattle.memory.specs.declared.cell.Cell.{Cell}
use Rattle.memory.specs.declared.fault.MemoryFault.{MemoryFault}
use Rattle.memory.specs.Rules.{load_answer}

-- Cell i, and no other, was made the given cell.
pub record Written {V : Type 0} (before after : List (Cell V)) (i : ℕ) (cell : Cell V) : Type 0 where
  -- a Load of i gives the cell
  pub at : load_answer after i ≡ Ok cell
  -- every other Load answers as before
  pub elsewhere : (j : ℕ) → (j ≢ i) → load_answer after j ≡ load_answer before j
  -- the length stays
  pub as_long : length after ≡ length before

-- After a Store, a Load of i finds the stored cell, and every other Load answers as before. A refusal leaves
-- every cell.
abbrev pub StoreLaw : {V : Type 0} → Result (Cell V) MemoryFault → List (Cell V) → List (Cell V) → ℕ → Cell V → Type 0
StoreLaw (Ok found) before after i cell = (found ≡ cell) × Written before after i cell
StoreLaw (Err _) before after i cell = after ≡ before

-- A CAS says yes only if cell i was the old cell; then a Load of i finds the new cell, and every other Load
-- answers as before. It says no only if cell i was another, which a Load of i still finds; a no or a refusal
-- leaves every cell.
abbrev pub CasLaw : {V : Type 0} → Result (Bool × Cell V) MemoryFault → List (Cell V) → List (Cell V) → ℕ → Cell V → Cell V → Type 0
CasLaw (Ok (true, found)) before after i old new = (load_answer before i ≡ Ok old) × (found ≡ new) × Written before after i new
CasLaw (Ok (false, found)) before after i old new = (load_answer before i ≢ Ok old) × (load_answer before i ≡ Ok found) × (after ≡ before)
CasLaw (Err _) before after i old new = after ≡ before

-- What is found at i after a Store of the cell that was answered so.
abbrev pub stored_answer : {V : Type 0} → Result (Unit {0}) MemoryFault → Cell V → Result (Cell V) MemoryFault
stored_answer (Ok _) cell = Ok cell
stored_answer (Err fault) cell = Err fault

-- Whether a CAS that was answered so said yes, and what is found at i after it: the new cell, or the cell that was
-- there.
abbrev pub swapped_answer : {V : Type 0} → Result Bool MemoryFault → Cell V → Cell V → Result (Bool × Cell V) MemoryFault
swapped_answer (Ok said) was new = Ok (said, cond said new was)
swapped_answer (Err fault) was new = Err fault
