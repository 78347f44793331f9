-- The faults of memories and the numbers that name them.
use Rattle.std.specs.Prelude.{ℕ, ◌++◌, List, codes, decimal}
use Rattle.memory.specs.declared.fault.MemoryFault.{MemoryFault}
use Rattle.memory.specs.declared.fault.MemoryRefusal.{MemoryRefusal}
use Rattle.memory.specs.declared.fault.MemoryRefusal.TheVariants.{NoCell, Unfit}

-- Memories are layer 1.
abbrev pub memory_layer : ℕ
memory_layer = 1

-- Refusal 1 is for a cell that is not there, refusal 2 for one that does not fit.
abbrev pub refusal_number : MemoryRefusal → ℕ
refusal_number NoCell = 1
refusal_number Unfit = 2

-- Refusal 1: no cell i. The place is i.
abbrev pub no_cell : ℕ → MemoryFault
no_cell i = record { refusal = NoCell; place = i }

-- Refusal 2: the cell does not fit. The place is i, and 0 for Fits.
abbrev pub unfit : ℕ → MemoryFault
unfit i = record { refusal = Unfit; place = i }

-- A refusal in plain words.
abbrev pub refusal_words : MemoryRefusal → List ℕ
refusal_words NoCell = codes "the memory has no such cell"
refusal_words Unfit = codes "the cell does not fit the memory's limits"

-- The line on a fault: its layer, number and place, and why.
abbrev pub fault_line : MemoryFault → List ℕ
fault_line fault = codes "layer " ++ (decimal memory_layer ++ (codes ", number " ++ (decimal (refusal_number fault.refusal) ++ (codes ", place " ++ (decimal fault.place ++ (codes ": " ++ refusal_words fault.refusal))))))
