-- When two cells are the same.
use Rattle.std.specs.Prelude.{ℕ, Bool, false, ◌&&◌, ◌==◌}
use Rattle.memory.specs.declared.cell.Cell.{Cell}
use Rattle.memory.specs.declared.cell.Cell.TheVariants.{Value, Id}

-- Two cells are the same if both hold the same value, told by its code, or ids with equal numbers.
abbrev pub same : {V : Type 0} → (V → ℕ) → Cell V → Cell V → Bool
same code (Value x) (Value y) = code x == code y
same code (Value x) (Id j) = false
same code (Id i) (Value y) = false
same code (Id i) (Id j) = i.process == j.process && i.tag == j.tag
