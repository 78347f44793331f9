-- The words of packed memory: the word of a cell, and the cell of a word.
use Rattle.std.specs.Prelude.{◌≡◌, ℕ, ◌+◌, ◌*◌, ◌/◌, ◌%◌, ◌^◌, ◌<◌, true, cond, List, map, Some, None, Option, ◌==◌}
use Rattle.memory.specs.declared.cell.Cell.{Cell}
use Rattle.memory.specs.declared.cell.Cell.TheVariants.{Value, Id}
use Rattle.memory.specs.Rules.{id_zero, first_cells, fitting, open_limits}

-- The word of a value is 2 * code, that of an id tag * 65,536 + process * 2 + 1.
abbrev pub word_of : {V : Type 0} → (V → ℕ) → Cell V → ℕ
word_of code (Value value) = 2 * code value
word_of code (Id id) = id.tag * 65536 + id.process * 2 + 1

-- A cell has a word only if it fits.
abbrev pub packed : {V : Type 0} → (V → ℕ) → ℕ → Cell V → Option ℕ
packed code greatest cell = cond (fitting code (open_limits greatest) cell) (Some (word_of code cell)) None

-- A value, if the code of an even word gives one; else id (0, 0).
abbrev pub value_or_zero : {V : Type 0} → Option V → Cell V
value_or_zero (Some value) = Value value
value_or_zero None = id_zero

-- An odd word is an id. An even word is the value of its half.
abbrev pub cell_of : {V : Type 0} → (ℕ → Option V) → ℕ → Cell V
cell_of decoded word = cond (word % 2 == 1) (Id (record { process = word % 65536 / 2; tag = word / 65536 })) (value_or_zero (decoded (word / 2)))

-- The cells of a table of words.
abbrev pub cells_of : {V : Type 0} → (ℕ → Option V) → List ℕ → List (Cell V)
cells_of decoded words = first_cells (map (cell_of decoded) words)

-- Packing loses nothing: a cell that fits comes back from its word, which has 64 bits.
abbrev pub LosesNothing : {V : Type 0} → (V → ℕ) → (ℕ → Option V) → ℕ → Type 0
LosesNothing {V} code decoded greatest = (cell : Cell V) → fitting code (open_limits greatest) cell ≡ true → (cell_of decoded (word_of code cell) ≡ cell) × (word_of code cell < 2 ^ 64)
