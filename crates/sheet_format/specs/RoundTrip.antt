-- The two round trips, for every kind of values.
use Rattle.std.specs.Prelude.{◌≡◌, ℕ, ◌≤◌, List, length, take, Ok, Option}
use Rattle.sheet_format.specs.Bytes.{AllBelow}
use Rattle.sheet_format.specs.Parts.{Parts, AllFitting}
use Rattle.sheet_format.specs.Format.{sheet_bytes}
use Rattle.sheet_format.specs.Reading.{read_answer}
use Rattle.sheet_format.specs.Writing.{write_answer, write_after}

module _ {V : Type 0} (code : V → ℕ) (number : ℕ) where
  -- writing these parts gives exactly these bytes, into any output that has room for them
  abbrev pub GivesBack : Parts V → List ℕ → Type 0
  GivesBack p bytes = (sheet_bytes code number p ≡ bytes) × ((room : ℕ) → length bytes ≤ room → write_answer p room ≡ Ok (length bytes))

module _ {V : Type 0} (code : V → ℕ) (decode : ℕ → Option V) (number : ℕ) where
  -- what writing accepts, reading returns
  abbrev pub WriteThenRead : Parts V → List ℕ → Type 0
  WriteThenRead p out = (n : ℕ) → AllFitting p.operations → write_answer p (length out) ≡ Ok n
      → read_answer decode (take n (write_after p code number out)) number ≡ Ok p

  -- what reading accepts, writing gives back byte for byte
  abbrev pub ReadThenWrite : List ℕ → Type 0
  ReadThenWrite bytes = (p : Parts V) → AllBelow 256 bytes → read_answer decode bytes number ≡ Ok p → GivesBack code number p bytes
