-- Bytes put into an output where its next byte goes: the room that they take, and what they leave.
use Rattle.std.specs.Prelude.{◌≡◌, ℕ, ◌+◌, ◌≤◌, List, ◌++◌, length, take, drop}
use Rattle.sheet_format.specs.Bytes.{bytes_of}
use Rattle.sheet_writer.specs.declared.output.Output.{Output}

-- the bytes before the next one's place, and those from there on
abbrev pub written : Output → List ℕ
written o = take o.at o.bytes.now

-- the bytes from the next one's place on
abbrev pub left : Output → List ℕ
left o = drop o.at o.bytes.now

-- the bytes fit into the output from the next one's place on
pub record Room (o : Output) (bytes : List ℕ) : Type 0 where
  pub holds : o.at + length bytes ≤ length o.bytes.now

-- The bytes stand after those that were written, and past them all is as it was. The output is still the one
-- that was lent.
pub record Puts (before : Output) (bytes : List ℕ) (after : Output) : Type 0 where
  pub writes : written after ≡ written before ++ bytes
  pub leaves : left after ≡ drop (length bytes) (left before)
  pub moves : after.at ≡ before.at + length bytes
  pub keeps_length : length after.bytes.now ≡ length before.bytes.now
  pub same_reference : after.bytes.ghost_name ≡ before.bytes.ghost_name

-- a number with the count of its bytes
abbrev pub field_bytes : ℕ × ℕ → List ℕ
field_bytes f = bytes_of f.0 f.1
