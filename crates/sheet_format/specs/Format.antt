-- The bytes of a run sheet. Numbers stand with their lowest byte first.
use Rattle.std.specs.Prelude.{ℕ, ◌+◌, ◌*◌, List, [], ◌∷◌, ◌++◌, map, length}
use Rattle.std.specs.List.{flat_map}
use Rattle.operation.specs.declared.kind.OperationKind.{OperationKind}
use Rattle.operation.specs.declared.kind.OperationKind.TheVariants.{Read, Ll, Sc, Snapshot, Kcss}
use Rattle.sheet_format.specs.declared.parts.Operand.{Operand}
use Rattle.sheet_format.specs.declared.parts.ScriptItem.{ScriptItem}
use Rattle.sheet_format.specs.declared.parts.ScriptItem.TheVariants.{Start, Step}
use Rattle.sheet_format.specs.Bytes.{bytes_of}
use Rattle.operation.specs.Kinds.{kind_number}
use Rattle.sheet_format.specs.Parts.{Act, read, ll, sc, snapshot, kcss, Op, Parts}

-- the kind of an operation, from what it is to do
abbrev pub act_kind : {V : Type 0} → Act V → OperationKind
act_kind (read a) = Read
act_kind (ll a) = Ll
act_kind (sc a v) = Sc
act_kind (snapshot locations) = Snapshot
act_kind (kcss v operands) = Kcss

-- how many locations an operation names
abbrev pub act_count : {V : Type 0} → Act V → ℕ
act_count (read a) = 1
act_count (ll a) = 1
act_count (sc a v) = 1
act_count (snapshot locations) = length locations
act_count (kcss v operands) = length operands

-- an operation takes 12 bytes and 10 for each operand
abbrev pub size_by : ℕ → ℕ
size_by count = 12 + 10 * count

-- how many bytes these operations take together
abbrev pub sizes : {V : Type 0} → List (Op V) → ℕ
sizes [] = 0
sizes (o ∷ rest) = size_by (act_count o.act) + sizes rest

-- where the operations begin, where the script begins, and the whole length
abbrev pub operations_at : {V : Type 0} → Parts V → ℕ
operations_at p = 24 + 8 * length p.initial

-- the script begins where the operations end
abbrev pub script_at : {V : Type 0} → Parts V → ℕ
script_at p = operations_at p + sizes p.operations

-- the whole length: the script comes last, with one byte for each item
abbrev pub total : {V : Type 0} → Parts V → ℕ
total p = script_at p + length p.script

-- a location and an expected code
abbrev pub operand_bytes : ℕ → ℕ → List ℕ
operand_bytes location code = bytes_of 2 location ++ bytes_of 8 code

-- a byte below 32 steps that process, 255 starts the next operation
abbrev pub item_byte : ScriptItem → ℕ
item_byte Start = 255
item_byte (Step p) = p

module _ {V : Type 0} (code : V → ℕ) where
  -- codes that are not used are zero
  abbrev pub new_code : Act V → ℕ
  new_code (read a) = 0
  new_code (ll a) = 0
  new_code (sc a v) = code v
  new_code (snapshot locations) = 0
  new_code (kcss v operands) = code v

  -- an operand of any kind but KCSS: its location, and zero for the expected code, which is not used
  abbrev pub location_bytes : ℕ → List ℕ
  location_bytes a = operand_bytes a 0

  -- an operand of a KCSS: its location, and the code of its expected value
  abbrev pub expected_bytes : Operand V → List ℕ
  expected_bytes o = operand_bytes o.location (code o.expected)

  -- the operands in their order: one of a READ, an LL or an SC, all of a SNAPSHOT or a KCSS
  abbrev pub operands_bytes : Act V → List ℕ
  operands_bytes (read a) = location_bytes a
  operands_bytes (ll a) = location_bytes a
  operands_bytes (sc a v) = location_bytes a
  operands_bytes (snapshot locations) = flat_map location_bytes locations
  operands_bytes (kcss v operands) = flat_map expected_bytes operands

  -- kind, process, count, zero, new code, then the operands
  unfoldable pub op_bytes : Op V → List ℕ
  op_bytes o = kind_number (act_kind o.act) ∷ o.process ∷ act_count o.act ∷ 0 ∷ (bytes_of 8 (new_code o.act) ++ operands_bytes o.act)

  -- an initial value is its code in 8 bytes
  abbrev pub value_bytes : V → List ℕ
  value_bytes v = bytes_of 8 (code v)

  -- version 1, the kind number, three counts, three offsets, the total length
  unfoldable pub header_bytes : ℕ → Parts V → List ℕ
  header_bytes number p = 1 ∷ number ∷ (bytes_of 2 (length p.initial) ++ (bytes_of 2 p.processes ++ (bytes_of 2 (length p.script)
      ++ (bytes_of 4 24 ++ (bytes_of 4 (operations_at p) ++ (bytes_of 4 (script_at p) ++ bytes_of 4 (total p)))))))

  -- the header, the initial values, the operations, then the script
  unfoldable pub sheet_bytes : ℕ → Parts V → List ℕ
  sheet_bytes number p = header_bytes number p ++ (flat_map value_bytes p.initial ++ (flat_map op_bytes p.operations ++ map item_byte p.script))
