-- What reading a run sheet answers: the first refusal, in the order of the rules, or the parts.
use Rattle.std.specs.Prelude.{◌≡◌, ℕ, zero, suc, ◌+◌, ◌*◌, ◌≤◌, Bool, true, cond, ◌&&◌, ◌||◌, List, [], ◌∷◌, length, is_ok, Some, None, Ok, Err, Option, Result, ◌==◌, nat_le, nat_lt, slice_index}
use Rattle.std.specs.Option.{ok_or}
use Rattle.operation.specs.declared.kind.OperationKind.{OperationKind}
use Rattle.operation.specs.declared.kind.OperationKind.TheVariants.{Read, Ll, Sc, Snapshot, Kcss}
use Rattle.sheet_format.specs.declared.fault.SheetRefusal.TheVariants.{WrongLength, WrongHeader, WrongOffset, WrongOperation, WrongCode, WrongScript}
use Rattle.sheet_format.specs.declared.fault.SheetFault.{SheetFault}
use Rattle.sheet_format.specs.declared.header.Header.{Header}
use Rattle.sheet_format.specs.declared.header.RawHeader.{RawHeader}
use Rattle.sheet_format.specs.declared.head.OperationHead.{OperationHead}
use Rattle.sheet_format.specs.declared.parts.Operand.{Operand}
use Rattle.sheet_format.specs.declared.parts.ScriptItem.{ScriptItem}
use Rattle.sheet_format.specs.declared.parts.ScriptItem.TheVariants.{Start, Step}
use Rattle.sheet_format.specs.Bytes.{field}
use Rattle.operation.specs.Kinds.{kind_of, counted, takes_new, takes_expected}
use Rattle.sheet_format.specs.Faults.{fault, require, then, followed}
use Rattle.sheet_format.specs.Parts.{Act, read, ll, sc, snapshot, kcss, Op, Parts}
use Rattle.sheet_format.specs.Format.{size_by}

-- whether n is at least `low` and at most `high`
abbrev pub within : ℕ → ℕ → ℕ → Bool
within low high n = nat_le low n && nat_le n high

-- how many items of a script start an operation
abbrev pub starts : List ScriptItem → ℕ
starts [] = 0
starts (Start ∷ rest) = 1 + starts rest
starts (Step p ∷ rest) = starts rest

-- a byte below 32 steps that process, 255 starts the next operation; no other byte has a meaning
abbrev pub item_of : ℕ → Option ScriptItem
item_of b = cond (nat_lt b 32) (Some (Step b)) (cond (b == 255) (Some Start) None)

-- where a header that was found right puts the parts of a sheet of this length
pub record Placed (long : ℕ) (h : Header) : Type 0 where
  pub values : 24 + 8 * h.locations ≤ long
  pub before : h.operations ≤ h.script
  pub script_end : h.script + h.items ≤ long

-- The first refusal of a header in a sheet of this length: 20 where the length is not the one it says; 21 for
-- version, kind, L or P; 22 for an offset that is not where it must be. An offset that passes the total, or
-- lies below the one before, is refused at its own byte.
abbrev pub header_by : RawHeader → ℕ → ℕ → Result Header SheetFault
header_by raw long number =
    require (raw.total == long) (fault WrongLength long)
    (require (raw.version == 1) (fault WrongHeader 0)
    (require (raw.kind == number) (fault WrongHeader 1)
    (require (within 1 256 raw.locations) (fault WrongHeader 2)
    (require (within 1 32 raw.processes) (fault WrongHeader 4)
    (require (raw.values == 24) (fault WrongOffset 8)
    (require (raw.operations == 24 + 8 * raw.locations && nat_le raw.operations long) (fault WrongOffset 12)
    (require (raw.script + raw.items == long && nat_le raw.operations raw.script) (fault WrongOffset 16)
    (Ok (record { locations = raw.locations; processes = raw.processes; items = raw.items; operations = raw.operations; script = raw.script })))))))))

-- So many items from `at` on, each in `width` bytes: `one` is what the item at a place gives, and the first
-- that refuses decides.
unfoldable pub row_answer : {X : Type 0} → (ℕ → Result X SheetFault) → ℕ → ℕ → ℕ → Result (List X) SheetFault
row_answer one width at zero = Ok []
row_answer one width at (suc n) = followed (one at) (row_answer one width (at + width) n)

module _ (bytes : List ℕ) where
  -- where the fields of a header stand
  abbrev pub header_fields : RawHeader
  header_fields = record {
    version = slice_index bytes 0;
    kind = slice_index bytes 1;
    locations = field bytes 2 2;
    processes = field bytes 4 2;
    items = field bytes 6 2;
    values = field bytes 8 4;
    operations = field bytes 12 4;
    script = field bytes 16 4;
    total = field bytes 20 4;
  }

  -- 20 for a sheet that is shorter than its header
  unfoldable pub header_answer : ℕ → Result Header SheetFault
  header_answer number = require (nat_le 24 (length bytes)) (fault WrongLength (length bytes)) (header_by header_fields (length bytes) number)

  -- whether the expected codes of so many operands, from `at` on, are all zero
  unfoldable pub unused : ℕ → ℕ → Bool
  unused at zero = true
  unused at (suc n) = field bytes (at + 2) 8 == 0 && unused (at + 10) n

  -- the locations of so many operands; reading them refuses nothing, so they are no row that may be refused
  unfoldable pub locations_from : ℕ → ℕ → List ℕ
  locations_from at zero = []
  locations_from at (suc n) = field bytes at 2 ∷ locations_from (at + 10) n

  -- An operation's head, from `at` on, in a sheet whose script begins at `end`: 23 where the kind is unknown,
  -- the count is not the kind's, the zero byte or an unused code is not zero, or it runs past `end`.
  abbrev pub head_fits : ℕ → ℕ → OperationKind → Bool
  head_fits at end kind = counted kind (slice_index bytes (at + 2))
      && (slice_index bytes (at + 3) == 0
      && (nat_le (at + size_by (slice_index bytes (at + 2))) end
      && ((takes_new kind || field bytes (at + 4) 8 == 0)
      && (takes_expected kind || unused (at + 12) (slice_index bytes (at + 2))))))

  -- 23 at the start where the kind is unknown or the head does not fit it; else the head
  abbrev pub head_by : ℕ → ℕ → Option OperationKind → Result OperationHead SheetFault
  head_by at end None = Err (fault WrongOperation at)
  head_by at end (Some kind) = require (head_fits at end kind) (fault WrongOperation at)
      (Ok (record { kind = kind; process = slice_index bytes (at + 1); count = slice_index bytes (at + 2) }))

  -- 23 also where the first 12 bytes run past `end`; else the head of the kind that the first byte names
  unfoldable pub head_answer : ℕ → ℕ → Result OperationHead SheetFault
  head_answer at end = require (nat_le (at + 12) end) (fault WrongOperation at) (head_by at end (kind_of (slice_index bytes at)))

  -- a script byte, 25 where it is neither below 32 nor 255, and so many of them from `at` on
  abbrev pub item_answer : ℕ → Result ScriptItem SheetFault
  item_answer at = ok_or (item_of (slice_index bytes at)) (fault WrongScript at)

  -- so many script items from `at` on, one byte each
  abbrev pub script_answer : ℕ → ℕ → Result (List ScriptItem) SheetFault
  script_answer = row_answer item_answer 1

module _ {V : Type 0} (decode : ℕ → Option V) (bytes : List ℕ) where
  -- the value whose code stands at `at`: 24 where it gives none
  abbrev pub value_answer : ℕ → Result V SheetFault
  value_answer at = ok_or (decode (field bytes at 8)) (fault WrongCode at)

  -- so many values from `at` on
  abbrev pub values_answer : ℕ → ℕ → Result (List V) SheetFault
  values_answer = row_answer value_answer 8

  -- one operand, a location and an expected value, and so many of them
  abbrev pub operand_answer : ℕ → Result (Operand V) SheetFault
  operand_answer at = then (value_answer (at + 2)) (λ v. Ok (record { location = field bytes at 2; expected = v }))

  -- so many operands from `at` on, 10 bytes each
  abbrev pub operands_answer : ℕ → ℕ → Result (List (Operand V)) SheetFault
  operands_answer = row_answer operand_answer 10

  -- what an operation that starts at `at` is to do
  abbrev pub action_by : ℕ → OperationKind → ℕ → Result (Act V) SheetFault
  action_by at Read count = Ok (read (field bytes (at + 12) 2))
  action_by at Ll count = Ok (ll (field bytes (at + 12) 2))
  action_by at Sc count = then (value_answer (at + 4)) (λ v. Ok (sc (field bytes (at + 12) 2) v))
  action_by at Snapshot count = Ok (snapshot (locations_from bytes (at + 12) count))
  action_by at Kcss count = then (value_answer (at + 4)) (λ v. then (operands_answer (at + 12) count) (λ os. Ok (kcss v os)))

  -- the operation at `at` whose head this is: the head's process, and what it is to do
  abbrev pub action_answer : ℕ → OperationHead → Result (Op V) SheetFault
  action_answer at head = then (action_by at head.kind head.count) (λ a. Ok (record { process = head.process; act = a }))

  -- the operation that starts at `at`: its head is tested first, then its codes
  unfoldable pub operation_answer : ℕ → ℕ → Result (Op V) SheetFault
  operation_answer end at = then (head_answer bytes at end) (action_answer at)

  -- The operations from `at` on up to the script, at most `left` of them: one more is 23 at its start.
  unfoldable pub operations_answer : ℕ → ℕ → ℕ → Result (List (Op V)) SheetFault
  operations_answer end zero at = require (nat_le end at) (fault WrongOperation at) (Ok [])
  operations_answer end (suc left) at = cond (nat_le end at) (Ok [])
      (followed (operation_answer end at) (operations_answer end left (at + size_by (slice_index bytes (at + 2)))))

  -- the script has one start for each operation: else 25 at the total
  abbrev pub joined_answer : Header → List V → List (Op V) → List ScriptItem → Result (Parts V) SheetFault
  joined_answer h values ops items = require (starts items == length ops) (fault WrongScript (length bytes))
      (Ok (record { initial = values; processes = h.processes; operations = ops; script = items }))

  -- what comes after the header: the initial values, the operations, then the script; the first refusal decides
  unfoldable pub body_answer : Header → Result (Parts V) SheetFault
  body_answer h =
      then (values_answer 24 h.locations) (λ values.
      then (operations_answer h.script 4096 h.operations) (λ ops.
      then (script_answer bytes h.script h.items) (λ items.
      joined_answer h values ops items)))

  -- the header is tested first, then what comes after it
  unfoldable pub read_answer : ℕ → Result (Parts V) SheetFault
  read_answer number = then (header_answer bytes number) body_answer

  -- There is something to keep: the header is right, and the first code gives a value.
  pub record Keeps (number : ℕ) : Type 0 where
    pub header : is_ok (header_answer bytes number) ≡ true
    pub value : is_ok (value_answer 24) ≡ true
