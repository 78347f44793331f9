-- What writing a run sheet answers and leaves: the refusal with which reading would meet the bytes, or the
-- output with the sheet's bytes at its front.
use Rattle.std.specs.Prelude.{ℕ, zero, suc, ◌+◌, Bool, true, cond, List, [], ◌∷◌, length, is_ok, Ok, Err, Result, ◌==◌, nat_le, nat_lt}
use Rattle.sheet_format.specs.declared.fault.SheetRefusal.TheVariants.{WrongHeader, WrongOperation, WrongScript, ShortOutput}
use Rattle.sheet_format.specs.declared.fault.SheetFault.{SheetFault}
use Rattle.sheet_format.specs.declared.parts.ScriptItem.{ScriptItem}
use Rattle.sheet_format.specs.declared.parts.ScriptItem.TheVariants.{Start, Step}
use Rattle.sheet_format.specs.Bytes.{overwritten}
use Rattle.operation.specs.Kinds.{counted}
use Rattle.sheet_format.specs.Faults.{fault, require, then}
use Rattle.sheet_format.specs.Parts.{Op, Parts}
use Rattle.sheet_format.specs.Format.{act_kind, act_count, size_by, operations_at, sheet_bytes}
use Rattle.sheet_format.specs.Reading.{within, starts}

-- where operations that begin at `at` end, if there are at most `left` of them and each has a count of its kind
unfoldable pub operations_end : {V : Type 0} → ℕ → ℕ → List (Op V) → Result ℕ SheetFault
operations_end at left [] = Ok at
operations_end at zero (o ∷ rest) = Err (fault WrongOperation at)
operations_end at (suc left) (o ∷ rest) = require (counted (act_kind o.act) (act_count o.act)) (fault WrongOperation at)
    (operations_end (at + size_by (act_count o.act)) left rest)

-- a step of a process from 32 on has no byte
abbrev pub writable : ScriptItem → Bool
writable Start = true
writable (Step p) = nat_lt p 32

-- where a script that begins at `at` ends
unfoldable pub script_end : ℕ → List ScriptItem → Result ℕ SheetFault
script_end at [] = Ok at
script_end at (i ∷ rest) = require (writable i) (fault WrongScript at) (script_end (at + 1) rest)

module _ {V : Type 0} (p : Parts V) where
  -- the whole length, or the refusal: 21 for L, P or N, 23 for an operation, 25 for the script
  unfoldable pub layout_answer : Result ℕ SheetFault
  layout_answer =
      require (within 1 256 (length p.initial)) (fault WrongHeader 2)
      (require (within 1 32 p.processes) (fault WrongHeader 4)
      (require (nat_le (length p.script) 65535) (fault WrongHeader 6)
      (then (operations_end (operations_at p) 4096 p.operations) (λ script_at.
      then (script_end script_at p.script) (λ total.
      require (starts p.script == length p.operations) (fault WrongScript total) (Ok total))))))

  -- 26 for an output that is too short, at the length that is needed
  unfoldable pub write_answer : ℕ → Result ℕ SheetFault
  write_answer room = then layout_answer (λ total. require (nat_le total room) (fault ShortOutput total) (Ok total))

  -- on a refusal no byte changes
  abbrev pub write_after : (V → ℕ) → ℕ → List ℕ → List ℕ
  write_after code number out = cond (is_ok (write_answer (length out))) (overwritten (sheet_bytes code number p) out) out
