-- Looking at operands: one of them, whether a collect was undisturbed, and whether values are as expected.
use Rattle.std.specs.Prelude.{ℕ, Bool, false, ◌&&◌, List, Some, None, Option, ◌==◌, slice_get}
use Rattle.std.specs.List.{list_all}
use Rattle.memory.specs.declared.cell.TaggedId.{TaggedId}
use Rattle.phases.specs.declared.records.Operand.{Operand}

-- operand i
abbrev pub operand_at : {V : Type 0} → List (Operand V) → ℕ → Option (Operand V)
operand_at operands i = slice_get operands i

-- ids are the same when their processes and their tags are equal
abbrev pub same_ids : TaggedId → TaggedId → Bool
same_ids i j = i.process == j.process && i.tag == j.tag

module _ {V : Type 0} (code : V → ℕ) where
  -- values are the same when their codes are equal
  abbrev pub same_values : Option V → Option V → Bool
  same_values (Some x) (Some y) = code x == code y
  same_values (Some x) None = false
  same_values None b = false

  -- both ids and both values of an operand are the same
  abbrev pub still : Operand V → Bool
  still o = same_ids o.first_id o.second_id && same_values o.first o.second

  -- both ids and both values of every operand are the same
  abbrev pub all_still : List (Operand V) → Bool
  all_still operands = list_all still operands

  -- the value that was collected first is the expected one
  abbrev pub meets : Operand V → Bool
  meets o = same_values o.first o.expected

  -- the value that was collected first is the expected one at every operand
  abbrev pub all_meet : List (Operand V) → Bool
  all_meet operands = list_all meets operands
