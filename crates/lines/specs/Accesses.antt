-- The access that a process makes next, with its line.
use Rattle.std.specs.Prelude.{ℕ, cond, List, Some, None, Option, option_and_then}
use Rattle.memory.specs.declared.cell.TaggedId.{TaggedId}
use Rattle.memory.specs.declared.cell.Cell.TheVariants.{Value, Id}
use Rattle.operation.specs.declared.kind.OperationKind.{OperationKind}
use Rattle.operation.specs.declared.kind.OperationKind.TheVariants.{Read, Ll, Sc, Snapshot, Kcss}
use Rattle.phases.specs.declared.name.Line.{Line}
use Rattle.phases.specs.declared.name.Line.TheVariants.{L13, L1, L3a, L3b, L7, L8, L9, L11, S6, S9}
use Rattle.phases.specs.declared.phase.ReadPhase.{ReadPhase}
use Rattle.phases.specs.declared.phase.ReadPhase.TheVariants.{Look, LookAgain, Fetch, Reset}
use Rattle.phases.specs.declared.phase.Phase.{Phase}
use Rattle.phases.specs.declared.phase.Phase.TheVariants.{Idle, Reading, Attempt, Linking, Save, Mark, Note, FirstId, FirstCollect, SecondCollect, SecondId, Swap}
use Rattle.phases.specs.declared.records.Operand.{Operand}
use Rattle.phases.specs.declared.records.Place.TheVariants.{Val, Tid, Saved}
use Rattle.phases.specs.declared.records.Access.{Access}
use Rattle.phases.specs.declared.records.Access.TheVariants.{Load, Store, Cas}
use Rattle.lines.specs.Suiting.{suiting}
use Rattle.lines.specs.Comparing.{operand_at, all_meet}

-- 13 and 1 load val; 3a loads the saved value of the kept id's process; 3b CASes val from the kept id to it
abbrev pub read_access : {V : Type 0} → ℕ → ReadPhase V → Line × Access V
read_access location Look = (L13, Load (Val location))
read_access location LookAgain = (L1, Load (Val location))
read_access location (Fetch kept) = (L3a, Load (Saved kept.process))
read_access location (Reset kept saved) = (L3b, Cas (Val location) (Id kept) (Value saved))

-- what `f` gives for this operand's location; none where there is no operand
abbrev pub with_place : {V A : Type 0} → Option (Operand V) → (ℕ → Option A) → Option A
with_place None f = None
with_place (Some o) f = f o.location

module _ {V : Type 0} (code : V → ℕ) where
  -- 11 writes the new value; where a value of a KCSS differs from its expected one, the LL's value
  abbrev pub swap_value : OperationKind → List (Operand V) → Option V → Option V
  swap_value Read operands new = new
  swap_value Ll operands new = new
  swap_value Sc operands new = new
  swap_value Snapshot operands new = new
  swap_value Kcss operands new = cond (all_meet code operands) new (option_and_then (λ o. o.first) (operand_at operands 0))

  -- 11 CASes val of the location from own id to this value; where there is no value, it makes no access
  abbrev pub swap_access : TaggedId → ℕ → Option V → Option (Line × Access V)
  swap_access own location None = None
  swap_access own location (Some v) = Some (L11, Cas (Val location) (Id own) (Value v))

  module _ (own : TaggedId) (kind : OperationKind) (operands : List (Operand V)) (new : Option V) where
    -- `location` is the first operand's
    abbrev pub phase_access : ℕ → Phase V → Option (Line × Access V)
    phase_access location Idle = None
    phase_access location (Reading read) = Some (read_access location read)
    phase_access location Attempt = Some (L13, Load (Val location))
    phase_access location (Linking read) = Some (read_access location read)
    phase_access location (Save kept) = Some (L7, Store (Saved own.process) kept)
    phase_access location (Mark kept) = Some (L8, Cas (Val location) kept (Id own))
    phase_access location (Note kept) = Some (L9, Store (Tid location) (Id own))
    phase_access location (FirstId operand) = with_place (operand_at operands operand) (λ a. Some (S6, Load (Tid a)))
    phase_access location (FirstCollect operand read) = with_place (operand_at operands operand) (λ a. Some (read_access a read))
    phase_access location (SecondCollect operand read) = with_place (operand_at operands operand) (λ a. Some (read_access a read))
    phase_access location (SecondId operand) = with_place (operand_at operands operand) (λ a. Some (S9, Load (Tid a)))
    phase_access location Swap = swap_access own location (swap_value kind operands new)

    -- the access of this phase, with the first operand's location; none where there is no operand
    abbrev pub line_access : Phase V → Option (Line × Access V)
    line_access phase = with_place (operand_at operands 0) (λ a. phase_access a phase)

    -- the line that comes next, with its access; none where the phase does not suit the operation's kind
    abbrev pub next_access : Phase V → Option (Line × Access V)
    next_access phase = cond (suiting kind phase) (line_access phase) None
