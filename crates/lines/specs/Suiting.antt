-- Which phases suit which kinds of operations.
use Rattle.std.specs.Prelude.{ℕ, Bool, true, false, nat_le}
use Rattle.operation.specs.declared.kind.OperationKind.{OperationKind}
use Rattle.operation.specs.declared.kind.OperationKind.TheVariants.{Read, Ll, Sc, Snapshot, Kcss}
use Rattle.phases.specs.declared.phase.Phase.{Phase}
use Rattle.phases.specs.declared.phase.Phase.TheVariants.{Idle, Reading, Attempt, Linking, Save, Mark, Note, FirstId, FirstCollect, SecondCollect, SecondId, Swap}

-- the first operand that the SNAPSHOT of an operation collects
abbrev pub snapshot_from : OperationKind → ℕ
snapshot_from Read = 0
snapshot_from Ll = 0
snapshot_from Sc = 0
snapshot_from Snapshot = 0
snapshot_from Kcss = 1

-- a SNAPSHOT collects every operand, a KCSS all but the first
abbrev pub collects_from : OperationKind → ℕ → Bool
collects_from Read operand = false
collects_from Ll operand = false
collects_from Sc operand = false
collects_from Snapshot operand = true
collects_from Kcss operand = nat_le 1 operand

-- the kind that the phases of a READ operation suit: READ
abbrev pub reads : OperationKind → Bool
reads Read = true
reads Ll = false
reads Sc = false
reads Snapshot = false
reads Kcss = false

-- the kinds that the phases of an LL suit: LL and KCSS
abbrev pub links : OperationKind → Bool
links Read = false
links Ll = true
links Sc = false
links Snapshot = false
links Kcss = true

-- the kinds that make 11: SC and KCSS
abbrev pub swaps : OperationKind → Bool
swaps Read = false
swaps Ll = false
swaps Sc = true
swaps Snapshot = false
swaps Kcss = true

-- whether a phase suits a kind, with one clause for each phase; Idle suits none
abbrev pub suiting : {V : Type 0} → OperationKind → Phase V → Bool
suiting kind Idle = false
suiting kind (Reading read) = reads kind
suiting kind Attempt = links kind
suiting kind (Linking read) = links kind
suiting kind (Save kept) = links kind
suiting kind (Mark kept) = links kind
suiting kind (Note kept) = links kind
suiting kind (FirstId operand) = collects_from kind operand
suiting kind (FirstCollect operand read) = collects_from kind operand
suiting kind (SecondCollect operand read) = collects_from kind operand
suiting kind (SecondId operand) = collects_from kind operand
suiting kind Swap = swaps kind
