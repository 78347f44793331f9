-- What a step leaves in the records of its operation and its process, beside where it leads.
use Rattle.std.specs.Prelude.{ℕ, zero, suc, Bool, true, false, cond, List, [], ◌∷◌, Some, None, Option}
use Rattle.memory.specs.declared.cell.TaggedId.{TaggedId}
use Rattle.operation.specs.declared.kind.OperationKind.{OperationKind}
use Rattle.operation.specs.declared.kind.OperationKind.TheVariants.{Read, Ll, Sc, Snapshot, Kcss}
use Rattle.phases.specs.declared.phase.ReadPhase.TheVariants.{Look}
use Rattle.phases.specs.declared.phase.Phase.{Phase}
use Rattle.phases.specs.declared.phase.Phase.TheVariants.{Idle, Reading, Attempt, Linking, Save, Mark, Note, FirstId, FirstCollect, SecondCollect, SecondId, Swap}
use Rattle.phases.specs.declared.records.Operand.{Operand}
use Rattle.phases.specs.declared.turn.Finding.{Finding}
use Rattle.phases.specs.declared.turn.Finding.TheVariants as finding
use Rattle.phases.specs.declared.turn.Effect.{Effect}
use Rattle.phases.specs.declared.turn.Effect.TheVariants.{Here, AtMark, AtCollect}
use Rattle.phases.specs.declared.turn.Milestone.{Milestone}
use Rattle.phases.specs.declared.turn.Milestone.TheVariants.{Marked, Collected}

-- The phase in which an operation starts.
abbrev pub first_phase : {V : Type 0} → OperationKind → Phase V
first_phase Read = Reading Look
first_phase Ll = Attempt
first_phase Sc = Swap
first_phase Snapshot = FirstId 0
first_phase Kcss = Attempt

-- A line's finding is recorded in the operand.
abbrev pub at_operand : {V : Type 0} → ℕ → (Operand V → Operand V) → List (Operand V) → List (Operand V)
at_operand i f [] = []
at_operand zero f (o ∷ rest) = f o ∷ rest
at_operand (suc i) f (o ∷ rest) = o ∷ at_operand i f rest

-- The operand with this first value, and all else as it was.
abbrev pub put_first : {V : Type 0} → V → Operand V → Operand V
put_first v o = record {
  location = o.location;
  expected = o.expected;
  first = Some v;
  second = o.second;
  first_id = o.first_id;
  second_id = o.second_id;
}

-- The operand with this second value, and all else as it was.
abbrev pub put_second : {V : Type 0} → V → Operand V → Operand V
put_second v o = record {
  location = o.location;
  expected = o.expected;
  first = o.first;
  second = Some v;
  first_id = o.first_id;
  second_id = o.second_id;
}

-- The operand with this first id, and all else as it was.
abbrev pub put_first_id : {V : Type 0} → TaggedId → Operand V → Operand V
put_first_id i o = record {
  location = o.location;
  expected = o.expected;
  first = o.first;
  second = o.second;
  first_id = i;
  second_id = o.second_id;
}

-- The operand with this second id, and all else as it was.
abbrev pub put_second_id : {V : Type 0} → TaggedId → Operand V → Operand V
put_second_id i o = record {
  location = o.location;
  expected = o.expected;
  first = o.first;
  second = o.second;
  first_id = o.first_id;
  second_id = i;
}

-- The operands once a finding is recorded in the one that it names; a finding of nothing changes none.
abbrev pub recorded : {V : Type 0} → Finding V → List (Operand V) → List (Operand V)
recorded finding.Nothing operands = operands
recorded (finding.FirstId i id) operands = at_operand i (put_first_id id) operands
recorded (finding.First i v) operands = at_operand i (put_first v) operands
recorded (finding.Second i v) operands = at_operand i (put_second v) operands
recorded (finding.SecondId i id) operands = at_operand i (put_second_id id) operands

-- A line in this phase is the first 13 of a fresh attempt.
abbrev pub is_attempt : {V : Type 0} → Phase V → Bool
is_attempt Idle = false
is_attempt (Reading s) = false
is_attempt Attempt = true
is_attempt (Linking s) = false
is_attempt (Save kept) = false
is_attempt (Mark kept) = false
is_attempt (Note kept) = false
is_attempt (FirstId operand) = false
is_attempt (FirstCollect operand s) = false
is_attempt (SecondCollect operand s) = false
is_attempt (SecondId operand) = false
is_attempt Swap = false

-- The tag is raised before it.
abbrev pub raised : {V : Type 0} → Phase V → ℕ → ℕ
raised phase tag = cond (is_attempt phase) (suc tag) tag

-- The step of the last 8 that said yes, and the step that ended the last first collect, after step t.
abbrev pub marked_after : Option Milestone → (t marked : ℕ) → ℕ
marked_after None t m = m
marked_after (Some Marked) t m = t
marked_after (Some Collected) t m = m

-- The step that ended the last first collect, once step t is taken: t itself if it ended one.
abbrev pub collected_after : Option Milestone → (t collected : ℕ) → ℕ
collected_after None t c = c
collected_after (Some Marked) t c = c
collected_after (Some Collected) t c = t

-- The effect step of an operation that ends at step t.
abbrev pub effect_step : Effect → (t marked collected : ℕ) → ℕ
effect_step Here t m c = t
effect_step AtMark t m c = m
effect_step AtCollect t m c = c
