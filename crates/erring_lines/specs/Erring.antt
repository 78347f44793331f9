-- Three errors in the lines.
-- Each differs from the true lines in one place.
use Rattle.std.specs.Prelude.{ℕ, Bool, cond, List, length, drop, Some, None, Option}
use Rattle.std.specs.List.{list_all}
use Rattle.memory.specs.declared.cell.Cell.{Cell}
use Rattle.memory.specs.declared.cell.Cell.TheVariants.{Value, Id}
use Rattle.operation.specs.declared.kind.OperationKind.{OperationKind}
use Rattle.phases.specs.declared.phase.ReadPhase.{ReadPhase}
use Rattle.phases.specs.declared.phase.ReadPhase.TheVariants.{Look, LookAgain, Fetch, Reset}
use Rattle.phases.specs.declared.phase.Phase.{Phase}
use Rattle.phases.specs.declared.phase.Phase.TheVariants.{Idle, Reading, Attempt, Linking, Save, Mark, Note, FirstId, FirstCollect, SecondCollect, SecondId, Swap}
use Rattle.phases.specs.declared.records.Operand.{Operand}
use Rattle.phases.specs.declared.records.Seen.{Seen}
use Rattle.phases.specs.declared.records.Seen.TheVariants.{Found, Stored, Said}
use Rattle.phases.specs.declared.turn.Finding.TheVariants as finding
use Rattle.phases.specs.declared.turn.Effect.{Effect}
use Rattle.phases.specs.declared.turn.Effect.TheVariants.{Here}
use Rattle.phases.specs.declared.turn.Answer.{Answer}
use Rattle.phases.specs.declared.turn.Answer.TheVariants.{Values, Yes, No}
use Rattle.phases.specs.declared.turn.Turn.{Turn}
use Rattle.phases.specs.declared.turn.Turn.TheVariants as turn
use Rattle.lines.specs.Suiting.{snapshot_from}
use Rattle.lines.specs.Comparing.{same_values}
use Rattle.lines.specs.Advancing.{finding_of, turn_of, found_turn, go_to_operand, next_operand, undisturbed, on}
use Rattle.sample_runs.specs.Model.{code, Lines}

-- what is so where a READ runs, and elsewhere
abbrev pub in_read : {A : Type 0} → Phase ℕ → (ReadPhase ℕ → A) → A → A
in_read Idle f other = other
in_read (Reading read) f other = f read
in_read Attempt f other = other
in_read (Linking read) f other = other
in_read (Save kept) f other = other
in_read (Mark kept) f other = other
in_read (Note kept) f other = other
in_read (FirstId operand) f other = other
in_read (FirstCollect operand read) f other = other
in_read (SecondCollect operand read) f other = other
in_read (SecondId operand) f other = other
in_read Swap f other = other

-- what is so where S9 is made, and elsewhere
abbrev pub in_second_id : {A : Type 0} → Phase ℕ → (ℕ → A) → A → A
in_second_id Idle f other = other
in_second_id (Reading read) f other = other
in_second_id Attempt f other = other
in_second_id (Linking read) f other = other
in_second_id (Save kept) f other = other
in_second_id (Mark kept) f other = other
in_second_id (Note kept) f other = other
in_second_id (FirstId operand) f other = other
in_second_id (FirstCollect operand read) f other = other
in_second_id (SecondCollect operand read) f other = other
in_second_id (SecondId operand) f other = f operand
in_second_id Swap f other = other

-- what is so where a value is found, and elsewhere
abbrev pub of_cell : {A : Type 0} → Cell ℕ → (ℕ → A) → A → A
of_cell (Value v) f other = f v
of_cell (Id i) f other = other

-- what is so where a load found a value, and elsewhere; a store and a CAS find none
abbrev pub of_seen : {A : Type 0} → Seen ℕ → (ℕ → A) → A → A
of_seen (Found c) f other = of_cell c f other
of_seen Stored f other = other
of_seen (Said b) f other = other

-- what is so where 3a finds a saved value, and elsewhere
abbrev pub fetched : {A : Type 0} → ReadPhase ℕ → Seen ℕ → (ℕ → A) → A → A
fetched Look seen f other = other
fetched LookAgain seen f other = other
fetched (Fetch kept) seen f other = of_seen seen f other
fetched (Reset kept saved) seen f other = other

-- 3a of a READ ends it with the saved value, and the id is left in val
abbrev pub leaves_id : Lines
leaves_id = record {
  finding = λ phase seen. in_read phase (λ read. fetched read seen (λ v. Some (finding.First 0 v)) (finding_of phase seen)) (finding_of phase seen);
  turn = λ kind operands phase seen. in_read phase
      (λ read. fetched read seen (λ v. Some (turn.Ends Values Here)) (turn_of code kind operands phase seen))
      (turn_of code kind operands phase seen);
}

-- both values of every operand are the same, whatever its ids are
abbrev pub all_values_same : List (Operand ℕ) → Bool
all_values_same operands = list_all (λ o. same_values code o.first o.second) operands

-- an attempt of a SNAPSHOT counts as undisturbed if both values of each operand that it collects are the same;
-- else S6 follows
abbrev pub compared_by_values : OperationKind → List (Operand ℕ) → Option (Turn ℕ)
compared_by_values kind operands = cond (all_values_same (drop (snapshot_from kind) operands)) (undisturbed kind) (on (FirstId (snapshot_from kind)))

-- the last S9 compares the values only
abbrev pub compares_values_only : Lines
compares_values_only = record {
  finding = finding_of;
  turn = λ kind operands phase seen. in_second_id phase
      (λ operand. found_turn seen (go_to_operand (next_operand operand (length operands)) SecondId (compared_by_values kind operands)))
      (turn_of code kind operands phase seen);
}

-- the effect of an answer: at the line's own step for a yes, as told for any other
abbrev pub yes_here : Answer → Effect → Effect
yes_here Values effect = effect
yes_here Yes effect = Here
yes_here No effect = effect

-- a turn that ends an operation with yes has its effect at that step; any other turn stays as it is
abbrev pub yes_ends_here : Option (Turn ℕ) → Option (Turn ℕ)
yes_ends_here None = None
yes_ends_here (Some (turn.On phase milestone)) = Some (turn.On phase milestone)
yes_ends_here (Some (turn.Ends answer effect)) = Some (turn.Ends answer (yes_here answer effect))

-- a yes has its effect at 11, of a KCSS of two locations too
abbrev pub logs_at_swap : Lines
logs_at_swap = record {
  finding = finding_of;
  turn = λ kind operands phase seen. yes_ends_here (turn_of code kind operands phase seen);
}
