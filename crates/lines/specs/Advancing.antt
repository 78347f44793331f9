-- Where a line leads, from what its access found.
use Rattle.std.specs.Prelude.{ℕ, ◌+◌, Bool, cond, List, length, drop, Some, None, Option, nat_lt, option_map, option_and_then}
use Rattle.std.specs.Option.{option_map_or}
use Rattle.memory.specs.declared.cell.TaggedId.{TaggedId}
use Rattle.memory.specs.declared.cell.Cell.{Cell}
use Rattle.memory.specs.declared.cell.Cell.TheVariants.{Value, Id}
use Rattle.operation.specs.declared.kind.OperationKind.{OperationKind}
use Rattle.operation.specs.declared.kind.OperationKind.TheVariants.{Read, Ll, Sc, Snapshot, Kcss}
use Rattle.phases.specs.declared.phase.ReadPhase.{ReadPhase}
use Rattle.phases.specs.declared.phase.ReadPhase.TheVariants.{Look, LookAgain, Fetch, Reset}
use Rattle.phases.specs.declared.phase.Phase.{Phase}
use Rattle.phases.specs.declared.phase.Phase.TheVariants.{Idle, Reading, Attempt, Linking, Save, Mark, Note, FirstId, FirstCollect, SecondCollect, SecondId, Swap}
use Rattle.phases.specs.declared.records.Operand.{Operand}
use Rattle.phases.specs.declared.records.Seen.{Seen}
use Rattle.phases.specs.declared.records.Seen.TheVariants.{Found, Stored, Said}
use Rattle.phases.specs.declared.turn.ReadTurn.{ReadTurn}
use Rattle.phases.specs.declared.turn.ReadTurn.TheVariants.{On, Got}
use Rattle.phases.specs.declared.turn.Finding.{Finding}
use Rattle.phases.specs.declared.turn.Finding.TheVariants as finding
use Rattle.phases.specs.declared.turn.Effect.TheVariants.{Here, AtMark, AtCollect}
use Rattle.phases.specs.declared.turn.Answer.TheVariants.{Values, Yes, No}
use Rattle.phases.specs.declared.turn.Milestone.TheVariants.{Marked, Collected}
use Rattle.phases.specs.declared.turn.Turn.{Turn}
use Rattle.phases.specs.declared.turn.Turn.TheVariants as turn
use Rattle.lines.specs.Suiting.{snapshot_from}
use Rattle.lines.specs.Comparing.{operand_at, all_still, all_meet, meets}

-- 13: a value ends the READ, an id leads to 1. 1: a value leads to 13, an id is kept and leads to 3a. 3a: the saved value
-- leads to 3b. 13 follows 3b, whatever it said.
abbrev pub read_turn : {V : Type 0} → ReadPhase V → Seen V → Option (ReadTurn V)
read_turn Look (Found (Value v)) = Some (Got v)
read_turn Look (Found (Id i)) = Some (On LookAgain)
read_turn Look Stored = None
read_turn Look (Said b) = None
read_turn LookAgain (Found (Value v)) = Some (On Look)
read_turn LookAgain (Found (Id i)) = Some (On (Fetch i))
read_turn LookAgain Stored = None
read_turn LookAgain (Said b) = None
read_turn (Fetch kept) (Found (Value v)) = Some (On (Reset kept v))
read_turn (Fetch kept) (Found (Id i)) = None
read_turn (Fetch kept) Stored = None
read_turn (Fetch kept) (Said b) = None
read_turn (Reset kept saved) (Found c) = None
read_turn (Reset kept saved) Stored = None
read_turn (Reset kept saved) (Said b) = Some (On Look)

-- the value that ends a READ, if what was seen ends it
abbrev pub ending_value_of : {V : Type 0} → Option (ReadTurn V) → Option V
ending_value_of None = None
ending_value_of (Some (On read)) = None
ending_value_of (Some (Got v)) = Some v

-- the value that ends a READ in this phase, if what was seen there ends it
abbrev pub ending_value : {V : Type 0} → ReadPhase V → Seen V → Option V
ending_value read seen = ending_value_of (read_turn read seen)

-- The value that ends a READ is recorded as the operand's first value, in the second collect as its second; the value of
-- an LL is recorded at its 9; S6 and S9 record the ids. A tid that is a value is found by none.
abbrev pub read_finding : {V : Type 0} → (V → Finding V) → ReadPhase V → Seen V → Option (Finding V)
read_finding records read seen = Some (option_map_or records (ending_value read seen) finding.Nothing)

-- the id that was found, if one was
abbrev pub found_id : {V : Type 0} → Seen V → Option TaggedId
found_id (Found (Value v)) = None
found_id (Found (Id i)) = Some i
found_id Stored = None
found_id (Said b) = None

-- the id that was found is recorded; where none was, there is no finding
abbrev pub id_finding : {V : Type 0} → (TaggedId → Finding V) → Seen V → Option (Finding V)
id_finding records seen = option_map records (found_id seen)

-- the value that an LL kept is recorded as the first operand's first value; a kept id has no finding
abbrev pub note_finding : {V : Type 0} → Cell V → Option (Finding V)
note_finding (Value v) = Some (finding.First 0 v)
note_finding (Id i) = None

-- what the line of each phase records of what it saw; the READ of an LL, 7, 8 and 11 record nothing
abbrev pub finding_of : {V : Type 0} → Phase V → Seen V → Option (Finding V)
finding_of Idle seen = Some finding.Nothing
finding_of (Reading read) seen = read_finding (finding.First 0) read seen
finding_of Attempt seen = Some finding.Nothing
finding_of (Linking read) seen = Some finding.Nothing
finding_of (Save kept) seen = Some finding.Nothing
finding_of (Mark kept) seen = Some finding.Nothing
finding_of (Note kept) seen = note_finding kept
finding_of (FirstId operand) seen = id_finding (finding.FirstId operand) seen
finding_of (FirstCollect operand read) seen = read_finding (finding.First operand) read seen
finding_of (SecondCollect operand read) seen = read_finding (finding.Second operand) read seen
finding_of (SecondId operand) seen = id_finding (finding.SecondId operand) seen
finding_of Swap seen = Some finding.Nothing

-- the operand after this one
abbrev pub next_operand : ℕ → ℕ → Option ℕ
next_operand operand count = cond (nat_lt (operand + 1) count) (Some (operand + 1)) None

-- the process goes on to this phase, and the step is no milestone
abbrev pub on : {V : Type 0} → Phase V → Option (Turn V)
on phase = Some (turn.On phase None)

-- 9 ends an LL, whose effect is its 8; a KCSS goes on with the SNAPSHOT of the rest, or with 11
abbrev pub noted : {V : Type 0} → OperationKind → ℕ → Option (Turn V)
noted Read count = None
noted Ll count = Some (turn.Ends Values AtMark)
noted Sc count = None
noted Snapshot count = None
noted Kcss count = cond (nat_lt 1 count) (on (FirstId 1)) (on Swap)

-- where nothing differed, a SNAPSHOT ends, with its first collect's end for effect; a KCSS goes on with 11
abbrev pub undisturbed : {V : Type 0} → OperationKind → Option (Turn V)
undisturbed Read = None
undisturbed Ll = None
undisturbed Sc = None
undisturbed Snapshot = Some (turn.Ends Values AtCollect)
undisturbed Kcss = on Swap

-- on to this operand in that phase; where there is no such operand, what follows the last
abbrev pub go_to_operand : {V : Type 0} → Option ℕ → (ℕ → Phase V) → Option (Turn V) → Option (Turn V)
go_to_operand (Some operand) phase last = on (phase operand)
go_to_operand None phase last = last

-- the operand and the READ phase that follow in the same collect, until its last READ has ended
abbrev pub next_read : {V : Type 0} → ℕ → ℕ → ReadTurn V → Option (ℕ × ReadPhase V)
next_read count operand (On read) = Some (operand, read)
next_read count operand (Got v) = cond (nat_lt (operand + 1) count) (Some (operand + 1, Look)) None

-- a READ of a collect: on in it, to the next operand, or to what follows the last
abbrev pub collected : {V : Type 0} → (ℕ → ReadPhase V → Phase V) → Option (Turn V) → ℕ → ℕ → ReadTurn V → Option (Turn V)
collected phase last count operand (On read) = on (phase operand read)
collected phase last count operand (Got v) = go_to_operand (next_operand operand count) (λ i. phase i Look) last

-- the READ that ends the first collect may be the effect step
abbrev pub first_collected : {V : Type 0} → OperationKind → ℕ → ℕ → ReadTurn V → Option (Turn V)
first_collected kind = collected FirstCollect (Some (turn.On (SecondCollect (snapshot_from kind) Look) (Some Collected)))

-- the READ that ends the second collect leads to S9 of the first operand that is collected
abbrev pub second_collected : {V : Type 0} → OperationKind → ℕ → ℕ → ReadTurn V → Option (Turn V)
second_collected kind = collected SecondCollect (on (SecondId (snapshot_from kind)))

-- where a READ operation goes: on in its READ, or to its end, which is its effect step
abbrev pub reading_turn : {V : Type 0} → ReadTurn V → Option (Turn V)
reading_turn (On read) = on (Reading read)
reading_turn (Got v) = Some (turn.Ends Values Here)

-- where the READ of an LL goes: on in it, or with its value to 7
abbrev pub linking_turn : {V : Type 0} → ReadTurn V → Option (Turn V)
linking_turn (On read) = on (Linking read)
linking_turn (Got v) = on (Save (Value v))

-- the first 13 of a fresh attempt loads: a value leads to 7, an id to 1
abbrev pub attempt_turn : {V : Type 0} → Seen V → Option (Turn V)
attempt_turn (Found (Value v)) = on (Save (Value v))
attempt_turn (Found (Id i)) = on (Linking LookAgain)
attempt_turn Stored = None
attempt_turn (Said b) = None

-- what follows a line that stores, as 7 and 9 do: `next` after a store, else none
abbrev pub stored_turn : {V : Type 0} → Seen V → Option (Turn V) → Option (Turn V)
stored_turn (Found c) next = None
stored_turn Stored next = next
stored_turn (Said b) next = None

-- 8 CASes: its yes may be the effect step and leads to 9, its no begins a fresh attempt
abbrev pub mark_turn : {V : Type 0} → Cell V → Seen V → Option (Turn V)
mark_turn kept (Found c) = None
mark_turn kept Stored = None
mark_turn kept (Said said) = cond said (Some (turn.On (Note kept) (Some Marked))) (on Attempt)

-- what follows a line that loads, as S6 and S9 do: `next` after a load, else none
abbrev pub found_turn : {V : Type 0} → Seen V → Option (Turn V) → Option (Turn V)
found_turn (Found c) next = next
found_turn Stored next = None
found_turn (Said b) next = None

module _ {V : Type 0} (code : V → ℕ) (kind : OperationKind) (operands : List (Operand V)) where
  -- the SNAPSHOT ends if both ids and both values of every operand are the same; else S6 follows
  abbrev pub compared : Option (Turn V)
  compared = cond (all_still code (drop (snapshot_from kind) operands)) (undisturbed kind) (on (FirstId (snapshot_from kind)))

  -- 11 ends an SC. A KCSS whose first value differs says no, with its 8 for effect; one of which another differs says no, with
  -- its SNAPSHOT's effect; else its yes ends it, and its no begins afresh.
  abbrev pub kcss_swapped : Bool → Operand V → Option (Turn V)
  kcss_swapped said first = cond (meets code first)
      (cond (all_meet code operands)
      (cond said (cond (nat_lt 1 (length operands)) (Some (turn.Ends Yes AtCollect)) (Some (turn.Ends Yes Here))) (on Attempt))
      (Some (turn.Ends No AtCollect)))
      (Some (turn.Ends No AtMark))

  -- an SC ends at its 11 with what the CAS said, a KCSS goes by the rule above; the other kinds have no 11
  abbrev pub swapped_by : OperationKind → Bool → Operand V → Option (Turn V)
  swapped_by Read said first = None
  swapped_by Ll said first = None
  swapped_by Sc said first = cond said (Some (turn.Ends Yes Here)) (Some (turn.Ends No Here))
  swapped_by Snapshot said first = None
  swapped_by Kcss said first = kcss_swapped said first

  -- where 11 leads from what its CAS said; none where the operation has no operand
  abbrev pub swapped : Bool → Option (Turn V)
  swapped said = option_and_then (swapped_by kind said) (operand_at operands 0)

  -- 11 CASes: what the CAS said decides, and anything else that was seen leads nowhere
  abbrev pub swap_turn : Seen V → Option (Turn V)
  swap_turn (Found c) = None
  swap_turn Stored = None
  swap_turn (Said said) = swapped said

  -- one clause for each phase
  abbrev pub turn_of : Phase V → Seen V → Option (Turn V)
  turn_of Idle seen = None
  turn_of (Reading read) seen = option_and_then reading_turn (read_turn read seen)
  turn_of Attempt seen = attempt_turn seen
  turn_of (Linking read) seen = option_and_then linking_turn (read_turn read seen)
  turn_of (Save kept) seen = stored_turn seen (on (Mark kept))
  turn_of (Mark kept) seen = mark_turn kept seen
  turn_of (Note kept) seen = stored_turn seen (noted kind (length operands))
  turn_of (FirstId operand) seen = found_turn seen (go_to_operand (next_operand operand (length operands)) FirstId (on (FirstCollect (snapshot_from kind) Look)))
  turn_of (FirstCollect operand read) seen = option_and_then (first_collected kind (length operands) operand) (read_turn read seen)
  turn_of (SecondCollect operand read) seen = option_and_then (second_collected kind (length operands) operand) (read_turn read seen)
  turn_of (SecondId operand) seen = found_turn seen (go_to_operand (next_operand operand (length operands)) SecondId compared)
  turn_of Swap seen = swap_turn seen
