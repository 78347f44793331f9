-- An executable model of processes that run the lines over numbers: the cells, the processes, and a trace of what has ended.
-- A script of commands starts operations and makes steps, which are numbered from 1.
use Rattle.std.specs.Prelude.{ℕ, suc, cond, List, [], ◌∷◌, Some, None, Option, ◌==◌, nat_lt, ◌++◌, map}
use Rattle.memory.specs.declared.cell.TaggedId.{TaggedId}
use Rattle.memory.specs.declared.cell.Cell.{Cell}
use Rattle.memory.specs.Cells.{same}
use Rattle.operation.specs.declared.kind.OperationKind.{OperationKind}
use Rattle.operation.specs.declared.kind.OperationKind.TheVariants.{Read, Ll, Sc, Snapshot, Kcss}
use Rattle.phases.specs.declared.name.Line.{Line}
use Rattle.phases.specs.declared.phase.Phase.{Phase}
use Rattle.phases.specs.declared.records.Operand.{Operand}
use Rattle.phases.specs.declared.records.Place.{Place}
use Rattle.phases.specs.declared.records.Place.TheVariants.{Val, Tid, Saved}
use Rattle.phases.specs.declared.records.Access.{Access}
use Rattle.phases.specs.declared.records.Access.TheVariants.{Load, Store, Cas}
use Rattle.phases.specs.declared.records.Seen.{Seen}
use Rattle.phases.specs.declared.records.Seen.TheVariants.{Found, Stored, Said}
use Rattle.phases.specs.declared.turn.Finding.{Finding}
use Rattle.phases.specs.declared.turn.Answer.{Answer}
use Rattle.phases.specs.declared.turn.Answer.TheVariants.{Values, Yes, No}
use Rattle.phases.specs.declared.turn.Milestone.{Milestone}
use Rattle.phases.specs.declared.turn.Turn.{Turn}
use Rattle.phases.specs.declared.turn.Turn.TheVariants.{On, Ends}
use Rattle.lines.specs.Accesses.{next_access}
use Rattle.lines.specs.Advancing.{finding_of, turn_of}
use Rattle.lines.specs.Recording.{recorded, is_attempt, marked_after, collected_after, effect_step, first_phase}

-- a value is its own code
abbrev pub code : ℕ → ℕ
code n = n

-- a function with one place changed
unfoldable pub upd : {A : Type 0} → (ℕ → A) → ℕ → A → ℕ → A
upd f a x b = cond (b == a) x (f b)

-- An operation that runs. The last three are the numbers of its first step, of its last 8 that said yes, and of the step that
-- ended the first collect of its last attempt; each is 0 until there is one.
pub record Running : Type 0 where
  pub number : ℕ
  pub kind : OperationKind
  pub operands : List (Operand ℕ)
  pub new : Option ℕ
  pub phase : Phase ℕ
  pub began : ℕ
  pub marked : ℕ
  pub collected : ℕ

-- a process: its tag, the location that it has a link to, if any, and the operation that it runs, if any
pub record Process : Type 0 where
  pub tag : ℕ
  pub link : Option ℕ
  pub running : Option Running

-- the values that were collected, yes, or no
pub data Outcome : Type 0 where
  gave : List (Option ℕ) → Outcome
  said_yes : Outcome
  said_no : Outcome

-- An operation ended: its number and process, what it answered, its first step, its effect step and its last step.
-- Or a step was refused: its process and the number of the refusal. Or a command of this process fits nothing.
pub data Event : Type 0 where
  ended : ℕ → ℕ → Outcome → ℕ → ℕ → ℕ → Event
  refused : ℕ → ℕ → Event
  misfit : ℕ → Event

-- `steps` counts the steps that were made, `started` the operations; the trace has the oldest event first
pub record Machine : Type 0 where
  pub val : ℕ → Cell ℕ
  pub tid : ℕ → Cell ℕ
  pub saved : ℕ → Cell ℕ
  pub processes : ℕ → Process
  pub steps : ℕ
  pub started : ℕ
  pub greatest_tag : ℕ
  pub trace : List Event

-- A process starts an operation: its kind, each location with its expected value, if any, and its new value, if any.
-- Or a process makes a step.
pub data Command : Type 0 where
  start : ℕ → OperationKind → List (ℕ × Option ℕ) → Option ℕ → Command
  step : ℕ → Command

-- the machine with an event at the end of its trace
abbrev pub with_event : Machine → Event → Machine
with_event m e = record { val = m.val; tid = m.tid; saved = m.saved; processes = m.processes; steps = m.steps; started = m.started; greatest_tag = m.greatest_tag; trace = m.trace ++ (e ∷ []) }

-- the machine with one process changed
abbrev pub with_process : Machine → ℕ → Process → Machine
with_process m p q = record { val = m.val; tid = m.tid; saved = m.saved; processes = upd m.processes p q; steps = m.steps; started = m.started; greatest_tag = m.greatest_tag; trace = m.trace }

-- the machine with one more step counted
abbrev pub with_step : Machine → Machine
with_step m = record { val = m.val; tid = m.tid; saved = m.saved; processes = m.processes; steps = suc m.steps; started = m.started; greatest_tag = m.greatest_tag; trace = m.trace }

-- the machine with one more operation counted
abbrev pub with_start : Machine → Machine
with_start m = record { val = m.val; tid = m.tid; saved = m.saved; processes = m.processes; steps = m.steps; started = suc m.started; greatest_tag = m.greatest_tag; trace = m.trace }

-- the accesses
abbrev pub cell_at : Machine → Place → Cell ℕ
cell_at m (Val a) = m.val a
cell_at m (Tid a) = m.tid a
cell_at m (Saved p) = m.saved p

-- the machine with the cell at a place changed
abbrev pub with_cell : Machine → Place → Cell ℕ → Machine
with_cell m (Val a) c = record { val = upd m.val a c; tid = m.tid; saved = m.saved; processes = m.processes; steps = m.steps; started = m.started; greatest_tag = m.greatest_tag; trace = m.trace }
with_cell m (Tid a) c = record { val = m.val; tid = upd m.tid a c; saved = m.saved; processes = m.processes; steps = m.steps; started = m.started; greatest_tag = m.greatest_tag; trace = m.trace }
with_cell m (Saved p) c = record { val = m.val; tid = m.tid; saved = upd m.saved p c; processes = m.processes; steps = m.steps; started = m.started; greatest_tag = m.greatest_tag; trace = m.trace }

-- what an access sees: a load finds the cell, a store only stores, a CAS says whether the old cell is there
abbrev pub seen_by : Machine → Access ℕ → Seen ℕ
seen_by m (Load place) = Found (cell_at m place)
seen_by m (Store place c) = Stored
seen_by m (Cas place old new) = Said (same code (cell_at m place) old)

-- the machine after an access: a store puts its cell, a CAS puts the new one if the old one is there
abbrev pub after_access : Machine → Access ℕ → Machine
after_access m (Load place) = m
after_access m (Store place c) = with_cell m place c
after_access m (Cas place old new) = cond (same code (cell_at m place) old) (with_cell m place new) m

-- what the operands have as first collected values
abbrev pub firsts : List (Operand ℕ) → List (Option ℕ)
firsts os = map (λ o. o.first) os

-- what an operation comes to: the values that were first collected, yes, or no
abbrev pub outcome : Answer → List (Operand ℕ) → Outcome
outcome Values os = gave (firsts os)
outcome Yes os = said_yes
outcome No os = said_no

-- the location of the first operand, if there is one
abbrev pub location_of : List (Operand ℕ) → Option ℕ
location_of [] = None
location_of (o ∷ rest) = Some o.location

-- the link after an operation: an LL gives one
abbrev pub link_after : OperationKind → List (Operand ℕ) → Option ℕ → Option ℕ
link_after Read os link = link
link_after Ll os link = location_of os
link_after Sc os link = link
link_after Snapshot os link = link
link_after Kcss os link = link

-- a running operation with this step counted and its finding recorded
abbrev pub noting : Running → ℕ → Finding ℕ → Running
noting r now f = record { number = r.number; kind = r.kind; operands = recorded f r.operands; new = r.new; phase = r.phase; began = cond (r.began == 0) now r.began; marked = r.marked; collected = r.collected }

-- a running operation in its next phase; the step is kept if it was an 8 that said yes or ended the first collect
abbrev pub moved : Running → ℕ → Phase ℕ → Option Milestone → Running
moved r now phase milestone = record { number = r.number; kind = r.kind; operands = r.operands; new = r.new; phase = phase; began = r.began; marked = marked_after milestone now r.marked; collected = collected_after milestone now r.collected }

-- the machine after an access, then the turn
abbrev pub turned : Machine → ℕ → Process → Running → Turn ℕ → Machine
turned m p q r (On phase milestone) = with_process m p (record { tag = q.tag; link = q.link; running = Some (moved r m.steps phase milestone) })
turned m p q r (Ends answer effect) =
    with_event
    (with_process m p (record { tag = q.tag; link = link_after r.kind r.operands q.link; running = None }))
    (ended r.number p (outcome answer r.operands) r.began (effect_step effect m.steps r.marked r.collected) m.steps)

-- `m` is the machine before the step, `n` the one after its access
abbrev pub turns : Machine → Machine → ℕ → Process → Running → Option (Turn ℕ) → Machine
turns m n p q r None = with_event m (misfit p)
turns m n p q r (Some t) = turned n p q r t

-- a process with its tag raised by one
abbrev pub raised : Process → Process
raised q = record { tag = suc q.tag; link = q.link; running = q.running }

-- starting an SC ends the link
abbrev pub link_at_start : OperationKind → Option ℕ → Option ℕ
link_at_start Read link = link
link_at_start Ll link = link
link_at_start Sc link = None
link_at_start Snapshot link = link
link_at_start Kcss link = link

-- process 0 with tag 0, which stands for an id where none was found yet
abbrev pub no_id : TaggedId
no_id = record { process = 0; tag = 0 }

-- the operands of a start: locations and expected values as given, and nothing found yet
abbrev pub operands_of : List (ℕ × Option ℕ) → List (Operand ℕ)
operands_of given =
    map (λ x. record { location = x.0; expected = x.1; first = None; second = None; first_id = no_id; second_id = no_id }) given

-- a process that runs an operation starts no other
abbrev pub starts : Machine → ℕ → Process → OperationKind → List (ℕ × Option ℕ) → Option ℕ → Option Running → Machine
starts m p q kind given new None = with_process (with_start m) p (record {
  tag = q.tag;
  link = link_at_start kind q.link;
  running = Some (record { number = suc m.started; kind = kind; operands = operands_of given; new = new; phase = first_phase kind; began = 0; marked = 0; collected = 0 });
})
starts m p q kind given new (Some r) = with_event m (misfit p)

-- What a line records in an operand, and where it leads. The accesses are always the true ones.
pub record Lines : Type 0 where
  pub finding : Phase ℕ → Seen ℕ → Option (Finding ℕ)
  pub turn : OperationKind → List (Operand ℕ) → Phase ℕ → Seen ℕ → Option (Turn ℕ)

-- the lines as they are
abbrev pub true_lines : Lines
true_lines = record { finding = finding_of; turn = turn_of code }

module _ (lines : Lines) where
  -- what an access found is recorded and the turn follows; where the line finds nothing that fits, it is a misfit
  abbrev pub finds : Machine → Machine → ℕ → Process → Running → Seen ℕ → Option (Finding ℕ) → Machine
  finds m n p q r seen None = with_event m (misfit p)
  finds m n p q r seen (Some f) = turns m n p q (noting r n.steps f) (lines.turn r.kind (recorded f r.operands) r.phase seen)

  -- the step is counted and its access made, and what that sees is taken up; where no access follows, it is a misfit
  abbrev pub accesses : Machine → ℕ → Process → Running → Option (Line × Access ℕ) → Machine
  accesses m p q r None = with_event m (misfit p)
  accesses m p q r (Some x) = finds m (after_access (with_step m) x.1) p q r (seen_by m x.1) (lines.finding r.phase (seen_by m x.1))

  -- a running operation makes its next access, with the own id of its process
  abbrev pub goes : Machine → ℕ → Process → Running → Machine
  goes m p q r = accesses m p q r (next_access code (record { process = p; tag = q.tag }) r.kind r.operands r.new r.phase)

  -- a fresh attempt raises the tag first, and is refused with 14 where the tag is not below the greatest
  abbrev pub steps_in : Machine → ℕ → Process → Option Running → Machine
  steps_in m p q None = with_event m (misfit p)
  steps_in m p q (Some r) =
      cond (is_attempt r.phase)
      (cond (nat_lt q.tag m.greatest_tag) (goes m p (raised q) r) (with_event m (refused p 14)))
      (goes m p q r)

  -- the machine after one command
  abbrev pub obey : Machine → Command → Machine
  obey m (start p kind given new) = starts m p (m.processes p) kind given new (m.processes p).running
  obey m (step p) = steps_in m p (m.processes p) (m.processes p).running

  -- the machine after all commands of a script, in turn
  abbrev pub run : Machine → List Command → Machine
  run m [] = m
  run m (c ∷ rest) = run (obey m c) rest
