-- Events: every step of a process is one of eight, told by what it changes in the world.
use Rattle.std.specs.Prelude.{◌≡◌, ℕ, suc, ◌⊎◌, ◌≢◌}
use Rattle.memory.specs.declared.cell.Cell.TheVariants.{Value}
use Rattle.protocol.specs.World.{World, id_cell, own_id, changed}
use Rattle.protocol.specs.World.Stage.{idle, fresh, held, armed}

-- The process that makes the step comes first.
-- look: it changes nothing, as a load does, or a CAS that says no.
-- begin: it begins a fresh attempt, with the next tag, and changes nothing else.
-- save: it stores the value as its saved value (line 7).
-- mark: its CAS puts its own id in val in place of its saved value (line 8 that says yes).
-- note: it stores its own id in the location's tid (line 9).
-- commit: its last CAS puts the new value in place of its mark (line 11 that says yes).
-- fail: its last CAS finds that its mark is gone (line 11 that says no).
-- reset: its CAS puts, in place of the mark of some process, that process's saved value (line 3b that says yes).
pub data Event (V : Type 0) : Type 0 where
  look : (maker : ℕ) → Event V
  begin : (maker : ℕ) → Event V
  save : (maker : ℕ) (value : V) → Event V
  mark : (maker location : ℕ) (value : V) → Event V
  note : (maker location : ℕ) → Event V
  commit : (maker location : ℕ) (value : V) → Event V
  fail : (maker location : ℕ) → Event V
  reset : (maker location : ℕ) (value : V) → Event V

-- The process that makes the step.
abbrev pub maker : {V : Type 0} → Event V → ℕ
maker (look process) = process
maker (begin process) = process
maker (save process value) = process
maker (mark process location value) = process
maker (note process location) = process
maker (commit process location value) = process
maker (fail process location) = process
maker (reset process location value) = process

-- When an event can come: begin from idle and, after a CAS that put no mark, from fresh; save and mark from fresh;
-- note once the mark was put; commit and fail once the tid was written, as the mark stands or not. Mark and reset ask
-- besides that val and the saved value are such that their CAS says yes and does what it is said to do.
abbrev pub Possible : {V : Type 0} → Event V → World V → Type 0
Possible (look process) world = Unit {0}
Possible (begin process) world = (world.stage process ≡ idle) ⊎ (world.stage process ≡ fresh)
Possible (save process value) world = world.stage process ≡ fresh
Possible (mark process location value) world =
    (world.stage process ≡ fresh) × (world.val location ≡ Value value) × (world.saved process ≡ Value value)
Possible (note process location) world = world.stage process ≡ held location
Possible (commit process location value) world =
    (world.stage process ≡ armed location) × (world.val location ≡ own_id world process)
Possible (fail process location) world =
    (world.stage process ≡ armed location) × (world.val location ≢ own_id world process)
Possible (reset process location value) world =
    (owner : ℕ) × (tag : ℕ) × (world.val location ≡ id_cell owner tag) × (world.saved owner ≡ Value value)

-- What an event does to the world.
abbrev pub after : {V : Type 0} → Event V → World V → World V
after (look process) world = world
after (begin process) world = record {
  val = world.val;
  tid = world.tid;
  saved = world.saved;
  tag = changed world.tag process (suc (world.tag process));
  stage = changed world.stage process fresh;
}
after (save process value) world = record {
  val = world.val;
  tid = world.tid;
  saved = changed world.saved process (Value value);
  tag = world.tag;
  stage = world.stage;
}
after (mark process location value) world = record {
  val = changed world.val location (own_id world process);
  tid = world.tid;
  saved = world.saved;
  tag = world.tag;
  stage = changed world.stage process (held location);
}
after (note process location) world = record {
  val = world.val;
  tid = changed world.tid location (own_id world process);
  saved = world.saved;
  tag = world.tag;
  stage = changed world.stage process (armed location);
}
after (commit process location value) world = record {
  val = changed world.val location (Value value);
  tid = world.tid;
  saved = world.saved;
  tag = world.tag;
  stage = changed world.stage process idle;
}
after (fail process location) world = record {
  val = world.val;
  tid = world.tid;
  saved = world.saved;
  tag = world.tag;
  stage = changed world.stage process idle;
}
after (reset process location value) world = record {
  val = changed world.val location (Value value);
  tid = world.tid;
  saved = world.saved;
  tag = world.tag;
  stage = world.stage;
}
