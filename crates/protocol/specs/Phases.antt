-- Phases: where a process is in its operation, and what it remembers of the lines that it has made.
use Rattle.std.specs.Prelude.{◌≡◌, ℕ, zero, suc, ◌<◌, List, [], ◌∷◌}
use Rattle.std.proofs.Math.Option.{Option, some, none}
use Rattle.memory.specs.declared.cell.Cell.{Cell}
use Rattle.memory.specs.declared.cell.TaggedId.{TaggedId}
use Rattle.protocol.specs.World.{Stage}
use Rattle.protocol.specs.World.Stage.{idle, fresh, held, armed}
use Rattle.protocol.specs.Operations.{Expected, Request, Answer}
use Rattle.protocol.specs.Operations.Request.{read, ll, sc, snapshot, kcss}

-- The line that a READ is to make: looks is 13; looks_again is 1; fetches is 3a, with the kept id; resets is 3b, with
-- the kept id and the saved value that 3a found.
pub data ReadPhase (V : Type 0) : Type 0 where
  looks : ReadPhase V
  looks_again : ReadPhase V
  fetches : (kept : TaggedId) → ReadPhase V
  resets : (kept : TaggedId) (saved : V) → ReadPhase V

-- An operand of a SNAPSHOT or KCSS: its location, its expected value, the values of the two collects, and what S6 and
-- S9 found in its tid.
pub record Row (V : Type 0) : Type 0 where
  pub location : ℕ
  pub expected : V
  pub first : V
  pub second : V
  pub id_first : Cell V
  pub id_second : Cell V

-- The operands by number; how many count is told beside.
abbrev pub Rows : Type 0 → Type 0
Rows V = ℕ → Row V

-- An operand with one thing found.
abbrev pub with_id_first : {V : Type 0} → Row V → Cell V → Row V
with_id_first row found = record {
  location = row.location;
  expected = row.expected;
  first = row.first;
  second = row.second;
  id_first = found;
  id_second = row.id_second;
}

-- An operand with what S9 found in its tid.
abbrev pub with_id_second : {V : Type 0} → Row V → Cell V → Row V
with_id_second row found = record {
  location = row.location;
  expected = row.expected;
  first = row.first;
  second = row.second;
  id_first = row.id_first;
  id_second = found;
}

-- An operand with the value that the first collect found.
abbrev pub with_first : {V : Type 0} → Row V → V → Row V
with_first row found = record {
  location = row.location;
  expected = row.expected;
  first = found;
  second = row.second;
  id_first = row.id_first;
  id_second = row.id_second;
}

-- An operand with the value that the second collect found.
abbrev pub with_second : {V : Type 0} → Row V → V → Row V
with_second row found = record {
  location = row.location;
  expected = row.expected;
  first = row.first;
  second = found;
  id_first = row.id_first;
  id_second = row.id_second;
}

-- What an LL is made for: itself, or a KCSS with first location, its expected value, new value, the other operands and
-- their count.
pub data Job (V : Type 0) : Type 0 where
  for_ll : (location : ℕ) → Job V
  for_kcss : (location : ℕ) (expected new : V) (rows : Rows V) (count : ℕ) → Job V

-- The location of the LL: its own, or the first of the KCSS that it is made for.
abbrev pub place_of : {V : Type 0} → Job V → ℕ
place_of (for_ll a) = a
place_of (for_kcss a x u rows k) = a

-- What a SNAPSHOT is made for: itself, or a KCSS with first location, its expected value, new value, the value of its
-- LL and the step of its last 8.
pub data Purpose (V : Type 0) : Type 0 where
  solo : Purpose V
  inside : (location : ℕ) (expected new value : V) (marked : ℕ) → Purpose V

-- The line that a process is to make next. resting: none, it runs no operation. reading: one of a READ. attempt: the
-- first 13 of a fresh attempt, from the start or after an 11 that said no. attempt_again: the same, after an 8 that
-- said no. linking: another line of that READ. to_save: 7. to_mark: 8. to_note: 9, with the step of the 8. first_id: S6
-- of an operand. first_collect, second_collect: a line of a READ of an operand. second_id: S9 of an operand. swap_sc:
-- 11 of an SC. swap: 11 of a KCSS. From the second collect on, the step that ended the first collect is kept.
pub data Phase (V : Type 0) : Type 0 where
  resting : Phase V
  reading : (location : ℕ) → ReadPhase V → Phase V
  attempt : Job V → Phase V
  attempt_again : Job V → Phase V
  linking : Job V → ReadPhase V → Phase V
  to_save : Job V → (value : V) → Phase V
  to_mark : Job V → (value : V) → Phase V
  to_note : Job V → (value : V) (marked : ℕ) → Phase V
  swap_sc : (location : ℕ) (new : V) → Phase V
  first_id : Purpose V → Rows V → (count operand : ℕ) → Phase V
  first_collect : Purpose V → Rows V → (count operand : ℕ) → ReadPhase V → Phase V
  second_collect : Purpose V → Rows V → (count collected operand : ℕ) → ReadPhase V → Phase V
  second_id : Purpose V → Rows V → (count collected operand : ℕ) → Phase V
  swap : (location : ℕ) (expected new value : V) (marked : ℕ) → Rows V → (count collected : ℕ) → Phase V

-- A process: its tag, the location that it has a link to, if any, the step that was next when it was last given an
-- operation, and its phase.
pub data Process (V : Type 0) : Type 0 where
  proc : (tag : ℕ) (link : Option ℕ) (since : ℕ) → Phase V → Process V

-- An operation that ends: its request, its answer and its effect step.
pub data Done (V : Type 0) : Type 0 where
  done : Request V → Answer V → (effect : ℕ) → Done V

-- The values first collected from operand i on, k of them; the locations; the expected values.
abbrev pub collected : {V : Type 0} → Rows V → ℕ → ℕ → List V
collected rows i zero = []
collected rows i (suc k) = (rows i).first ∷ collected rows (suc i) k

-- The locations of k operands, from operand i on.
abbrev pub places : {V : Type 0} → Rows V → ℕ → ℕ → List ℕ
places rows i zero = []
places rows i (suc k) = (rows i).location ∷ places rows (suc i) k

-- The locations and expected values of k operands, from operand i on.
abbrev pub wants : {V : Type 0} → Rows V → ℕ → ℕ → List (Expected V)
wants rows i zero = []
wants rows i (suc k) = record { location = (rows i).location; value = (rows i).expected } ∷ wants rows (suc i) k

-- Both ids and both values of every operand are the same.
abbrev pub Same : {V : Type 0} → Rows V → ℕ → Type 0
Same rows k = (j : ℕ) → j < k → ((rows j).id_first ≡ (rows j).id_second) × ((rows j).first ≡ (rows j).second)

-- Every operand has its expected value.
abbrev pub Meets : {V : Type 0} → Rows V → ℕ → Type 0
Meets rows k = (j : ℕ) → j < k → (rows j).first ≡ (rows j).expected

-- The request of a KCSS.
abbrev pub kcss_of : {V : Type 0} → ℕ → V → V → Rows V → ℕ → Request V
kcss_of a x u rows k = kcss (record { location = a; value = x }) (wants rows 0 k) u

-- What was asked where an LL is made: that LL, or the KCSS that it is made for.
abbrev pub job_request : {V : Type 0} → Job V → Request V
job_request (for_ll a) = ll a
job_request (for_kcss a x u rows k) = kcss_of a x u rows k

-- What was asked where a SNAPSHOT of k operands is made: that SNAPSHOT, or the KCSS that it is made for.
abbrev pub purpose_request : {V : Type 0} → Purpose V → Rows V → ℕ → Request V
purpose_request solo rows k = snapshot (places rows 0 k)
purpose_request (inside a x u v t8) rows k = kcss_of a x u rows k

-- What the operation that a process runs was asked.
abbrev pub phase_request : {V : Type 0} → Phase V → Option (Request V)
phase_request resting = none
phase_request (reading a s) = some (read a)
phase_request (attempt J) = some (job_request J)
phase_request (attempt_again J) = some (job_request J)
phase_request (linking J s) = some (job_request J)
phase_request (to_save J v) = some (job_request J)
phase_request (to_mark J v) = some (job_request J)
phase_request (to_note J v t8) = some (job_request J)
phase_request (swap_sc a u) = some (sc a u)
phase_request (first_id F rows k i) = some (purpose_request F rows k)
phase_request (first_collect F rows k i s) = some (purpose_request F rows k)
phase_request (second_collect F rows k f i s) = some (purpose_request F rows k)
phase_request (second_id F rows k f i) = some (purpose_request F rows k)
phase_request (swap a x u v t8 rows k f) = some (kcss_of a x u rows k)

-- What a process was asked, if it runs an operation.
abbrev pub asked : {V : Type 0} → Process V → Option (Request V)
asked (proc n l b ph) = phase_request ph

-- How far the attempt of a process has come. A link is an attempt whose 11 is to come.
abbrev pub link_stage : Option ℕ → Stage
link_stage none = idle
link_stage (some a) = armed a

-- The stage in a SNAPSHOT: that of the link if it is made for itself; armed if it is made for a KCSS.
abbrev pub purpose_stage : {V : Type 0} → Purpose V → Option ℕ → Stage
purpose_stage solo l = link_stage l
purpose_stage (inside a x u v t8) l = armed a

-- The stage in a phase. Before an attempt it is idle, or fresh after an 8 that said no; then it is fresh until 8,
-- held until 9 and armed until 11. At rest, in a READ and in a SNAPSHOT made for itself it is that of the link.
abbrev pub phase_stage : {V : Type 0} → Option ℕ → Phase V → Stage
phase_stage l resting = link_stage l
phase_stage l (reading a s) = link_stage l
phase_stage l (attempt J) = idle
phase_stage l (attempt_again J) = fresh
phase_stage l (linking J s) = fresh
phase_stage l (to_save J v) = fresh
phase_stage l (to_mark J v) = fresh
phase_stage l (to_note J v t8) = held (place_of J)
phase_stage l (swap_sc a u) = armed a
phase_stage l (first_id F rows k i) = purpose_stage F l
phase_stage l (first_collect F rows k i s) = purpose_stage F l
phase_stage l (second_collect F rows k f i s) = purpose_stage F l
phase_stage l (second_id F rows k f i) = purpose_stage F l
phase_stage l (swap a x u v t8 rows k f) = armed a

-- The stage of a process, by its link and its phase.
abbrev pub stage_of : {V : Type 0} → Process V → Stage
stage_of (proc n l b ph) = phase_stage l ph

-- The tag of a process.
abbrev pub tag_of : {V : Type 0} → Process V → ℕ
tag_of (proc n l b ph) = n
