-- A process that steps alone: how many lines it can make before its operation has ended.
use Rattle.std.specs.Prelude.{ℕ, zero, suc, ◌+◌, ◌*◌, ◌<◌, List}
use Rattle.std.proofs.Math.Option.{none}
use Rattle.protocol.specs.Events.{Event}
use Rattle.protocol.specs.Phases.{Job, Purpose, Phase, Process}
use Rattle.protocol.specs.Phases.Job.{for_ll, for_kcss}
use Rattle.protocol.specs.Phases.Purpose.{solo, inside}
use Rattle.protocol.specs.Phases.Phase.{resting, reading, attempt, attempt_again, linking, to_save, to_mark, to_note}
use Rattle.protocol.specs.Phases.Phase.{swap_sc, first_id, first_collect, second_collect, second_id, swap}
use Rattle.protocol.specs.Phases.Process.{proc}
use Rattle.protocol.specs.Lines.{Line}
use Rattle.protocol.specs.Runs.{Machine, world, Given, Begun, turned}
use Rattle.protocol.specs.Remaining.{Off, JobFits, PurposeFits, Left}

-- The bound of each operation: 10 for an LL; 16 k - 5 for a KCSS of k locations, the first among them, which is
-- 16 m + 11 for m others; 12 m + 1 for a SNAPSHOT of m; 7 for a READ; 1 for an SC.
abbrev pub job_bound : {V : Type 0} → Job V → ℕ
job_bound (for_ll a) = 10
job_bound (for_kcss a x u rows m) = 16 * m + 11

-- The bound where a SNAPSHOT of m operands is made, for itself or for a KCSS with m others than its first.
abbrev pub purpose_bound : {V : Type 0} → Purpose V → ℕ → ℕ
purpose_bound solo m = 12 * m + 1
purpose_bound (inside a x u v t8) m = 16 * m + 11

-- The bound in a phase: that of the operation that runs, and 0 if none does.
abbrev pub phase_bound : {V : Type 0} → Phase V → ℕ
phase_bound resting = 0
phase_bound (reading a s) = 7
phase_bound (attempt J) = job_bound J
phase_bound (attempt_again J) = job_bound J
phase_bound (linking J s) = job_bound J
phase_bound (to_save J v) = job_bound J
phase_bound (to_mark J v) = job_bound J
phase_bound (to_note J v t8) = job_bound J
phase_bound (swap_sc a u) = 1
phase_bound (first_id F rows m i) = purpose_bound F m
phase_bound (first_collect F rows m i s) = purpose_bound F m
phase_bound (second_collect F rows m f i s) = purpose_bound F m
phase_bound (second_id F rows m f i) = purpose_bound F m
phase_bound (swap a x u v t8 rows m f) = 16 * m + 11

-- The bound of a process, by its phase.
abbrev pub bound : {V : Type 0} → Process V → ℕ
bound (proc n l b ph) = phase_bound ph

-- The process runs an operation as a Start gives it: the operand in turn is one of those that count, and the first
-- location of a KCSS is not among the others.
abbrev pub PhaseFits : {V : Type 0} → Phase V → Type 0
PhaseFits resting = ⊥
PhaseFits (reading a s) = Unit {0}
PhaseFits (attempt J) = JobFits J
PhaseFits (attempt_again J) = JobFits J
PhaseFits (linking J s) = JobFits J
PhaseFits (to_save J v) = JobFits J
PhaseFits (to_mark J v) = JobFits J
PhaseFits (to_note J v t8) = JobFits J
PhaseFits (swap_sc a u) = Unit {0}
PhaseFits (first_id F rows m i) = PurposeFits F rows m × (i < m)
PhaseFits (first_collect F rows m i s) = PurposeFits F rows m × (i < m)
PhaseFits (second_collect F rows m f i s) = PurposeFits F rows m × (i < m)
PhaseFits (second_id F rows m f i) = PurposeFits F rows m × (i < m)
PhaseFits (swap a x u v t8 rows m f) = Off a rows m

-- A process fits if its phase does.
abbrev pub Fits : {V : Type 0} → Process V → Type 0
Fits (proc n l b ph) = PhaseFits ph

-- At most N lines are left to process p in the machine, while no other process steps.
abbrev pub Remaining : {V : Type 0} → Machine V → (p N : ℕ) → Type 0
Remaining m p N = Left m.val m.tid p (m.processes p) N

-- What remains falls: each line of the process that ends nothing takes one away; while the operation has not ended
-- at least one remains; and in every phase at most the bound remains, whatever the cells hold.
pub record Falls (V : Type 0) : Type 0 where
  pub falls : (t p N : ℕ) (m : Machine V) (e : Event V) (r : Process V)
      → Line t p (world m) (m.processes p) e r none → Remaining m p (suc N) → Remaining (turned m e p r) p N
  pub not_zero : (p : ℕ) (m : Machine V) → Remaining m p 0 → ⊥
  pub within_bound : (p : ℕ) (m : Machine V) → Fits (m.processes p) → Remaining m p (bound (m.processes p))

-- Process p can make N lines one after the other, no other process making any, of which none ends an operation.
abbrev pub Alone : {V : Type 0} (p N : ℕ) → Machine V → Type 0
Alone p zero m = Unit {0}
Alone {V = V} p (suc N) m =
    (t : ℕ) × (e : Event V) × (r : Process V)
    × Line t p (world m) (m.processes p) e r none × Alone p N (turned m e p r)

-- A process that steps alone makes fewer lines than its bound that do not end its operation: the line that the bound
-- counts last, if it comes to it, ends the operation.
abbrev pub SoloEnds : Type 0 → Type 0
SoloEnds V = (p N : ℕ) (m : Machine V) → Fits (m.processes p) → Alone p N m → N < bound (m.processes p)

-- What remains falls, and a process that steps alone makes fewer lines than its bound that do not end its operation.
pub record SoloBounds (V : Type 0) : Type 0 where
  pub measure : Falls V
  pub ends : SoloEnds V

-- Process p comes from the first machine to the second by so many lines, whichever they are, of which none ends an
-- operation. No other process makes a line; Starts may come between. s is the number of the step that is next.
pub data AloneTo {V : Type 0} (p : ℕ) (m : Machine V) : (lines : ℕ) → Machine V → Type 0 where
  no_line : AloneTo p m zero m
  then_starts : {N : ℕ} {b b' : Machine V} {list : List (Given V)} → AloneTo p m N b
      → (s : ℕ) → Begun s b list b' → AloneTo p m N b'
  then_line : {N : ℕ} {b : Machine V} → AloneTo p m N b
      → (s : ℕ) (e : Event V) (r : Process V) → Line s p (world b) (b.processes p) e r none
      → AloneTo p m (suc N) (turned b e p r)

-- The same bound if Starts come between the lines of the process that steps alone: whichever machine it comes to by N
-- lines that do not end its operation, N is less than its bound.
abbrev pub SoloEndsTo : Type 0 → Type 0
SoloEndsTo V = (p N : ℕ) (m b : Machine V) → Fits (m.processes p) → AloneTo p m N b → N < bound (m.processes p)
