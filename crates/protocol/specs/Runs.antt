-- Runs: any interleaving of processes that follow the lines, with operations given to them between the steps.
use Rattle.std.specs.Prelude.{◌≡◌, ℕ, zero, suc, ◌≤◌, ◌⊎◌, List, [], ◌∷◌}
use Rattle.std.proofs.Math.Option.{Option, some, none}
use Rattle.memory.specs.declared.cell.Cell.{Cell}
use Rattle.memory.specs.declared.cell.Cell.TheVariants.{Value}
use Rattle.protocol.specs.World.{World, id_cell, changed}
use Rattle.protocol.specs.Events.{Event, after}
use Rattle.protocol.specs.Events.Event.{look}
use Rattle.protocol.specs.Operations.{Request, Finished}
use Rattle.protocol.specs.Operations.Request.{read, ll, sc, snapshot}
use Rattle.protocol.specs.Phases.{Rows, Process, Done, places, kcss_of, stage_of, tag_of}
use Rattle.protocol.specs.Phases.ReadPhase.{looks}
use Rattle.protocol.specs.Phases.Job.{for_ll, for_kcss}
use Rattle.protocol.specs.Phases.Purpose.{solo}
use Rattle.protocol.specs.Phases.Phase.{resting, reading, attempt, swap_sc, first_id}
use Rattle.protocol.specs.Phases.Process.{proc}
use Rattle.protocol.specs.Phases.Done.{done}
use Rattle.protocol.specs.Lines.{Line}

-- A Start, when step t is next: a resting process is given a request. READ and SNAPSHOT any time; LL and KCSS if it has
-- no link; SC if it has a link to the location, which it gives up.
pub data Begins {V : Type 0} (t : ℕ) : Process V → Request V → Process V → Type 0 where
  begins_read : {n b : ℕ} {l : Option ℕ} (a : ℕ) → Begins t (proc n l b resting) (read a) (proc n l t (reading a looks))
  begins_ll : {n b : ℕ} (a : ℕ) → Begins t (proc n none b resting) (ll a) (proc n none t (attempt (for_ll a)))
  begins_sc : {n b : ℕ} (a : ℕ) (u : V) → Begins t (proc n (some a) b resting) (sc a u) (proc n none t (swap_sc a u))
  begins_snapshot : {n b : ℕ} {l : Option ℕ} (rows : Rows V) (k : ℕ)
      → Begins t (proc n l b resting) (snapshot (places rows 0 (suc k))) (proc n l t (first_id solo rows (suc k) zero))
  begins_kcss : {n b : ℕ} (a : ℕ) (x u : V) (rows : Rows V) (k : ℕ)
      → Begins t (proc n none b resting) (kcss_of a x u rows k) (proc n none t (attempt (for_kcss a x u rows k)))

-- The shared cells and the processes.
pub record Machine (V : Type 0) : Type 0 where
  pub val : ℕ → Cell V
  pub tid : ℕ → Cell V
  pub saved : ℕ → Cell V
  pub processes : ℕ → Process V

-- The world of a machine.
abbrev pub world : {V : Type 0} → Machine V → World V
world m = record {
  val = m.val;
  tid = m.tid;
  saved = m.saved;
  tag = λ process. tag_of (m.processes process);
  stage = λ process. stage_of (m.processes process);
}

-- A request given to a process.
pub data Given (V : Type 0) : Type 0 where
  given : (process : ℕ) → Request V → Given V

-- In the list the process was given the request.
abbrev pub WasGiven : {V : Type 0} → ℕ → Request V → List (Given V) → Type 0
WasGiven process request [] = ⊥
WasGiven process request (one ∷ more) = (one ≡ given process request) ⊎ WasGiven process request more

-- Any number of Starts, the last first in the list.
pub data Begun {V : Type 0} (t : ℕ) (m : Machine V) : List (Given V) → Machine V → Type 0 where
  no_more : Begun t m [] m
  and_then : {m' : Machine V} {list : List (Given V)} → Begun t m list m' → (p : ℕ) (q : Request V) (r : Process V)
      → Begins t (m'.processes p) q r
      → Begun t m (given p q ∷ list)
      (record { val = m'.val; tid = m'.tid; saved = m'.saved; processes = changed m'.processes p r })

-- The machine after an event, by which a process comes to a new state.
abbrev pub turned : {V : Type 0} → Machine V → Event V → ℕ → Process V → Machine V
turned m e p r = record {
  val = (after e (world m)).val;
  tid = (after e (world m)).tid;
  saved = (after e (world m)).saved;
  processes = changed m.processes p r;
}

-- Step t of a run: some Starts, then one line of process p, which may end an operation; or a pause, which only looks.
pub data Call {V : Type 0} (t p : ℕ) (m m' : Machine V) : List (Given V) → Event V → Option (Done V) → Type 0 where
  steps : (list : List (Given V)) (between : Machine V) → Begun t m list between
      → (r : Process V) (e : Event V) (d : Option (Done V)) → Line t p (world between) (between.processes p) e r d
      → m' ≡ turned between e p r → Call t p m m' list e d
  pauses : m' ≡ m → Call t p m m' [] (look p) none

-- A run, without end: one of n steps goes on with pauses. Step t, counted from 0, is made by process who t, by the event
-- and after the Starts told, and ends the operation told, if any. Each val starts with its initial value, each tid and
-- saved value with id (0, 0), and each process rests, with tag 0 and no link.
pub record Run (V : Type 0) : Type 0 where
  pub at : ℕ → Machine V
  pub who : ℕ → ℕ
  pub starts : ℕ → List (Given V)
  pub event : ℕ → Event V
  pub out : ℕ → Option (Done V)
  pub initial : ℕ → V
  pub vals : (a : ℕ) → (at 0).val a ≡ Value (initial a)
  pub tids : (a : ℕ) → (at 0).tid a ≡ id_cell 0 0
  pub saves : (p : ℕ) → (at 0).saved p ≡ id_cell 0 0
  pub rested : (p : ℕ) → (at 0).processes p ≡ proc 0 none 0 resting
  pub call : (t : ℕ) → Call t (who t) (at t) (at (suc t)) (starts t) (event t) (out t)

-- Process p makes a line at step t, in the machine told, after the Starts, by the event and with the end told.
abbrev pub MakesLine : {V : Type 0} (t p : ℕ) → Machine V → List (Given V) → Event V → Option (Done V) → Type 0
MakesLine {V = V} t p m list e d =
    (between : Machine V) × (r : Process V) × Begun t m list between
    × Line t p (world between) (between.processes p) e r d

-- The step of the run is a line of the process, and no pause.
abbrev pub Makes : {V : Type 0} → Run V → (t p : ℕ) → Type 0
Makes run t p = MakesLine t p (run.at t) (run.starts t) (run.event t) (run.out t)

-- The step is a line, and no pause.
abbrev pub IsLine : {V : Type 0} {t p : ℕ} {m m' : Machine V} {list : List (Given V)} {e : Event V} {d : Option (Done V)}
    → Call t p m m' list e d → Type 0
IsLine (steps list between begun r e d l same) = Unit {0}
IsLine (pauses same) = ⊥

-- Step t of the run is made by process p, and is a line and no pause.
abbrev pub IsLineOf : {V : Type 0} → Run V → (t p : ℕ) → Type 0
IsLineOf run t p = (run.who t ≡ p) × IsLine (run.call t)

-- From the step on the run only pauses.
abbrev pub Paused : {V : Type 0} → Run V → ℕ → Type 0
Paused run n = (t : ℕ) → n ≤ t → (run.event t ≡ look (run.who t)) × (run.out t ≡ none)

-- The operation that a step ends, if any, put before others.
abbrev pub with_ended : {V : Type 0} → (process last : ℕ) → Option (Done V) → List (Finished V) → List (Finished V)
with_ended p t none more = more
with_ended p t (some (done q answer f)) more =
    record { process = p; request = q; answer = answer; effect = f; last = t } ∷ more

-- The finished operations of the first n steps, the last first.
abbrev pub finished : {V : Type 0} → Run V → ℕ → List (Finished V)
finished run zero = []
finished run (suc t) = with_ended (run.who t) t (run.out t) (finished run t)
