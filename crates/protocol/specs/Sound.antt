-- Sound machines, in which a process that runs an operation can always make its next line.
use Rattle.std.specs.Prelude.{◌≡◌, ℕ, zero, suc, ◌⊎◌}
use Rattle.std.proofs.Math.Option.{Option, some, none}
use Rattle.memory.specs.declared.cell.Cell.{Cell}
use Rattle.memory.specs.declared.cell.Cell.TheVariants.{Value, Id}
use Rattle.memory.specs.declared.cell.TaggedId.{TaggedId}
use Rattle.protocol.specs.World.{World}
use Rattle.protocol.specs.Events.{Event}
use Rattle.protocol.specs.Phases.{ReadPhase, Purpose, Phase, Process, Done}
use Rattle.protocol.specs.Phases.ReadPhase.{looks, looks_again, fetches, resets}
use Rattle.protocol.specs.Phases.Purpose.{solo, inside}
use Rattle.protocol.specs.Phases.Phase.{resting, reading, attempt, attempt_again, linking, to_save, to_mark, to_note}
use Rattle.protocol.specs.Phases.Phase.{swap_sc, first_id, first_collect, second_collect, second_id, swap}
use Rattle.protocol.specs.Phases.Process.{proc}
use Rattle.protocol.specs.Lines.{Line}
use Rattle.protocol.specs.Runs.{Machine, world, turned, Run}
use Rattle.protocol.specs.Solo.{bound, Fits}

-- The saved cell of the id's process is a value.
abbrev pub Backed : {V : Type 0} → (saved : ℕ → Cell V) → TaggedId → Type 0
Backed {V = V} saved k = (v : V) × (saved k.process ≡ Value v)

-- Every id in a val is so backed, and every tid is an id.
pub record CellsSound {V : Type 0} (w : World V) : Type 0 where
  pub vals : (a : ℕ) (k : TaggedId) → w.val a ≡ Id k → Backed w.saved k
  pub tids : (a : ℕ) → (k : TaggedId) × (w.tid a ≡ Id k)

-- The id that a READ has kept is backed.
abbrev pub ReadSound : {V : Type 0} → (saved : ℕ → Cell V) → ReadPhase V → Type 0
ReadSound saved looks = Unit {0}
ReadSound saved looks_again = Unit {0}
ReadSound saved (fetches k) = Backed saved k
ReadSound saved (resets k v) = Unit {0}

-- A SNAPSHOT for a KCSS is made without a link.
abbrev pub Unlinked : {V : Type 0} → Purpose V → Option ℕ → Type 0
Unlinked solo l = Unit {0}
Unlinked (inside a x u v t8) l = l ≡ none

-- The process has no link where its operation needs that it has none, what its READ has kept is backed, and 7 has saved
-- the value that 8 looks for.
abbrev pub PhaseSound : {V : Type 0} → (saved : ℕ → Cell V) (p : ℕ) → Option ℕ → Phase V → Type 0
PhaseSound saved p l resting = Unit {0}
PhaseSound saved p l (reading a s) = ReadSound saved s
PhaseSound saved p l (attempt J) = l ≡ none
PhaseSound saved p l (attempt_again J) = l ≡ none
PhaseSound saved p l (linking J s) = (l ≡ none) × ReadSound saved s
PhaseSound saved p l (to_save J v) = l ≡ none
PhaseSound saved p l (to_mark J v) = (l ≡ none) × (saved p ≡ Value v)
PhaseSound saved p l (to_note J v t8) = l ≡ none
PhaseSound saved p l (swap_sc a u) = l ≡ none
PhaseSound saved p l (first_id F rows k i) = Unlinked F l
PhaseSound saved p l (first_collect F rows k i s) = Unlinked F l × ReadSound saved s
PhaseSound saved p l (second_collect F rows k f i s) = Unlinked F l × ReadSound saved s
PhaseSound saved p l (second_id F rows k f i) = Unlinked F l
PhaseSound saved p l (swap a x u v t8 rows k f) = l ≡ none

-- A process is sound if its phase is, with its link.
abbrev pub ProcessSound : {V : Type 0} → (saved : ℕ → Cell V) (p : ℕ) → Process V → Type 0
ProcessSound saved p (proc n l b ph) = PhaseSound saved p l ph

-- The machine is sound for process p.
pub record Sound {V : Type 0} (m : Machine V) (p : ℕ) : Type 0 where
  pub cells : CellsSound (world m)
  pub process : ProcessSound m.saved p (m.processes p)

-- Process p can make its next line, as step t, in the world.
abbrev pub Goes : {V : Type 0} (t p : ℕ) → World V → Process V → Type 0
Goes {V = V} t p w r = (e : Event V) × (r' : Process V) × (d : Option (Done V)) × Line t p w r e r' d

-- Process p, stepped alone from step t on, ends its operation with its N-th line or before.
abbrev pub EndsWithin : {V : Type 0} (p N t : ℕ) → Machine V → Type 0
EndsWithin p zero t m = ⊥
EndsWithin {V = V} p (suc N) t m =
    (e : Event V) × (r : Process V)
    × (((o : Done V) × Line t p (world m) (m.processes p) e r (some o))
    ⊎ (Line t p (world m) (m.processes p) e r none × EndsWithin p N (suc t) (turned m e p r)))

-- Where it can be told of any two values whether they are the same, a process that runs an operation in a sound machine
-- can make its next line, and the machine after any line that it makes is sound. So, stepped alone, it ends its
-- operation within its bound.
pub record GoesOn (V : Type 0) : Type 0 where
  pub goes : Discrete V → (t p : ℕ) (m : Machine V) → Sound m p → Fits (m.processes p)
      → Goes t p (world m) (m.processes p)
  pub stays_sound : (t p : ℕ) (m : Machine V) (e : Event V) (r : Process V) (d : Option (Done V))
      → Line t p (world m) (m.processes p) e r d → Sound m p → Sound (turned m e p r) p
  pub finishes : Discrete V → (t p : ℕ) (m : Machine V) → Sound m p → Fits (m.processes p)
      → EndsWithin p (bound (m.processes p)) t m

-- Every machine of a run is sound, for every process.
abbrev pub RunsSound : Type 0 → Type 0
RunsSound V = (run : Run V) (t p : ℕ) → Sound (run.at t) p
