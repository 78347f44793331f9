-- No process of a run is ever stuck.
use Rattle.std.specs.Prelude.{◌≡◌, ℕ, ◌≢◌}
use Rattle.std.proofs.Math.Option.{Option, none}
use Rattle.protocol.specs.World.{World}
use Rattle.protocol.specs.Events.{Event}
use Rattle.protocol.specs.Phases.{Process, Done, asked}
use Rattle.protocol.specs.Lines.{Line}
use Rattle.protocol.specs.Runs.{world, Run}

-- The process has a line to make.
abbrev pub CanStep : {V : Type 0} → (t p : ℕ) → World V → Process V → Type 0
CanStep {V = V} t p w r =
    (e : Event V) × (next : Process V) × (d : Option (Done V)) × Line t p w r e next d

-- If sameness of values can be told, then at every time of a run a process that runs an operation has a line to make.
abbrev pub LinesGoOn : Type 0 → Type 0
LinesGoOn V = ((x y : V) → Dec (x ≡ y)) → (run : Run V) (t p : ℕ)
    → (asked ((run.at t).processes p) ≢ none) → CanStep t p (world (run.at t)) ((run.at t).processes p)

-- The same with no such premise: it holds of values whose sameness can always be told.
abbrev pub LinesAlwaysGoOn : Type 0 → Type 0
LinesAlwaysGoOn V = (run : Run V) (t p : ℕ)
    → (asked ((run.at t).processes p) ≢ none) → CanStep t p (world (run.at t)) ((run.at t).processes p)
