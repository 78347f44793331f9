-- What one line does, told alone: it is one event of its process, and it keeps what was asked.
use Rattle.std.specs.Prelude.{◌≡◌, ℕ}
use Rattle.std.proofs.Math.Option.{Option, some, none}
use Rattle.protocol.specs.Events.{Event, maker, after}
use Rattle.protocol.specs.Phases.{Process, Done, asked}
use Rattle.protocol.specs.Phases.Done.{done}
use Rattle.protocol.specs.Lines.{Line}
use Rattle.protocol.specs.Runs.{Machine, world, turned}

-- A line that ends nothing keeps what the operation was asked; one that ends an operation ends it with that very request,
-- and the process runs none then.
abbrev pub Keeps : {V : Type 0} → Process V → Process V → Option (Done V) → Type 0
Keeps r r' none = asked r' ≡ asked r
Keeps r r' (some (done q answer f)) = (asked r ≡ some q) × (asked r' ≡ none)

-- A line is made by its process, leads to the world that its event leads to, and keeps what was asked.
pub record OneEvent {V : Type 0} (m : Machine V) (p : ℕ) (e : Event V) (r : Process V) (d : Option (Done V)) : Type 0 where
  pub made_by : maker e ≡ p
  pub leads : world (turned m e p r) ≡ after e (world m)
  pub keeps : Keeps (m.processes p) r d

-- Every line, at any step, of any process and in any machine, is such an event and keeps what was asked.
abbrev pub LinesAreEvents : Type 0 → Type 0
LinesAreEvents V = (t p : ℕ) (m : Machine V) (e : Event V) (r : Process V) (d : Option (Done V))
    → Line t p (world m) (m.processes p) e r d → OneEvent m p e r d
