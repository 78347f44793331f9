-- Bounds by what was asked, and the operations that they hold for.
use Rattle.std.specs.Prelude.{◌≡◌, ℕ, ◌+◌, ◌*◌, ◌<◌, List, [], ◌∷◌, length, ◌≢◌}
use Rattle.std.proofs.Math.Option.{some, none}
use Rattle.protocol.specs.World.{World}
use Rattle.protocol.specs.Events.{Event}
use Rattle.protocol.specs.Operations.{Expected, Request}
use Rattle.protocol.specs.Operations.Request.{read, ll, sc, snapshot, kcss}
use Rattle.protocol.specs.Phases.{Process, asked}
use Rattle.protocol.specs.Lines.{Line}
use Rattle.protocol.specs.Runs.{Machine, Begins}
use Rattle.protocol.specs.Solo.{bound, Fits, Alone, AloneTo}

-- 7 for READ, 10 for LL, 1 for SC, 12 m + 1 for a SNAPSHOT of m locations, 16 k - 5 for a KCSS of k locations, of which
-- k - 1 are others than the first.
abbrev pub request_bound : {V : Type 0} → Request V → ℕ
request_bound (read a) = 7
request_bound (ll a) = 10
request_bound (sc a u) = 1
request_bound (snapshot locations) = 12 * length locations + 1
request_bound (kcss first others u) = 16 * length others + 11

-- The location is none of those.
abbrev pub NotAmong : {V : Type 0} → ℕ → List (Expected V) → Type 0
NotAmong a [] = Unit {0}
NotAmong a (one ∷ more) = (one.location ≢ a) × NotAmong a more

-- A request without repeats, as far as the bounds need it: the first location of a KCSS is none of the others.
abbrev pub NoRepeat : {V : Type 0} → Request V → Type 0
NoRepeat (read a) = Unit {0}
NoRepeat (ll a) = Unit {0}
NoRepeat (sc a u) = Unit {0}
NoRepeat (snapshot locations) = Unit {0}
NoRepeat (kcss first others u) = NotAmong first.location others

-- The bound of a process is that of what it was asked. A Start without repeats makes the process fit, and every line of
-- it that ends nothing keeps it so. Alone it makes fewer lines than that bound which do not end what was asked, also if
-- Starts come between.
pub record AskedBounds (V : Type 0) : Type 0 where
  pub as_asked : (r : Process V) (q : Request V) → asked r ≡ some q → bound r ≡ request_bound q
  pub starts_fit : (t : ℕ) (r r' : Process V) (q : Request V) → Begins t r q r' → NoRepeat q → Fits r'
  pub lines_fit : (t p : ℕ) (w : World V) (r r' : Process V) (e : Event V) → Line t p w r e r' none → Fits r → Fits r'
  pub ends_asked : (p N : ℕ) (m : Machine V) (q : Request V) → Fits (m.processes p) → asked (m.processes p) ≡ some q
      → Alone p N m → N < request_bound q
  pub ends_asked_to : (p N : ℕ) (m b : Machine V) (q : Request V) → Fits (m.processes p)
      → asked (m.processes p) ≡ some q → AloneTo p m N b → N < request_bound q
