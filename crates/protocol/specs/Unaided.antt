-- A process that is stepped alone, while others may be given operations, ends what it was asked, whichever lines it makes.
use Rattle.std.specs.Prelude.{◌≡◌, ℕ, ◌<◌, List}
use Rattle.std.proofs.Math.Option.{Option, some}
use Rattle.protocol.specs.Events.{Event}
use Rattle.protocol.specs.Operations.{Request, Answer}
use Rattle.protocol.specs.Phases.{Process, Done, asked}
use Rattle.protocol.specs.Phases.Done.{done}
use Rattle.protocol.specs.Lines.{Line}
use Rattle.protocol.specs.Runs.{Machine, world, Given, Begun, Run, turned}
use Rattle.protocol.specs.Going.{CanStep}
use Rattle.protocol.specs.Solo.{Fits, AloneTo}
use Rattle.protocol.specs.Asked.{request_bound, NoRepeat}
use Rattle.protocol.specs.Sound.{Sound}

-- Process p, stepped alone from the machine on, ends the request within its bound. As long as it has not ended, it can
-- make a line. Whichever lines it makes, as long as none of them has ended it they are fewer than the bound: so it ends
-- with the line that makes up the bound, or with one before. And the line that ends an operation ends this very request.
pub record FinishesAlone {V : Type 0} (p : ℕ) (m : Machine V) (q : Request V) : Type 0 where
  pub goes_on : (N : ℕ) (b : Machine V) → AloneTo p m N b → (s : ℕ) → CanStep s p (world b) (b.processes p)
  pub in_time : (N : ℕ) (b : Machine V) → AloneTo p m N b → N < request_bound q
  pub ends_it : (N : ℕ) (b : Machine V) → AloneTo p m N b → (s : ℕ) (e : Event V) (r : Process V)
      (ended : Request V) (answer : Answer V) (effect : ℕ)
      → Line s p (world b) (b.processes p) e r (some (done ended answer effect)) → ended ≡ q

-- A process that runs an operation in a sound machine can make its next line, and the machine after any line that it
-- makes is sound. So, stepped alone, it ends what it was asked within its bound, whichever lines it makes. It holds of
-- values whose sameness can always be told.
pub record AlwaysGoesOn (V : Type 0) : Type 0 where
  pub goes : (t p : ℕ) (m : Machine V) → Sound m p → Fits (m.processes p) → CanStep t p (world m) (m.processes p)
  pub stays_sound : (t p : ℕ) (m : Machine V) (e : Event V) (r : Process V) (d : Option (Done V))
      → Line t p (world m) (m.processes p) e r d → Sound m p → Sound (turned m e p r) p
  pub finishes : (p : ℕ) (m : Machine V) (q : Request V) → Sound m p → Fits (m.processes p)
      → asked (m.processes p) ≡ some q → FinishesAlone p m q

-- At every step of a run, after any Starts there, a process that was asked something without repeats ends it alone,
-- whichever lines it makes: within 7 lines a READ, 10 an LL, 1 an SC, 12 m + 1 a SNAPSHOT of m locations, 16 k - 5 a KCSS
-- of k. Other processes may stand anywhere in their operations, and what they were asked may have repeats. It holds of
-- values whose sameness can always be told.
abbrev pub RunsFinishAlone : Type 0 → Type 0
RunsFinishAlone V = (run : Run V) (t : ℕ) (list : List (Given V)) (m : Machine V) → Begun t (run.at t) list m
    → (p : ℕ) (q : Request V) → asked (m.processes p) ≡ some q → NoRepeat q → FinishesAlone p m q
