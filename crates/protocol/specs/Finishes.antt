-- At every step of a run, each process, stepped alone from there, ends what it was asked within its bound.
use Rattle.std.specs.Prelude.{◌≡◌, ℕ, List}
use Rattle.std.proofs.Math.Option.{some}
use Rattle.protocol.specs.Operations.{Request}
use Rattle.protocol.specs.Phases.{asked}
use Rattle.protocol.specs.Runs.{Machine, Given, WasGiven, Begun, Run}
use Rattle.protocol.specs.Asked.{request_bound, NoRepeat}
use Rattle.protocol.specs.Sound.{EndsWithin}

-- No request of the list repeats the first location of a KCSS.
abbrev pub NoneRepeats : {V : Type 0} → List (Given V) → Type 0
NoneRepeats {V = V} list = (p : ℕ) (q : Request V) → WasGiven p q list → NoRepeat q

-- If no Start repeats the first location of a KCSS, then at every step, after any Starts there, a process that was asked
-- something ends it alone: within 7 lines a READ, 10 an LL, 1 an SC, 12 m + 1 a SNAPSHOT of m locations, 16 k - 5 a KCSS
-- of k. Other processes may stand anywhere in their operations.
abbrev pub RunsFinish : Type 0 → Type 0
RunsFinish V = Discrete V → (run : Run V) → ((t : ℕ) → NoneRepeats (run.starts t))
    → (t : ℕ) (list : List (Given V)) (m : Machine V) → Begun t (run.at t) list m → NoneRepeats list
    → (p : ℕ) (q : Request V) → asked (m.processes p) ≡ some q → EndsWithin p (request_bound q) t m
