-- Runs of the model with given lines, and the list of finished operations that a run logs.
use Rattle.std.specs.Prelude.{ℕ, zero, suc, true, false, cond, List, [], ◌∷◌, ◌++◌, Some, None, Option, ◌==◌, map}
use Rattle.operation.specs.declared.kind.OperationKind.{OperationKind}
use Rattle.operation.specs.declared.kind.OperationKind.TheVariants.{Read, Ll, Sc, Snapshot, Kcss}
use Rattle.protocol.specs.Operations.{Expected, Request, Answer, Finished}
use Rattle.protocol.specs.Operations.Request.{read, ll, sc, snapshot, kcss}
use Rattle.protocol.specs.Operations.Answer.{values, said}
use Rattle.protocol.specs.Lists.{by_effect}
use Rattle.sample_runs.specs.Model.{Outcome, Event, Command, Lines, run}
use Rattle.sample_runs.specs.Model.Outcome.{gave, said_yes, said_no}
use Rattle.sample_runs.specs.Model.Event.{ended, refused, misfit}
use Rattle.sample_runs.specs.Model.Command.{start, step}
use Rattle.sample_runs.specs.Samples.{opening}

-- what these lines log of a script, from a machine whose locations 0 and 1 hold 5 and 7
abbrev pub log_by : Lines → List Command → List Event
log_by lines script = (run lines (opening 1000) script).trace

-- what a start asks; none where its operands do not suit its kind
abbrev pub locations : List (ℕ × Option ℕ) → List ℕ
locations given = map (λ x. x.0) given

-- a location with its expected value put before others, if it has one
abbrev pub expecting : ℕ → Option ℕ → List (Expected ℕ) → List (Expected ℕ)
expecting location None rest = rest
expecting location (Some v) rest = record { location = location; value = v } ∷ rest

-- the locations that have an expected value, each with it, in turn
abbrev pub expectations : List (ℕ × Option ℕ) → List (Expected ℕ)
expectations [] = []
expectations (x ∷ rest) = expecting x.0 x.1 (expectations rest)

-- what an SC asks; none where it has no new value
abbrev pub asks_sc : ℕ → Option ℕ → Option (Request ℕ)
asks_sc location None = None
asks_sc location (Some v) = Some (sc location v)

-- what a KCSS asks; none where no location has an expected value, or where it has no new value
abbrev pub asks_kcss : List (Expected ℕ) → Option ℕ → Option (Request ℕ)
asks_kcss [] new = None
asks_kcss (first ∷ others) None = None
asks_kcss (first ∷ others) (Some v) = Some (kcss first others v)

-- what an operation of a kind asks: a READ, LL or SC names the first operand, a SNAPSHOT all,
-- a KCSS those with an expected value
abbrev pub asks : OperationKind → List (ℕ × Option ℕ) → Option ℕ → Option (Request ℕ)
asks Read [] new = None
asks Read (x ∷ rest) new = Some (read x.0)
asks Ll [] new = None
asks Ll (x ∷ rest) new = Some (ll x.0)
asks Sc [] new = None
asks Sc (x ∷ rest) new = asks_sc x.0 new
asks Snapshot given new = Some (snapshot (locations given))
asks Kcss given new = asks_kcss (expectations given) new

-- what the operation of this number was asked; the starts of a script are numbered from 1
abbrev pub asked : List Command → ℕ → Option (Request ℕ)
asked [] n = None
asked (start p kind given new ∷ rest) zero = None
asked (start p kind given new ∷ rest) (suc zero) = asks kind given new
asked (start p kind given new ∷ rest) (suc (suc n)) = asked rest (suc n)
asked (step p ∷ rest) n = asked rest n

-- the values that are there, in turn
abbrev pub given_values : List (Option ℕ) → List ℕ
given_values [] = []
given_values (None ∷ rest) = given_values rest
given_values (Some v ∷ rest) = v ∷ given_values rest

-- the answer that an outcome stands for: the values that it gave, yes, or no
abbrev pub answer_of : Outcome → Answer ℕ
answer_of (gave os) = values (given_values os)
answer_of said_yes = said true
answer_of said_no = said false

-- a finished operation put before others, if it is known what it was asked
abbrev pub finishing : Option (Request ℕ) → ℕ → Outcome → ℕ → ℕ → List (Finished ℕ) → List (Finished ℕ)
finishing None p o effect last rest = rest
finishing (Some r) p o effect last rest = record { process = p; request = r; answer = answer_of o; effect = effect; last = last } ∷ rest

-- the finished operations of a log of this script
abbrev pub finished_in : List Command → List Event → List (Finished ℕ)
finished_in script [] = []
finished_in script (ended n p o began effect last ∷ rest) = finishing (asked script n) p o effect last (finished_in script rest)
finished_in script (refused p n ∷ rest) = finished_in script rest
finished_in script (misfit p ∷ rest) = finished_in script rest

-- the finished operations of a run, lowest effect step first
abbrev pub operations_by : Lines → List Command → List (Finished ℕ)
operations_by lines script = by_effect (finished_in script (log_by lines script))

-- the operation of this number alone, and the others
abbrev pub only : ℕ → List Event → List Event
only n [] = []
only n (ended k p o began effect last ∷ rest) = cond (k == n) (ended k p o began effect last ∷ only n rest) (only n rest)
only n (refused p k ∷ rest) = only n rest
only n (misfit p ∷ rest) = only n rest

-- the ends of all operations but the one of this number
abbrev pub without : ℕ → List Event → List Event
without n [] = []
without n (ended k p o began effect last ∷ rest) = cond (k == n) (without n rest) (ended k p o began effect last ∷ without n rest)
without n (refused p k ∷ rest) = without n rest
without n (misfit p ∷ rest) = without n rest

-- the first list put before this place of the second, or at its end
abbrev pub placed : ℕ → List (Finished ℕ) → List (Finished ℕ) → List (Finished ℕ)
placed place done [] = done
placed zero done (one ∷ more) = done ++ (one ∷ more)
placed (suc place) done (one ∷ more) = one ∷ placed place done more

-- the finished operations of a log, lowest effect step first, but the one of this number at this place
abbrev pub finished_with : List Command → ℕ → ℕ → List Event → List (Finished ℕ)
finished_with script n place log = placed place (finished_in script (only n log)) (by_effect (finished_in script (without n log)))
