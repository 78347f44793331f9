-- Sample runs of the model, from a machine whose locations 0 and 1 hold 5 and 7: what ends, when, and with which answer.
-- Operations are numbered from 1 in the order of their starts.
use Rattle.std.specs.Prelude.{◌≡◌, ℕ, zero, suc, cond, List, [], ◌∷◌, Some, None, ◌==◌}
use Rattle.memory.specs.declared.cell.Cell.TheVariants.{Value, Id}
use Rattle.operation.specs.declared.kind.OperationKind.TheVariants.{Read, Ll, Sc, Snapshot, Kcss}
use Rattle.sample_runs.specs.Model.{Machine, Command, no_id, true_lines, run}
use Rattle.sample_runs.specs.Model.Event.{ended, refused}
use Rattle.sample_runs.specs.Model.Outcome.{gave, said_yes, said_no}
use Rattle.sample_runs.specs.Model.Command.{start, step}

-- nothing runs, no process has a link, and each tag is 0
abbrev pub opening : ℕ → Machine
opening greatest = record {
  val = λ a. Value (cond (a == 0) 5 7);
  tid = λ a. Id no_id;
  saved = λ p. Id no_id;
  processes = λ p. record { tag = 0; link = None; running = None };
  steps = 0;
  started = 0;
  greatest_tag = greatest;
  trace = [];
}

-- so many steps of a process, and then the rest
abbrev pub steps_of : ℕ → ℕ → List Command → List Command
steps_of p zero rest = rest
steps_of p (suc n) rest = step p ∷ steps_of p n rest

-- KCSS of locations 0 and 1 to 9 by process 0
abbrev pub kcss : ℕ → ℕ → Command
kcss x y = start 0 Kcss ((0, Some x) ∷ (1, Some y) ∷ []) (Some 9)

-- READ of location 0 by this process
abbrev pub read : ℕ → Command
read p = start p Read ((0, None) ∷ []) None

-- LL of location 0 by process 0
abbrev pub ll : Command
ll = start 0 Ll ((0, None) ∷ []) None

-- SC of location 0 to 9 by process 0
abbrev pub sc : Command
sc = start 0 Sc ((0, None) ∷ []) (Some 9)

-- SNAPSHOT of locations 0 and 1 by process 0
abbrev pub snapshot : Command
snapshot = start 0 Snapshot ((0, None) ∷ (1, None) ∷ []) None

-- the machine after a script, with the true lines and 1000 as the greatest tag
abbrev pub ran : List Command → Machine
ran script = run true_lines (opening 1000) script

-- both values are as expected: yes, and location 0 then holds the new value
abbrev pub KcssYes : Type 0
KcssYes = (ran (kcss 5 7 ∷ steps_of 0 9 [])).trace ≡ ended 1 0 said_yes 1 6 9 ∷ []

-- after the same run location 0 holds 9
abbrev pub KcssYesFirst : Type 0
KcssYesFirst = (ran (kcss 5 7 ∷ steps_of 0 9 [])).val 0 ≡ Value 9

-- after the same run location 1 holds 7 as before
abbrev pub KcssYesSecond : Type 0
KcssYesSecond = (ran (kcss 5 7 ∷ steps_of 0 9 [])).val 1 ≡ Value 7

-- the second value differs
abbrev pub KcssNoSecond : Type 0
KcssNoSecond = (ran (kcss 5 8 ∷ steps_of 0 9 [])).trace ≡ ended 1 0 said_no 1 6 9 ∷ []

-- the first value differs
abbrev pub KcssNoFirst : Type 0
KcssNoFirst = (ran (kcss 4 7 ∷ steps_of 0 9 [])).trace ≡ ended 1 0 said_no 1 3 9 ∷ []

-- nobody comes between the LL and the SC, which says yes
abbrev pub LlSc : Type 0
LlSc = (ran (ll ∷ steps_of 0 4 (sc ∷ step 0 ∷ []))).trace
    ≡ ended 1 0 (gave (Some 5 ∷ [])) 1 3 4 ∷ ended 2 0 said_yes 5 5 5 ∷ []

-- the READ of another process resets the mark, and the SC says no
abbrev pub LlReadSc : Type 0
LlReadSc = (ran (ll ∷ steps_of 0 4 (read 1 ∷ steps_of 1 5 (sc ∷ step 0 ∷ [])))).trace
    ≡ ended 1 0 (gave (Some 5 ∷ [])) 1 3 4 ∷ ended 2 1 (gave (Some 5 ∷ [])) 5 9 9 ∷ ended 3 0 said_no 10 10 10 ∷ []

-- nobody disturbs the SNAPSHOT, which gives 5 and 7 after eight steps, with its effect at the fourth
abbrev pub SnapshotRest : Type 0
SnapshotRest = (ran (snapshot ∷ steps_of 0 8 [])).trace ≡ ended 1 0 (gave (Some 5 ∷ Some 7 ∷ [])) 1 4 8 ∷ []

-- the READ of another process resets the mark of the KCSS, which begins afresh
abbrev pub KcssAgain : Type 0
KcssAgain = (ran (kcss 5 7 ∷ steps_of 0 6 (read 1 ∷ steps_of 1 5 (steps_of 0 12 [])))).trace
    ≡ ended 2 1 (gave (Some 5 ∷ [])) 7 11 11 ∷ ended 1 0 said_yes 1 20 23 ∷ []

-- the greatest tag is 1: a second attempt is refused
abbrev pub TagsSpent : Type 0
TagsSpent = (run true_lines (opening 1) (ll ∷ steps_of 0 4 (sc ∷ step 0 ∷ ll ∷ step 0 ∷ []))).trace
    ≡ ended 1 0 (gave (Some 5 ∷ [])) 1 3 4 ∷ ended 2 0 said_yes 5 5 5 ∷ refused 0 14 ∷ []

-- all the sample runs above
pub record AllSamples : Type 0 where
  pub kcss_yes : KcssYes
  pub kcss_yes_first : KcssYesFirst
  pub kcss_yes_second : KcssYesSecond
  pub kcss_no_second : KcssNoSecond
  pub kcss_no_first : KcssNoFirst
  pub ll_sc : LlSc
  pub ll_read_sc : LlReadSc
  pub snapshot_rest : SnapshotRest
  pub kcss_again : KcssAgain
  pub tags_spent : TagsSpent
