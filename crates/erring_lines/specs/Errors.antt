-- For each error a run, from locations 0 and 1 that hold 5 and 7: what the erring lines log, and that the one-at-a-time
-- store does not allow it.
use Rattle.std.specs.Prelude.{◌≡◌, ℕ, true, cond, List, [], ◌∷◌, Some, None, ◌==◌}
use Rattle.operation.specs.declared.kind.OperationKind.TheVariants.{Read, Ll, Sc, Snapshot, Kcss}
use Rattle.protocol.specs.Operations.{Request, Answer, Finished}
use Rattle.protocol.specs.Operations.Request.{read, ll, sc, snapshot, kcss}
use Rattle.protocol.specs.Operations.Answer.{values, said}
use Rattle.protocol.specs.Store.{Store, opened_store}
use Rattle.protocol.specs.Replay.{Lawful}
use Rattle.sample_runs.specs.Model.{Event, Command, Lines, true_lines}
use Rattle.sample_runs.specs.Model.Event.{ended}
use Rattle.sample_runs.specs.Model.Outcome.{gave, said_yes}
use Rattle.sample_runs.specs.Model.Command.{start, step}
use Rattle.sample_runs.specs.Samples.{steps_of}
use Rattle.erring_lines.specs.Runs.{log_by, operations_by, finished_with}
use Rattle.erring_lines.specs.Erring.{leaves_id, compares_values_only, logs_at_swap}

-- the store as it starts: location 0 holds 5, every other location 7, and no process has a link
abbrev pub initial_store : Store ℕ
initial_store = opened_store (λ a. cond (a == 0) 5 7)

-- a finished operation: process, request, answer, effect step, last step
abbrev pub done : ℕ → Request ℕ → Answer ℕ → ℕ → ℕ → Finished ℕ
done p request answer effect last = record { process = p; request = request; answer = answer; effect = effect; last = last }

-- KCSS of one location, that said yes at its last step
abbrev pub done_set : ℕ → ℕ → ℕ → ℕ → ℕ → Finished ℕ
done_set p a old new last = done p (kcss (record { location = a; value = old }) [] new) (said true) last last

-- the store does not allow what these lines log
abbrev pub Unlawful : Lines → List Command → Type 0
Unlawful lines script = Lawful initial_store (operations_by lines script) → ⊥

-- nor does it allow the same operations with the one of this number put at any place
abbrev pub NowhereLawful : Lines → List Command → ℕ → Type 0
NowhereLawful lines script n = (place : ℕ) → Lawful initial_store (finished_with script n place (log_by lines script)) → ⊥

-- it allows what the true lines log; there the READ and the SNAPSHOT of the runs below have not ended yet
abbrev pub TrueLinesLawful : List Command → Type 0
TrueLinesLawful script = Lawful initial_store (operations_by true_lines script)

-- process p starts an LL of location a
abbrev pub start_ll : ℕ → ℕ → Command
start_ll p a = start p Ll ((a, None) ∷ []) None

-- process p starts an SC of location a to a new value
abbrev pub start_sc : ℕ → ℕ → ℕ → Command
start_sc p a new = start p Sc ((a, None) ∷ []) (Some new)

-- process p starts a READ of location a
abbrev pub start_read : ℕ → ℕ → Command
start_read p a = start p Read ((a, None) ∷ []) None

-- Process 0 links to location 0. A READ by process 1 meets the mark and keeps its id. Process 0 sets location 0 to 9 and
-- begins an LL of location 1, which saves 7. The READ then fetches 7 and answers it, but location 0 never held 7.
abbrev pub read_run : List Command
read_run = start_ll 0 0 ∷ steps_of 0 4 (start_read 1 0 ∷ steps_of 1 2 (start_sc 0 0 9 ∷ step 0 ∷ start_ll 0 1 ∷ steps_of 0 2 (step 1 ∷ [])))

-- the log of that run: the LL gives 5, the SC says yes at step 7, and the READ gives 7 at step 10
abbrev pub read_log : List Event
read_log = ended 1 0 (gave (Some 5 ∷ [])) 1 3 4 ∷ ended 3 0 said_yes 7 7 7 ∷ ended 2 1 (gave (Some 7 ∷ [])) 5 10 10 ∷ []

-- just that is logged by lines whose READ leaves the id
abbrev pub ReadLogs : Type 0
ReadLogs = log_by leaves_id read_run ≡ read_log

-- its finished operations, lowest effect step first: the LL, the SC, the READ
abbrev pub ReadOperations : Type 0
ReadOperations = operations_by leaves_id read_run
    ≡ done 0 (ll 0) (values (5 ∷ [])) 3 4 ∷ done 0 (sc 0 9) (said true) 7 7 ∷ done 1 (read 0) (values (7 ∷ [])) 10 10 ∷ []

-- the store does not allow them in this order
abbrev pub ReadUnlawful : Type 0
ReadUnlawful = Unlawful leaves_id read_run

-- nor does it allow them with the READ, operation 2, put at any place among the others
abbrev pub ReadNowhereLawful : Type 0
ReadNowhereLawful = NowhereLawful leaves_id read_run 2

-- it allows what the true lines log of the same run
abbrev pub ReadTrueLines : Type 0
ReadTrueLines = TrueLinesLawful read_run

-- KCSS of one location
abbrev pub set_one : ℕ → ℕ → ℕ → ℕ → Command
set_one p a old new = start p Kcss ((a, Some old) ∷ []) (Some new)

-- process p starts a KCSS of one location and makes five steps, and then comes the rest
abbrev pub set_of : ℕ → ℕ → ℕ → ℕ → List Command → List Command
set_of p a old new rest = set_one p a old new ∷ steps_of p 5 rest

-- Process 0 SNAPSHOTs locations 0 and 1, while process 1 sets each of them away and back. Both collects find 5 and 8, but
-- the locations never held 5 and 8 together: they held 5, 7 and 6, 7 and 6, 8, then 6, 7 and 5, 7, then 6, 7 and 6, 8.
abbrev pub snapshot_run : List Command
snapshot_run = start 0 Snapshot ((0, None) ∷ (1, None) ∷ []) None ∷ steps_of 0 3
    (set_of 1 0 5 6 (set_of 1 1 7 8 (step 0 ∷
    set_of 1 1 8 7 (set_of 1 0 6 5 (step 0 ∷
    set_of 1 0 5 6 (set_of 1 1 7 8 (steps_of 0 3 [])))))))

-- the log of that run: six KCSSs say yes, then the SNAPSHOT gives 5 and 8, with effect 14 and last step 38
abbrev pub snapshot_log : List Event
snapshot_log = ended 2 1 said_yes 4 8 8 ∷ ended 3 1 said_yes 9 13 13 ∷ ended 4 1 said_yes 15 19 19 ∷ ended 5 1 said_yes 20 24 24
    ∷ ended 6 1 said_yes 26 30 30 ∷ ended 7 1 said_yes 31 35 35 ∷ ended 1 0 (gave (Some 5 ∷ Some 8 ∷ [])) 1 14 38 ∷ []

-- just that is logged by lines that compare the values only
abbrev pub SnapshotLogs : Type 0
SnapshotLogs = log_by compares_values_only snapshot_run ≡ snapshot_log

-- its finished operations, lowest effect step first: two KCSSs, the SNAPSHOT, and four KCSSs more
abbrev pub SnapshotOperations : Type 0
SnapshotOperations = operations_by compares_values_only snapshot_run
    ≡ done_set 1 0 5 6 8 ∷ done_set 1 1 7 8 13 ∷ done 0 (snapshot (0 ∷ 1 ∷ [])) (values (5 ∷ 8 ∷ [])) 14 38
    ∷ done_set 1 1 8 7 19 ∷ done_set 1 0 6 5 24 ∷ done_set 1 0 5 6 30 ∷ done_set 1 1 7 8 35 ∷ []

-- the store does not allow them in this order
abbrev pub SnapshotUnlawful : Type 0
SnapshotUnlawful = Unlawful compares_values_only snapshot_run

-- nor does it allow them with the SNAPSHOT, operation 1, put at any place among the others
abbrev pub SnapshotNowhereLawful : Type 0
SnapshotNowhereLawful = NowhereLawful compares_values_only snapshot_run 1

-- it allows what the true lines log of the same run
abbrev pub SnapshotTrueLines : Type 0
SnapshotTrueLines = TrueLinesLawful snapshot_run

-- Process 0 makes a KCSS of locations 0 and 1, which expects 5 and 7, up to its 11. Process 1 sets location 1 to 8. The 11
-- then says yes; logged there, the KCSS comes after location 1 was set, and had to say no.
abbrev pub kcss_run : List Command
kcss_run = start 0 Kcss ((0, Some 5) ∷ (1, Some 7) ∷ []) (Some 9) ∷ steps_of 0 8 (set_of 1 1 7 8 (step 0 ∷ []))

-- the log of that run: the KCSS of process 1 says yes at step 13, and the one of process 0 at step 14
abbrev pub kcss_log : List Event
kcss_log = ended 2 1 said_yes 9 13 13 ∷ ended 1 0 said_yes 1 14 14 ∷ []

-- just that is logged by lines that have every yes take effect at its 11
abbrev pub KcssLogs : Type 0
KcssLogs = log_by logs_at_swap kcss_run ≡ kcss_log

-- its finished operations, lowest effect step first: the KCSS of location 1, then the one of locations 0 and 1
abbrev pub KcssOperations : Type 0
KcssOperations = operations_by logs_at_swap kcss_run
    ≡ done_set 1 1 7 8 13
    ∷ done 0 (kcss (record { location = 0; value = 5 }) (record { location = 1; value = 7 } ∷ []) 9) (said true) 14 14 ∷ []

-- the store does not allow them in this order
abbrev pub KcssUnlawful : Type 0
KcssUnlawful = Unlawful logs_at_swap kcss_run

-- it allows what the true lines log of the same run
abbrev pub KcssTrueLines : Type 0
KcssTrueLines = TrueLinesLawful kcss_run

-- all that is told above of the three runs
pub record AllErrors : Type 0 where
  pub read_logs : ReadLogs
  pub read_operations : ReadOperations
  pub read_unlawful : ReadUnlawful
  pub read_nowhere_lawful : ReadNowhereLawful
  pub read_true_lines : ReadTrueLines
  pub snapshot_logs : SnapshotLogs
  pub snapshot_operations : SnapshotOperations
  pub snapshot_unlawful : SnapshotUnlawful
  pub snapshot_nowhere_lawful : SnapshotNowhereLawful
  pub snapshot_true_lines : SnapshotTrueLines
  pub kcss_logs : KcssLogs
  pub kcss_operations : KcssOperations
  pub kcss_unlawful : KcssUnlawful
  pub kcss_true_lines : KcssTrueLines
