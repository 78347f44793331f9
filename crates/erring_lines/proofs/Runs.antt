-- Each run is computed, and its list of finished operations is refused by the store.
-- The cells and processes are functions, whose changes are unfolded.
use Rattle.std.proofs.Common.{◌≡◌, ℕ, zero, suc, List, sym, refl, subst, arith}
use Rattle.protocol.specs.World.{changed}
use Rattle.protocol.specs.Replay.{Lawful}
use Rattle.sample_runs.specs.Model.{Event, upd}
use Rattle.erring_lines.specs.Runs.{finished_with}
use Rattle.erring_lines.specs.Errors.{initial_store, read_run, read_log, snapshot_run, snapshot_log, ReadLogs, ReadUnlawful, SnapshotLogs, SnapshotUnlawful, KcssLogs, KcssUnlawful, ReadNowhereLawful, SnapshotNowhereLawful, ReadOperations, SnapshotOperations, KcssOperations, ReadTrueLines, SnapshotTrueLines, KcssTrueLines}

pub read_logs : ReadLogs
unfolding upd
read_logs = refl

pub read_operations : ReadOperations
unfolding upd
read_operations = refl

pub read_unlawful : ReadUnlawful
unfolding upd changed
read_unlawful lawful = let z : ◌≡◌ {A = ℕ} 7 9 = cc lawful.1.1.0 in omega arith

pub snapshot_logs : SnapshotLogs
unfolding upd
snapshot_logs = refl

pub snapshot_operations : SnapshotOperations
unfolding upd
snapshot_operations = refl

pub snapshot_unlawful : SnapshotUnlawful
unfolding upd changed
snapshot_unlawful lawful = let z : ◌≡◌ {A = ℕ} 5 6 = cc lawful.1.1.0 in omega arith

pub kcss_logs : KcssLogs
unfolding upd
kcss_logs = refl

pub kcss_operations : KcssOperations
unfolding upd
kcss_operations = refl

pub kcss_unlawful : KcssUnlawful
unfolding upd changed
kcss_unlawful lawful = let z : ◌≡◌ {A = ℕ} 8 7 = lawful.1.0.1.0 in omega arith

read_nowhere : (place : ℕ) → Lawful initial_store (finished_with read_run 2 place read_log) → ⊥
unfolding changed
read_nowhere zero lawful = let z : ◌≡◌ {A = ℕ} 7 5 = cc lawful.0 in omega arith
read_nowhere (suc zero) lawful = let z : ◌≡◌ {A = ℕ} 7 5 = cc lawful.1.0 in omega arith
read_nowhere (suc (suc place)) lawful = let z : ◌≡◌ {A = ℕ} 7 9 = cc lawful.1.1.0 in omega arith

pub read_nowhere_lawful : ReadNowhereLawful
read_nowhere_lawful = subst (λ (log : List Event). (place : ℕ) → Lawful initial_store (finished_with read_run 2 place log) → ⊥) (sym read_logs) read_nowhere

snapshot_nowhere : (place : ℕ) → Lawful initial_store (finished_with snapshot_run 1 place snapshot_log) → ⊥
unfolding changed
snapshot_nowhere zero lawful = let z : ◌≡◌ {A = ℕ} 8 7 = cc lawful.0 in omega arith
snapshot_nowhere (suc zero) lawful = let z : ◌≡◌ {A = ℕ} 5 6 = cc lawful.1.0 in omega arith
snapshot_nowhere (suc (suc zero)) lawful = let z : ◌≡◌ {A = ℕ} 5 6 = cc lawful.1.1.0 in omega arith
snapshot_nowhere (suc (suc (suc zero))) lawful = let z : ◌≡◌ {A = ℕ} 5 6 = cc lawful.1.1.1.0 in omega arith
snapshot_nowhere (suc (suc (suc (suc zero)))) lawful = let z : ◌≡◌ {A = ℕ} 8 7 = cc lawful.1.1.1.1.0 in omega arith
snapshot_nowhere (suc (suc (suc (suc (suc zero))))) lawful = let z : ◌≡◌ {A = ℕ} 5 6 = cc lawful.1.1.1.1.1.0 in omega arith
snapshot_nowhere (suc (suc (suc (suc (suc (suc place)))))) lawful = let z : ◌≡◌ {A = ℕ} 5 6 = cc lawful.1.1.1.1.1.1.0 in omega arith

pub snapshot_nowhere_lawful : SnapshotNowhereLawful
snapshot_nowhere_lawful = subst (λ (log : List Event). (place : ℕ) → Lawful initial_store (finished_with snapshot_run 1 place log) → ⊥) (sym snapshot_logs) snapshot_nowhere

pub read_true_lines : ReadTrueLines
unfolding upd changed
read_true_lines = (refl, (refl, tt))

pub snapshot_true_lines : SnapshotTrueLines
unfolding upd changed
snapshot_true_lines = ((refl, tt), ((refl, tt), ((refl, tt), ((refl, tt), ((refl, tt), ((refl, tt), tt))))))

pub kcss_true_lines : KcssTrueLines
unfolding upd changed
kcss_true_lines = ((refl, (refl, tt)), ((refl, tt), tt))
