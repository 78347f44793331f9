-- The runs together.
-- Each was computed by itself.
use Rattle.erring_lines.proofs.Runs as runs
use Rattle.erring_lines.proofs.errors_are_unlawful.Goals as goal

pub returns : goal.returns
returns c = record {
  read_logs = runs.read_logs;
  read_operations = runs.read_operations;
  read_unlawful = runs.read_unlawful;
  read_nowhere_lawful = runs.read_nowhere_lawful;
  read_true_lines = runs.read_true_lines;
  snapshot_logs = runs.snapshot_logs;
  snapshot_operations = runs.snapshot_operations;
  snapshot_unlawful = runs.snapshot_unlawful;
  snapshot_nowhere_lawful = runs.snapshot_nowhere_lawful;
  snapshot_true_lines = runs.snapshot_true_lines;
  kcss_logs = runs.kcss_logs;
  kcss_operations = runs.kcss_operations;
  kcss_unlawful = runs.kcss_unlawful;
  kcss_true_lines = runs.kcss_true_lines;
}
