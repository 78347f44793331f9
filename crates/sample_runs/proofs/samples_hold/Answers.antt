-- The sample runs together.
-- Each was computed by itself.
use Rattle.sample_runs.proofs.Runs as runs
use Rattle.sample_runs.proofs.samples_hold.Goals as goal

pub returns : goal.returns
returns c = record {
  kcss_yes = runs.kcss_yes;
  kcss_yes_first = runs.kcss_yes_first;
  kcss_yes_second = runs.kcss_yes_second;
  kcss_no_second = runs.kcss_no_second;
  kcss_no_first = runs.kcss_no_first;
  ll_sc = runs.ll_sc;
  ll_read_sc = runs.ll_read_sc;
  snapshot_rest = runs.snapshot_rest;
  kcss_again = runs.kcss_again;
  tags_spent = runs.tags_spent;
}
