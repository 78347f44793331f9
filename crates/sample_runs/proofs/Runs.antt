-- Each sample run is computed: both sides of its equation are the same.
-- The cells and processes are functions, whose changes are unfolded.
use Rattle.std.proofs.Common.{refl}
use Rattle.sample_runs.specs.Model.{upd}
use Rattle.sample_runs.specs.Samples.{KcssYes, KcssYesFirst, KcssYesSecond, KcssNoSecond, KcssNoFirst, LlSc, LlReadSc, SnapshotRest, KcssAgain, TagsSpent}

pub kcss_yes : KcssYes
unfolding upd
kcss_yes = refl

pub kcss_yes_first : KcssYesFirst
unfolding upd
kcss_yes_first = refl

pub kcss_yes_second : KcssYesSecond
unfolding upd
kcss_yes_second = refl

pub kcss_no_second : KcssNoSecond
unfolding upd
kcss_no_second = refl

pub kcss_no_first : KcssNoFirst
unfolding upd
kcss_no_first = refl

pub ll_sc : LlSc
unfolding upd
ll_sc = refl

pub ll_read_sc : LlReadSc
unfolding upd
ll_read_sc = refl

pub snapshot_rest : SnapshotRest
unfolding upd
snapshot_rest = refl

pub kcss_again : KcssAgain
unfolding upd
kcss_again = refl

pub tags_spent : TagsSpent
unfolding upd
tags_spent = refl
