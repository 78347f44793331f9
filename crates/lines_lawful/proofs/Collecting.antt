-- SNAPSHOT: its states are those of the relation of all kinds.
use Rattle.std.proofs.Common.{◌≡◌, ℕ, ◌<◌, Bool, List, length, Option, refl, subst, arith}
use mathlib.Core.Option as maybe
use Rattle.operation.specs.declared.kind.OperationKind.TheVariants.{Snapshot}
use Rattle.phases.specs.declared.phase.Phase as code-phase
use Rattle.phases.specs.declared.records.Operand.{Operand}
use Rattle.protocol.specs.Phases.{Phase, Rows}
use Rattle.protocol.specs.Phases.Purpose.{solo}
use Rattle.line_views.specs.View.{Running}
use Rattle.line_views.specs.View.Running.{runs}
use Rattle.line_views.specs.Steps.{MakesLines}
use Rattle.steps_lawful.specs.Showing.{CollectPhase, Shows}
use Rattle.steps_lawful.specs.Showing.Collects.{collects_snapshot}
use Rattle.steps_lawful.specs.Showing.CollectPhase.{at_s6, at_first, at_second, at_s9}
use Rattle.steps_lawful.specs.Showing.Shows.{shows_link, shows_collect}
use Rattle.steps_lawful.proofs.Stepping.{makes_lines_by}
use Rattle.lines_lawful.specs.Collecting.{Fits, ShowsSnapshot}
use Rattle.lines_lawful.specs.Collecting.ShowsSnapshot.{shows_first_id, shows_first_collect, shows_second_collect, shows_second_id}
use Rattle.lines_lawful.proofs.Carrying.{Of, Any, Restricts, carried}
use Rattle.lines_lawful.proofs.Parts.{all_into, all_back}

module _ {V : Type 0} where
  module _ {ops : List (Operand V)} {new : Option V} {rows : Rows V} {k i m c : ℕ} {f : Bool} {l : maybe.Option ℕ} (h : i < k) where
    into_collect : {phase : code-phase.Phase V} {a b : ℕ} {ph : Phase V} → Fits a b rows ops k → CollectPhase solo rows k i i c phase a b ph
        → Shows (runs Snapshot ops new phase m c f) l ph × Of Snapshot Any (runs Snapshot ops new phase m c f)
    into_collect fits at = (shows_collect i i collects_snapshot (all_into fits) at h (omega arith), (refl, tt))

    of_collect : {phase : code-phase.Phase V} {a b : ℕ} {ph : Phase V} → Fits a b rows ops k → CollectPhase solo rows k i i c phase a b ph
        → ShowsSnapshot (runs Snapshot ops new phase m c f) l ph
    of_collect fits at_s6 = shows_first_id _ _ _ _ _ _ _ _ _ h fits
    of_collect fits at_first = shows_first_collect _ _ _ _ _ _ _ _ _ _ h fits
    of_collect fits at_second = shows_second_collect _ _ _ _ _ _ _ _ _ _ h fits
    of_collect fits at_s9 = shows_second_id _ _ _ _ _ _ _ _ _ h fits

  into : {running : Running V} {l : maybe.Option ℕ} {ph : Phase V} → ShowsSnapshot running l ph → Shows running l ph × Of Snapshot Any running
  into (shows_first_id _ _ _ _ _ _ _ _ _ h fits) = into_collect h fits at_s6
  into (shows_first_collect _ _ _ _ _ _ _ _ _ _ h fits) = into_collect h fits at_first
  into (shows_second_collect _ _ _ _ _ _ _ _ _ _ h fits) = into_collect h fits at_second
  into (shows_second_id _ _ _ _ _ _ _ _ _ h fits) = into_collect h fits at_s9

  back : {ops : List (Operand V)} {new : Option V} {phase : code-phase.Phase V} {m c : ℕ} {f : Bool} {l : maybe.Option ℕ} {ph : Phase V}
      → Any (length ops) → Shows (runs Snapshot ops new phase m c f) l ph → ShowsSnapshot (runs Snapshot ops new phase m c f) l ph
  back any (shows_link links at) = elim links [ ]
  back {phase = phase} {c = c} {ph = ph} any (shows_collect {rows = rows} {k = k} {a = a} {b = b} i j collects_snapshot fits at h e) =
      let s : j ≡ i = omega (arith, e) in
      of_collect h (all_back fits) (subst (λ (j : ℕ). CollectPhase solo rows k i j c phase a b ph) s at)

  pub snapshots : Restricts {V = V} Shows ShowsSnapshot Snapshot Any
  snapshots = record { into = into; back = back }

-- each step of a SNAPSHOT is a line, where no two values have one code
pub snapshot_lines : {V : Type 0} (code : V → ℕ) → ((x y : V) → code x ≡ code y → x ≡ y) → MakesLines code ShowsSnapshot
snapshot_lines code one = carried code snapshots (makes_lines_by code one)
