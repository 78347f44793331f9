-- KCSS of one location: its states are those of the relation of all kinds.
use Rattle.std.proofs.Common.{◌≡◌, ℕ, zero, suc, Bool, List, [], ◌∷◌, length, Some, Option, refl, arith}
use mathlib.Core.Option as maybe
use Rattle.memory.specs.declared.cell.TaggedId.{TaggedId}
use Rattle.operation.specs.declared.kind.OperationKind.TheVariants.{Kcss}
use Rattle.phases.specs.declared.phase.Phase as code-phase
use Rattle.phases.specs.declared.records.Operand.{Operand}
use Rattle.protocol.specs.Phases.{Phase, Rows}
use Rattle.protocol.specs.Phases.Job.{for_kcss}
use Rattle.protocol.proofs.Changes.{clash}
use Rattle.line_views.specs.View.{Running}
use Rattle.line_views.specs.View.Running.{runs}
use Rattle.line_views.specs.Steps.{MakesLines}
use Rattle.steps_lawful.specs.Showing.{Fits, LinkPhase, Shows}
use Rattle.steps_lawful.specs.Showing.Links.{links_kcss}
use Rattle.steps_lawful.specs.Showing.Collects.{collects_kcss}
use Rattle.steps_lawful.specs.Showing.LinkPhase.{at_attempt, at_again, at_read, at_7, at_8, at_9}
use Rattle.steps_lawful.specs.Showing.Shows.{shows_link, shows_collect, shows_swap}
use Rattle.steps_lawful.proofs.Stepping.{makes_lines_by}
use Rattle.lines_lawful.specs.Single.{single, ShowsSingle}
use Rattle.lines_lawful.specs.Single.ShowsSingle.{single_attempt, single_again, single_linking, single_save, single_mark, single_note, single_swap}
use Rattle.lines_lawful.proofs.Carrying.{Of, One, Restricts, carried}
use Rattle.lines_lawful.proofs.Parts.{rest_into, as_single, as_found}

module _ {V : Type 0} where
  -- there are no rows where there is no other operand
  alone : {o : Operand V} {rows : Rows V} → Fits Kcss 0 0 0 rows (o ∷ [])
  alone = rest_into (refl, λ i o e. clash (cc)) (λ i o e. clash (cc))

  module _ {a : ℕ} {x u : V} {one two : Option V} {i j : TaggedId} {rows : Rows V} {m c : ℕ} where
    into_link : {phase : code-phase.Phase V} {f : Bool} {ph : Phase V} → LinkPhase (for_kcss a x u rows 0) phase m f ph
        → Shows (runs Kcss (single a x one two i j ∷ []) (Some u) phase m c f) maybe.none ph
        × Of Kcss One (runs Kcss (single a x one two i j ∷ []) (Some u) phase m c f)
    into_link at = (shows_link (links_kcss refl alone) at, (refl, refl))

    of_link : {phase : code-phase.Phase V} {f : Bool} {ph : Phase V} → LinkPhase (for_kcss a x u rows 0) phase m f ph
        → ShowsSingle (runs Kcss (single a x one two i j ∷ []) (Some u) phase m c f) maybe.none ph
    of_link at_attempt = single_attempt _ _ _ _ _ _ _ _ _ _
    of_link at_again = single_again _ _ _ _ _ _ _ _ _ _
    of_link at_read = single_linking _ _ _ _ _ _ _ _ _ _ _ _
    of_link at_7 = single_save _ _ _ _ _ _ _ _ _ _ _ _
    of_link at_8 = single_mark _ _ _ _ _ _ _ _ _ _ _ _
    of_link at_9 = single_note _ _ _ _ _ _ _ _ _ _ _ _

  into : {running : Running V} {l : maybe.Option ℕ} {ph : Phase V} → ShowsSingle running l ph → Shows running l ph × Of Kcss One running
  into (single_attempt _ _ _ _ _ _ _ _ _ _) = into_link at_attempt
  into (single_again _ _ _ _ _ _ _ _ _ _) = into_link at_again
  into (single_linking _ _ _ _ _ _ _ _ _ _ _ _) = into_link at_read
  into (single_save _ _ _ _ _ _ _ _ _ _ _ _) = into_link at_7
  into (single_mark _ _ _ _ _ _ _ _ _ _ _ _) = into_link at_8
  into (single_note _ _ _ _ _ _ _ _ _ _ _ _) = into_link at_9
  into (single_swap _ _ _ _ _ _ _ _ _ _ _) = (shows_swap refl refl alone refl, (refl, refl))

  back : {ops : List (Operand V)} {new : Option V} {phase : code-phase.Phase V} {m c : ℕ} {f : Bool} {l : maybe.Option ℕ} {ph : Phase V}
      → One (length ops) → Shows (runs Kcss ops new phase m c f) l ph → ShowsSingle (runs Kcss ops new phase m c f) l ph
  back one (shows_link (links_kcss {rest = []} {k = zero} ex fits) at) = as_single ShowsSingle ex (of_link at)
  back one (shows_link (links_kcss {rest = []} {k = suc k} ex fits) at) = absurd (omega (arith, fits.count))
  back one (shows_link (links_kcss {rest = o ∷ rest} ex fits) at) = absurd (omega (arith, one))
  back one (shows_collect i j (collects_kcss ex fi) fits at h e) = absurd (omega (arith, fits.count, one))
  back one (shows_swap {rest = []} {k = zero} ex fi fits e) = as_found ShowsSingle ex fi (rw e (single_swap _ _ _ _ _ _ _ _ _ _ _))
  back one (shows_swap {rest = []} {k = suc k} ex fi fits e) = absurd (omega (arith, fits.count))
  back one (shows_swap {rest = o ∷ rest} ex fi fits e) = absurd (omega (arith, one))

  pub singles : Restricts {V = V} Shows ShowsSingle Kcss One
  singles = record { into = into; back = back }

-- each step of a KCSS of one location is a line, where no two values have one code
pub single_kcss_lines : {V : Type 0} (code : V → ℕ) → ((x y : V) → code x ≡ code y → x ≡ y) → MakesLines code ShowsSingle
single_kcss_lines code one = carried code singles (makes_lines_by code one)
