-- KCSS of two or more locations: its states are those of the relation of all kinds.
use Rattle.std.proofs.Common.{◌≡◌, ℕ, suc, ◌<◌, Bool, List, ◌∷◌, length, Some, Option, sym, refl, ◌∙◌, subst, arith}
use mathlib.Core.Option as maybe
use Rattle.memory.specs.declared.cell.TaggedId.{TaggedId}
use Rattle.operation.specs.declared.kind.OperationKind.TheVariants.{Kcss}
use Rattle.phases.specs.declared.phase.Phase as code-phase
use Rattle.phases.specs.declared.records.Operand.{Operand}
use Rattle.protocol.specs.Phases.{Phase, Rows}
use Rattle.protocol.specs.Phases.Job.{for_kcss}
use Rattle.protocol.specs.Phases.Purpose.{inside}
use Rattle.line_views.specs.View.{Running}
use Rattle.line_views.specs.View.Running.{runs}
use Rattle.line_views.specs.Steps.{MakesLines}
use Rattle.steps_lawful.specs.Showing.{LinkPhase, CollectPhase, Shows}
use Rattle.steps_lawful.specs.Showing.Links.{links_kcss}
use Rattle.steps_lawful.specs.Showing.Collects.{collects_kcss}
use Rattle.steps_lawful.specs.Showing.LinkPhase.{at_attempt, at_again, at_read, at_7, at_8, at_9}
use Rattle.steps_lawful.specs.Showing.CollectPhase.{at_s6, at_first, at_second, at_s9}
use Rattle.steps_lawful.specs.Showing.Shows.{shows_link, shows_collect, shows_swap}
use Rattle.steps_lawful.proofs.Swapping.{ended}
use Rattle.steps_lawful.proofs.Stepping.{makes_lines_by}
use Rattle.lines_lawful.specs.Collecting.{Fits}
use Rattle.lines_lawful.specs.Single.{single}
use Rattle.lines_lawful.specs.Several.{Wanted, ShowsKcss}
use Rattle.lines_lawful.specs.Several.ShowsKcss.{kcss_attempt, kcss_again, kcss_linking, kcss_save, kcss_mark, kcss_note, kcss_swap}
use Rattle.lines_lawful.specs.Several.ShowsKcss.{kcss_first_id, kcss_first_collect, kcss_second_collect, kcss_second_id}
use Rattle.lines_lawful.proofs.Carrying.{Of, More, Restricts, carried}
use Rattle.lines_lawful.proofs.Parts.{rest_into, rest_back, wanted_back, as_single, as_found}

module _ {V : Type 0} {x u : V} {two : Option V} {i₀ j₀ : TaggedId} {ops : List (Operand V)} {rows : Rows V} {place k m c : ℕ} where
  -- its LL
  module _ {one : Option V} (h : 0 < k) (fits : Fits 0 0 rows ops k) (want : Wanted rows ops) where
    into_link : {phase : code-phase.Phase V} {f : Bool} {ph : Phase V} → LinkPhase (for_kcss place x u rows k) phase m f ph
        → Shows (runs Kcss (single place x one two i₀ j₀ ∷ ops) (Some u) phase m c f) maybe.none ph
        × Of Kcss More (runs Kcss (single place x one two i₀ j₀ ∷ ops) (Some u) phase m c f)
    into_link at = (shows_link (links_kcss refl (rest_into fits want)) at, (refl, omega (arith, fits.0)))

    of_link : {phase : code-phase.Phase V} {f : Bool} {ph : Phase V} → LinkPhase (for_kcss place x u rows k) phase m f ph
        → ShowsKcss (runs Kcss (single place x one two i₀ j₀ ∷ ops) (Some u) phase m c f) maybe.none ph
    of_link at_attempt = kcss_attempt _ _ _ _ _ _ _ _ _ _ _ _ h fits want
    of_link at_again = kcss_again _ _ _ _ _ _ _ _ _ _ _ _ h fits want
    of_link at_read = kcss_linking _ _ _ _ _ _ _ _ _ _ _ _ _ _ h fits want
    of_link at_7 = kcss_save _ _ _ _ _ _ _ _ _ _ _ _ _ _ h fits want
    of_link at_8 = kcss_mark _ _ _ _ _ _ _ _ _ _ _ _ _ _ h fits want
    of_link at_9 = kcss_note _ _ _ _ _ _ _ _ _ _ _ _ _ _ h fits want

  -- its SNAPSHOT
  module _ {v : V} {i : ℕ} {f : Bool} (h : i < k) (want : Wanted rows ops) where
    into_collect : {phase : code-phase.Phase V} {a b : ℕ} {ph : Phase V} → Fits a b rows ops k
        → CollectPhase (inside place x u v m) rows k i (suc i) c phase a b ph
        → Shows (runs Kcss (single place x (Some v) two i₀ j₀ ∷ ops) (Some u) phase m c f) maybe.none ph
        × Of Kcss More (runs Kcss (single place x (Some v) two i₀ j₀ ∷ ops) (Some u) phase m c f)
    into_collect fits at = (shows_collect i (suc i) (collects_kcss refl refl) (rest_into fits want) at h (omega arith), (refl, omega (arith, fits.0)))

    of_collect : {phase : code-phase.Phase V} {a b : ℕ} {ph : Phase V} → Fits a b rows ops k
        → CollectPhase (inside place x u v m) rows k i (suc i) c phase a b ph
        → ShowsKcss (runs Kcss (single place x (Some v) two i₀ j₀ ∷ ops) (Some u) phase m c f) maybe.none ph
    of_collect fits at_s6 = kcss_first_id _ _ _ _ _ _ _ _ _ _ _ _ _ _ h fits want
    of_collect fits at_first = kcss_first_collect _ _ _ _ _ _ _ _ _ _ _ _ _ _ _ h fits want
    of_collect fits at_second = kcss_second_collect _ _ _ _ _ _ _ _ _ _ _ _ _ _ _ h fits want
    of_collect fits at_s9 = kcss_second_id _ _ _ _ _ _ _ _ _ _ _ _ _ _ h fits want

module _ {V : Type 0} where
  into : {running : Running V} {l : maybe.Option ℕ} {ph : Phase V} → ShowsKcss running l ph → Shows running l ph × Of Kcss More running
  into (kcss_attempt _ _ _ _ _ _ _ _ _ _ _ _ h fits want) = into_link h fits want at_attempt
  into (kcss_again _ _ _ _ _ _ _ _ _ _ _ _ h fits want) = into_link h fits want at_again
  into (kcss_linking _ _ _ _ _ _ _ _ _ _ _ _ _ _ h fits want) = into_link h fits want at_read
  into (kcss_save _ _ _ _ _ _ _ _ _ _ _ _ _ _ h fits want) = into_link h fits want at_7
  into (kcss_mark _ _ _ _ _ _ _ _ _ _ _ _ _ _ h fits want) = into_link h fits want at_8
  into (kcss_note _ _ _ _ _ _ _ _ _ _ _ _ _ _ h fits want) = into_link h fits want at_9
  into (kcss_first_id _ _ _ _ _ _ _ _ _ _ _ _ _ _ h fits want) = into_collect h want fits at_s6
  into (kcss_first_collect _ _ _ _ _ _ _ _ _ _ _ _ _ _ _ h fits want) = into_collect h want fits at_first
  into (kcss_second_collect _ _ _ _ _ _ _ _ _ _ _ _ _ _ _ h fits want) = into_collect h want fits at_second
  into (kcss_second_id _ _ _ _ _ _ _ _ _ _ _ _ _ _ h fits want) = into_collect h want fits at_s9
  into (kcss_swap _ _ _ _ _ _ _ _ _ k _ c _ h fits want) = (shows_swap refl refl (rest_into fits want) (sym (ended k c h)), (refl, omega (arith, fits.0)))

  back : {ops : List (Operand V)} {new : Option V} {phase : code-phase.Phase V} {m c : ℕ} {f : Bool} {l : maybe.Option ℕ} {ph : Phase V}
      → More (length ops) → Shows (runs Kcss ops new phase m c f) l ph → ShowsKcss (runs Kcss ops new phase m c f) l ph
  back more (shows_link (links_kcss ex fits) at) =
      as_single ShowsKcss ex (of_link (omega (arith, fits.count, more)) (rest_back fits) (wanted_back fits) at)
  back {phase = phase} {c = c} {ph = ph} more (shows_collect {F = F} {rows = rows} {k = k} {a = a} {b = b} i j (collects_kcss ex fi) fits at h e) =
      let s : j ≡ suc i = omega (arith, e) in
      as_found ShowsKcss ex fi (of_collect h (wanted_back fits) (rest_back fits) (subst (λ (j : ℕ). CollectPhase F rows k i j c phase a b ph) s at))
  back {c = c} more (shows_swap {k = k} ex fi fits e) =
      let h : 0 < k = omega (arith, fits.count, more) in
      as_found ShowsKcss ex fi (rw (e ∙ ended k c h) (kcss_swap _ _ _ _ _ _ _ _ _ _ _ _ _ h (rest_back fits) (wanted_back fits)))

  pub kcsses : Restricts {V = V} Shows ShowsKcss Kcss More
  kcsses = record { into = into; back = back }

-- each step of a KCSS of two or more locations is a line, where no two values have one code
pub kcss_lines : {V : Type 0} (code : V → ℕ) → ((x y : V) → code x ≡ code y → x ≡ y) → MakesLines code ShowsKcss
kcss_lines code one = carried code kcsses (makes_lines_by code one)
