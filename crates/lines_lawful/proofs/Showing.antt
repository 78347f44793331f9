-- READ, LL and SC: their states are those of the relation of all kinds.
use Rattle.std.proofs.Common.{ℕ, Bool, List, [], ◌∷◌, length, Option, refl}
use mathlib.Core.Option as maybe
use Rattle.operation.specs.declared.kind.OperationKind.TheVariants.{Read, Ll, Sc}
use Rattle.phases.specs.declared.phase.Phase as code-phase
use Rattle.phases.specs.declared.records.Operand.{Operand}
use Rattle.protocol.specs.Phases.{Phase}
use Rattle.protocol.specs.Phases.Job.{for_ll}
use Rattle.line_views.specs.View.{Running}
use Rattle.line_views.specs.View.Running.{runs}
use Rattle.line_views.specs.Steps.{MakesLines}
use Rattle.steps_lawful.specs.Showing.{LinkPhase, Shows}
use Rattle.steps_lawful.specs.Showing.Links.{links_ll}
use Rattle.steps_lawful.specs.Showing.LinkPhase.{at_attempt, at_again, at_read, at_7, at_8, at_9}
use Rattle.steps_lawful.specs.Showing.Shows.{shows_read, shows_link, shows_sc, shows_collect}
use Rattle.steps_lawful.proofs.Stepping.{makes_lines_of}
use Rattle.lines_lawful.specs.Showing.{ShowsRead, ShowsLl, ShowsSc}
use Rattle.lines_lawful.specs.Showing.ShowsRead.{shows_reading}
use Rattle.lines_lawful.specs.Showing.ShowsLl.{shows_attempt, shows_again, shows_linking, shows_save, shows_mark, shows_note}
use Rattle.lines_lawful.specs.Showing.ShowsSc.{shows_swap}
use Rattle.lines_lawful.proofs.Carrying.{Of, Any, Restricts, carried_of}

module _ {V : Type 0} where
  read_into : {running : Running V} {l : maybe.Option ℕ} {ph : Phase V} → ShowsRead running l ph → Shows running l ph × Of Read Any running
  read_into (shows_reading _ _ _ _ _ _ _) = (shows_read, (refl, tt))

  read_back : {ops : List (Operand V)} {new : Option V} {phase : code-phase.Phase V} {m c : ℕ} {f : Bool} {l : maybe.Option ℕ} {ph : Phase V}
      → Any (length ops) → Shows (runs Read ops new phase m c f) l ph → ShowsRead (runs Read ops new phase m c f) l ph
  read_back any shows_read = shows_reading _ _ _ _ _ _ _
  read_back any (shows_link links at) = elim links [ ]
  read_back any (shows_collect i j made fits at h e) = elim made [ ]

  ll_link : {o : Operand V} {new : Option V} {phase : code-phase.Phase V} {m c : ℕ} {f : Bool} {ph : Phase V} → LinkPhase (for_ll o.location) phase m f ph
      → Shows (runs Ll (o ∷ []) new phase m c f) maybe.none ph × Of Ll Any (runs Ll (o ∷ []) new phase m c f)
  ll_link at = (shows_link links_ll at, (refl, tt))

  ll_into : {running : Running V} {l : maybe.Option ℕ} {ph : Phase V} → ShowsLl running l ph → Shows running l ph × Of Ll Any running
  ll_into (shows_attempt _ _ _ _) = ll_link at_attempt
  ll_into (shows_again _ _ _ _) = ll_link at_again
  ll_into (shows_linking _ _ _ _ _ _) = ll_link at_read
  ll_into (shows_save _ _ _ _ _ _) = ll_link at_7
  ll_into (shows_mark _ _ _ _ _ _) = ll_link at_8
  ll_into (shows_note _ _ _ _ _ _) = ll_link at_9

  ll_back : {ops : List (Operand V)} {new : Option V} {phase : code-phase.Phase V} {m c : ℕ} {f : Bool} {l : maybe.Option ℕ} {ph : Phase V}
      → Any (length ops) → Shows (runs Ll ops new phase m c f) l ph → ShowsLl (runs Ll ops new phase m c f) l ph
  ll_back any (shows_link links_ll at_attempt) = shows_attempt _ _ _ _
  ll_back any (shows_link links_ll at_again) = shows_again _ _ _ _
  ll_back any (shows_link links_ll at_read) = shows_linking _ _ _ _ _ _
  ll_back any (shows_link links_ll at_7) = shows_save _ _ _ _ _ _
  ll_back any (shows_link links_ll at_8) = shows_mark _ _ _ _ _ _
  ll_back any (shows_link links_ll at_9) = shows_note _ _ _ _ _ _
  ll_back any (shows_collect i j made fits at h e) = elim made [ ]

  sc_into : {running : Running V} {l : maybe.Option ℕ} {ph : Phase V} → ShowsSc running l ph → Shows running l ph × Of Sc Any running
  sc_into (shows_swap _ _ _ _ _) = (shows_sc, (refl, tt))

  sc_back : {ops : List (Operand V)} {new : Option V} {phase : code-phase.Phase V} {m c : ℕ} {f : Bool} {l : maybe.Option ℕ} {ph : Phase V}
      → Any (length ops) → Shows (runs Sc ops new phase m c f) l ph → ShowsSc (runs Sc ops new phase m c f) l ph
  sc_back any (shows_link links at) = elim links [ ]
  sc_back any shows_sc = shows_swap _ _ _ _ _
  sc_back any (shows_collect i j made fits at h e) = elim made [ ]

  pub reads : Restricts {V = V} Shows ShowsRead Read Any
  reads = record { into = read_into; back = read_back }

  pub lls : Restricts {V = V} Shows ShowsLl Ll Any
  lls = record { into = ll_into; back = ll_back }

  pub scs : Restricts {V = V} Shows ShowsSc Sc Any
  scs = record { into = sc_into; back = sc_back }

module _ {V : Type 0} (code : V → ℕ) where
  -- each step of a READ is a line, whatever the code
  pub read_lines : MakesLines code ShowsRead
  read_lines = carried_of code reads (makes_lines_of code Read (λ h. absurd h))

  -- each step of an LL
  pub ll_lines : MakesLines code ShowsLl
  ll_lines = carried_of code lls (makes_lines_of code Ll (λ h. absurd h))

  -- the step of an SC
  pub sc_lines : MakesLines code ShowsSc
  sc_lines = carried_of code scs (makes_lines_of code Sc (λ h. absurd h))
