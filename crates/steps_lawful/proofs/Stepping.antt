-- Every state that shows a phase: the step of the code is a line.
use Rattle.std.proofs.Common.{◌≡◌, ℕ, List, Some, Option, subst, arith}
use mathlib.Core.Option as maybe
use Rattle.operation.specs.declared.kind.OperationKind.{OperationKind}
use Rattle.operation.specs.declared.kind.OperationKind.TheVariants.{Read, Ll, Sc, Snapshot, Kcss}
use Rattle.phases.specs.declared.records.Operand.{Operand}
use Rattle.lines.proofs.Operands.{has, one_value}
use Rattle.protocol.specs.World.{World}
use Rattle.protocol.specs.Phases.{Phase, Purpose}
use Rattle.line_views.specs.View.{Running}
use Rattle.line_views.specs.View.Running.{runs}
use Rattle.line_views.specs.Steps.{Showing, Steps, MakesLines, NeverSticks}
use Rattle.steps_lawful.specs.Showing.{Collects, Shows}
use Rattle.steps_lawful.specs.Showing.Collects.{collects_snapshot, collects_kcss}
use Rattle.steps_lawful.specs.Showing.Shows.{shows_read, shows_link, shows_sc, shows_collect, shows_swap}
use Rattle.steps_lawful.proofs.Performing.{Stuck}
use Rattle.steps_lawful.proofs.Reading.{reading_steps}
use Rattle.steps_lawful.proofs.Linking.{link_steps}
use Rattle.steps_lawful.proofs.Collecting.{collect_steps}
use Rattle.steps_lawful.proofs.Swapping.{sc_steps, swap_steps}

-- An operation of this kind compares values, which it does by their codes.
abbrev pub Compares : OperationKind → Type 0
Compares Read = ⊥
Compares Ll = ⊥
Compares Sc = ⊥
Compares Snapshot = Unit {0}
Compares Kcss = Unit {0}

-- the kind of a running operation
abbrev pub running_kind : {V : Type 0} → Running V → OperationKind
running_kind (runs kind operands new phase m c f) = kind

-- MakesLines for the operations of one kind
abbrev pub MakesLinesOf : {V : Type 0} → OperationKind → (V → ℕ) → Showing V → Type 0
MakesLinesOf {V = V} kind code Shows = (t p n b : ℕ) (l : maybe.Option ℕ) (w : World V) (running : Running V) (ph : Phase V)
    → running_kind running ≡ kind → w.tag p ≡ n → Shows running l ph → Steps Shows t p n b l code (Unit {0}) w running ph

module _ {V : Type 0} (code : V → ℕ) where
  -- an operation that collects compares values
  compares : {kind : OperationKind} {operands : List (Operand V)} {new : Option V} {m : ℕ} {l : maybe.Option ℕ} {F : Purpose V}
      → Collects kind operands new m l F → Compares kind
  compares collects_snapshot = tt
  compares (collects_kcss ex fi) = tt

  -- the step is a line; where the code has no finding or no turn, N holds, as the world or the phase is not sound
  all_steps : (N : Type 0) (t p n b : ℕ) (l : maybe.Option ℕ) (w : World V) (running : Running V) (ph : Phase V)
      → (Compares (running_kind running) → (x y : V) → code x ≡ code y → x ≡ y) → w.tag p ≡ n → Shows running l ph → Stuck N p l w ph
      → Steps Shows t p n b l code N w running ph
  all_steps N t p n b l w _ _ one own (shows_read {o = o} {new = new} {s = s} {m = m} {c = c} {f = f}) stuck = reading_steps code N t p n b l w o new s m c f stuck
  all_steps N t p n b _ w _ _ one own (shows_link links at) stuck = link_steps code N t p n b w own _ _ _ _ links _ _ _ _ _ at stuck
  all_steps N t p n b _ w _ _ one own (shows_sc {o = o} {u = u} {m = m} {c = c} {f = f}) stuck = sc_steps code N t p n b w o u m c f
  all_steps N t p n b l w _ _ one own (shows_collect {operands = ops} {f = f} i j made fits is h at) stuck =
      let z = has ops j (omega (arith, fits.count)) in
      collect_steps code (one (compares made)) N t p n b l w _ ops _ _ _ _ i j _ _ f made h at z.0 z.1 _ _ _ _ is fits stuck
  all_steps N t p n b _ w _ _ one own (shows_swap {f = f} ex fi fits at) stuck = swap_steps code (one tt) N t p n b w _ _ _ _ _ _ _ _ _ f ex fi _ fits at

  -- for one kind, where no two values have one code; for READ, LL and SC whatever the code
  pub makes_lines_of : (kind : OperationKind) → (Compares kind → (x y : V) → code x ≡ code y → x ≡ y) → MakesLinesOf kind code Shows
  makes_lines_of kind one t p n b l w running ph is own shows =
      all_steps (Unit {0}) t p n b l w running ph (λ h. one (subst Compares is h)) own shows (λ _. tt)

  -- where no two values have one code
  module _ (one : (x y : V) → code x ≡ code y → x ≡ y) where
    -- for all kinds
    pub makes_lines_by : MakesLines code Shows
    makes_lines_by t p n b l w running ph own shows = all_steps (Unit {0}) t p n b l w running ph (λ _. one) own shows (λ _. tt)

    -- the same, and in a sound world it has a step
    pub never_sticks_by : NeverSticks code Shows
    never_sticks_by t p n b l w running ph own shows cells phase = all_steps ⊥ t p n b l w running ph (λ _. one) own shows (λ bad. bad cells phase)

-- the same where a code gives its value back
module _ {V : Type 0} (code : V → ℕ) (decoded : ℕ → Option V) (returned : (x : V) → decoded (code x) ≡ Some x) where
  pub makes_lines : MakesLines code Shows
  makes_lines = makes_lines_by code (one_value code decoded returned)

  pub never_sticks : NeverSticks code Shows
  never_sticks = never_sticks_by code (one_value code decoded returned)
