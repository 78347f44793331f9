-- Which phase of the relation each state of a KCSS of one location stands for.
use Rattle.std.specs.Prelude.{ℕ, zero, Bool, true, false, [], ◌∷◌, Some, Option}
use Rattle.std.proofs.Math.Option as maybe
use Rattle.memory.specs.declared.cell.Cell.TheVariants.{Value}
use Rattle.memory.specs.declared.cell.TaggedId.{TaggedId}
use Rattle.operation.specs.declared.kind.OperationKind.TheVariants.{Kcss}
use Rattle.phases.specs.declared.phase.ReadPhase.{ReadPhase}
use Rattle.phases.specs.declared.phase.Phase.TheVariants.{Attempt, Linking, Save, Mark, Note, Swap}
use Rattle.phases.specs.declared.records.Operand.{Operand}
use Rattle.protocol.specs.Phases as relation
use Rattle.protocol.specs.Phases.{Rows}
use Rattle.protocol.specs.Phases.Job.{for_kcss}
use Rattle.protocol.specs.Phases.Phase.{attempt, attempt_again, linking, to_save, to_mark, to_note, swap}
use Rattle.line_views.specs.View.{Running}
use Rattle.line_views.specs.View.Running.{runs}
use Rattle.steps_lawful.specs.Showing.{read_phase}

-- its operand: location, expected value, and what the lines found
abbrev pub single : {V : Type 0} → ℕ → V → Option V → Option V → TaggedId → TaggedId → Operand V
single a x one two i j = record { location = a; expected = Some x; first = one; second = two; first_id = i; second_id = j }

-- a KCSS of one location
pub data ShowsSingle {V : Type 0} : Running V → maybe.Option ℕ → relation.Phase V → Type 0 where
  single_attempt : (a : ℕ) (x u : V) (one two : Option V) (i j : TaggedId) (rows : Rows V) (m c : ℕ)
      → ShowsSingle (runs Kcss (single a x one two i j ∷ []) (Some u) Attempt m c false) maybe.none (attempt (for_kcss a x u rows zero))
  single_again : (a : ℕ) (x u : V) (one two : Option V) (i j : TaggedId) (rows : Rows V) (m c : ℕ)
      → ShowsSingle (runs Kcss (single a x one two i j ∷ []) (Some u) Attempt m c true) maybe.none (attempt_again (for_kcss a x u rows zero))
  single_linking : (a : ℕ) (x u : V) (one two : Option V) (i j : TaggedId) (rows : Rows V) (s : ReadPhase V) (m c : ℕ) (f : Bool)
      → ShowsSingle (runs Kcss (single a x one two i j ∷ []) (Some u) (Linking s) m c f) maybe.none (linking (for_kcss a x u rows zero) (read_phase s))
  single_save : (a : ℕ) (x u : V) (one two : Option V) (i j : TaggedId) (rows : Rows V) (v : V) (m c : ℕ) (f : Bool)
      → ShowsSingle (runs Kcss (single a x one two i j ∷ []) (Some u) (Save (Value v)) m c f) maybe.none (to_save (for_kcss a x u rows zero) v)
  single_mark : (a : ℕ) (x u : V) (one two : Option V) (i j : TaggedId) (rows : Rows V) (v : V) (m c : ℕ) (f : Bool)
      → ShowsSingle (runs Kcss (single a x one two i j ∷ []) (Some u) (Mark (Value v)) m c f) maybe.none (to_mark (for_kcss a x u rows zero) v)
  single_note : (a : ℕ) (x u : V) (one two : Option V) (i j : TaggedId) (rows : Rows V) (v : V) (m c : ℕ) (f : Bool)
      → ShowsSingle (runs Kcss (single a x one two i j ∷ []) (Some u) (Note (Value v)) m c f) maybe.none (to_note (for_kcss a x u rows zero) v m)
  single_swap : (a : ℕ) (x u v : V) (two : Option V) (i j : TaggedId) (rows : Rows V) (m c : ℕ) (f : Bool)
      → ShowsSingle (runs Kcss (single a x (Some v) two i j ∷ []) (Some u) Swap m c f) maybe.none (swap a x u v m rows zero zero)
