-- Which phase of the relation each state of the code stands for.
use Rattle.std.specs.Prelude.{ℕ, Bool, true, false, [], ◌∷◌, Some, Option}
use Rattle.std.proofs.Math.Option as maybe
use Rattle.memory.specs.declared.cell.Cell.TheVariants.{Value}
use Rattle.operation.specs.declared.kind.OperationKind.TheVariants.{Read, Ll, Sc}
use Rattle.phases.specs.declared.phase.ReadPhase.{ReadPhase}
use Rattle.phases.specs.declared.phase.Phase.TheVariants.{Reading, Attempt, Linking, Save, Mark, Note, Swap}
use Rattle.phases.specs.declared.records.Operand.{Operand}
use Rattle.protocol.specs.Phases as relation
use Rattle.protocol.specs.Phases.Job.{for_ll}
use Rattle.protocol.specs.Phases.Phase.{reading, attempt, attempt_again, linking, to_save, to_mark, to_note, swap_sc}
use Rattle.line_views.specs.View.{Running}
use Rattle.line_views.specs.View.Running.{runs}
use Rattle.steps_lawful.specs.Showing.{read_phase}

-- a READ
pub data ShowsRead {V : Type 0} : Running V → maybe.Option ℕ → relation.Phase V → Type 0 where
  shows_reading : (o : Operand V) (new : Option V) (s : ReadPhase V) (m c : ℕ) (f : Bool) (l : maybe.Option ℕ)
      → ShowsRead (runs Read (o ∷ []) new (Reading s) m c f) l (reading o.location (read_phase s))

-- an LL
pub data ShowsLl {V : Type 0} : Running V → maybe.Option ℕ → relation.Phase V → Type 0 where
  shows_attempt : (o : Operand V) (new : Option V) (m c : ℕ)
      → ShowsLl (runs Ll (o ∷ []) new Attempt m c false) maybe.none (attempt (for_ll o.location))
  shows_again : (o : Operand V) (new : Option V) (m c : ℕ)
      → ShowsLl (runs Ll (o ∷ []) new Attempt m c true) maybe.none (attempt_again (for_ll o.location))
  shows_linking : (o : Operand V) (new : Option V) (s : ReadPhase V) (m c : ℕ) (f : Bool)
      → ShowsLl (runs Ll (o ∷ []) new (Linking s) m c f) maybe.none (linking (for_ll o.location) (read_phase s))
  shows_save : (o : Operand V) (new : Option V) (v : V) (m c : ℕ) (f : Bool)
      → ShowsLl (runs Ll (o ∷ []) new (Save (Value v)) m c f) maybe.none (to_save (for_ll o.location) v)
  shows_mark : (o : Operand V) (new : Option V) (v : V) (m c : ℕ) (f : Bool)
      → ShowsLl (runs Ll (o ∷ []) new (Mark (Value v)) m c f) maybe.none (to_mark (for_ll o.location) v)
  shows_note : (o : Operand V) (new : Option V) (v : V) (m c : ℕ) (f : Bool)
      → ShowsLl (runs Ll (o ∷ []) new (Note (Value v)) m c f) maybe.none (to_note (for_ll o.location) v m)

-- an SC
pub data ShowsSc {V : Type 0} : Running V → maybe.Option ℕ → relation.Phase V → Type 0 where
  shows_swap : (o : Operand V) (u : V) (m c : ℕ) (f : Bool)
      → ShowsSc (runs Sc (o ∷ []) (Some u) Swap m c f) maybe.none (swap_sc o.location u)
