-- Which phase of the relation each state of a SNAPSHOT stands for.
use Rattle.std.specs.Prelude.{◌≡◌, ℕ, ◌<◌, Bool, List, length, Some, Option}
use Rattle.std.proofs.Math.Option as maybe
use Rattle.memory.specs.declared.cell.Cell.TheVariants.{Id}
use Rattle.operation.specs.declared.kind.OperationKind.TheVariants.{Snapshot}
use Rattle.phases.specs.declared.phase.ReadPhase.{ReadPhase}
use Rattle.phases.specs.declared.phase.Phase.TheVariants.{FirstId, FirstCollect, SecondCollect, SecondId}
use Rattle.phases.specs.declared.records.Operand.{Operand}
use Rattle.lines.specs.Comparing.{operand_at}
use Rattle.protocol.specs.Phases as relation
use Rattle.protocol.specs.Phases.{Row, Rows}
use Rattle.protocol.specs.Phases.Purpose.{solo}
use Rattle.protocol.specs.Phases.Phase.{first_id, first_collect, second_collect, second_id}
use Rattle.line_views.specs.View.{Running}
use Rattle.line_views.specs.View.Running.{runs}
use Rattle.steps_lawful.specs.Showing.{read_phase}

-- Operand j and a row are the same in location and ids, in first value if j is below a, and in second value if it is
-- below b.
abbrev pub Agree : {V : Type 0} → (a b j : ℕ) → Operand V → Row V → Type 0
Agree a b j o row =
    (row.location ≡ o.location) × (row.id_first ≡ Id o.first_id) × (row.id_second ≡ Id o.second_id)
    × (j < a → o.first ≡ Some row.first) × (j < b → o.second ≡ Some row.second)

-- There are k operands, and each agrees with its row.
abbrev pub Fits : {V : Type 0} → (a b : ℕ) → Rows V → List (Operand V) → ℕ → Type 0
Fits {V = V} a b rows ops k =
    (length ops ≡ k) × ((j : ℕ) (o : Operand V) → operand_at ops j ≡ Some o → Agree a b j o (rows j))

-- a SNAPSHOT
pub data ShowsSnapshot {V : Type 0} : Running V → maybe.Option ℕ → relation.Phase V → Type 0 where
  shows_first_id : (ops : List (Operand V)) (new : Option V) (rows : Rows V) (k i m c : ℕ) (f : Bool) (l : maybe.Option ℕ)
      → i < k → Fits 0 0 rows ops k
      → ShowsSnapshot (runs Snapshot ops new (FirstId i) m c f) l (first_id solo rows k i)
  shows_first_collect : (ops : List (Operand V)) (new : Option V) (rows : Rows V) (k i : ℕ) (s : ReadPhase V) (m c : ℕ) (f : Bool)
      (l : maybe.Option ℕ) → i < k → Fits i 0 rows ops k
      → ShowsSnapshot (runs Snapshot ops new (FirstCollect i s) m c f) l (first_collect solo rows k i (read_phase s))
  shows_second_collect : (ops : List (Operand V)) (new : Option V) (rows : Rows V) (k i : ℕ) (s : ReadPhase V) (m c : ℕ) (f : Bool)
      (l : maybe.Option ℕ) → i < k → Fits k i rows ops k
      → ShowsSnapshot (runs Snapshot ops new (SecondCollect i s) m c f) l (second_collect solo rows k c i (read_phase s))
  shows_second_id : (ops : List (Operand V)) (new : Option V) (rows : Rows V) (k i m c : ℕ) (f : Bool) (l : maybe.Option ℕ)
      → i < k → Fits k k rows ops k
      → ShowsSnapshot (runs Snapshot ops new (SecondId i) m c f) l (second_id solo rows k c i)
