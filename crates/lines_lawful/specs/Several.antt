-- Which phase of the relation each state of a KCSS of two or more locations stands for.
use Rattle.std.specs.Prelude.{◌≡◌, ℕ, suc, ◌<◌, Bool, true, false, List, ◌∷◌, Some, Option}
use Rattle.std.proofs.Math.Option as maybe
use Rattle.memory.specs.declared.cell.Cell.TheVariants.{Value}
use Rattle.memory.specs.declared.cell.TaggedId.{TaggedId}
use Rattle.operation.specs.declared.kind.OperationKind.TheVariants.{Kcss}
use Rattle.phases.specs.declared.phase.ReadPhase.{ReadPhase}
use Rattle.phases.specs.declared.phase.Phase.TheVariants.{Attempt, Linking, Save, Mark, Note, FirstId, FirstCollect, SecondCollect, SecondId, Swap}
use Rattle.phases.specs.declared.records.Operand.{Operand}
use Rattle.lines.specs.Comparing.{operand_at}
use Rattle.protocol.specs.Phases as relation
use Rattle.protocol.specs.Phases.{Rows}
use Rattle.protocol.specs.Phases.Job.{for_kcss}
use Rattle.protocol.specs.Phases.Purpose.{inside}
use Rattle.protocol.specs.Phases.Phase.{attempt, attempt_again, linking, to_save, to_mark, to_note, first_id, first_collect, second_collect, second_id, swap}
use Rattle.line_views.specs.View.{Running}
use Rattle.line_views.specs.View.Running.{runs}
use Rattle.steps_lawful.specs.Showing.{read_phase}
use Rattle.lines_lawful.specs.Collecting.{Fits}
use Rattle.lines_lawful.specs.Single.{single}

-- Each operand expects the value that its row expects.
abbrev pub Wanted : {V : Type 0} → Rows V → List (Operand V) → Type 0
Wanted {V = V} rows ops = (j : ℕ) (o : Operand V) → operand_at ops j ≡ Some o → o.expected ≡ Some (rows j).expected

-- A KCSS of two or more locations. The first operand is the one of its LL and its 11. The others are k rows of the
-- relation, at least one; row i is operand i + 1 of the code. They agree in location, expected value and ids, and in the
-- values that the collects have found so far; from 9 on the first operand has the value of the LL.
pub data ShowsKcss {V : Type 0} : Running V → maybe.Option ℕ → relation.Phase V → Type 0 where
  kcss_attempt : (a : ℕ) (x u : V) (one two : Option V) (i₀ j₀ : TaggedId) (ops : List (Operand V)) (rows : Rows V) (k m c : ℕ)
      → 0 < k → Fits 0 0 rows ops k → Wanted rows ops
      → ShowsKcss (runs Kcss (single a x one two i₀ j₀ ∷ ops) (Some u) Attempt m c false) maybe.none (attempt (for_kcss a x u rows k))
  kcss_again : (a : ℕ) (x u : V) (one two : Option V) (i₀ j₀ : TaggedId) (ops : List (Operand V)) (rows : Rows V) (k m c : ℕ)
      → 0 < k → Fits 0 0 rows ops k → Wanted rows ops
      → ShowsKcss (runs Kcss (single a x one two i₀ j₀ ∷ ops) (Some u) Attempt m c true) maybe.none (attempt_again (for_kcss a x u rows k))
  kcss_linking : (a : ℕ) (x u : V) (one two : Option V) (i₀ j₀ : TaggedId) (ops : List (Operand V)) (rows : Rows V) (k : ℕ) (s : ReadPhase V) (m c : ℕ) (f : Bool)
      → 0 < k → Fits 0 0 rows ops k → Wanted rows ops
      → ShowsKcss (runs Kcss (single a x one two i₀ j₀ ∷ ops) (Some u) (Linking s) m c f) maybe.none (linking (for_kcss a x u rows k) (read_phase s))
  kcss_save : (a : ℕ) (x u : V) (one two : Option V) (i₀ j₀ : TaggedId) (ops : List (Operand V)) (rows : Rows V) (k : ℕ) (v : V) (m c : ℕ) (f : Bool)
      → 0 < k → Fits 0 0 rows ops k → Wanted rows ops
      → ShowsKcss (runs Kcss (single a x one two i₀ j₀ ∷ ops) (Some u) (Save (Value v)) m c f) maybe.none (to_save (for_kcss a x u rows k) v)
  kcss_mark : (a : ℕ) (x u : V) (one two : Option V) (i₀ j₀ : TaggedId) (ops : List (Operand V)) (rows : Rows V) (k : ℕ) (v : V) (m c : ℕ) (f : Bool)
      → 0 < k → Fits 0 0 rows ops k → Wanted rows ops
      → ShowsKcss (runs Kcss (single a x one two i₀ j₀ ∷ ops) (Some u) (Mark (Value v)) m c f) maybe.none (to_mark (for_kcss a x u rows k) v)
  kcss_note : (a : ℕ) (x u : V) (one two : Option V) (i₀ j₀ : TaggedId) (ops : List (Operand V)) (rows : Rows V) (k : ℕ) (v : V) (m c : ℕ) (f : Bool)
      → 0 < k → Fits 0 0 rows ops k → Wanted rows ops
      → ShowsKcss (runs Kcss (single a x one two i₀ j₀ ∷ ops) (Some u) (Note (Value v)) m c f) maybe.none (to_note (for_kcss a x u rows k) v m)
  kcss_first_id : (ops : List (Operand V)) (a : ℕ) (x u v : V) (two : Option V) (i₀ j₀ : TaggedId) (rows : Rows V) (k i m c : ℕ) (f : Bool)
      → i < k → Fits 0 0 rows ops k → Wanted rows ops
      → ShowsKcss (runs Kcss (single a x (Some v) two i₀ j₀ ∷ ops) (Some u) (FirstId (suc i)) m c f) maybe.none (first_id (inside a x u v m) rows k i)
  kcss_first_collect : (ops : List (Operand V)) (a : ℕ) (x u v : V) (two : Option V) (i₀ j₀ : TaggedId) (rows : Rows V) (k i : ℕ) (s : ReadPhase V) (m c : ℕ) (f : Bool)
      → i < k → Fits i 0 rows ops k → Wanted rows ops
      → ShowsKcss (runs Kcss (single a x (Some v) two i₀ j₀ ∷ ops) (Some u) (FirstCollect (suc i) s) m c f) maybe.none (first_collect (inside a x u v m) rows k i (read_phase s))
  kcss_second_collect : (ops : List (Operand V)) (a : ℕ) (x u v : V) (two : Option V) (i₀ j₀ : TaggedId) (rows : Rows V) (k i : ℕ) (s : ReadPhase V) (m c : ℕ) (f : Bool)
      → i < k → Fits k i rows ops k → Wanted rows ops
      → ShowsKcss (runs Kcss (single a x (Some v) two i₀ j₀ ∷ ops) (Some u) (SecondCollect (suc i) s) m c f) maybe.none (second_collect (inside a x u v m) rows k c i (read_phase s))
  kcss_second_id : (ops : List (Operand V)) (a : ℕ) (x u v : V) (two : Option V) (i₀ j₀ : TaggedId) (rows : Rows V) (k i m c : ℕ) (f : Bool)
      → i < k → Fits k k rows ops k → Wanted rows ops
      → ShowsKcss (runs Kcss (single a x (Some v) two i₀ j₀ ∷ ops) (Some u) (SecondId (suc i)) m c f) maybe.none (second_id (inside a x u v m) rows k c i)
  kcss_swap : (ops : List (Operand V)) (a : ℕ) (x u v : V) (two : Option V) (i₀ j₀ : TaggedId) (rows : Rows V) (k m c : ℕ) (f : Bool)
      → 0 < k → Fits k k rows ops k → Wanted rows ops
      → ShowsKcss (runs Kcss (single a x (Some v) two i₀ j₀ ∷ ops) (Some u) Swap m c f) maybe.none (swap a x u v m rows k c)
