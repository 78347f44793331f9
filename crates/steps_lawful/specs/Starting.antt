-- A Start of the code is a Start of the relation.
use Rattle.std.specs.Prelude.{◌≡◌, ℕ, true, false, List, length, Some, Option}
use Rattle.std.proofs.Math.Option as maybe
use Rattle.operation.specs.declared.kind.OperationKind.{OperationKind}
use Rattle.operation.specs.declared.kind.OperationKind.TheVariants.{Read, Ll, Sc, Snapshot, Kcss}
use Rattle.operation.specs.Kinds.{counted}
use Rattle.phases.specs.declared.records.Operand.{Operand}
use Rattle.lines.specs.Recording.{first_phase}
use Rattle.protocol.specs.Operations.{Request}
use Rattle.protocol.specs.Phases as relation
use Rattle.protocol.specs.Phases.Phase.{resting}
use Rattle.protocol.specs.Phases.Process.{proc}
use Rattle.protocol.specs.Runs.{Begins}
use Rattle.protocol.specs.Opening.{Allowed}
use Rattle.line_views.specs.View.{request_of}
use Rattle.line_views.specs.View.Running.{runs}
use Rattle.line_views.specs.Steps.{Showing}

-- The link that it starts with: an SC gives the process's link up.
abbrev pub link_at_start : OperationKind → maybe.Option ℕ → maybe.Option ℕ
link_at_start Read l = l
link_at_start Ll l = l
link_at_start Sc l = maybe.none
link_at_start Snapshot l = l
link_at_start Kcss l = l

-- If there is a value at all, and process with tag n, link l and since b may be given the request q, and operands of the
-- count that the kind takes, with a new value, say q, whatever else stands in them: then, when step t is next, the process
-- is given q in the relation, and the code's first phase shows the phase that it is in then.
abbrev pub StartsBegin : {V : Type 0} → Showing V → Type 0
StartsBegin {V = V} Shows =
    V → (t n b m c : ℕ) (l : maybe.Option ℕ) (kind : OperationKind) (operands : List (Operand V)) (new : Option V) (q : Request V)
    → counted kind (length operands) ≡ true → request_of kind operands new ≡ Some q → Allowed (proc n l b resting) q
    → (ph : relation.Phase V) × Begins t (proc n l b resting) q (proc n (link_at_start kind l) t ph)
    × Shows (runs kind operands new (first_phase kind) m c false) (link_at_start kind l) ph
