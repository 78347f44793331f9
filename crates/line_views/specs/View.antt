-- What the code knows of a running operation, what it was asked and answers, and what an access sees and changes.
use Rattle.std.specs.Prelude.{◌≡◌, ℕ, Bool, true, false, List, [], ◌∷◌, Some, None, Option, ◌≢◌, option_map, option_and_then}
use Rattle.std.proofs.Math.Option as maybe
use Rattle.memory.specs.declared.cell.Cell.{Cell}
use Rattle.operation.specs.declared.kind.OperationKind.{OperationKind}
use Rattle.operation.specs.declared.kind.OperationKind.TheVariants.{Read, Ll, Sc, Snapshot, Kcss}
use Rattle.phases.specs.declared.phase.Phase.{Phase}
use Rattle.phases.specs.declared.phase.Phase.TheVariants.{Idle, Reading, Attempt, Linking, Save, Mark, Note, FirstId, FirstCollect, SecondCollect, SecondId, Swap}
use Rattle.phases.specs.declared.records.Operand.{Operand}
use Rattle.phases.specs.declared.records.Place.{Place}
use Rattle.phases.specs.declared.records.Place.TheVariants.{Val, Tid, Saved}
use Rattle.phases.specs.declared.records.Access.{Access}
use Rattle.phases.specs.declared.records.Access.TheVariants.{Load, Store, Cas}
use Rattle.phases.specs.declared.records.Seen.{Seen}
use Rattle.phases.specs.declared.records.Seen.TheVariants.{Found, Stored, Said}
use Rattle.phases.specs.declared.turn.Answer as lines-answer
use Rattle.phases.specs.declared.turn.Answer.TheVariants.{Values, Yes, No}
use Rattle.lines.specs.Gathering.{gather, firsts, locations}
use Rattle.protocol.specs.World.{World, changed}
use Rattle.protocol.specs.Operations.{Expected, Request, Answer}
use Rattle.protocol.specs.Operations.Request.{read, ll, sc, snapshot, kcss}
use Rattle.protocol.specs.Operations.Answer.{values, said}

-- A running operation as the code knows it: its kind, operands, new value and phase, the step of its last 8 that said
-- yes, the step that ended its last first collect, and whether its last line was an 8 that said no.
pub data Running (V : Type 0) : Type 0 where
  runs : (kind : OperationKind) (operands : List (Operand V)) (new : Option V) (phase : Phase V) (marked collected : ℕ) (failed : Bool) → Running V

-- The three rows of shared cells.
pub record Cells (V : Type 0) : Type 0 where
  pub val : ℕ → Cell V
  pub tid : ℕ → Cell V
  pub saved : ℕ → Cell V

-- The cells of a world: its vals, tids and saved values.
abbrev pub cells_of : {V : Type 0} → World V → Cells V
cells_of w = record { val = w.val; tid = w.tid; saved = w.saved }

-- The cell of a world at a place: val or tid of a location, or the saved value of a process.
abbrev pub cell_at : {V : Type 0} → World V → Place → Cell V
cell_at w (Val a) = w.val a
cell_at w (Tid a) = w.tid a
cell_at w (Saved p) = w.saved p

-- The cells with one of them changed.
abbrev pub put : {V : Type 0} → World V → Place → Cell V → Cells V
put w (Val a) c = record { val = changed w.val a c; tid = w.tid; saved = w.saved }
put w (Tid a) c = record { val = w.val; tid = changed w.tid a c; saved = w.saved }
put w (Saved p) c = record { val = w.val; tid = w.tid; saved = changed w.saved p c }

-- Whatever the access may see in the world, with the cells that it then leaves, is as P says. A load finds the cell and a
-- store puts it; a CAS says yes and puts the new cell if the old one is there, else it says no.
abbrev pub Performing : {V : Type 0} → World V → Access V → (Seen V → Cells V → Type 0) → Type 0
Performing w (Load place) P = P (Found (cell_at w place)) (cells_of w)
Performing w (Store place c) P = P Stored (put w place c)
Performing w (Cas place old new) P =
    (cell_at w place ≡ old → P (Said true) (put w place new)) × ((cell_at w place ≢ old) → P (Said false) (cells_of w))

-- A line that goes on to a fresh attempt is an 8, or else an 11.
abbrev pub fails : {V : Type 0} → Phase V → Bool
fails Idle = false
fails (Reading s) = false
fails Attempt = false
fails (Linking s) = false
fails (Save kept) = false
fails (Mark kept) = true
fails (Note kept) = false
fails (FirstId operand) = false
fails (FirstCollect operand s) = false
fails (SecondCollect operand s) = false
fails (SecondId operand) = false
fails Swap = false

-- An operand's location with its expected value, if it has one.
abbrev pub wanted : {V : Type 0} → Operand V → Option (Expected V)
wanted o = option_map (λ v. record { location = o.location; value = v }) o.expected

-- The same of all operands, in turn, if each has an expected value.
abbrev pub all_wanted : {V : Type 0} → List (Operand V) → Option (List (Expected V))
all_wanted = gather wanted

-- What a running operation was asked.
abbrev pub request_of : {V : Type 0} → OperationKind → List (Operand V) → Option V → Option (Request V)
request_of kind [] new = None
request_of Read (o ∷ rest) new = Some (read o.location)
request_of Ll (o ∷ rest) new = Some (ll o.location)
request_of Sc (o ∷ rest) new = option_map (λ u. sc o.location u) new
request_of Snapshot (o ∷ rest) new = Some (snapshot (locations (o ∷ rest)))
request_of Kcss (o ∷ rest) new =
    option_and_then (λ e. option_and_then (λ more. option_map (λ u. kcss e more u) new) (all_wanted rest)) (wanted o)

-- What it answers at its end.
abbrev pub answer_of : {V : Type 0} → lines-answer.Answer → List (Operand V) → Option (Answer V)
answer_of Values operands = option_map (λ list. values list) (firsts operands)
answer_of Yes operands = Some (said true)
answer_of No operands = Some (said false)

-- An LL that ends gives the process a link to its location.
abbrev pub link_after : {V : Type 0} → OperationKind → List (Operand V) → maybe.Option ℕ → maybe.Option ℕ
link_after kind [] l = l
link_after Read (o ∷ rest) l = l
link_after Ll (o ∷ rest) l = maybe.some o.location
link_after Sc (o ∷ rest) l = l
link_after Snapshot (o ∷ rest) l = l
link_after Kcss (o ∷ rest) l = l
