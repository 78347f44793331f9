-- READ: what an access of it sees makes a line, to the phase or the value that the code goes on with.
use Rattle.std.proofs.Common.{◌≡◌, ℕ, Bool, [], ◌∷◌, Some, None, Option, refl}
use mathlib.Core.Option as maybe
use Rattle.memory.specs.declared.cell.Cell.{Cell}
use Rattle.memory.specs.declared.cell.Cell.TheVariants.{Value, Id}
use Rattle.memory.specs.declared.cell.TaggedId.{TaggedId}
use Rattle.operation.specs.declared.kind.OperationKind.TheVariants.{Read}
use Rattle.phases.specs.declared.phase.ReadPhase.{ReadPhase}
use Rattle.phases.specs.declared.phase.ReadPhase.TheVariants.{Look, LookAgain, Fetch, Reset}
use Rattle.phases.specs.declared.phase.Phase.TheVariants.{Reading}
use Rattle.phases.specs.declared.records.Operand.{Operand}
use Rattle.phases.specs.declared.records.Seen.{Seen}
use Rattle.phases.specs.declared.records.Seen.TheVariants.{Found}
use Rattle.phases.specs.declared.turn.ReadTurn.TheVariants.{On, Got}
use Rattle.lines.specs.Accesses.{read_access}
use Rattle.lines.specs.Advancing.{read_turn}
use Rattle.protocol.specs.World.{World}
use Rattle.protocol.specs.Events.{Event, after}
use Rattle.protocol.specs.Phases.Phase.{reading}
use Rattle.protocol.specs.Lines.{ReadLine}
use Rattle.protocol.specs.Lines.ReadTurn.{on, got}
use Rattle.protocol.specs.Lines.ReadLine.{line_13_value, line_13_id, line_1_value, line_1_id, line_3a, line_3b_yes, line_3b_no}
use Rattle.protocol.specs.Lines.Line.{read_on, read_got}
use Rattle.protocol.specs.Sound.{ReadSound}
use Rattle.protocol.proofs.Changes.{clash}
use Rattle.line_views.specs.View.{Cells, cells_of, Performing}
use Rattle.line_views.specs.View.Running.{runs}
use Rattle.line_views.specs.Steps.{Goes, Steps}
use Rattle.steps_lawful.specs.Showing.{read_phase, Shows}
use Rattle.steps_lawful.specs.Showing.Shows.{shows_read}
use Rattle.steps_lawful.proofs.Performing.{Stuck, performing}

-- What process p makes of what it saw in a READ of location a. goes_on: a line that leads to another. ends: a line with a
-- value. sticks: none, as what the READ has kept is not sound. The turn says what is recorded: the value that ends it.
pub data ReadBy {V : Type 0} (w : World V) (p a : ℕ) (s : ReadPhase V) (seen : Seen V) (cells : Cells V) : Type 0 where
  goes_on : {s' : ReadPhase V} {e : Event V} → read_turn s seen ≡ Some (On s')
      → ReadLine w p a (read_phase s) e (on (read_phase s')) → cells_of (after e w) ≡ cells → ReadBy w p a s seen cells
  ends : {v : V} {e : Event V} → read_turn s seen ≡ Some (Got v)
      → ReadLine w p a (read_phase s) e (got v) → cells_of (after e w) ≡ cells → ReadBy w p a s seen cells
  sticks : read_turn s seen ≡ None → (ReadSound w.saved (read_phase s) → ⊥) → ReadBy w p a s seen cells

module _ {V : Type 0} (w : World V) (p a : ℕ) where
  -- 13
  look_reads : (x : Cell V) → w.val a ≡ x → ReadBy w p a Look (Found x) (cells_of w)
  look_reads (Value v) e = ends refl (line_13_value v e) refl
  look_reads (Id k) e = goes_on refl (line_13_id k e) refl

  -- 1
  again_reads : (x : Cell V) → w.val a ≡ x → ReadBy w p a LookAgain (Found x) (cells_of w)
  again_reads (Value v) e = goes_on refl (line_1_value v e) refl
  again_reads (Id k) e = goes_on refl (line_1_id k e) refl

  -- 3a
  fetch_reads : (k : TaggedId) (x : Cell V) → w.saved k.process ≡ x → ReadBy w p a (Fetch k) (Found x) (cells_of w)
  fetch_reads k (Value v) e = goes_on refl (line_3a k v e) refl
  fetch_reads k (Id j) e = sticks refl (λ h. (let g = h.1 in clash (cc)))

  -- one of the three, whatever the access sees
  reads : (s : ReadPhase V) → Performing w (read_access a s).1 (ReadBy w p a s)
  reads Look = look_reads (w.val a) refl
  reads LookAgain = again_reads (w.val a) refl
  reads (Fetch k) = fetch_reads k (w.saved k.process) refl
  reads (Reset k v) =
      ((λ e. goes_on refl (line_3b_yes k v e) refl), (λ h. goes_on refl (line_3b_no k v h) refl))

  -- so what follows from it holds
  pub by_reading : {Q : Seen V → Cells V → Type 0} (s : ReadPhase V) → ((seen : Seen V) (cells : Cells V) → ReadBy w p a s seen cells → Q seen cells)
      → Performing w (read_access a s).1 Q
  by_reading s f = performing w (read_access a s).1 f (reads s)

-- a READ alone
module _ {V : Type 0} (code : V → ℕ) (N : Type 0) (t p n b : ℕ) (l : maybe.Option ℕ) (w : World V) (o : Operand V) (new : Option V) (s : ReadPhase V)
    (m c : ℕ) (f : Bool) (stuck : Stuck N p l w (reading o.location (read_phase s))) where
  reading_goes : (seen : Seen V) (cells : Cells V) → ReadBy w p o.location s seen cells
      → Goes Shows t p n b l code N w (runs Read (o ∷ []) new (Reading s) m c f) (reading o.location (read_phase s)) seen cells
  reading_goes seen cells (goes_on turn line kept) = rw turn (_, _, _, read_on line, kept, (_, refl, refl, shows_read))
  reading_goes seen cells (ends turn line kept) = rw turn (_, _, _, read_got line, kept, (_, _, refl, refl, refl, refl))
  reading_goes seen cells (sticks turn bad) = rw turn (stuck (λ _. bad))

  pub reading_steps : Steps Shows t p n b l code N w (runs Read (o ∷ []) new (Reading s) m c f) (reading o.location (read_phase s))
  reading_steps = by_reading w p o.location s reading_goes
