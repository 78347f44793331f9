-- A relation that is another one for the operations of one kind and of certain numbers of operands: if each step from the
-- states of the other is a line, so is each from its own, since a step leaves the kind and the number.
use Rattle.std.proofs.Common.{◌≡◌, ℕ, ◌<◌, Bool, List, length, Some, None, Option, sym, refl, subst}
use mathlib.Core.Option as maybe
use Rattle.std.specs.Option.{MatchOption, IsSomeAnd}
use Rattle.operation.specs.declared.kind.OperationKind.{OperationKind}
use Rattle.phases.specs.declared.phase.Phase as code-phase
use Rattle.phases.specs.declared.records.Operand.{Operand}
use Rattle.phases.specs.declared.records.Access.{Access}
use Rattle.phases.specs.declared.records.Access.TheVariants.{Load, Store, Cas}
use Rattle.phases.specs.declared.records.Seen.{Seen}
use Rattle.phases.specs.declared.turn.Finding.{Finding}
use Rattle.phases.specs.declared.turn.Finding.TheVariants as finding
use Rattle.phases.specs.declared.turn.Turn.{Turn}
use Rattle.phases.specs.declared.turn.Turn.TheVariants as turn
use Rattle.lines.specs.Accesses.{next_access}
use Rattle.lines.specs.Advancing.{finding_of, turn_of}
use Rattle.lines.specs.Recording.{recorded, raised, put_first, put_second, put_first_id, put_second_id}
use Rattle.lines.proofs.Operands.{length_at}
use Rattle.protocol.specs.World.{World}
use Rattle.protocol.specs.Phases.{Phase, Process, Done}
use Rattle.line_views.specs.View.{Running, Cells, Performing}
use Rattle.line_views.specs.View.Running.{runs}
use Rattle.line_views.specs.Steps.{Showing, Leads, Goes, Steps, MakesLines}
use Rattle.steps_lawful.proofs.Stepping.{MakesLinesOf}

-- the operation is of this kind, and the number of its operands is as Count says
abbrev pub Of : {V : Type 0} → OperationKind → (ℕ → Type 0) → Running V → Type 0
Of kind Count (runs own operands new phase m c f) = (own ≡ kind) × Count (length operands)

-- any number of them, one, or more
abbrev pub Any : ℕ → Type 0
Any count = Unit {0}

abbrev pub One : ℕ → Type 0
One count = count ≡ 1

abbrev pub More : ℕ → Type 0
More count = 1 < count

-- what is said of a value that may be there holds in the weaker form
matched : {A : Type 0} {P Q : A → Type 0} (N : Type 0) (x : Option A) → ((a : A) → P a → Q a) → MatchOption x N P → MatchOption x N Q
matched N None h z = z
matched N (Some a) h z = h a z

-- the same of a value that is there
given : {A : Type 0} {P Q : A → Type 0} (x : Option A) → ((a : A) → P a → Q a) → IsSomeAnd x P → IsSomeAnd x Q
given None h z = z
given (Some a) h z = h a z

module _ {V : Type 0} where
  -- the same of what an access may see
  performed : {P Q : Seen V → Cells V → Type 0} (w : World V) (access : Access V) → ((seen : Seen V) (cells : Cells V) → P seen cells → Q seen cells)
      → Performing w access P → Performing w access Q
  performed w (Load place) h z = h _ _ z
  performed w (Store place c) h z = h _ _ z
  performed w (Cas place old new) h z = ((λ e. h _ _ (z.0 e)), (λ e. h _ _ (z.1 e)))

  -- as many operands as before a finding was recorded
  recorded_length : (found : Finding V) (operands : List (Operand V)) → length (recorded found operands) ≡ length operands
  recorded_length finding.Nothing operands = refl
  recorded_length (finding.FirstId i id) operands = length_at (put_first_id id) i operands
  recorded_length (finding.First i v) operands = length_at (put_first v) i operands
  recorded_length (finding.Second i v) operands = length_at (put_second v) i operands
  recorded_length (finding.SecondId i id) operands = length_at (put_second_id id) i operands

-- T is S for the operations of this kind whose number of operands is as Count says: S shows every phase that T does, and T
-- every one that S shows of these operations.
pub record Restricts {V : Type 0} (S T : Showing V) (kind : OperationKind) (Count : ℕ → Type 0) : Type 0 where
  pub into : {running : Running V} {l : maybe.Option ℕ} {ph : Phase V} → T running l ph → S running l ph × Of kind Count running
  pub back : {operands : List (Operand V)} {new : Option V} {phase : code-phase.Phase V} {m c : ℕ} {f : Bool} {l : maybe.Option ℕ} {ph : Phase V}
      → Count (length operands) → S (runs kind operands new phase m c f) l ph → T (runs kind operands new phase m c f) l ph

module _ {V : Type 0} (code : V → ℕ) {S T : Showing V} {kind : OperationKind} {Count : ℕ → Type 0} (restricts : Restricts S T kind Count) where
  module _ (t p n b : ℕ) (l : maybe.Option ℕ) (operands : List (Operand V)) (new : Option V) (phase : code-phase.Phase V) (m c : ℕ) (f : Bool)
      (counted : Count (length operands)) where
    abbrev R : Running V
    R = runs kind operands new phase m c f

    -- where the code goes, its state shows the phase there too
    leads : (found : Finding V) (to : Turn V) (r : Process V) (d : maybe.Option (Done V)) → Leads S t p n b l R found to r d → Leads T t p n b l R found to r d
    leads found (turn.On phase' milestone) r d z =
        (z.0, z.1, z.2, restricts.back (subst Count (sym (recorded_length found operands)) counted) z.3)
    leads found (turn.Ends answer effect) r d z = z

    -- so it makes a line by what the access saw
    goes : (w : World V) (ph : Phase V) (seen : Seen V) (cells : Cells V) → Goes S t p n b l code (Unit {0}) w R ph seen cells
        → Goes T t p n b l code (Unit {0}) w R ph seen cells
    goes w ph seen cells =
        matched (Unit {0}) (finding_of phase seen) (λ found.
        matched (Unit {0}) (turn_of code kind (recorded found operands) phase seen) (λ to z.
        (z.0, z.1, z.2, z.3, z.4, leads found to z.1 z.2 z.5)))

    -- and whatever its next access sees
    steps : (w : World V) (ph : Phase V) → Steps S t p n b l code (Unit {0}) w R ph → Steps T t p n b l code (Unit {0}) w R ph
    steps w ph =
        given (next_access code (record { process = p; tag = raised phase n }) kind operands new phase)
        (λ next. performed w next.1 (goes w ph))

  -- the steps of the operations of this kind are enough
  pub carried_of : MakesLinesOf kind code S → MakesLines code T
  carried_of lines t p n b l w (runs own operands new phase m c f) ph tagged shows =
      let z = restricts.into shows in
      let s = lines t p n b l w (runs own operands new phase m c f) ph z.1.0 tagged z.0 in
      subst (λ (own : OperationKind). Steps S t p n b l code (Unit {0}) w (runs own operands new phase m c f) ph
      → Steps T t p n b l code (Unit {0}) w (runs own operands new phase m c f) ph) (sym z.1.0) (steps t p n b l operands new phase m c f z.1.1 w ph) s

  pub carried : MakesLines code S → MakesLines code T
  carried lines = carried_of (λ t p n b l w running ph own. lines t p n b l w running ph)
