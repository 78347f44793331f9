-- One step of the code is one line of the relation.
use Rattle.std.specs.Prelude.{◌≡◌, ℕ, Some}
use Rattle.std.proofs.Math.Option as maybe
use Rattle.phases.specs.declared.records.Seen.{Seen}
use Rattle.phases.specs.declared.turn.Finding.{Finding}
use Rattle.phases.specs.declared.turn.Turn.{Turn}
use Rattle.phases.specs.declared.turn.Turn.TheVariants as turn
use Rattle.lines.specs.Accesses.{next_access}
use Rattle.lines.specs.Advancing.{finding_of, turn_of}
use Rattle.lines.specs.Recording.{recorded, raised, marked_after, collected_after, effect_step}
use Rattle.protocol.specs.World.{World}
use Rattle.protocol.specs.Events.{Event, after}
use Rattle.protocol.specs.Operations.{Request, Answer}
use Rattle.protocol.specs.Phases.{Phase, Process, Done}
use Rattle.protocol.specs.Phases.Phase.{resting}
use Rattle.protocol.specs.Phases.Process.{proc}
use Rattle.protocol.specs.Phases.Done.{done}
use Rattle.protocol.specs.Lines.{Line}
use Rattle.protocol.specs.Sound.{CellsSound, PhaseSound}
use Rattle.std.specs.Option.{MatchOption, IsSomeAnd}
use Rattle.line_views.specs.View.{Running, Cells, cells_of, Performing, fails}
use Rattle.line_views.specs.View.{request_of, answer_of, link_after}
use Rattle.line_views.specs.View.Running.{runs}

-- Which phases of the relation, at which link, a state of the code stands for.
abbrev pub Showing : Type 0 → Type 1
Showing V = Running V → maybe.Option ℕ → Phase V → Type 0

module _ {V : Type 0} (Shows : Showing V) (t p n b : ℕ) (l : maybe.Option ℕ) where
  -- Where the code goes by a line made at step t by process p, which had tag n, link l and since b: to a state that shows
  -- the phase that the process is in then; or to the end of the operation, with the request, the answer and the effect step
  -- that the code has for it.
  abbrev pub Leads : Running V → Finding V → Turn V → Process V → maybe.Option (Done V) → Type 0
  Leads (runs kind operands new phase m c f) found (turn.On phase' milestone) r d =
      (ph : Phase V) × (r ≡ proc (raised phase n) l b ph) × (d ≡ maybe.none)
      × Shows (runs kind (recorded found operands) new phase' (marked_after milestone t m) (collected_after milestone t c) (fails phase)) l ph
  Leads (runs kind operands new phase m c f) found (turn.Ends answer effect) r d =
      (q : Request V) × (a : Answer V) × (r ≡ proc n (link_after kind operands l) b resting)
      × (request_of kind operands new ≡ Some q) × (answer_of answer (recorded found operands) ≡ Some a)
      × (d ≡ maybe.some (done q a (effect_step effect t m c)))

  -- In phase ph there is a line of the relation whose event leaves the cells told, and which leads where the code goes.
  abbrev pub Makes : World V → Phase V → Cells V → Running V → Finding V → Turn V → Type 0
  Makes w ph cells running found to =
      (e : Event V) × (r : Process V) × (d : maybe.Option (Done V)) × Line t p w (proc n l b ph) e r d
      × (cells_of (after e w) ≡ cells) × Leads running found to r d

  module _ (code : V → ℕ) (N : Type 0) where
    -- From what the access saw the code has a finding and a turn, and makes a line. Where it has none, N holds: Unit claims
    -- nothing there, and ⊥ claims that it has both.
    abbrev pub Goes : World V → Running V → Phase V → Seen V → Cells V → Type 0
    Goes w (runs kind operands new phase m c f) ph seen cells =
        MatchOption (finding_of phase seen) N (λ found.
        MatchOption (turn_of code kind (recorded found operands) phase seen) N (λ to.
        Makes w ph cells (runs kind operands new phase m c f) found to))

    -- The code has a next access, and goes on so whatever that sees in the world.
    abbrev pub Steps : World V → Running V → Phase V → Type 0
    Steps w (runs kind operands new phase m c f) ph =
        IsSomeAnd (next_access code (record { process = p; tag = raised phase n }) kind operands new phase)
        (λ next. Performing w next.1 (Goes w (runs kind operands new phase m c f) ph))

-- Every state of the code that shows the phase of a process makes a line of the relation, at every step and in every world
-- that has the process's tag. Where the code has no finding or no turn, nothing is claimed.
abbrev pub MakesLines : {V : Type 0} → (V → ℕ) → Showing V → Type 0
MakesLines {V = V} code Shows = (t p n b : ℕ) (l : maybe.Option ℕ) (w : World V) (running : Running V) (ph : Phase V)
    → w.tag p ≡ n → Shows running l ph → Steps Shows t p n b l code (Unit {0}) w running ph

-- The same, and the code does have a finding and a turn, if the cells and the phase are sound, as they are at every step of
-- a run: every tid is an id; an id in a val or kept by a READ names a process whose saved cell is a value; a process in an
-- LL, an SC or a KCSS has no link; and at line 8 its own saved cell is the value that it saved.
abbrev pub NeverSticks : {V : Type 0} → (V → ℕ) → Showing V → Type 0
NeverSticks {V = V} code Shows = (t p n b : ℕ) (l : maybe.Option ℕ) (w : World V) (running : Running V) (ph : Phase V)
    → w.tag p ≡ n → Shows running l ph → CellsSound w → PhaseSound w.saved p l ph
    → Steps Shows t p n b l code ⊥ w running ph
