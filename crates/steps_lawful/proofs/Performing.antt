-- What an access sees, followed further; and what a step that sticks shows.
use mathlib.Core.Option as maybe
use Rattle.std.proofs.Common.{ℕ}
use Rattle.phases.specs.declared.records.Access.{Access}
use Rattle.phases.specs.declared.records.Access.TheVariants.{Load, Store, Cas}
use Rattle.phases.specs.declared.records.Seen.{Seen}
use Rattle.protocol.specs.World.{World}
use Rattle.protocol.specs.Phases.{Phase}
use Rattle.protocol.specs.Sound.{CellsSound, PhaseSound}
use Rattle.line_views.specs.View.{Cells, Performing}

-- What holds of whatever an access sees holds with what follows from it.
pub performing : {V : Type 0} {P Q : Seen V → Cells V → Type 0} (w : World V) (access : Access V)
    → ((seen : Seen V) (cells : Cells V) → P seen cells → Q seen cells) → Performing w access P → Performing w access Q
performing w (Load place) f h = f _ _ h
performing w (Store place c) f h = f _ _ h
performing w (Cas place old new) f h = ((λ e. f _ _ (h.0 e)), (λ g. f _ _ (h.1 g)))

-- N holds where the world or the phase of process p at link l is not sound.
abbrev pub Stuck : {V : Type 0} → (N : Type 0) (p : ℕ) → maybe.Option ℕ → World V → Phase V → Type 0
Stuck N p l w ph = (CellsSound w → PhaseSound w.saved p l ph → ⊥) → N
