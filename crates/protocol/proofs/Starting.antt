-- Starts leave a process that runs an operation as it is.
use Rattle.std.proofs.Common.{◌≡◌, ℕ, List, sym, refl, ap, ◌∙◌, subst}
use mathlib.Core.Option.{Option}
use native.Mathlib.Decide.{ℕ_discrete}
use Rattle.protocol.specs.Operations.{Request}
use Rattle.protocol.specs.Phases.{Process}
use Rattle.protocol.specs.Phases.Phase.{resting}
use Rattle.protocol.specs.Phases.Process.{proc}
use Rattle.protocol.specs.Runs.{Begins, Machine, Given, Begun}
use Rattle.protocol.specs.Runs.Begins.{begins_read, begins_ll, begins_sc, begins_snapshot, begins_kcss}
use Rattle.protocol.specs.Runs.Begun.{no_more, and_then}
use Rattle.protocol.proofs.Changes.{changed_else}

abbrev pub Rests : {V : Type 0} → Process V → Type 0
Rests r = (n : ℕ) × (l : Option ℕ) × (b : ℕ) × (r ≡ proc n l b resting)

pub rested : {V : Type 0} {t : ℕ} {r r' : Process V} {q : Request V} → Begins t r q r' → Rests r
rested (begins_read a) = (_, _, _, refl)
rested (begins_ll a) = (_, _, _, refl)
rested (begins_sc a u) = (_, _, _, refl)
rested (begins_snapshot rows k) = (_, _, _, refl)
rested (begins_kcss a x u rows k) = (_, _, _, refl)

pub still_runs : {V : Type 0} {t : ℕ} {m m' : Machine V} {list : List (Given V)} → Begun t m list m'
    → (p : ℕ) → (Rests (m.processes p) → ⊥) → m'.processes p ≡ m.processes p
still_runs no_more p h = refl
still_runs {V = V} (and_then {m' = b} more j q r s) p h =
    let e = still_runs more p h in
    elim (ℕ_discrete p j) [
      | yes i ↦ absurd (h (subst (λ (x : Process V). Rests x) (ap b.processes (sym i) ∙ e) (rested s)))
      | no n ↦ changed_else b.processes j r p n ∙ e
    ]
