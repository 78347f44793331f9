-- Every machine of a run is sound.
use Rattle.std.proofs.Common.{◌≡◌, ℕ, zero, suc, List, sym, refl, ap, ◌∙◌, subst}
use mathlib.Core.Option.{Option}
use native.Mathlib.Decide.{ℕ_discrete}
use Rattle.memory.specs.declared.cell.Cell.{Cell}
use Rattle.memory.specs.declared.cell.Cell.TheVariants.{Value}
use Rattle.memory.specs.declared.cell.TaggedId.{TaggedId}
use Rattle.protocol.specs.World.{World, changed}
use Rattle.protocol.specs.Events.{Event, maker, after}
use Rattle.protocol.specs.Events.Event.{look, begin, save, mark, note, commit, fail, reset}
use Rattle.protocol.specs.Operations.{Request}
use Rattle.protocol.specs.Phases.{ReadPhase, Phase, Process}
use Rattle.protocol.specs.Phases.ReadPhase.{looks, looks_again, fetches, resets}
use Rattle.protocol.specs.Phases.Phase.{resting, reading, attempt, attempt_again, linking, to_save, to_mark, to_note}
use Rattle.protocol.specs.Phases.Phase.{swap_sc, first_id, first_collect, second_collect, second_id, swap}
use Rattle.protocol.specs.Phases.Process.{proc}
use Rattle.protocol.specs.Runs.{Begins, Machine, world, Given, Begun, turned, Call}
use Rattle.protocol.specs.Runs.Begins.{begins_read, begins_ll, begins_sc, begins_snapshot, begins_kcss}
use Rattle.protocol.specs.Runs.Begun.{no_more, and_then}
use Rattle.protocol.specs.Runs.Call.{steps, pauses}
use Rattle.protocol.specs.Sound.{Backed, CellsSound, ReadSound, PhaseSound, ProcessSound, RunsSound}
use Rattle.protocol.proofs.Changes.{clash, changed_here, changed_else}
use Rattle.protocol.proofs.Asking.{one_event}
use Rattle.protocol.proofs.Sounding.{with_saved, cells_after, fine}

-- the machine is sound for all processes
abbrev pub AllSound : {V : Type 0} → Machine V → Type 0
AllSound m = CellsSound (world m) × ((p : ℕ) → ProcessSound m.saved p (m.processes p))

-- an event of another process
module _ {V : Type 0} (w : World V) (S : CellsSound w) where
  backed : (e : Event V) (k : TaggedId) → Backed w.saved k → Backed (after e w).saved k
  backed (look q) k h = h
  backed (begin q) k h = h
  backed (save q v) k h = with_saved w S q v k h
  backed (mark q a v) k h = h
  backed (note q a) k h = h
  backed (commit q a v) k h = h
  backed (fail q a) k h = h
  backed (reset q a v) k h = h

  own : (e : Event V) (p : ℕ) → (p ≡ maker e → ⊥) → (after e w).saved p ≡ w.saved p
  own (look q) p n = refl
  own (begin q) p n = refl
  own (save q v) p n = changed_else w.saved q (Value v) p n
  own (mark q a v) p n = refl
  own (note q a) p n = refl
  own (commit q a v) p n = refl
  own (fail q a) p n = refl
  own (reset q a v) p n = refl

  module _ (e : Event V) (p : ℕ) (n : p ≡ maker e → ⊥) where
    read_still : (s : ReadPhase V) → ReadSound w.saved s → ReadSound (after e w).saved s
    read_still looks h = tt
    read_still looks_again h = tt
    read_still (fetches k) h = backed e k h
    read_still (resets k v) h = tt

    phase_still : (l : Option ℕ) (ph : Phase V) → PhaseSound w.saved p l ph → PhaseSound (after e w).saved p l ph
    phase_still l resting h = tt
    phase_still l (reading a s) h = read_still s h
    phase_still l (attempt J) h = h
    phase_still l (attempt_again J) h = h
    phase_still l (linking J s) (f, h) = (f, read_still s h)
    phase_still l (to_save J v) h = h
    phase_still l (to_mark J v) (f, h) = (f, own e p n ∙ h)
    phase_still l (to_note J v t8) h = h
    phase_still l (swap_sc a u) h = h
    phase_still l (first_id F rows k i) h = h
    phase_still l (first_collect F rows k i s) (f, h) = (f, read_still s h)
    phase_still l (second_collect F rows k o i s) (f, h) = (f, read_still s h)
    phase_still l (second_id F rows k o i) h = h
    phase_still l (swap a x u v t8 rows k o) h = h

    others : (r : Process V) → ProcessSound w.saved p r → ProcessSound (after e w).saved p r
    others (proc m l b ph) h = phase_still l ph h

begins_sound : {V : Type 0} (saved : ℕ → Cell V) (p : ℕ) {t : ℕ} {r r' : Process V} {q : Request V} → Begins t r q r' → ProcessSound saved p r'
begins_sound saved p (begins_read a) = tt
begins_sound saved p (begins_ll a) = refl
begins_sound saved p (begins_sc a u) = refl
begins_sound saved p (begins_snapshot rows k) = tt
begins_sound saved p (begins_kcss a x u rows k) = refl

pub begun_sound : {V : Type 0} {t : ℕ} {m m' : Machine V} {list : List (Given V)} → Begun t m list m' → AllSound m → AllSound m'
begun_sound no_more S = S
begun_sound {V = V} (and_then {m' = b} more p q r s) S = again (begun_sound more S)
  where
    again : AllSound b → AllSound (record { val = b.val; tid = b.tid; saved = b.saved; processes = changed b.processes p r })
    again (c, h) = (
      record { vals = c.vals; tids = c.tids },
      λ j. elim (ℕ_discrete j p) [
        | yes i ↦ subst (λ (x : Process V). ProcessSound b.saved j x) (sym (ap (changed b.processes p r) i ∙ changed_here b.processes p r)) (begins_sound b.saved j s)
        | no n ↦ subst (λ (x : Process V). ProcessSound b.saved j x) (sym (changed_else b.processes p r j n)) (h j)
      ],
    )

call_sound : {V : Type 0} {t q : ℕ} {m m' : Machine V} {list : List (Given V)} {e : Event V} {d : Option _} → Call t q m m' list e d → AllSound m → AllSound m'
call_sound {V = V} (pauses i) S = subst (λ (x : Machine V). AllSound x) (sym i) S
call_sound {V = V} {t = t} {q = q} (steps list b g r e d l i) S = subst (λ (x : Machine V). AllSound x) (sym i) (go (begun_sound g S))
  where
    go : AllSound b → AllSound (turned b e q r)
    go (c, h) =
        let f = fine c l (h q) in
        let k = cells_after (world b) c e f.0 in (
          record { vals = k.vals; tids = k.tids },
          λ j. elim (ℕ_discrete j q) [
            | yes i ↦
                subst (λ (x : ℕ). ProcessSound (after e (world b)).saved x (changed b.processes q r x)) (sym i)
                (subst (λ (x : Process V). ProcessSound (after e (world b)).saved q x) (sym (changed_here b.processes q r)) f.1)
            | no n ↦
                subst (λ (x : Process V). ProcessSound (after e (world b)).saved j x) (sym (changed_else b.processes q r j n))
                (others (world b) c e j (λ u. n (u ∙ (one_event t q b e r d l).made_by)) (b.processes j) (h j))
          ],
        )

pub runs_sound : {V : Type 0} → RunsSound V
runs_sound {V = V} run t p = let S = all t in record { cells = S.0; process = S.1 p }
  where
    all : (t : ℕ) → AllSound (run.at t)
    all zero = (
      record { vals = λ a k e. (let x = run.vals a in clash (cc)); tids = λ a. (record { process = 0; tag = 0 }, run.tids a) },
      λ p. subst (λ (x : Process V). ProcessSound (run.at 0).saved p x) (sym (run.rested p)) tt,
    )
    all (suc t) = call_sound (run.call t) (all t)
