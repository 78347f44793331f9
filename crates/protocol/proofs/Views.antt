-- What one event does, seen from one val, one tid and one process.
use Rattle.std.proofs.Common.{◌≡◌, ℕ, suc, ◌⊎◌, sym, refl, ap, ◌∙◌, subst, inl, inr}
use native.Mathlib.Decide.{ℕ_discrete}
use Rattle.memory.specs.declared.cell.Cell.TheVariants.{Value}
use Rattle.protocol.specs.World.{World, id_cell, own_id}
use Rattle.protocol.specs.World.Stage.{idle, fresh, held, armed}
use Rattle.protocol.specs.Events.{Event, Possible, after}
use Rattle.protocol.specs.Events.Event.{look, begin, save, mark, note, commit, fail, reset}
use Rattle.protocol.specs.History.{History}
use Rattle.protocol.proofs.Changes.{clash, changed_here, changed_else, here_or_else}

-- val of a: it stays, or is marked, committed or reset
pub data ValStep {V : Type 0} (e : Event V) (w w' : World V) (a : ℕ) : Type 0 where
  v_same : w'.val a ≡ w.val a → ValStep e w w' a
  v_mark : (p : ℕ) (v : V) → e ≡ mark p a v → w.stage p ≡ fresh → w.val a ≡ Value v → w.saved p ≡ Value v
      → w'.val a ≡ own_id w p → w'.stage p ≡ held a → w'.tag p ≡ w.tag p → w'.saved p ≡ w.saved p → ValStep e w w' a
  v_commit : (p : ℕ) (v : V) → e ≡ commit p a v → w.stage p ≡ armed a → w.val a ≡ own_id w p → w'.val a ≡ Value v
      → w'.stage p ≡ idle → w'.tag p ≡ w.tag p → ValStep e w w' a
  v_reset : (r q τ : ℕ) (v : V) → e ≡ reset r a v → w.val a ≡ id_cell q τ → w.saved q ≡ Value v → w'.val a ≡ Value v → ValStep e w w' a

-- tid of a: it stays, or is written
pub data TidStep {V : Type 0} (e : Event V) (w w' : World V) (a : ℕ) : Type 0 where
  t_same : w'.tid a ≡ w.tid a → TidStep e w w' a
  t_note : (p : ℕ) → e ≡ note p a → w.stage p ≡ held a → w'.tid a ≡ own_id w p → w'.stage p ≡ armed a → w'.tag p ≡ w.tag p → TidStep e w w' a

-- the process q: it stays, or goes from one stage to the next
pub data ProcessStep {V : Type 0} (e : Event V) (w w' : World V) (q : ℕ) : Type 0 where
  p_same : w'.tag q ≡ w.tag q → w'.stage q ≡ w.stage q → w'.saved q ≡ w.saved q → ProcessStep e w w' q
  p_begin : e ≡ begin q → (w.stage q ≡ idle) ⊎ (w.stage q ≡ fresh) → w'.tag q ≡ suc (w.tag q) → w'.stage q ≡ fresh → ProcessStep e w w' q
  p_save : (v : V) → e ≡ save q v → w.stage q ≡ fresh → w'.tag q ≡ w.tag q → w'.stage q ≡ fresh → ProcessStep e w w' q
  p_mark : (a : ℕ) (v : V) → e ≡ mark q a v → w.stage q ≡ fresh → w'.tag q ≡ w.tag q → w'.stage q ≡ held a → w'.saved q ≡ w.saved q → ProcessStep e w w' q
  p_note : (a : ℕ) → e ≡ note q a → w.stage q ≡ held a → w'.tag q ≡ w.tag q → w'.stage q ≡ armed a → w'.saved q ≡ w.saved q → ProcessStep e w w' q
  p_done : (a : ℕ) → w.stage q ≡ armed a → w'.tag q ≡ w.tag q → w'.stage q ≡ idle → (w'.val a ≡ own_id w q → ⊥) → w'.saved q ≡ w.saved q → ProcessStep e w w' q

module _ {V : Type 0} (w : World V) where
  val_view : (e : Event V) → Possible e w → (a : ℕ) → ValStep e w (after e w) a
  val_view (look p) h a = v_same refl
  val_view (begin p) h a = v_same refl
  val_view (save p v) h a = v_same refl
  val_view (mark p b v) h a =
      elim (here_or_else w.val b (own_id w p) a) [
        | inl d ↦ (let e = d.0 in let k : mark p b v ≡ mark p a v = cc in v_mark p v k h.0 (ap w.val e ∙ h.1) h.2 d.1 (changed_here w.stage p (held b) ∙ ap held (sym e)) refl refl)
        | inr d ↦ v_same d
      ]
  val_view (note p b) h a = v_same refl
  val_view (commit p b v) h a =
      elim (here_or_else w.val b (Value v) a) [
        | inl d ↦ (let e = d.0 in let k : commit p b v ≡ commit p a v = cc in v_commit p v k (h.0 ∙ ap armed (sym e)) (ap w.val e ∙ h.1) d.1 (changed_here w.stage p idle) refl)
        | inr d ↦ v_same d
      ]
  val_view (fail p b) h a = v_same refl
  val_view (reset r b v) h a =
      elim (here_or_else w.val b (Value v) a) [
        | inl d ↦ (let e = d.0 in let k : reset r b v ≡ reset r a v = cc in v_reset r h.0 h.1 v k (ap w.val e ∙ h.2) h.3 d.1)
        | inr d ↦ v_same d
      ]

  tid_view : (e : Event V) → Possible e w → (a : ℕ) → TidStep e w (after e w) a
  tid_view (look p) h a = t_same refl
  tid_view (begin p) h a = t_same refl
  tid_view (save p v) h a = t_same refl
  tid_view (mark p b v) h a = t_same refl
  tid_view (note p b) h a =
      elim (here_or_else w.tid b (own_id w p) a) [
        | inl d ↦ (let e = d.0 in let k : note p b ≡ note p a = cc in t_note p k (h ∙ ap held (sym e)) d.1 (changed_here w.stage p (armed b) ∙ ap armed (sym e)) refl)
        | inr d ↦ t_same d
      ]
  tid_view (commit p b v) h a = t_same refl
  tid_view (fail p b) h a = t_same refl
  tid_view (reset r b v) h a = t_same refl

  -- the process that moves, or any other
  mover : (P : ℕ → Type 0) (p q : ℕ) → P p → ((q ≡ p → ⊥) → P q) → P q
  mover P p q here there = elim (ℕ_discrete q p) [ yes e ↦ subst P (sym e) here | no h ↦ there h ]

  process_view : (e : Event V) → Possible e w → (q : ℕ) → ProcessStep e w (after e w) q
  process_view (look p) h q = p_same refl refl refl
  process_view (begin p) h q =
      mover (ProcessStep (begin p) w (after (begin p) w)) p q
      (p_begin refl h (changed_here w.tag p (suc (w.tag p))) (changed_here w.stage p fresh))
      (λ k. p_same (changed_else w.tag p (suc (w.tag p)) q k) (changed_else w.stage p fresh q k) refl)
  process_view (save p v) h q =
      mover (ProcessStep (save p v) w (after (save p v) w)) p q
      (p_save v refl h refl h)
      (λ k. p_same refl refl (changed_else w.saved p (Value v) q k))
  process_view (mark p b v) h q =
      mover (ProcessStep (mark p b v) w (after (mark p b v) w)) p q
      (p_mark b v refl h.0 refl (changed_here w.stage p (held b)) refl)
      (λ k. p_same refl (changed_else w.stage p (held b) q k) refl)
  process_view (note p b) h q =
      mover (ProcessStep (note p b) w (after (note p b) w)) p q
      (p_note b refl h refl (changed_here w.stage p (armed b)) refl)
      (λ k. p_same refl (changed_else w.stage p (armed b) q k) refl)
  process_view (commit p b v) h q =
      mover (ProcessStep (commit p b v) w (after (commit p b v) w)) p q
      (p_done b h.0 refl (changed_here w.stage p idle) (λ k. let u = changed_here w.val b (Value v) in clash (cc)) refl)
      (λ k. p_same refl (changed_else w.stage p idle q k) refl)
  process_view (fail p b) h q =
      mover (ProcessStep (fail p b) w (after (fail p b) w)) p q
      (p_done b h.0 refl (changed_here w.stage p idle) h.1 refl)
      (λ k. p_same refl (changed_else w.stage p idle q k) refl)
  process_view (reset r b v) h q = p_same refl refl refl

module _ {V : Type 0} (H : History V) where
  pub val_step : (t a : ℕ) → ValStep (H.event t) (H.at t) (H.at (suc t)) a
  val_step t a = rw (H.leads t) (val_view (H.at t) (H.event t) (H.possible t) a)

  pub tid_step : (t a : ℕ) → TidStep (H.event t) (H.at t) (H.at (suc t)) a
  tid_step t a = rw (H.leads t) (tid_view (H.at t) (H.event t) (H.possible t) a)

  pub process_step : (t q : ℕ) → ProcessStep (H.event t) (H.at t) (H.at (suc t)) q
  process_step t q = rw (H.leads t) (process_view (H.at t) (H.event t) (H.possible t) q)

  -- what a known event says of the world before and after it
  can : (t : ℕ) (e : Event V) → H.event t ≡ e → Possible e (H.at t)
  can t e k = subst (λ x. Possible x (H.at t)) k (H.possible t)

  next : (t : ℕ) (e : Event V) → H.event t ≡ e → H.at (suc t) ≡ after e (H.at t)
  next t e k = H.leads t ∙ ap (λ x. after x (H.at t)) k

  pub mark_can : (t p a : ℕ) (v : V) → H.event t ≡ mark p a v → ((H.at t).stage p ≡ fresh) × ((H.at t).val a ≡ Value v) × ((H.at t).saved p ≡ Value v)
  mark_can t p a v e = can t (mark p a v) e

  pub mark_does : (t p a : ℕ) (v : V) → H.event t ≡ mark p a v
      → ((H.at (suc t)).val a ≡ own_id (H.at t) p) × ((H.at (suc t)).stage p ≡ held a) × ((H.at (suc t)).tag p ≡ (H.at t).tag p) × ((H.at (suc t)).saved p ≡ (H.at t).saved p)
  mark_does t p a v e =
      let n = next t (mark p a v) e in (
        ap (λ w. w.val a) n ∙ changed_here (H.at t).val a (own_id (H.at t) p),
        ap (λ w. w.stage p) n ∙ changed_here (H.at t).stage p (held a),
        ap (λ w. w.tag p) n,
        ap (λ w. w.saved p) n,
      )

  pub commit_can : (t p a : ℕ) (v : V) → H.event t ≡ commit p a v → ((H.at t).stage p ≡ armed a) × ((H.at t).val a ≡ own_id (H.at t) p)
  commit_can t p a v e = can t (commit p a v) e

  pub commit_does : (t p a : ℕ) (v : V) → H.event t ≡ commit p a v
      → ((H.at (suc t)).val a ≡ Value v) × ((H.at (suc t)).stage p ≡ idle) × ((H.at (suc t)).tag p ≡ (H.at t).tag p)
  commit_does t p a v e =
      let n = next t (commit p a v) e in (
        ap (λ w. w.val a) n ∙ changed_here (H.at t).val a (Value v),
        ap (λ w. w.stage p) n ∙ changed_here (H.at t).stage p idle,
        ap (λ w. w.tag p) n,
      )

  pub note_can : (t p a : ℕ) → H.event t ≡ note p a → (H.at t).stage p ≡ held a
  note_can t p a e = can t (note p a) e

  pub note_does : (t p a : ℕ) → H.event t ≡ note p a → (H.at (suc t)).tid a ≡ own_id (H.at t) p
  note_does t p a e = ap (λ w. w.tid a) (next t (note p a) e) ∙ changed_here (H.at t).tid a (own_id (H.at t) p)

  pub fail_can : (t p a : ℕ) → H.event t ≡ fail p a → ((H.at t).stage p ≡ armed a) × ((H.at t).val a ≡ own_id (H.at t) p → ⊥)
  fail_can t p a e = can t (fail p a) e
