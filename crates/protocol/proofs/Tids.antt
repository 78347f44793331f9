-- Tids: an id in a tid is dead, so an unchanged tid was not written, and a value seen meanwhile stays.
use Rattle.std.proofs.Common.{◌≡◌, ℕ, zero, suc, ◌<◌, ◌≤◌, sym, ap, ◌∙◌, inl, inr, arith}
use Rattle.memory.specs.declared.cell.Cell.TheVariants.{Value}
use Rattle.protocol.specs.World.{World, id_cell, own_id}
use Rattle.protocol.specs.World.Stage.{held, armed}
use Rattle.protocol.specs.Events.Event.{note, commit}
use Rattle.protocol.specs.History.{History}
use Rattle.protocol.specs.Past.{Dead, Calm, Kept, TidGuards}
use Rattle.protocol.proofs.Changes.{clash, one_process, one_tag}
use Rattle.protocol.proofs.Time.{lasts}
use Rattle.protocol.proofs.Views.{ValStep, TidStep, ProcessStep, val_step, tid_step, process_step, commit_can, note_can, note_does}
use Rattle.protocol.proofs.Views.ValStep.{v_same, v_mark, v_commit, v_reset}
use Rattle.protocol.proofs.Views.TidStep.{t_same, t_note}
use Rattle.protocol.proofs.Views.ProcessStep.{p_same, p_begin, p_save, p_mark, p_note, p_done}
use Rattle.protocol.proofs.Stages.{dead_step, dead_lasts}

module _ {V : Type 0} (H : History V) where
  abbrev W : ℕ → World V
  W t = H.at t

  pub tid_holds_id : (t a : ℕ) → (q : ℕ) × (τ : ℕ) × ((W t).tid a ≡ id_cell q τ)
  tid_holds_id zero a = (0, 0, H.opened.tids a)
  tid_holds_id (suc t) a = go (tid_holds_id t a) (tid_step H t a)
    where
      go : (q : ℕ) × (τ : ℕ) × ((W t).tid a ≡ id_cell q τ) → TidStep (H.event t) (W t) (W (suc t)) a → (q : ℕ) × (τ : ℕ) × ((W (suc t)).tid a ≡ id_cell q τ)
      go d (t_same e) = (d.0, d.1, e ∙ d.2)
      go d (t_note p e f g h i) = (p, (W t).tag p, g)

  -- an id in a tid is dead
  pub dead_of : (t a q τ : ℕ) → (W t).tid a ≡ id_cell q τ → Dead (W t) q τ
  dead_of zero a q τ m =
      let l = H.opened.stages q in
      let x : 0 ≡ τ = one_tag ((W 0).tid a) 0 q 0 τ (H.opened.tids a) m in
      record { so_far = omega arith; not_fresh = λ j k. clash (cc); not_held = λ b j k. clash (cc) }
  dead_of (suc t) a q τ m = go (dead_of t a q τ) (tid_step H t a)
    where
      go : ((W t).tid a ≡ id_cell q τ → Dead (W t) q τ) → TidStep (H.event t) (W t) (W (suc t)) a → Dead (W (suc t)) q τ
      go ih (t_same e) = dead_step H q τ t (ih (sym e ∙ m))
      go ih (t_note p e f g h i) =
          let x : p ≡ q = one_process ((W (suc t)).tid a) p q ((W t).tag p) τ g m in
          let x' : (W t).tag p ≡ τ = one_tag ((W (suc t)).tid a) p q ((W t).tag p) τ g m in
          let y : (W (suc t)).tag q ≡ τ = cc in
          let z : (W (suc t)).stage q ≡ armed a = cc in
          record { so_far = omega arith; not_fresh = λ j k. clash (cc); not_held = λ b j k. clash (cc) }

  -- no later step writes to a tid what a tid has now
  another : (s x a p b : ℕ) → s ≤ x → (W x).stage p ≡ held b → own_id (W x) p ≡ (W s).tid a → ⊥
  another s x a p b h f g =
      let d = tid_holds_id s a in
      let m = d.2 in
      let n = dead_lasts H d.0 d.1 s x h (dead_of s a d.0 d.1 m) in
      let i : p ≡ d.0 = one_process ((W s).tid a) p d.0 ((W x).tag p) d.1 (sym g) m in
      let j : (W x).tag p ≡ d.1 = one_tag ((W s).tid a) p d.0 ((W x).tag p) d.1 (sym g) m in
      n.not_held b (sym j ∙ ap (W x).tag i) (ap (W x).stage (sym i) ∙ f)

  -- what a tid has no more, it never has again
  pub tid_left : (s u t a : ℕ) → s ≤ u → u ≤ t → ((W u).tid a ≡ (W s).tid a → ⊥) → (W t).tid a ≡ (W s).tid a → ⊥
  tid_left s u t a h k gone = lasts (λ x. (W x).tid a ≡ (W s).tid a → ⊥) u step gone t k
    where
      step : (x : ℕ) → u ≤ x → ((W x).tid a ≡ (W s).tid a → ⊥) → (W (suc x)).tid a ≡ (W s).tid a → ⊥
      step x l ih m = go (tid_step H x a)
        where
          go : TidStep (H.event x) (W x) (W (suc x)) a → ⊥
          go (t_same f) = ih (sym f ∙ m)
          go (t_note q f g i j o) = another s x a q a (omega arith) g (sym i ∙ m)

  -- so an unchanged tid was not written
  pub no_note : (s t a : ℕ) → (W t).tid a ≡ (W s).tid a → (u p : ℕ) → s ≤ u → u < t → H.event u ≡ note p a → ⊥
  no_note s t a m u p h k e =
      tid_left s (suc u) t a (omega arith) k (λ n. another s u a p a h (note_can H u p a e) (sym (note_does H u p a e) ∙ n)) m

  calm_step : (t a : ℕ) (v : V) → ((p : ℕ) → H.event t ≡ note p a → ⊥) → Calm (W t) a v → Calm (W (suc t)) a v
  calm_step t a v h (inl k) = go (val_step H t a)
    where
      go : ValStep (H.event t) (W t) (W (suc t)) a → Calm (W (suc t)) a v
      go (v_same e) = inl (e ∙ k)
      go (v_mark p u e f g i j st tg sv) = let x : (W (suc t)).saved p ≡ Value v = cc in inr (p, (W t).tag p, j, st, x)
      go (v_commit p u e f g i j l) = clash (cc)
      go (v_reset r q τ u e f g i) = clash (cc)
  calm_step t a v h (inr d) = go (val_step H t a) d.0 d.1 d.2 d.3 d.4
    where
      stays : (q τ : ℕ) → (W (suc t)).val a ≡ id_cell q τ → (W t).stage q ≡ held a → (W t).saved q ≡ Value v
          → ProcessStep (H.event t) (W t) (W (suc t)) q → Calm (W (suc t)) a v
      stays q τ m s r (p_same x y z) = inr (q, τ, m, y ∙ s, z ∙ r)
      stays q τ m s r (p_begin e (inl i) x y) = clash (cc)
      stays q τ m s r (p_begin e (inr i) x y) = clash (cc)
      stays q τ m s r (p_save u e i x y) = clash (cc)
      stays q τ m s r (p_mark b u e i x y z) = clash (cc)
      stays q τ m s r (p_note b e i x y z) = let j : b ≡ a = cc in let l : H.event t ≡ note q a = cc in absurd (h q l)
      stays q τ m s r (p_done b i x y z sv) = clash (cc)

      go : ValStep (H.event t) (W t) (W (suc t)) a → (q τ : ℕ) → (W t).val a ≡ id_cell q τ → (W t).stage q ≡ held a → (W t).saved q ≡ Value v → Calm (W (suc t)) a v
      go (v_same e) q τ m s r = stays q τ (e ∙ m) s r (process_step H t q)
      go (v_mark p u e f g i j st tg sv) q τ m s r = clash (cc)
      go (v_commit p u e f g i j l) q τ m s r =
          let y : p ≡ q = one_process ((W t).val a) p q ((W t).tag p) τ g m in
          clash (cc)
      go (v_reset r' q' τ' u e f g i) q τ m s r =
          let y : q' ≡ q = one_process ((W t).val a) q' q τ' τ f m in
          let x : u ≡ v = cc in inl (i ∙ ap Value x)

  -- a location whose tid was not written since a value was seen there is calm with it
  pub calm_since : (r a : ℕ) (v : V) (t : ℕ) → r ≤ t → (W r).val a ≡ Value v → ((u p : ℕ) → r ≤ u → u < t → H.event u ≡ note p a → ⊥) → Calm (W t) a v
  calm_since r a v t h m q =
      lasts (λ x. x ≤ t → Calm (W x) a v) r
      (λ x i ih j. calm_step x a v (λ p e. q x p i j e) (ih (omega arith))) (λ i. inl m) t h (omega arith)

  -- no commit comes at a calm location
  pub calm_no_commit : (t a : ℕ) (v : V) (p : ℕ) (u : V) → Calm (W t) a v → H.event t ≡ commit p a u → ⊥
  calm_no_commit t a v p u (inl k) e = let c = commit_can H t p a u e in clash (cc c.1)
  calm_no_commit t a v p u (inr d) e =
      let c = commit_can H t p a u e in
      let y : p ≡ d.0 = one_process ((W t).val a) p d.0 ((W t).tag p) d.1 c.1 d.2 in
      clash (cc (c.0, d.3))

  -- a value seen while the tid stays the same stays, calm
  pub same_tid_calm : (s r x t a : ℕ) (v : V) → s ≤ r → r ≤ x → x ≤ t → (W r).val a ≡ Value v → (W t).tid a ≡ (W s).tid a → Calm (W x) a v
  same_tid_calm s r x t a v h i j m e = calm_since r a v x i m (λ u p f g. no_note s t a e u p (omega arith) (omega arith))

  pub tid_guards : TidGuards H
  tid_guards = record { unwritten_keeps = keeps; same_unwritten = no_note }
    where
      keeps : (r t a : ℕ) (v : V) → (W r).val a ≡ Value v → ((u p : ℕ) → r ≤ u → u < t → H.event u ≡ note p a → ⊥) → Kept H r t a v
      keeps r t a v m q = record { calm = until; no_commit = λ u p x i j. calm_no_commit u a v p x (until u i (omega arith)) }
        where
          until : (x : ℕ) → r ≤ x → x ≤ t → Calm (W x) a v
          until x i j = calm_since r a v x i m (λ u p f g. q u p f (omega arith))
