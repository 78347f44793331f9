-- Attempts: an armed process that commits had its mark in place; a tag has one commit; a mark that is gone was reset.
use Rattle.std.proofs.Common.{◌≡◌, ℕ, suc, ◌<◌, ◌≤◌, ◌⊎◌, sym, refl, ap, ◌∙◌, inl, inr, arith}
use Rattle.protocol.specs.World.{World, id_cell, own_id}
use Rattle.protocol.specs.World.Stage.{idle, armed}
use Rattle.protocol.specs.Events.Event.{mark, commit, fail}
use Rattle.protocol.specs.History.{History}
use native.Mathlib.Decide.{dec_le}
use Rattle.protocol.specs.Past.{Dead, ResetBetween, NeverReturn}
use Rattle.protocol.proofs.Changes.{clash, one_process, one_tag}
use Rattle.protocol.proofs.Time.{lasts, back}
use Rattle.protocol.proofs.Views.{ValStep, ProcessStep, val_step, process_step, mark_does, commit_can, commit_does, fail_can}
use Rattle.protocol.proofs.Views.ValStep.{v_same, v_mark, v_commit, v_reset}
use Rattle.protocol.proofs.Views.ProcessStep.{p_same, p_begin, p_save, p_mark, p_note, p_done}
use Rattle.protocol.proofs.Stages.{Over, dead_lasts, over_lasts}
use Rattle.protocol.proofs.Marks.{put_of, stood_since}
use Rattle.protocol.proofs.Tids.{tid_holds_id, dead_of, tid_left}

-- the process is armed, with its mark in place
pub record Armed {V : Type 0} (w : World V) (p a τ : ℕ) : Type 0 where
  pub in_val : w.val a ≡ id_cell p τ
  pub stands : w.stage p ≡ armed a
  pub own_tag : w.tag p ≡ τ

module _ {V : Type 0} (H : History V) where
  abbrev W : ℕ → World V
  W t = H.at t

  -- a process that is armed at e and commits with that tag at c was armed, with its mark in place, all the time
  pub armed_through : (e c p a : ℕ) (u : V) → (W e).stage p ≡ armed a → (W e).tag p ≡ (W c).tag p → H.event c ≡ commit p a u
      → (t : ℕ) → e ≤ t → t ≤ c → Armed (W t) p a ((W c).tag p)
  armed_through e c p a u s g k = back (λ t. Armed (W t) p a ((W c).tag p)) e c step here
    where
      here : Armed (W c) p a ((W c).tag p)
      here = let d = commit_can H c p a u k in record { in_val = d.1; stands = d.0; own_tag = refl }

      used : Dead (W e) p ((W c).tag p)
      used = record { so_far = omega arith; not_fresh = λ i j. clash (cc); not_held = λ b i j. clash (cc) }

      step : (t : ℕ) → e ≤ t → t < c → Armed (W (suc t)) p a ((W c).tag p) → Armed (W t) p a ((W c).tag p)
      step t h l ih = record { in_val = stood_since H e c a p ((W c).tag p) (used.so_far, used.not_fresh) here.in_val t h (omega arith); stands = (go (process_step H t p)).0; own_tag = (go (process_step H t p)).1 }
        where
          n : Dead (W t) p ((W c).tag p)
          n = dead_lasts H p ((W c).tag p) e t h used

          go : ProcessStep (H.event t) (W t) (W (suc t)) p → ((W t).stage p ≡ armed a) × ((W t).tag p ≡ (W c).tag p)
          go (p_same x y z) = (sym y ∙ ih.stands, sym x ∙ ih.own_tag)
          go (p_begin f d x y) = clash (cc ih.stands)
          go (p_save v f d x y) = clash (cc ih.stands)
          go (p_mark b v f d x y z) = clash (cc ih.stands)
          go (p_note b f d x y z) = absurd (n.not_held b (sym (sym x ∙ ih.own_tag)) d)
          go (p_done b d x y z sv) = clash (cc ih.stands)

  -- a tag has one commit
  not_later : (c d p a b : ℕ) (u v : V) → H.event c ≡ commit p a u → H.event d ≡ commit p b v → (W c).tag p ≡ (W d).tag p → c < d → ⊥
  not_later c d p a b u v e f g h =
      let x = commit_does H c p a u e in
      let y = commit_can H d p b v f in
      let i : (W (suc c)).tag p ≡ (W d).tag p = x.2 ∙ g in
      let o : Over (W (suc c)) p ((W d).tag p) = (omega arith, λ j. x.1) in
      let z = (over_lasts H p ((W d).tag p) (suc c) d h o).1 refl in
      clash (cc y.0)

  pub one_commit : (c d p a b : ℕ) (u v : V) → H.event c ≡ commit p a u → H.event d ≡ commit p b v → (W c).tag p ≡ (W d).tag p → c ≡ d
  one_commit c d p a b u v e f g =
      elim (dec_le d c) [
        | yes i ↦ elim (dec_le c d) [ yes j ↦ omega arith | no j ↦ absurd (not_later d c p b a v u f e (sym g) (omega arith)) ]
        | no i ↦ absurd (not_later c d p a b u v e f g (omega arith))
      ]

  -- a mark whose process still waits for its last CAS was reset, if it is gone
  pub was_reset : (s t p a : ℕ) (x : V) → s < t → H.event s ≡ mark p a x → H.event t ≡ fail p a → (W s).tag p ≡ (W t).tag p → ResetBetween H s t p a
  was_reset s t p a x h e f g = fin (lasts P (suc s) step (inl (mark_does H s p a x e).0) t h)
    where
      P : ℕ → Type 0
      P y = ((W y).val a ≡ own_id (W s) p) ⊎ (y ≤ t → ResetBetween H s t p a)

      step : (y : ℕ) → suc s ≤ y → P y → P (suc y)
      step y i (inr d) = inr (λ j. d (omega arith))
      step y i (inl m) = go (val_step H y a)
        where
          go : ValStep (H.event y) (W y) (W (suc y)) a → P (suc y)
          go (v_same k) = inl (k ∙ m)
          go (v_mark q v k l n o r st tg sv) = clash (cc)
          go (v_commit q v k l n o st tg) =
              inr (λ j.
              let z : q ≡ p = one_process ((W y).val a) q p ((W y).tag q) ((W s).tag p) n m in
              let z' : (W y).tag q ≡ (W s).tag p = one_tag ((W y).val a) q p ((W y).tag q) ((W s).tag p) n m in
              let y1 : (W (suc y)).tag p ≡ (W t).tag p = cc in
              let y2 : (W (suc y)).stage p ≡ idle = cc in
              let ov : Over (W (suc y)) p ((W t).tag p) = (omega arith, λ q. y2) in
              let w = (over_lasts H p ((W t).tag p) (suc y) t j ov).1 refl in
              let b = fail_can H t p a f in
              clash (cc b.0))
          go (v_reset r q τ v k l n o) =
              inr (λ j. record { step = y; by_process = r; value = v; after_mark = i; before_end = j; resets = k; its_mark = m })

      fin : P t → ResetBetween H s t p a
      fin (inl m) = absurd ((fail_can H t p a f).1 (m ∙ ap (id_cell p) g))
      fin (inr d) = d (omega arith)

  pub never_return : NeverReturn H
  never_return = record {
    an_id = tid_holds_id H;
    dead = dead_of H;
    in_tid = λ s u t a h k. tid_left H s u t a h k;
    in_val = λ s u t a q τ h k m n. stood_since H s t a q τ (put_of H s a q τ m) n u h k;
  }
