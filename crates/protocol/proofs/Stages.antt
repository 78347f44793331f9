-- What a tag and a stage, once reached, rule out for ever.
use Rattle.std.proofs.Common.{◌≡◌, ℕ, zero, suc, ◌≤◌, ◌⊎◌, sym, ◌∙◌, inl, inr, arith}
use Rattle.protocol.specs.World.{World}
use Rattle.protocol.specs.World.Stage.{idle, fresh}
use Rattle.protocol.specs.History.{History}
use Rattle.protocol.specs.Past.{Dead}
use Rattle.protocol.proofs.Changes.{clash}
use Rattle.protocol.proofs.Time.{lasts}
use Rattle.protocol.proofs.Views.{ProcessStep, process_step}
use Rattle.protocol.proofs.Views.ProcessStep.{p_same, p_begin, p_save, p_mark, p_note, p_done}

-- the id can be put in no val again
abbrev pub Put : {V : Type 0} → World V → (process tag : ℕ) → Type 0
Put w q τ = (τ ≤ w.tag q) × (τ ≡ w.tag q → w.stage q ≡ fresh → ⊥)

-- the last CAS with the id has run: none comes again
abbrev pub Over : {V : Type 0} → World V → (process tag : ℕ) → Type 0
Over w q τ = (τ ≤ w.tag q) × (τ ≡ w.tag q → w.stage q ≡ idle)

module _ {V : Type 0} (H : History V) where
  abbrev W : ℕ → World V
  W t = H.at t

  put_step : (q τ t : ℕ) → Put (W t) q τ → Put (W (suc t)) q τ
  put_step q τ t u = go (process_step H t q)
    where
      go : ProcessStep (H.event t) (W t) (W (suc t)) q → Put (W (suc t)) q τ
      go (p_same a b c) = (omega arith, λ e f. u.1 (e ∙ a) (sym b ∙ f))
      go (p_begin e d a b) = (omega arith, λ e f. absurd (omega arith))
      go (p_save v e d a b) = (omega arith, λ e f. u.1 (e ∙ a) d)
      go (p_mark x v e d a b c) = (omega arith, λ e f. clash (cc))
      go (p_note x e d a b c) = (omega arith, λ e f. clash (cc))
      go (p_done x d a b c sv) = (omega arith, λ e f. clash (cc))

  pub put_lasts : (q τ s t : ℕ) → s ≤ t → Put (W s) q τ → Put (W t) q τ
  put_lasts q τ s t h u = lasts (λ x. Put (W x) q τ) s (λ x i. put_step q τ x) u t h

  pub dead_step : (q τ t : ℕ) → Dead (W t) q τ → Dead (W (suc t)) q τ
  dead_step q τ t u = go (process_step H t q)
    where
      go : ProcessStep (H.event t) (W t) (W (suc t)) q → Dead (W (suc t)) q τ
      go (p_same a b c) = record { so_far = (let h = u.so_far in omega arith); not_fresh = λ e f. u.not_fresh (e ∙ a) (sym b ∙ f); not_held = λ x e f. u.not_held x (e ∙ a) (sym b ∙ f) }
      go (p_begin e d a b) = let h = u.so_far in record { so_far = omega arith; not_fresh = λ e f. absurd (omega arith); not_held = λ x e f. clash (cc) }
      go (p_save v e d a b) = record { so_far = (let h = u.so_far in omega arith); not_fresh = λ e f. u.not_fresh (e ∙ a) d; not_held = λ x e f. clash (cc) }
      go (p_mark y v e d a b c) = record { so_far = (let h = u.so_far in omega arith); not_fresh = λ e f. clash (cc); not_held = λ x e f. u.not_fresh (e ∙ a) d }
      go (p_note y e d a b c) = record { so_far = (let h = u.so_far in omega arith); not_fresh = λ e f. clash (cc); not_held = λ x e f. clash (cc) }
      go (p_done y d a b c sv) = record { so_far = (let h = u.so_far in omega arith); not_fresh = λ e f. clash (cc); not_held = λ x e f. clash (cc) }

  pub dead_lasts : (q τ s t : ℕ) → s ≤ t → Dead (W s) q τ → Dead (W t) q τ
  dead_lasts q τ s t h u = lasts (λ x. Dead (W x) q τ) s (λ x i. dead_step q τ x) u t h

  over_step : (q τ t : ℕ) → Over (W t) q τ → Over (W (suc t)) q τ
  over_step q τ t u = go (process_step H t q)
    where
      go : ProcessStep (H.event t) (W t) (W (suc t)) q → Over (W (suc t)) q τ
      go (p_same a b c) = (omega arith, λ e. b ∙ u.1 (e ∙ a))
      go (p_begin e d a b) = (omega arith, λ e. absurd (omega arith))
      go (p_save v e d a b) = (omega arith, λ e. let k = u.1 (e ∙ a) in clash (cc))
      go (p_mark y v e d a b c) = (omega arith, λ e. let k = u.1 (e ∙ a) in clash (cc))
      go (p_note y e d a b c) = (omega arith, λ e. let k = u.1 (e ∙ a) in clash (cc))
      go (p_done y d a b c sv) = (omega arith, λ e. b)

  pub over_lasts : (q τ s t : ℕ) → s ≤ t → Over (W s) q τ → Over (W t) q τ
  over_lasts q τ s t h u = lasts (λ x. Over (W x) q τ) s (λ x i. over_step q τ x) u t h

  -- a tag never falls
  pub tag_rises : (q s t : ℕ) → s ≤ t → (W s).tag q ≤ (W t).tag q
  tag_rises q s = lasts (λ t. (W s).tag q ≤ (W t).tag q) s (λ t h k. let l = step t in omega arith) (omega arith)
    where
      step : (t : ℕ) → (W t).tag q ≤ (W (suc t)).tag q
      step t = go (process_step H t q)
        where
          go : ProcessStep (H.event t) (W t) (W (suc t)) q → (W t).tag q ≤ (W (suc t)).tag q
          go (p_same a b c) = omega arith
          go (p_begin e d a b) = omega arith
          go (p_save v e d a b) = omega arith
          go (p_mark x v e d a b c) = omega arith
          go (p_note x e d a b c) = omega arith
          go (p_done x d a b c sv) = omega arith

  -- an attempt has a tag past 0
  pub busy : (t q : ℕ) → ((W t).stage q ≡ idle) ⊎ (1 ≤ (W t).tag q)
  busy zero q = inl (H.opened.stages q)
  busy (suc t) q = go (busy t q) (process_step H t q)
    where
      go : ((W t).stage q ≡ idle) ⊎ (1 ≤ (W t).tag q) → ProcessStep (H.event t) (W t) (W (suc t)) q → ((W (suc t)).stage q ≡ idle) ⊎ (1 ≤ (W (suc t)).tag q)
      go (inl i) (p_same a b c) = inl (b ∙ i)
      go (inr i) (p_same a b c) = inr (omega arith)
      go i (p_begin e d a b) = inr (omega arith)
      go (inl i) (p_save v e d a b) = clash (cc)
      go (inr i) (p_save v e d a b) = inr (omega arith)
      go (inl i) (p_mark x v e d a b c) = clash (cc)
      go (inr i) (p_mark x v e d a b c) = inr (omega arith)
      go (inl i) (p_note x e d a b c) = clash (cc)
      go (inr i) (p_note x e d a b c) = inr (omega arith)
      go i (p_done x d a b c sv) = inl b
