-- Abstract values: each location stands for one value, which changes only by a commit.
use Rattle.std.proofs.Common.{◌≡◌, ℕ, suc, ◌⊎◌, refl, ap, ◌∙◌, inl, inr}
use Rattle.memory.specs.declared.cell.Cell.{Cell}
use Rattle.memory.specs.declared.cell.Cell.TheVariants.{Value, Id}
use Rattle.protocol.specs.World.{World, Stands}
use Rattle.protocol.specs.Events.Event.{commit}
use Rattle.protocol.specs.History.{History}
use Rattle.protocol.specs.Past.{OneValue}
use Rattle.protocol.proofs.Changes.{clash, one_process}
use Rattle.protocol.proofs.Views.{ValStep, val_step, commit_does}
use Rattle.protocol.proofs.Views.ValStep.{v_same, v_mark, v_commit, v_reset}
use Rattle.protocol.proofs.Marks.{marked, saved_step}

module _ {V : Type 0} (H : History V) where
  abbrev W : ℕ → World V
  W t = H.at t

  pub stands_once : (t a : ℕ) (u v : V) → Stands (W t) a u → Stands (W t) a v → u ≡ v
  stands_once t a u v (inl e) (inl f) = cc
  stands_once t a u v (inl e) (inr d) = clash (cc d.2)
  stands_once t a u v (inr d) (inl e) = clash (cc d.2)
  stands_once t a u v (inr d) (inr f) =
      let x : d.0 ≡ f.0 = one_process ((W t).val a) d.0 f.0 d.1 f.1 d.2 f.2 in
      cc (d.3, f.3)

  pub stands_some : (t a : ℕ) → (v : V) × Stands (W t) a v
  stands_some t a = go ((W t).val a) refl
    where
      go : (c : Cell V) → (W t).val a ≡ c → (v : V) × Stands (W t) a v
      go (Value v) e = (v, inl e)
      go (Id i) e = let k = marked H t a i.process i.tag e in (k.value, inr (i.process, i.tag, e, k.keeps))

  -- what a location stands for stays, or is committed
  pub stands_on : (t a : ℕ) (v : V) → Stands (W t) a v → Stands (W (suc t)) a v ⊎ ((p : ℕ) × (u : V) × (H.event t ≡ commit p a u))
  stands_on t a v (inl k) = go (val_step H t a)
    where
      go : ValStep (H.event t) (W t) (W (suc t)) a → Stands (W (suc t)) a v ⊎ ((p : ℕ) × (u : V) × (H.event t ≡ commit p a u))
      go (v_same e) = inl (inl (e ∙ k))
      go (v_mark p u e f g i j st tg sv) = let x : (W (suc t)).saved p ≡ Value v = cc in inl (inr (p, (W t).tag p, j, x))
      go (v_commit p u e f g i j l) = inr (p, u, e)
      go (v_reset r q τ u e f g i) = clash (cc)
  stands_on t a v (inr d) = go (val_step H t a)
    where
      go : ValStep (H.event t) (W t) (W (suc t)) a → Stands (W (suc t)) a v ⊎ ((p : ℕ) × (u : V) × (H.event t ≡ commit p a u))
      go (v_same e) = inl (inr (d.0, d.1, e ∙ d.2, saved_step H t a d.0 d.1 d.2 ∙ d.3))
      go (v_mark p u e f g i j st tg sv) = clash (cc d.2)
      go (v_commit p u e f g i j l) = inr (p, u, e)
      go (v_reset r q τ u e f g i) =
          let y : q ≡ d.0 = one_process ((W t).val a) q d.0 τ d.1 f d.2 in
          let x : u ≡ v = cc d.3 in
          inl (inl (i ∙ ap Value x))

  pub one_value : OneValue H
  one_value = record { some_value = stands_some; no_other = stands_once; by_commit = by_commit }
    where
      by_commit : (t a : ℕ) (u v : V) → Stands (W t) a u → Stands (W (suc t)) a v → (u ≡ v) ⊎ ((p : ℕ) × (H.event t ≡ commit p a v))
      by_commit t a u v s s' = go (stands_on t a u s)
        where
          go : Stands (W (suc t)) a u ⊎ ((p : ℕ) × (x : V) × (H.event t ≡ commit p a x)) → (u ≡ v) ⊎ ((p : ℕ) × (H.event t ≡ commit p a v))
          go (inl k) = inl (stands_once (suc t) a u v k s')
          go (inr d) =
              let x : d.1 ≡ v = stands_once (suc t) a d.1 v (inl (commit_does H t d.0 a d.1 d.2).0) s' in
              inr (d.0, d.2 ∙ ap (commit d.0 a) x)
