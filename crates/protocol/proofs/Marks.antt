-- Marks: whose they are, that they never come back, and what they keep while they stand.
use Rattle.std.proofs.Common.{◌≡◌, ℕ, zero, suc, ◌<◌, ◌≤◌, ◌⊎◌, sym, refl, ap, ◌∙◌, inl, inr, arith}
use Rattle.memory.specs.declared.cell.Cell.TheVariants.{Value}
use Rattle.protocol.specs.World.{World, id_cell}
use Rattle.protocol.specs.World.Stage.{fresh, held, armed}
use Rattle.protocol.specs.History.{History}
use Rattle.protocol.specs.Past.{Marked}
use Rattle.protocol.proofs.Changes.{clash, one_process, one_tag}
use Rattle.protocol.proofs.Time.{lasts, back}
use Rattle.protocol.proofs.Views.{ValStep, ProcessStep, val_step, process_step}
use Rattle.protocol.proofs.Views.ValStep.{v_same, v_mark, v_commit, v_reset}
use Rattle.protocol.proofs.Views.ProcessStep.{p_same, p_begin, p_save, p_mark, p_note, p_done}
use Rattle.protocol.proofs.Stages.{Put, put_lasts, busy}

module _ {V : Type 0} (H : History V) where
  abbrev W : ℕ → World V
  W t = H.at t

  -- a mark in a val is the own id of its process, put and not yet taken back
  marked_step : (t : ℕ) → ((a q τ : ℕ) → (W t).val a ≡ id_cell q τ → Marked (W t) a q τ)
      → (a q τ : ℕ) → (W (suc t)).val a ≡ id_cell q τ → Marked (W (suc t)) a q τ
  marked_step t ih a q τ m = go (val_step H t a) (process_step H t q)
    where
      kept : (W t).val a ≡ id_cell q τ → ProcessStep (H.event t) (W t) (W (suc t)) q → Marked (W (suc t)) a q τ
      kept e k = at_stage i.under_way k
        where
          i : Marked (W t) a q τ
          i = ih a q τ e

          at_stage : ((W t).stage q ≡ held a) ⊎ ((W t).stage q ≡ armed a) → ProcessStep (H.event t) (W t) (W (suc t)) q → Marked (W (suc t)) a q τ
          at_stage (inl s) (p_same x y z) = record { own_tag = x ∙ i.own_tag; under_way = inl (y ∙ s); value = i.value; keeps = z ∙ i.keeps; not_first = i.not_first }
          at_stage (inr s) (p_same x y z) = record { own_tag = x ∙ i.own_tag; under_way = inr (y ∙ s); value = i.value; keeps = z ∙ i.keeps; not_first = i.not_first }
          at_stage (inl s) (p_begin f (inl d) x y) = clash (cc)
          at_stage (inl s) (p_begin f (inr d) x y) = clash (cc)
          at_stage (inr s) (p_begin f (inl d) x y) = clash (cc)
          at_stage (inr s) (p_begin f (inr d) x y) = clash (cc)
          at_stage (inl s) (p_save v f d x y) = clash (cc)
          at_stage (inr s) (p_save v f d x y) = clash (cc)
          at_stage (inl s) (p_mark b v f d x y z) = clash (cc)
          at_stage (inr s) (p_mark b v f d x y z) = clash (cc)
          at_stage (inl s) (p_note b f d x y z) =
              let g : b ≡ a = cc in
              record { own_tag = x ∙ i.own_tag; under_way = inr (y ∙ ap armed g); value = i.value; keeps = z ∙ i.keeps; not_first = i.not_first }
          at_stage (inr s) (p_note b f d x y z) = clash (cc)
          at_stage (inl s) (p_done b d x y z sv) = clash (cc)
          at_stage (inr s) (p_done b d x y z sv) =
              let g : b ≡ a = cc in
              absurd (z (ap (W (suc t)).val g ∙ m ∙ ap (id_cell q) (sym i.own_tag)))

      go : ValStep (H.event t) (W t) (W (suc t)) a → ProcessStep (H.event t) (W t) (W (suc t)) q → Marked (W (suc t)) a q τ
      go (v_same e) k = kept (sym e ∙ m) k
      go (v_mark p v e f g h j st tg sv) k =
          let x : p ≡ q = one_process ((W (suc t)).val a) p q ((W t).tag p) τ j m in
          let y : (W t).tag p ≡ τ = one_tag ((W (suc t)).val a) p q ((W t).tag p) τ j m in
          let l : 1 ≤ τ = elim (busy H t p) [ inl i ↦ clash (cc) | inr i ↦ omega arith ] in
          let n : (W (suc t)).tag q ≡ τ = cc in
          let s : (W (suc t)).stage q ≡ held a = cc in
          let r : (W (suc t)).saved q ≡ Value v = cc in
          record { own_tag = n; under_way = inl s; value = v; keeps = r; not_first = l }
      go (v_commit p v e f g h i j) k = clash (cc)
      go (v_reset r p σ v e f g h) k = clash (cc)

  pub marked : (t a q τ : ℕ) → (W t).val a ≡ id_cell q τ → Marked (W t) a q τ
  marked zero a q τ m = let k = H.opened.vals a in clash (cc)
  marked (suc t) a q τ m = marked_step t (marked t) a q τ m

  pub put_of : (s a q τ : ℕ) → (W s).val a ≡ id_cell q τ → Put (W s) q τ
  put_of s a q τ m = let k = marked s a q τ m in go k.own_tag k.under_way
    where
      go : (W s).tag q ≡ τ → ((W s).stage q ≡ held a) ⊎ ((W s).stage q ≡ armed a) → Put (W s) q τ
      go n (inl e) = (omega arith, λ i j. clash (cc))
      go n (inr e) = (omega arith, λ i j. clash (cc))

  -- a mark that stands at a later time than its put stood all along
  pub stood_since : (s t a q τ : ℕ) → Put (W s) q τ → (W t).val a ≡ id_cell q τ → (u : ℕ) → s ≤ u → u ≤ t → (W u).val a ≡ id_cell q τ
  stood_since s t a q τ h m = back (λ x. (W x).val a ≡ id_cell q τ) s t step m
    where
      step : (x : ℕ) → s ≤ x → x < t → (W (suc x)).val a ≡ id_cell q τ → (W x).val a ≡ id_cell q τ
      step x i j k = go (val_step H x a)
        where
          go : ValStep (H.event x) (W x) (W (suc x)) a → (W x).val a ≡ id_cell q τ
          go (v_same e) = sym e ∙ k
          go (v_mark p u e f g l o st tg sv) =
              let y : p ≡ q = one_process ((W (suc x)).val a) p q ((W x).tag p) τ o k in
              let y' : (W x).tag p ≡ τ = one_tag ((W (suc x)).val a) p q ((W x).tag p) τ o k in
              let z : τ ≡ (W x).tag q = cc in
              let n : (W x).stage q ≡ fresh = cc in
              absurd ((put_lasts H q τ s x i h).1 z n)
          go (v_commit p u e f g l o n) = clash (cc)
          go (v_reset r p σ u e f g l) = clash (cc)

  -- while a mark stays, the saved value of its process does
  pub saved_step : (t a q τ : ℕ) → (W t).val a ≡ id_cell q τ → (W (suc t)).saved q ≡ (W t).saved q
  saved_step t a q τ m = go (marked t a q τ m).under_way (process_step H t q)
    where
      go : ((W t).stage q ≡ held a) ⊎ ((W t).stage q ≡ armed a) → ProcessStep (H.event t) (W t) (W (suc t)) q → (W (suc t)).saved q ≡ (W t).saved q
      go s (p_same x y z) = z
      go (inl s) (p_begin f (inl d) x y) = clash (cc)
      go (inl s) (p_begin f (inr d) x y) = clash (cc)
      go (inr s) (p_begin f (inl d) x y) = clash (cc)
      go (inr s) (p_begin f (inr d) x y) = clash (cc)
      go (inl s) (p_save v f d x y) = clash (cc)
      go (inr s) (p_save v f d x y) = clash (cc)
      go s (p_mark b v f d x y z) = z
      go s (p_note b f d x y z) = z
      go s (p_done b d x y z sv) = sv

  pub saved_stays : (s t a q τ : ℕ) → s ≤ t → (W s).val a ≡ id_cell q τ → (W t).val a ≡ id_cell q τ → (W t).saved q ≡ (W s).saved q
  saved_stays s t a q τ h m n =
      lasts (λ x. x ≤ t → (W x).saved q ≡ (W s).saved q) s
      (λ x i ih j. saved_step x a q τ (stood_since s t a q τ (put_of s a q τ m) n x i (omega arith)) ∙ ih (omega arith)) (λ i. refl) t h (omega arith)
