-- Rows with one place changed, and ids in cells taken apart.
use Rattle.std.proofs.Common.{◌≡◌, ℕ, Bool, true, false, cond, T, eqb, ◌⊎◌, sym, refl, ap, ◌∙◌, inl, inr, arith, eqb→eq}
use native.Mathlib.Decide.{ℕ_discrete}
use lib.Dec.{eqb_refl}
use Rattle.memory.specs.declared.cell.Cell.{Cell}
use Rattle.memory.specs.declared.cell.Cell.TheVariants.{Value, Id}
use Rattle.protocol.specs.World.{id_cell, changed}

-- anything, from two constructors that are equal: `clash (cc)`
pub clash : {A : Type 0} → ◌≡◌ {A = ℕ} 0 1 → A
clash e = absurd (omega arith)

pub changed_here : {A : Type 0} (row : ℕ → A) (place : ℕ) (new : A) → changed row place new place ≡ new
unfolding changed
changed_here row place new = go (eqb place place) (eqb_refl place)
  where
    go : (b : Bool) → T b → cond b new (row place) ≡ new
    go true t = refl
    go false t = absurd t

pub changed_else : {A : Type 0} (row : ℕ → A) (place : ℕ) (new : A) (other : ℕ) → (other ≡ place → ⊥) → changed row place new other ≡ row other
unfolding changed
changed_else row place new other h = go (eqb other place) (λ t. h (eqb→eq other place t))
  where
    go : (b : Bool) → (T b → ⊥) → cond b new (row other) ≡ row other
    go true t = absurd (t tt)
    go false t = refl

-- the changed place, or another one
pub here_or_else : {A : Type 0} (row : ℕ → A) (place : ℕ) (new : A) (other : ℕ)
    → ((other ≡ place) × (changed row place new other ≡ new)) ⊎ (changed row place new other ≡ row other)
here_or_else row place new other = go (ℕ_discrete other place)
  where
    go : Dec (other ≡ place) → ((other ≡ place) × (changed row place new other ≡ new)) ⊎ (changed row place new other ≡ row other)
    go (yes e) = inl (e, ap (changed row place new) e ∙ changed_here row place new)
    go (no h) = inr (changed_else row place new other h)

abbrev process_of : {V : Type 0} → Cell V → ℕ
process_of (Value value) = 0
process_of (Id id) = id.process

abbrev tag_of : {V : Type 0} → Cell V → ℕ
tag_of (Value value) = 0
tag_of (Id id) = id.tag

-- a cell holds one id
pub one_process : {V : Type 0} (cell : Cell V) (p q s t : ℕ) → cell ≡ id_cell p s → cell ≡ id_cell q t → p ≡ q
one_process cell p q s t e f = ap process_of (sym e ∙ f)

pub one_tag : {V : Type 0} (cell : Cell V) (p q s t : ℕ) → cell ≡ id_cell p s → cell ≡ id_cell q t → s ≡ t
one_tag cell p q s t e f = ap tag_of (sym e ∙ f)
