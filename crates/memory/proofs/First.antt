-- The first 65,535 cells of a table: how many they are, what they hold, what a write makes of them.
use Rattle.std.proofs.Common.{◌≡◌, ℕ, zero, suc, ◌<◌, min, List, [], ◌∷◌, length, get_or, take, set, refl, ap, arith}
use Rattle.std.proofs.lemmas.List.{length-take, get_or-take}
use Rattle.memory.specs.declared.cell.Cell.{Cell}
use Rattle.memory.specs.Rules.{id_zero, cell_at, first_cells}

take_set : {X : Type 0} (n : ℕ) (xs : List X) (i : ℕ) (x : X) → take n (set xs i x) ≡ set (take n xs) i x
take_set zero xs i x = refl
take_set (suc n) [] i x = refl
take_set (suc n) (y ∷ ys) zero x = refl
take_set (suc n) (y ∷ ys) (suc i) x = ap (λ zs. y ∷ zs) (take_set n ys i x)

module _ {V : Type 0} (table : List (Cell V)) where
  pub first_length : length (first_cells table) ≡ min 65535 (length table)
  unfolding first_cells
  first_length = length-take 65535 table

  pub first_get : (i : ℕ) (d : Cell V) → i < 65535 → get_or (first_cells table) i d ≡ get_or table i d
  unfolding first_cells
  first_get i d h = get_or-take 65535 table i d h

  pub first_set : (i : ℕ) (c : Cell V) → first_cells (set table i c) ≡ set (first_cells table) i c
  unfolding first_cells
  first_set i c = take_set 65535 table i c

  -- what is inside the memory is inside the table, and the same cell
  pub first_below : (i : ℕ) → i < length (first_cells table) → i < length table
  first_below i h = omega (arith, first_length)

  pub first_at : (i : ℕ) → i < length (first_cells table) → cell_at (first_cells table) i ≡ cell_at table i
  first_at i h = first_get i id_zero (omega (arith, first_length))
