-- What it tells that a call was not refused, and what the rules say then and on a refusal.
use Rattle.std.proofs.Common.{◌≡◌, ℕ, ◌<◌, ◌≤◌, Bool, true, false, cond, ◌&&◌, List, length, set, Ok, Err, sym, refl, ap, ◌∙◌, arith}
use Rattle.std.proofs.lemmas.Bool.Decides.{nat_tests}
use Rattle.std.proofs.lemmas.List.{length-set}
use Rattle.memory.specs.declared.cell.Cell.{Cell}
use Rattle.memory.specs.declared.limits.Limits.{Limits}
use Rattle.memory.specs.Cells.{same}
use Rattle.memory.specs.Faults.{no_cell, unfit}
use Rattle.memory.specs.Rules.{cell_at, fitting, admission, admitted, load_answer, store_answer, store_after, cas_answer, cas_after}

let_in : {V : Type 0} (code : V → ℕ) (limits : Limits) (n i : ℕ) (c : Cell V) (u : Unit {0}) → Ok u ≡ admission code limits n i c → (i < n) × (fitting code limits c ≡ true)
let_in code limits n i c u e = (grind (arith, nat_tests), grind (arith, nat_tests))

-- the tests of `admit_change` have been passed, with the length n of the cells and the limits l
pub passed : {V : Type 0} (code : V → ℕ) (cells : List (Cell V)) (i : ℕ) (c : Cell V) {limits l : Limits} {n : ℕ} {u : Unit {0}} → l ≡ limits → n ≡ length cells → Ok u ≡ admission code l n i c → (i < length cells) × (fitting code limits c ≡ true)
passed code cells i c {l = l} {n = n} {u = u} q p e =
    let d = let_in code l n i c u e in
    (omega arith, ap (λ k. fitting code k c) (sym q) ∙ d.1)

-- an access that is inside and fits
module _ {V : Type 0} (code : V → ℕ) (limits : Limits) (cells : List (Cell V)) (i : ℕ) (c : Cell V) (inside : i < length cells) (fit : fitting code limits c ≡ true) where
  pub store_yes : (store_answer code limits cells i c ≡ Ok tt) × (store_after code limits cells i c ≡ set cells i c)
  store_yes = (grind (arith, nat_tests), grind (arith, nat_tests))

  pub cas_told : (old : Cell V) → (cas_answer code limits cells i old c ≡ Ok (same code (cell_at cells i) old)) × (cas_after code limits cells i old c ≡ cond (same code (cell_at cells i) old) (set cells i c) cells)
  cas_told old = (grind (arith, nat_tests), grind (arith, nat_tests))

  pub cas_yes : (old : Cell V) → same code (cell_at cells i) old ≡ true → (cas_answer code limits cells i old c ≡ Ok true) × (cas_after code limits cells i old c ≡ set cells i c)
  cas_yes old e = let t = cas_told old in (t.0 ∙ ap Ok e, t.1 ∙ ap (λ b. cond b (set cells i c) cells) e)

  pub cas_no : (old : Cell V) → same code (cell_at cells i) old ≡ false → (cas_answer code limits cells i old c ≡ Ok false) × (cas_after code limits cells i old c ≡ cells)
  cas_no old e = let t = cas_told old in (t.0 ∙ ap Ok e, t.1 ∙ ap (λ b. cond b (set cells i c) cells) e)

pub load_yes : {V : Type 0} (cells : List (Cell V)) (i : ℕ) → i < length cells → load_answer cells i ≡ Ok (cell_at cells i)
load_yes cells i h = grind (arith, nat_tests)

-- an access that is outside, and one that does not fit
pub load_no : {V : Type 0} (cells : List (Cell V)) (i : ℕ) → length cells ≤ i → load_answer cells i ≡ Err (no_cell i)
load_no cells i h = grind (arith, nat_tests)

set_or_not : {X : Type 0} (b : Bool) (xs : List X) (i : ℕ) (x : X) → length (cond b (set xs i x) xs) ≡ length xs
set_or_not true xs i x = length-set xs i x
set_or_not false xs i x = refl

module _ {V : Type 0} (code : V → ℕ) (limits : Limits) (cells : List (Cell V)) (i : ℕ) (c : Cell V) where
  pub store_outside : length cells ≤ i → (store_answer code limits cells i c ≡ Err (no_cell i)) × (store_after code limits cells i c ≡ cells)
  store_outside h = (grind (arith, nat_tests), grind (arith, nat_tests))

  pub store_unfit : i < length cells → fitting code limits c ≡ false → (store_answer code limits cells i c ≡ Err (unfit i)) × (store_after code limits cells i c ≡ cells)
  store_unfit h f = (grind (arith, nat_tests), grind (arith, nat_tests))

  pub cas_outside : (old : Cell V) → length cells ≤ i → (cas_answer code limits cells i old c ≡ Err (no_cell i)) × (cas_after code limits cells i old c ≡ cells)
  cas_outside old h = (grind (arith, nat_tests), grind (arith, nat_tests))

  pub cas_unfit : (old : Cell V) → i < length cells → fitting code limits c ≡ false → (cas_answer code limits cells i old c ≡ Err (unfit i)) × (cas_after code limits cells i old c ≡ cells)
  cas_unfit old h f = (grind (arith, nat_tests), grind (arith, nat_tests))

  -- a change keeps the length
  pub store_length : {zs : List (Cell V)} → zs ≡ store_after code limits cells i c → length zs ≡ length cells
  store_length e = ap length e ∙ set_or_not (admitted code limits cells i c) cells i c

  pub cas_length : (old : Cell V) {zs : List (Cell V)} → zs ≡ cas_after code limits cells i old c → length zs ≡ length cells
  cas_length old e = ap length e ∙ set_or_not (admitted code limits cells i c && same code (cell_at cells i) old) cells i c
