-- A memory that has the first 65,535 cells of a table: what a change of the table means for it.
use Rattle.std.proofs.Common.{◌≡◌, ℕ, ◌<◌, Bool, true, false, cond, List, length, set, Ok, Result, sym, refl, ap, ◌∙◌}
use Rattle.memory.specs.declared.cell.Cell.{Cell}
use Rattle.memory.specs.declared.fault.MemoryFault.{MemoryFault}
use Rattle.memory.specs.declared.limits.Limits.{Limits}
use Rattle.memory.specs.Cells.{same}
use Rattle.memory.specs.Rules.{cell_at, first_cells, fitting, store_answer, store_after, cas_answer, cas_after, table_stored, table_swapped}
use Rattle.memory.proofs.First.{first_at, first_set}
use Rattle.memory.proofs.Admitting.{store_yes, cas_told}

pub at_cond : {X Y : Type 0} (f : X → Y) (b : Bool) (x y : X) → f (cond b x y) ≡ cond b (f x) (f y)
at_cond f true x y = refl
at_cond f false x y = refl

-- what is to be shown of a Store that is answered r and leaves the table t
pub record Stored {V : Type 0} (code : V → ℕ) (limits : Limits) (table : List (Cell V)) (i : ℕ) (c : Cell V) (r : Result (Unit {0}) MemoryFault) (t : List (Cell V)) : Type 0 where
  pub answer : r ≡ store_answer code limits (first_cells table) i c
  pub after : first_cells t ≡ store_after code limits (first_cells table) i c
  pub whole : t ≡ table_stored r table i c

-- and of a CAS
pub record Swapped {V : Type 0} (code : V → ℕ) (limits : Limits) (table : List (Cell V)) (i : ℕ) (old c : Cell V) (r : Result Bool MemoryFault) (t : List (Cell V)) : Type 0 where
  pub answer : r ≡ cas_answer code limits (first_cells table) i old c
  pub after : first_cells t ≡ cas_after code limits (first_cells table) i old c
  pub whole : t ≡ table_swapped r table i c

-- a change that is inside and fits
module _ {V : Type 0} (code : V → ℕ) (limits : Limits) (table : List (Cell V)) (i : ℕ) (c : Cell V) (inside : i < length (first_cells table)) (fit : fitting code limits c ≡ true) where
  -- entry i of the table was made the cell
  pub stored : {r : Result (Unit {0}) MemoryFault} {t : List (Cell V)} → r ≡ Ok tt → t ≡ set table i c → Stored code limits table i c r t
  stored said left =
      let all = store_yes code limits (first_cells table) i c inside fit in
      record {
        answer = said ∙ sym all.0;
        after = ap first_cells left ∙ first_set table i c ∙ sym all.1;
        whole = left ∙ ap (λ r. table_stored r table i c) (sym said);
      }

  -- entry i of the table was made the cell where it was the same as the old one, and only there
  pub swapped : (old : Cell V) {r : Result Bool MemoryFault} {t : List (Cell V)} (told : Bool) → same code (cell_at (first_cells table) i) old ≡ told → r ≡ Ok told → t ≡ cond told (set table i c) table → Swapped code limits table i old c r t
  swapped old told s said left =
      let all = cas_told code limits (first_cells table) i c inside fit old in
      record {
        answer = said ∙ ap Ok (sym s) ∙ sym all.0;
        after = ap first_cells left ∙ at_cond first_cells told (set table i c) table ∙ ap (λ x. cond told x (first_cells table)) (first_set table i c) ∙ ap (λ b. cond b (set (first_cells table) i c) (first_cells table)) (sym s) ∙ sym all.1;
        whole = left ∙ ap (λ r. table_swapped r table i c) (sym said);
      }

  -- the same, told of the cell that was found there
  pub swapped_found : (old found : Cell V) {r : Result Bool MemoryFault} {t : List (Cell V)} (told : Bool) → found ≡ cell_at table i → same code found old ≡ told → r ≡ Ok told → t ≡ cond told (set table i c) table → Swapped code limits table i old c r t
  swapped_found old found told at s said left = swapped old told (ap (λ x. same code x old) (first_at table i inside ∙ sym at) ∙ s) said left
