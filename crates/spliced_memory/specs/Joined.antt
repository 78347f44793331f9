-- Spliced memory, seen through the two memories below it.
use Rattle.std.specs.Prelude.{◌≡◌, List, ◌++◌, length}
use Rattle.memory.specs.declared.cell.Cell.{Cell}
use Rattle.memory.specs.declared.limits.Limits.{Limits}
use Rattle.spliced_memory.specs.declared.Spliced.{Spliced}
use Rattle.memory.specs.Rules.{smaller_limits}

-- The cells of the front followed by those of the back; the first 65,535 of them are the memory's.
abbrev pub joined : {V A B : Type 0} → (A → List (Cell V)) → (B → List (Cell V)) → Spliced A B → List (Cell V)
joined front-cells back-cells m = front-cells m.front ++ back-cells m.back

-- Each limit the smaller of the two.
abbrev pub joined_limits : {A B : Type 0} → (A → Limits) → (B → Limits) → Spliced A B → Limits
joined_limits front-limits back-limits m = smaller_limits (front-limits m.front) (back-limits m.back)

-- A change leaves how many cells are the front's, and the limits of both: with the cells joined, all that is to know
-- of the two memories.
pub record SidesKept {V A B : Type 0} (front-cells : A → List (Cell V)) (front-limits : A → Limits) (back-limits : B → Limits) (before after : Spliced A B) : Type 0 where
  pub split : length (front-cells after.front) ≡ length (front-cells before.front)
  pub front_kept : front-limits after.front ≡ front-limits before.front
  pub back_kept : back-limits after.back ≡ back-limits before.back
