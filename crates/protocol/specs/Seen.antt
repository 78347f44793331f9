-- What a SNAPSHOT has seen of its locations at its effect step.
use Rattle.std.specs.Prelude.{◌≡◌, ℕ, ◌≤◌, ◌⊎◌, List, [], ◌∷◌, ◌≢◌}
use Rattle.memory.specs.declared.cell.Cell.TheVariants.{Value}
use Rattle.protocol.specs.History.{History}
use Rattle.protocol.specs.Operations.{Expected}

-- The location was read as the value, not after the step; its tid was the same cell at a look before that and at one
-- after the step.
pub record Seen {V : Type 0} (history : History V) (step location : ℕ) (value : V) : Type 0 where
  pub tid_look : ℕ
  pub value_look : ℕ
  pub tid_look_again : ℕ
  pub tid_first : tid_look ≤ value_look
  pub value_next : value_look ≤ step
  pub tid_last : step ≤ tid_look_again
  pub same_tid : (history.at tid_look_again).tid location ≡ (history.at tid_look).tid location
  pub found : (history.at value_look).val location ≡ Value value

-- Each location was seen with its value, in turn.
abbrev pub AllSeen : {V : Type 0} → History V → (step : ℕ) → List ℕ → List V → Type 0
AllSeen history step [] [] = Unit {0}
AllSeen history step [] (value ∷ more) = ⊥
AllSeen history step (location ∷ others) [] = ⊥
AllSeen history step (location ∷ others) (value ∷ more) =
    Seen history step location value × AllSeen history step others more

-- Each location was seen with its expected value.
abbrev pub SeenExpected : {V : Type 0} → History V → (step : ℕ) → List (Expected V) → Type 0
SeenExpected history step [] = Unit {0}
SeenExpected history step (one ∷ more) =
    Seen history step one.location one.value × SeenExpected history step more

-- Some location was seen with another value than its expected one.
abbrev pub SeenDiffering : {V : Type 0} → History V → (step : ℕ) → List (Expected V) → Type 0
SeenDiffering history step [] = ⊥
SeenDiffering {V = V} history step (one ∷ more) =
    ((value : V) × Seen history step one.location value × (value ≢ one.value))
    ⊎ SeenDiffering history step more
