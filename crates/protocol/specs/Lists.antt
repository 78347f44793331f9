-- Lists of finished operations, and their order by effect.
use Rattle.std.specs.Prelude.{◌≡◌, ◌<◌, cond, ◌⊎◌, List, [], ◌∷◌, ◌≢◌, nat_le}
use Rattle.protocol.specs.Operations.{Finished}

infix 4 ◌∈◌
-- The operation is in the list.
abbrev pub ◌∈◌ : {V : Type 0} → Finished V → List (Finished V) → Type 0
done ∈ [] = ⊥
done ∈ (one ∷ more) = (done ≡ one) ⊎ (done ∈ more)

-- No operation is in the list twice.
abbrev pub Once : {V : Type 0} → List (Finished V) → Type 0
Once [] = Unit {0}
Once (one ∷ more) = (one ∈ more → ⊥) × Once more

-- No two places of the list have operations with the same last step.
abbrev pub Apart : {V : Type 0} → List (Finished V) → Type 0
Apart [] = Unit {0}
Apart {V = V} (one ∷ more) =
    ((other : Finished V) → other ∈ more → one.last ≢ other.last) × Apart more

-- The operation put before the first whose effect step is not lower.
abbrev pub insert : {V : Type 0} → Finished V → List (Finished V) → List (Finished V)
insert done [] = done ∷ []
insert done (one ∷ more) =
    cond (nat_le done.effect one.effect) (done ∷ one ∷ more) (one ∷ insert done more)

-- The operations, lowest effect step first.
abbrev pub by_effect : {V : Type 0} → List (Finished V) → List (Finished V)
by_effect [] = []
by_effect (one ∷ more) = insert one (by_effect more)

-- Each effect step is below all that follow in the list.
abbrev pub Ascending : {V : Type 0} → List (Finished V) → Type 0
Ascending [] = Unit {0}
Ascending {V = V} (one ∷ more) =
    ((other : Finished V) → other ∈ more → one.effect < other.effect) × Ascending more
