-- What the operands of an operation have, as lists.
use Rattle.std.specs.Prelude.{ℕ, List, [], ◌∷◌, Some, Option, map, option_map, option_and_then}
use Rattle.phases.specs.declared.records.Operand.{Operand}

-- What every operand has of a thing, if each has it.
abbrev pub gather : {V A : Type 0} → (Operand V → Option A) → List (Operand V) → Option (List A)
gather has [] = Some []
gather has (o ∷ rest) = option_and_then (λ x. option_map (λ more. x ∷ more) (gather has rest)) (has o)

-- The first value of every operand, if each has one.
abbrev pub firsts : {V : Type 0} → List (Operand V) → Option (List V)
firsts = gather (λ o. o.first)

-- The location of every operand, in their order.
abbrev pub locations : {V : Type 0} → List (Operand V) → List ℕ
locations = map (λ o. o.location)
