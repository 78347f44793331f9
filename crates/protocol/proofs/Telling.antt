-- Two values of a kind can be told apart by their codes.
use Rattle.std.proofs.Common.{◌≡◌, ℕ, Some, Option, sym, ap, ◌∙◌}
use native.Mathlib.Decide.{ℕ_discrete}

pub told_apart : {V : Type 0} (coded : V → ℕ) (decoded : ℕ → Option V) → ((v : V) → decoded (coded v) ≡ Some v) → Discrete V
told_apart coded decoded returned x y =
    elim (ℕ_discrete (coded x) (coded y)) [
      | yes e ↦ yes (let q : Some x ≡ Some y = sym (returned x) ∙ ap decoded e ∙ returned y in cc)
      | no n ↦ no (λ e. n (ap coded e))
    ]
