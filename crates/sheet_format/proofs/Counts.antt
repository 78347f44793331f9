-- Tests on counts: what they say, and when they hold.
use Rattle.std.proofs.Common.{◌≡◌, ℕ, ◌≤◌, true, leb, arith}
use Rattle.std.proofs.lemmas.Bool.{and_parts, leb-true}
use Rattle.std.proofs.lemmas.Bool.Decides.{nat_tests}
use Rattle.operation.specs.declared.kind.OperationKind.{OperationKind}
use Rattle.operation.specs.declared.kind.OperationKind.TheVariants.{Read, Ll, Sc, Snapshot, Kcss}
use Rattle.operation.specs.Kinds.{counted}
use Rattle.sheet_format.specs.Reading.{within}

-- a count of its kind is 1 to 16
pub counted_range : (k : OperationKind) (n : ℕ) → counted k n ≡ true → (1 ≤ n) × (n ≤ 16)
counted_range Read n e = (grind (arith, nat_tests), grind (arith, nat_tests))
counted_range Ll n e = (grind (arith, nat_tests), grind (arith, nat_tests))
counted_range Sc n e = (grind (arith, nat_tests), grind (arith, nat_tests))
counted_range Snapshot n e = (grind (arith, nat_tests), grind (arith, nat_tests))
counted_range Kcss n e = (grind (arith, nat_tests), grind (arith, nat_tests))

pub true_within : (low high n : ℕ) → low ≤ n → n ≤ high → within low high n ≡ true
true_within low high n h k = grind (arith, nat_tests)

pub within_true : (low high n : ℕ) → within low high n ≡ true → (low ≤ n) × (n ≤ high)
within_true low high n h =
    let p = and_parts (leb low n) (leb n high) h in
    (leb-true low n p.0, leb-true n high p.1)
