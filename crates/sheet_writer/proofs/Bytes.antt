-- The lowest bytes of a number, as the library writes them.
use Rattle.std.proofs.Common.{◌≡◌, ℕ, zero, suc, ◌/◌, ◌%◌, ◌^◌, ◌≤◌, ◌∷◌, take, refl, sym, ap, ◌∙◌, arith}
use Rattle.std.proofs.Math.Nat.{div-div-eq-div-mul, pow-succ'}
use Rattle.std.specs.Int.{byte_at, bytes_low_first, to_le_bytes}
use mir.Syntax.{w64}
use Rattle.sheet_format.specs.Bytes.{bytes_of}

shifted : (i n : ℕ) → byte_at (suc i) n ≡ byte_at i (n / 256)
shifted zero n = refl
shifted (suc i) n = ap (λ m. m % 256) (ap (λ m. n / m) (pow-succ' 256 (suc i)) ∙ sym (div-div-eq-div-mul n 256 (256 ^ suc i)))

all_shifted : (i k n : ℕ) → bytes_low_first (suc i) k n ≡ bytes_low_first i k (n / 256)
all_shifted i zero n = refl
all_shifted i (suc k) n = λ j. shifted i n j ∷ all_shifted (suc i) k n j

low_bytes : (width k n : ℕ) → width ≤ k → take width (bytes_low_first 0 k n) ≡ bytes_of width n
unfolding bytes_of
low_bytes zero k n h = refl
low_bytes (suc width) zero n h = absurd (omega arith)
low_bytes (suc width) (suc k) n h = ap (λ bs. n % 256 ∷ bs) (ap (take width) (all_shifted 0 k n) ∙ low_bytes width k (n / 256) (omega arith))

pub lowest_bytes : (width n : ℕ) → width ≤ 8 → take width (to_le_bytes w64 n) ≡ bytes_of width n
lowest_bytes width n h = low_bytes width 8 n h
