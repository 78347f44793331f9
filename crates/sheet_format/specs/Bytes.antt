-- Numbers as bytes, the lowest byte first, and bytes at the front of an output.
use Rattle.std.specs.Prelude.{ℕ, zero, suc, ◌+◌, ◌*◌, ◌/◌, ◌%◌, ◌<◌, List, [], ◌∷◌, ◌++◌, length, drop, slice_index}
use Rattle.std.specs.List.{AllByRecursion}

-- the number in the `width` bytes from `at` on
unfoldable pub field : List ℕ → ℕ → ℕ → ℕ
field bytes at zero = 0
field bytes at (suc width) = slice_index bytes at + 256 * field bytes (at + 1) width

-- a number in `width` bytes
unfoldable pub bytes_of : ℕ → ℕ → List ℕ
bytes_of zero n = []
bytes_of (suc width) n = n % 256 ∷ bytes_of width (n / 256)

-- an output that begins with these bytes, and is as it was past them
abbrev pub overwritten : List ℕ → List ℕ → List ℕ
overwritten bs out = bs ++ drop (length bs) out

-- each of the numbers lies below a bound
abbrev pub AllBelow : ℕ → List ℕ → Type 0
AllBelow bound = AllByRecursion (λ n. n < bound)
