-- The codes of the two kinds of values, and the values of a code.
use Rattle.std.specs.Prelude.{ℕ, ◌+◌, ◌*◌, ◌/◌, ◌%◌, ◌^◌, ◌<◌, cond, Some, None, Option, ◌==◌}
use Rattle.std.proofs.Math.Decide.{dec_lt}
use Rattle.value.specs.declared.number.Number.{Number}
use Rattle.value.specs.declared.link.Link.{Link}
use Rattle.value.specs.declared.link.Link.TheVariants.{Nothing, To}

-- the number c, once it is decided whether c lies below 2^63: none where it does not
abbrev pub number_by : (c : ℕ) → Dec (c < 2 ^ 63) → Option Number
number_by c (yes p) = Some (record { value = c; small = p })
number_by c (no _) = None

-- the number whose code is c: c itself, where it is below 2^63
abbrev pub number_of : ℕ → Option Number
number_of c = number_by c (dec_lt c (2 ^ 63))

-- nothing has code 0, and a node 2 * number + mark
abbrev pub link_code : Link → ℕ
link_code Nothing = 0
link_code (To n) = 2 * n.number + cond n.deleted 1 0

-- node c / 2 with mark c % 2, once it is decided whether c / 2 is above 0 and below 65,536: else none
abbrev pub node_by : (c : ℕ) → Dec (0 < c / 2) → Dec (c / 2 < 65536) → Option Link
node_by c (yes p) (yes q) = Some (To (record { number = c / 2; deleted = (c % 2 == 1); named = p; fits = q }))
node_by c (yes p) (no _) = None
node_by c (no _) d = None

-- nothing where c is decided to lie below 1; else the node of code c, or none
abbrev pub link_by : (c : ℕ) → Dec (c < 1) → Option Link
link_by c (yes _) = Some Nothing
link_by c (no _) = node_by c (dec_lt 0 (c / 2)) (dec_lt (c / 2) 65536)

-- the link whose code is c: nothing for 0, none for 1 and past 131,071, else node c / 2 with mark c % 2
abbrev pub link_of : ℕ → Option Link
link_of c = link_by c (dec_lt c 1)
