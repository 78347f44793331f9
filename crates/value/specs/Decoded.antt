-- That the code of a number or a link gives that value back, and that codes past the greatest give none.
-- The laws of the two kinds cite number_at, link_at and nothing_at.
use Rattle.std.specs.Prelude.{◌≡◌, ℕ, ◌+◌, ◌*◌, ◌/◌, ◌%◌, ◌^◌, ◌<◌, ◌≤◌, Bool, cond, Some, None, ◌==◌, refl}
use Rattle.std.proofs.Common.{ap, subst, arith}
use Rattle.std.proofs.Math.Bridge.{le_prop}
use Rattle.std.proofs.Math.Decide.{dec_lt}
use Rattle.value.specs.declared.link.Link.{Link}
use Rattle.value.specs.declared.link.Link.TheVariants.{Nothing, To}
use Rattle.value.specs.Codes.{number_by, number_of, node_by, link_by, link_of}
use Rattle.std.proofs.lemmas.Bool.Decides.{nat_tests}

number_by_at : (c : ℕ) (d : Dec (c < 2 ^ 63)) (p : c < 2 ^ 63) → number_by c d ≡ Some (record { value = c; small = p })
number_by_at c (yes q) p = ap (λ (x : c < 2 ^ 63). Some (record { value = c; small = x })) (le_prop q p)
number_by_at c (no n) p = absurd (n p)

-- a code below 2^63 gives the number of that value
pub number_at : (c : ℕ) (p : c < 2 ^ 63) → number_of c ≡ Some (record { value = c; small = p })
number_at c p = number_by_at c (dec_lt c (2 ^ 63)) p

number_by_past : (c : ℕ) (d : Dec (c < 2 ^ 63)) → 2 ^ 63 ≤ c → number_by c d ≡ None
number_by_past c (yes q) h = absurd (omega arith)
number_by_past c (no n) h = refl

-- a code from 2^63 on gives no number
pub number_past : (c : ℕ) → 2 ^ 63 ≤ c → number_of c ≡ None
number_past c h = number_by_past c (dec_lt c (2 ^ 63)) h

made_node : (n : ℕ) (b : Bool) → 0 < n → n < 65536 → Link
made_node n b p q = To (record { number = n; deleted = b; named = p; fits = q })

node_ext : (n m : ℕ) (b d : Bool) (p : 0 < n) (q : n < 65536) (p' : 0 < m) (q' : m < 65536) → n ≡ m → b ≡ d → made_node n b p q ≡ made_node m d p' q'
unfolding made_node
node_ext n m b d p q p' q' e f =
    let P : ℕ → Type 0 = λ k. (x : 0 < k) (y : k < 65536) → made_node n b p q ≡ made_node k d x y in
    subst P e (λ x y. λ i. To (record { number = n; deleted = f i; named = le_prop p x i; fits = le_prop q y i })) p' q'

node_by_at : (c : ℕ) (d : Dec (0 < c / 2)) (e : Dec (c / 2 < 65536)) (n : ℕ) (b : Bool) (p : 0 < n) (q : n < 65536) → c ≡ 2 * n + cond b 1 0 → node_by c d e ≡ Some (made_node n b p q)
unfolding made_node
node_by_at c (yes x) (yes y) n b p q h = ap Some (node_ext (c / 2) n (c % 2 == 1) b x y p q (grind (arith, nat_tests)) (grind (arith, nat_tests)))
node_by_at c (yes x) (no y) n b p q h = absurd (y (grind (arith, nat_tests)))
node_by_at c (no x) e n b p q h = absurd (x (grind (arith, nat_tests)))

-- the code 2 * number + mark gives the node of that number, which is from 1 to 65,535, with that mark
pub link_at : (c : ℕ) (n : ℕ) (b : Bool) (p : 0 < n) (q : n < 65536) → c ≡ 2 * n + cond b 1 0 → link_of c ≡ Some (To (record { number = n; deleted = b; named = p; fits = q }))
unfolding made_node
link_at c n b p q h = elim (dec_lt c 1) as (λ d. link_by c d ≡ Some (made_node n b p q)) [ yes x ↦ absurd (omega arith) | no x ↦ node_by_at c (dec_lt 0 (c / 2)) (dec_lt (c / 2) 65536) n b p q h ]

-- code 0 gives the link that is nothing
pub nothing_at : link_of 0 ≡ Some Nothing
nothing_at = elim (dec_lt 0 1) as (λ d. link_by 0 d ≡ Some Nothing) [ yes x ↦ refl | no x ↦ absurd (x (omega arith)) ]

-- a code past 131,071 gives no link
pub link_past : (c : ℕ) → 131071 < c → link_of c ≡ None
link_past c h = elim (dec_lt c 1) as (λ d. link_by c d ≡ None) [
  | yes x ↦ absurd (omega arith)
  | no x ↦ elim (dec_lt 0 (c / 2)) as (λ d. node_by c d (dec_lt (c / 2) 65536) ≡ None) [
    | no y ↦ refl
    | yes y ↦ elim (dec_lt (c / 2) 65536) as (λ e. node_by c (yes y) e ≡ None) [ no z ↦ refl | yes z ↦ absurd (omega arith) ]
  ]
]
