-- How many bytes the parts of a sheet take.
use Rattle.std.proofs.Common.{◌≡◌, ℕ, ◌*◌, List, [], ◌∷◌, ◌++◌, map, length, sym, refl, mul-zero, mul-suc, arith}
use Rattle.std.specs.List.{flat_map}
use Rattle.std.proofs.lemmas.List.{length-append, length-map}
use Rattle.sheet_format.specs.Bytes.{bytes_of}
use Rattle.sheet_format.specs.Parts.{Act, read, ll, sc, snapshot, kcss, Op, Parts}
use Rattle.sheet_format.specs.Format.{act_count, size_by, sizes, total, operand_bytes, item_byte, location_bytes, expected_bytes, operands_bytes, new_code, op_bytes, value_bytes, header_bytes, sheet_bytes}
use Rattle.sheet_format.proofs.Fields.{bytes_length}

pub joined_length : {X : Type 0} (f : X → List ℕ) (k : ℕ) → ((x : X) → length (f x) ≡ k) → (xs : List X) → length (flat_map f xs) ≡ k * length xs
joined_length f k h [] = sym (mul-zero k)
joined_length f k h (x ∷ xs) = omega (arith, length-append (f x) (flat_map f xs), h x, joined_length f k h xs, mul-suc k (length xs))

pub operand_length : (a c : ℕ) → length (operand_bytes a c) ≡ 10
operand_length a c = omega (arith, length-append (bytes_of 2 a) (bytes_of 8 c), bytes_length 2 a, bytes_length 8 c)

module _ {V : Type 0} (code : V → ℕ) where
  operands_length : (a : Act V) → length (operands_bytes code a) ≡ 10 * act_count a
  operands_length (read a) = operand_length a 0
  operands_length (ll a) = operand_length a 0
  operands_length (sc a v) = operand_length a 0
  operands_length (snapshot ls) = joined_length (location_bytes code) 10 (λ a. operand_length a 0) ls
  operands_length (kcss v os) = joined_length (expected_bytes code) 10 (λ o. operand_length o.location (code o.expected)) os

  pub op_length : (o : Op V) → length (op_bytes code o) ≡ size_by (act_count o.act)
  unfolding op_bytes
  op_length o = omega (arith, length-append (bytes_of 8 (new_code code o.act)) (operands_bytes code o.act), bytes_length 8 (new_code code o.act), operands_length o.act)

  pub ops_length : (os : List (Op V)) → length (flat_map (op_bytes code) os) ≡ sizes os
  ops_length [] = refl
  ops_length (o ∷ os) = omega (arith, length-append (op_bytes code o) (flat_map (op_bytes code) os), op_length o, ops_length os)

  pub header_length : (number : ℕ) (p : Parts V) → length (header_bytes code number p) ≡ 24
  unfolding header_bytes
  header_length number p = simp (length-append, bytes_length)

  pub sheet_length : (number : ℕ) (p : Parts V) → length (sheet_bytes code number p) ≡ total p
  unfolding sheet_bytes
  sheet_length number p =
      let vs = flat_map (value_bytes code) p.initial in
      let os = flat_map (op_bytes code) p.operations in
      let is = map item_byte p.script in
      omega (
        arith,
        length-append (header_bytes code number p) (vs ++ (os ++ is)),
        length-append vs (os ++ is),
        length-append os is,
        header_length number p,
        joined_length (value_bytes code) 8 (λ v. bytes_length 8 (code v)) p.initial,
        ops_length p.operations,
        length-map p.script item_byte,
      )
