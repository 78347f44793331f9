-- Bytes that hold parts of a sheet read as those parts.
use Rattle.std.proofs.Common.{◌≡◌, ℕ, ◌+◌, ◌^◌, ◌<◌, true, cond, ◌&&◌, eqb, ltb, List, [], ◌∷◌, ◌++◌, map, length, drop, Some, None, Ok, Option, Result, refl, ap, ◌∙◌, arith}
use Rattle.std.specs.List.{flat_map}
use Rattle.std.specs.Option.{ok_or}
use Rattle.std.proofs.lemmas.List.{append_assoc}
use Rattle.std.proofs.lemmas.Bool.{and_from, cond-true}
use Rattle.sheet_format.specs.declared.fault.SheetRefusal.TheVariants.{WrongScript, WrongCode}
use Rattle.sheet_format.specs.declared.parts.Operand.{Operand}
use Rattle.sheet_format.specs.declared.parts.ScriptItem.{ScriptItem}
use Rattle.sheet_format.specs.declared.parts.ScriptItem.TheVariants.{Start, Step}
use Rattle.sheet_format.specs.Bytes.{field, bytes_of, AllBelow}
use Rattle.sheet_format.specs.declared.fault.SheetFault.{SheetFault}
use Rattle.sheet_format.specs.Faults.{fault}
use Rattle.sheet_format.specs.Parts.{Operands}
use Rattle.sheet_format.specs.Format.{operand_bytes, item_byte, location_bytes, expected_bytes, value_bytes}
use Rattle.sheet_format.specs.Reading.{item_of, unused, locations_from, row_answer, item_answer, script_answer, value_answer, values_answer, operand_answer, operands_answer}
use Rattle.sheet_format.specs.Writing.{writable, script_end}
use Rattle.sheet_format.proofs.Fields.{bytes_length, byte_at, drop_past, next, peel, field_read}
use Rattle.sheet_format.proofs.Steps.{passed, gather, go_on}
use Rattle.sheet_format.proofs.Sizes.{operand_length}

item_read : (i : ScriptItem) → writable i ≡ true → item_of (item_byte i) ≡ Some i
item_read Start h = refl
item_read (Step p) h = cond-true (ltb p 32) (Some (Step p)) (cond (eqb p 255) (Some Start) None) h

module _ (bytes : List ℕ) where
  -- items that stand one after another: `stood` gives their bytes
  module _ {X : Type 0} (one : ℕ → Result X SheetFault) (w : ℕ) (stood : List X → List ℕ) (Good : ℕ → List X → Type 0)
      (each : (at : ℕ) (x : X) (xs : List X) (rest : List ℕ) → Good at (x ∷ xs) → drop at bytes ≡ stood (x ∷ xs) ++ rest
      → (one at ≡ Ok x) × (drop (at + w) bytes ≡ stood xs ++ rest) × Good (at + w) xs) where
    items_read : (at : ℕ) (xs : List X) (rest : List ℕ) → Good at xs → drop at bytes ≡ stood xs ++ rest → row_answer one w at (length xs) ≡ Ok xs
    unfolding row_answer
    items_read at [] rest g e = refl
    items_read at (x ∷ xs) rest g e =
        let a = each at x xs rest g e in
        gather (one at) (row_answer one w (at + w) (length xs)) x xs a.0 (items_read (at + w) xs rest a.2 a.1)

  pub script_read : (at end : ℕ) (items : List ScriptItem) (rest : List ℕ) → script_end at items ≡ Ok end → drop at bytes ≡ map item_byte items ++ rest → script_answer bytes at (length items) ≡ Ok items
  unfolding script_end
  script_read at end items rest = items_read (item_answer bytes) 1 (map item_byte) (λ k is. script_end k is ≡ Ok end)
      (λ k i is r h e.
      let p = passed (writable i) (fault WrongScript k) (script_end (k + 1) is) end h in
      let b = byte_at bytes k (item_byte i) (map item_byte is ++ r) e in (
        ap (λ x. ok_or (item_of x) (fault WrongScript k)) b ∙ ap (λ x. ok_or x (fault WrongScript k)) (item_read i p.0),
        drop_past bytes k 1 (item_byte i ∷ (map item_byte is ++ r)) e,
        p.1,
      )) at items rest

  -- one operand
  operand_read : (at a c : ℕ) (rest : List ℕ) → a < 65536 → c < 2 ^ 64 → drop at bytes ≡ operand_bytes a c ++ rest → (field bytes at 2 ≡ a) × (field bytes (at + 2) 8 ≡ c) × (drop (at + 10) bytes ≡ rest)
  operand_read at a c rest h k e =
      let p = peel bytes at 2 (bytes_of 2 a) (bytes_of 8 c) rest (bytes_length 2 a) e in
      (field_read bytes at 2 a (bytes_of 8 c ++ rest) h p.0, field_read bytes (at + 2) 8 c rest k p.1, next bytes at 10 (operand_bytes a c) rest (operand_length a c) e)

  module _ {V : Type 0} (code : V → ℕ) where
    pub locations_read : (at : ℕ) (ls : List ℕ) (rest : List ℕ) → AllBelow 65536 ls → drop at bytes ≡ flat_map (location_bytes code) ls ++ rest → (unused bytes at (length ls) ≡ true) × (locations_from bytes at (length ls) ≡ ls)
    unfolding unused locations_from
    locations_read at [] rest h e = (refl, refl)
    locations_read at (a ∷ ls) rest h e =
        let more = flat_map (location_bytes code) ls in
        let one = operand_read at a 0 (more ++ rest) h.0 (omega arith) (e ∙ append_assoc (location_bytes code a) more rest) in
        let ih = locations_read (at + 10) ls rest h.1 one.2 in (
          and_from (eqb (field bytes (at + 2) 8) 0) (unused bytes (at + 10) (length ls)) (ap (λ c. eqb c 0) one.1) ih.0,
          λ i. one.0 i ∷ ih.1 i,
        )

    -- the one location of an operation that names no more
    pub location_read : (at a : ℕ) (rest : List ℕ) → a < 65536 → drop at bytes ≡ location_bytes code a ++ rest → (unused bytes at 1 ≡ true) × (field bytes at 2 ≡ a)
    unfolding unused
    location_read at a rest h e =
        let one = operand_read at a 0 rest h (omega arith) e in
        (ap (λ c. eqb c 0 && true) one.1, one.0)

    module _ (decode : ℕ → Option V) (back : (v : V) → decode (code v) ≡ Some v) (small : (v : V) → code v < 2 ^ 64) where
      pub value_by : (at : ℕ) (v : V) → field bytes at 8 ≡ code v → value_answer decode bytes at ≡ Ok v
      value_by at v e = ap (λ c. ok_or (decode c) (fault WrongCode at)) e ∙ ap (λ o. ok_or o (fault WrongCode at)) (back v)

      pub values_read : (at : ℕ) (vs : List V) (rest : List ℕ) → drop at bytes ≡ flat_map (value_bytes code) vs ++ rest → values_answer decode bytes at (length vs) ≡ Ok vs
      values_read at vs rest e = items_read (value_answer decode bytes) 8 (flat_map (value_bytes code)) (λ _ _. Unit {0})
          (λ k v vs r _ e.
          let d = peel bytes k 8 (value_bytes code v) (flat_map (value_bytes code) vs) r (bytes_length 8 (code v)) e in
          (value_by k v (field_read bytes k 8 (code v) _ (small v) d.0), d.1, tt)) at vs rest tt e

      pub operands_read : (at : ℕ) (os : List (Operand V)) (rest : List ℕ) → Operands os → drop at bytes ≡ flat_map (expected_bytes code) os ++ rest → operands_answer decode bytes at (length os) ≡ Ok os
      operands_read = items_read (operand_answer decode bytes) 10 (flat_map (expected_bytes code)) (λ _. Operands)
          (λ at o os rest h e.
          let more = flat_map (expected_bytes code) os in
          let one = operand_read at o.location (code o.expected) (more ++ rest) h.0 (small o.expected) (e ∙ append_assoc (expected_bytes code o) more rest) in (
            go_on (value_answer decode bytes (at + 2)) (λ v. Ok (record { location = field bytes at 2; expected = v })) o.expected (Ok o)
                (value_by (at + 2) o.expected one.1) (λ i. Ok (record { location = one.0 i; expected = o.expected })),
            one.2,
            h.1,
          ))
