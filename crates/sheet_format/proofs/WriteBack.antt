-- Parts of a sheet that were read stand in the bytes as they are written.
use Rattle.std.proofs.Common.{◌≡◌, ℕ, zero, suc, ◌+◌, ◌*◌, ◌≤◌, Bool, true, false, cond, eqb, ltb, List, [], ◌∷◌, ◌++◌, map, length, get_or, drop, Some, None, Ok, Option, Result, sym, refl, ap, ◌∙◌, subst, add-zero, mul-zero, mul-suc, arith}
use Rattle.std.specs.List.{flat_map}
use Rattle.std.specs.Option.{ok_or}
use Rattle.std.proofs.lemmas.List.{append_assoc, drop_more}
use Rattle.std.proofs.lemmas.Bool.{and_parts, eqb-true}
use Rattle.sheet_format.specs.declared.fault.SheetRefusal.TheVariants.{WrongScript, WrongCode}
use Rattle.sheet_format.specs.declared.parts.Operand.{Operand}
use Rattle.sheet_format.specs.declared.parts.ScriptItem.{ScriptItem}
use Rattle.sheet_format.specs.declared.parts.ScriptItem.TheVariants.{Start, Step}
use Rattle.sheet_format.specs.Bytes.{field, bytes_of, AllBelow}
use Rattle.sheet_format.specs.declared.fault.SheetFault.{SheetFault}
use Rattle.sheet_format.specs.Faults.{fault}
use Rattle.sheet_format.specs.Format.{operand_bytes, item_byte, location_bytes, expected_bytes, value_bytes}
use Rattle.sheet_format.specs.Reading.{item_of, unused, locations_from, row_answer, script_answer, value_answer, values_answer, operand_answer, operands_answer}
use Rattle.sheet_format.specs.Writing.{writable, script_end}
use Rattle.sheet_format.proofs.Fields.{field_back}
use Rattle.sheet_format.proofs.Steps.{ok_same, pass, some_ok, split, begun}

item_by : (b : ℕ) (x y : Bool) (i : ScriptItem) → ltb b 32 ≡ x → eqb b 255 ≡ y → cond x (Some (Step b)) (cond y (Some Start) None) ≡ Some i → (item_byte i ≡ b) × (writable i ≡ true)
item_by b true y i p q e = let s : Step b ≡ i = cc in subst (λ j. (item_byte j ≡ b) × (writable j ≡ true)) s (refl, p)
item_by b false true i p q e = let s : Start ≡ i = cc in subst (λ j. (item_byte j ≡ b) × (writable j ≡ true)) s (sym (eqb-true b 255 q), refl)
item_by b false false i p q e = let z : ◌≡◌ {A = ℕ} 0 1 = cc in absurd (omega arith)

item_back : (b : ℕ) (i : ScriptItem) → item_of b ≡ Some i → (item_byte i ≡ b) × (writable i ≡ true)
item_back b i e = item_by b (ltb b 32) (eqb b 255) i refl refl e

module _ (bytes : List ℕ) where
  -- two neighbours
  pub join : (a b c : ℕ) (s t : List ℕ) → drop a bytes ≡ s ++ drop b bytes → drop b bytes ≡ t ++ drop c bytes → drop a bytes ≡ (s ++ t) ++ drop c bytes
  join a b c s t p q = p ∙ ap (λ l. s ++ l) q ∙ sym (append_assoc s t (drop c bytes))

  -- the same, up to a place given in another way
  pub up_to : (a b c : ℕ) (s : List ℕ) → b ≡ c → drop a bytes ≡ s ++ drop b bytes → drop a bytes ≡ s ++ drop c bytes
  up_to a b c s h e = e ∙ ap (λ k. s ++ drop k bytes) h

  pub nothing : (a b : ℕ) → b ≡ a → drop a bytes ≡ [] ++ drop b bytes
  nothing a b h = ap (λ k. drop k bytes) (sym h)

  pub record Scripted (at n : ℕ) (items : List ScriptItem) : Type 0 where
    pub count : length items ≡ n
    pub stands : drop at bytes ≡ map item_byte items ++ drop (at + n) bytes
    pub laid : script_end at items ≡ Ok (at + n)

  pub script_back : (at n : ℕ) (items : List ScriptItem) → at + n ≤ length bytes → script_answer bytes at n ≡ Ok items → Scripted at n items
  unfolding row_answer script_end
  script_back at zero items h e =
      subst (Scripted at 0) (ok_same [] items e) (record { count = refl; stands = nothing at (at + 0) (add-zero at); laid = ap Ok (sym (add-zero at)) })
  script_back at (suc n) items h e =
      let s = split (ok_or (item_of (get_or bytes at 0)) (fault WrongScript at)) (script_answer bytes (at + 1) n) items e in
      let i = item_back (get_or bytes at 0) s.first (some_ok (item_of (get_or bytes at 0)) (fault WrongScript at) s.first s.first_is) in
      let ih = script_back (at + 1) n s.others (omega arith) s.others_are in
      let place : at + 1 + n ≡ at + suc n = omega arith in
      subst (Scripted at (suc n)) (sym s.whole) (record {
        count = ap suc ih.count;
        stands = drop_more bytes at 0 (omega arith) ∙ (λ k. sym i.0 k ∷ up_to (at + 1) (at + 1 + n) (at + suc n) (map item_byte s.others) place ih.stands k);
        laid = pass (writable s.first) (fault WrongScript at) (script_end (at + 1) s.others) _ i.1 (ih.laid ∙ ap Ok place);
      })

  -- items of one width that were read one after another
  module _ {X : Type 0} (one : ℕ → Result X SheetFault) (w : ℕ) (f : X → List ℕ)
      (back : (at : ℕ) (x : X) → at + w ≤ length bytes → one at ≡ Ok x → drop at bytes ≡ f x ++ drop (at + w) bytes) where
    abbrev Filled : ℕ → ℕ → List X → Type 0
    Filled at n xs = (length xs ≡ n) × (drop at bytes ≡ flat_map f xs ++ drop (at + w * n) bytes)

    items_back : (at n : ℕ) (xs : List X) → at + w * n ≤ length bytes → row_answer one w at n ≡ Ok xs → Filled at n xs
    unfolding row_answer
    items_back at zero xs h e = subst (Filled at 0) (ok_same [] xs e) (refl, nothing at (at + w * 0) (omega (arith, mul-zero w)))
    items_back at (suc n) xs h e =
        let k : w * suc n ≡ w * n + w = mul-suc w n in
        let s = split (one at) (row_answer one w (at + w) n) xs e in
        let ih = items_back (at + w) n s.others (omega arith) s.others_are in
        let place : at + w + w * n ≡ at + w * suc n = omega arith in
        subst (Filled at (suc n)) (sym s.whole) (
          ap suc ih.0,
          join at (at + w) (at + w * suc n) (f s.first) (flat_map f s.others) (back at s.first (omega arith) s.first_is)
              (up_to (at + w) (at + w + w * n) (at + w * suc n) (flat_map f s.others) place ih.1),
        )

  module _ (all : AllBelow 256 bytes) where
    operand_back : (at : ℕ) → at + 10 ≤ length bytes → drop at bytes ≡ operand_bytes (field bytes at 2) (field bytes (at + 2) 8) ++ drop (at + 10) bytes
    operand_back at h =
        let place : at + 2 + 8 ≡ at + 10 = omega arith in
        join at (at + 2) (at + 10) (bytes_of 2 (field bytes at 2)) (bytes_of 8 (field bytes (at + 2) 8)) (field_back bytes at 2 all (omega arith))
        (up_to (at + 2) (at + 2 + 8) (at + 10) (bytes_of 8 (field bytes (at + 2) 8)) place (field_back bytes (at + 2) 8 all (omega arith)))

    module _ {V : Type 0} (code : V → ℕ) where
      -- an operand with no expected code
      location_by : (at : ℕ) → at + 10 ≤ length bytes → eqb (field bytes (at + 2) 8) 0 ≡ true → drop at bytes ≡ location_bytes code (field bytes at 2) ++ drop (at + 10) bytes
      location_by at h e = operand_back at h ∙ ap (λ c. operand_bytes (field bytes at 2) c ++ drop (at + 10) bytes) (eqb-true (field bytes (at + 2) 8) 0 e)

      pub location_back : (at : ℕ) → at + 10 ≤ length bytes → unused bytes at 1 ≡ true → drop at bytes ≡ location_bytes code (field bytes at 2) ++ drop (at + 10) bytes
      unfolding unused
      location_back at h e = location_by at h (and_parts (eqb (field bytes (at + 2) 8) 0) true e).0

      pub locations_back : (at n : ℕ) → at + 10 * n ≤ length bytes → unused bytes at n ≡ true
          → (length (locations_from bytes at n) ≡ n) × (drop at bytes ≡ flat_map (location_bytes code) (locations_from bytes at n) ++ drop (at + 10 * n) bytes)
      unfolding unused locations_from
      locations_back at zero h e = (refl, nothing at (at + 10 * 0) (omega arith))
      locations_back at (suc n) h e =
          let u = and_parts (eqb (field bytes (at + 2) 8) 0) (unused bytes (at + 10) n) e in
          let ih = locations_back (at + 10) n (omega arith) u.1 in
          let more = flat_map (location_bytes code) (locations_from bytes (at + 10) n) in
          let place : at + 10 + 10 * n ≡ at + 10 * suc n = omega arith in
          (ap suc ih.0, join at (at + 10) (at + 10 * suc n) (location_bytes code (field bytes at 2)) more (location_by at (omega arith) u.0) (up_to (at + 10) (at + 10 + 10 * n) (at + 10 * suc n) more place ih.1))

      module _ (decode : ℕ → Option V) (kept : (c : ℕ) (v : V) → decode c ≡ Some v → code v ≡ c) where
        pub value_code : (at : ℕ) (v : V) → value_answer decode bytes at ≡ Ok v → field bytes at 8 ≡ code v
        value_code at v e = sym (kept (field bytes at 8) v (some_ok (decode (field bytes at 8)) (fault WrongCode at) v e))

        pub values_back : (at n : ℕ) (vs : List V) → at + 8 * n ≤ length bytes → values_answer decode bytes at n ≡ Ok vs → (length vs ≡ n) × (drop at bytes ≡ flat_map (value_bytes code) vs ++ drop (at + 8 * n) bytes)
        values_back = items_back (value_answer decode bytes) 8 (value_bytes code)
            (λ at v h e. field_back bytes at 8 all h ∙ ap (λ c. bytes_of 8 c ++ drop (at + 8) bytes) (value_code at v e))

        expected_back : (at : ℕ) (o : Operand V) → at + 10 ≤ length bytes → operand_answer decode bytes at ≡ Ok o → drop at bytes ≡ expected_bytes code o ++ drop (at + 10) bytes
        expected_back at o h e =
            let s = begun (value_answer decode bytes (at + 2)) (λ v. Ok (record { location = field bytes at 2; expected = v })) o e in
            let is : record { location = field bytes at 2; expected = s.value } ≡ o = ok_same _ o s.rest_is in
            operand_back at h ∙ ap (λ c. operand_bytes (field bytes at 2) c ++ drop (at + 10) bytes) (value_code (at + 2) s.value s.first_is) ∙ ap (λ x. expected_bytes code x ++ drop (at + 10) bytes) is

        pub operands_back : (at n : ℕ) (os : List (Operand V)) → at + 10 * n ≤ length bytes → operands_answer decode bytes at n ≡ Ok os → (length os ≡ n) × (drop at bytes ≡ flat_map (expected_bytes code) os ++ drop (at + 10 * n) bytes)
        operands_back = items_back (operand_answer decode bytes) 10 (expected_bytes code) expected_back
