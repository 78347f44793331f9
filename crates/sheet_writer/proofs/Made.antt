-- The bytes of an operation, of a header and of a sheet, as they are put one after another.
use Rattle.std.proofs.Common.{◌≡◌, ℕ, ◌+◌, ◌-◌, ◌*◌, ◌%◌, ◌<◌, List, [], ◌∷◌, ◌++◌, map, length, vec_items, sym, ap, ◌∙◌, arith}
use Rattle.std.proofs.lemmas.List.{append-nil, length-append}
use Rattle.std.proofs.lemmas.List.Concat.{flat_map_single}
use Rattle.std.proofs.lemmas.List.Folds.{flat_map-map}
use Rattle.std.specs.List.{flat_map, AllByRecursion}
use Rattle.sheet_format.specs.declared.parts.Operation.{Operation}
use Rattle.sheet_format.specs.declared.parts.ScriptItem.{ScriptItem}
use Rattle.sheet_format.specs.declared.parts.Sheet.{Sheet}
use Rattle.sheet_format.specs.Bytes.{bytes_of}
use Rattle.operation.specs.Kinds.{kind_number}
use Rattle.sheet_format.specs.Parts.{act_of, Op, op_of, Parts, parts_of, Fitting, AllFitting}
use Rattle.sheet_format.specs.Format.{act_kind, act_count, item_byte, new_code, script_at, total, operands_bytes, op_bytes, value_bytes, header_bytes, sheet_bytes}
use Rattle.sheet_format.proofs.Fields.{bytes_length}
use Rattle.sheet_writer.specs.Puts.{field_bytes}

byte_of : (b : ℕ) → b < 256 → bytes_of 1 b ≡ b ∷ []
unfolding bytes_of
byte_of b h = let e : b % 256 ≡ b = omega arith in ap (λ n. n ∷ []) e

module _ {V : Type 0} (code : V → ℕ) where
  pub op_made : (o : Op V) (kind count new : ℕ) → kind ≡ kind_number (act_kind o.act) → count ≡ act_count o.act → new ≡ new_code code o.act
      → (kind ∷ o.process ∷ count ∷ 0 ∷ []) ++ (bytes_of 8 new ++ operands_bytes code o.act) ≡ op_bytes code o
  unfolding op_bytes
  op_made o kind count new p q r = λ i. p i ∷ o.process ∷ q i ∷ 0 ∷ (bytes_of 8 (r i) ++ operands_bytes code o.act)

  pub op_length : (o : Op V) → length (op_bytes code o) ≡ 12 + length (operands_bytes code o.act)
  unfolding op_bytes
  op_length o =
      let new = bytes_of 8 (new_code code o.act) in
      omega (arith, bytes_length 8 (new_code code o.act), length-append new (operands_bytes code o.act))

  -- the header as numbers, each with the count of its bytes
  pub header_made : (p : Parts V) (number kind locations processes items end : ℕ) → number < 256 → kind ≡ number → locations ≡ length p.initial → processes ≡ p.processes
      → items ≡ length p.script → end ≡ total p
      → flat_map field_bytes ((1, 1) ∷ (1, kind) ∷ (2, locations) ∷ (2, processes) ∷ (2, items) ∷ (4, 24) ∷ (4, 24 + 8 * locations) ∷ (4, end - items) ∷ (4, end) ∷ [])
      ≡ header_bytes code number p
  unfolding header_bytes
  header_made p number kind locations processes items end small k e q f h =
      let s : end - items ≡ script_at p = omega (arith, e, f, h) in
      (λ i. byte_of 1 (omega arith) i ++ (bytes_of 1 (k i) ++ (bytes_of 2 (e i) ++ (bytes_of 2 (q i) ++ (bytes_of 2 (f i)
      ++ (bytes_of 4 24 ++ (bytes_of 4 (24 + 8 * e i) ++ (bytes_of 4 (s i) ++ append-nil (bytes_of 4 (h i)) i))))))))
      ∙ ap (λ b. 1 ∷ (b ++ (bytes_of 2 (length p.initial) ++ (bytes_of 2 p.processes ++ (bytes_of 2 (length p.script)
      ++ (bytes_of 4 24 ++ (bytes_of 4 (24 + 8 * length p.initial) ++ (bytes_of 4 (script_at p) ++ bytes_of 4 (total p))))))))) (byte_of number small)

  -- the operations and the script as the code's types have them
  abbrev pub ops_bytes : List (Operation V) → List ℕ
  ops_bytes = flat_map (λ o. op_bytes code (op_of o))

  abbrev pub items_bytes : List ScriptItem → List ℕ
  items_bytes = flat_map (λ i. item_byte i ∷ [])

  pub sheet_made : (s : Sheet V) (number : ℕ)
      → header_bytes code number (parts_of s) ++ (flat_map (value_bytes code) (vec_items s.initial) ++ (ops_bytes (vec_items s.operations) ++ items_bytes (vec_items s.script)))
      ≡ sheet_bytes code number (parts_of s)
  unfolding sheet_bytes
  sheet_made s number = λ i. header_bytes code number (parts_of s) ++ (flat_map (value_bytes code) (vec_items s.initial)
      ++ (sym (flat_map-map (op_bytes code) op_of (vec_items s.operations)) i ++ flat_map_single item_byte (vec_items s.script) i))

  pub sheet_length : (s : Sheet V) (number : ℕ) → length (sheet_bytes code number (parts_of s))
      ≡ length (header_bytes code number (parts_of s)) + (length (flat_map (value_bytes code) (vec_items s.initial)) + (length (ops_bytes (vec_items s.operations)) + length (items_bytes (vec_items s.script))))
  sheet_length s number = sym (ap length (sheet_made s number)) ∙ simp length-append

pub all_fitting : {V : Type 0} (os : List (Operation V)) → AllByRecursion (λ o. Fitting (act_of o.action)) os → AllFitting (map op_of os)
all_fitting [] all = tt
all_fitting (o ∷ os) all = (all.0, all_fitting os all.1)
