-- A cell that fits comes back from its word, and so a table of words is a table of cells.
use Rattle.std.proofs.Common.{◌≡◌, ℕ, ◌+◌, ◌*◌, ◌/◌, ◌%◌, ◌<◌, ◌≤◌, min, true, false, cond, eqb, List, map, length, get_or, set, Some, None, Option, ap, ◌∙◌, arith}
use Rattle.std.proofs.lemmas.Bool.Decides.{nat_tests}
use Rattle.std.proofs.lemmas.List.{length-map, get_or-map, map-set}
use Rattle.memory.specs.declared.cell.Cell.{Cell}
use Rattle.memory.specs.declared.cell.Cell.TheVariants.{Value, Id}
use Rattle.memory.specs.Rules.{id_zero, cell_at, first_cells, fitting, open_limits}
use Rattle.packed_memory.specs.Words.{word_of, packed, value_or_zero, cell_of, cells_of}
use Rattle.memory.proofs.First.{first_length, first_get, first_set}

-- what a cell that was packed tells
pub packed_some : {V : Type 0} (code : V → ℕ) (top : ℕ) (c : Cell V) (w : ℕ) → Some w ≡ packed code top c → (fitting code (open_limits top) c ≡ true) × (w ≡ word_of code c)
packed_some code top c w e = (grind (arith, nat_tests), grind (arith, nat_tests))

pub packed_none : {V : Type 0} (code : V → ℕ) (top : ℕ) (c : Cell V) → None ≡ packed code top c → fitting code (open_limits top) c ≡ false
packed_none code top c e = grind (arith, nat_tests)

module _ {V : Type 0} (decoded : ℕ → Option V) (words : List ℕ) where
  pub words_length : length (cells_of decoded words) ≡ min 65535 (length words)
  words_length = first_length (map (cell_of decoded) words) ∙ ap (min 65535) (length-map words (cell_of decoded))

  pub words_get : (i : ℕ) → i < min 65535 (length words) → cell_at (cells_of decoded words) i ≡ cell_of decoded (get_or words i 0)
  words_get i h = first_get (map (cell_of decoded) words) i id_zero (omega arith) ∙ get_or-map (cell_of decoded) words i 0 id_zero (omega arith)

module _ {V : Type 0} (code : V → ℕ) (decoded : ℕ → Option V) (top : ℕ) (returned : (v : V) → decoded (code v) ≡ Some v) where
  pub unpacked : (c : Cell V) → fitting code (open_limits top) c ≡ true → cell_of decoded (word_of code c) ≡ c
  unpacked (Value v) h =
      let odd : eqb (2 * code v % 2) 1 ≡ false = grind (arith, nat_tests) in
      let half : 2 * code v / 2 ≡ code v = omega arith in
      ap (λ b. cond b (Id (record { process = 2 * code v % 65536 / 2; tag = 2 * code v / 65536 })) (value_or_zero (decoded (2 * code v / 2)))) odd ∙ ap (λ k. value_or_zero (decoded k)) half ∙ ap value_or_zero (returned v)
  unpacked (Id id) h =
      let small : id.process ≤ 32767 = grind (arith, nat_tests) in
      let w : ℕ = id.tag * 65536 + id.process * 2 + 1 in
      let odd : eqb (w % 2) 1 ≡ true = grind (arith, nat_tests) in
      let p : w % 65536 / 2 ≡ id.process = omega arith in
      let t : w / 65536 ≡ id.tag = omega arith in
      ap (λ b. cond b (Id (record { process = w % 65536 / 2; tag = w / 65536 })) (value_or_zero (decoded (w / 2)))) odd ∙ (λ k. Id (record { process = p k; tag = t k }))

  pub words_set : (words : List ℕ) (i : ℕ) (c : Cell V) → fitting code (open_limits top) c ≡ true → cells_of decoded (set words i (word_of code c)) ≡ set (cells_of decoded words) i c
  words_set words i c h = ap first_cells (map-set (cell_of decoded) words i (word_of code c) ∙ ap (set (map (cell_of decoded) words) i) (unpacked c h)) ∙ first_set (map (cell_of decoded) words) i c
