use Rattle.std.proofs.Common.{◌≡◌, ℕ, zero, suc, ◌+◌, ◌*◌, ◌&&◌, Bool, eqb, List, rules, refl, ap, ◌∙◌, arith}
use Rattle.std.specs.List.{list_all, range_with_len}
use Rattle.std.proofs.lemmas.Iterator.{YieldsList-from_range}
use Rattle.std.proofs.lemmas.Iterator.Search.{all_from_yields_List}
use Rattle.sheet_format.specs.Bytes.{field}
use Rattle.sheet_format.specs.Reading.{unused}
use Rattle.sheet_reader.proofs.read_operation.codes_unused.Goals as goal

module _ (bytes : List ℕ) (at : ℕ) where
  abbrev test : ℕ → Bool
  test i = eqb (field bytes (at + 10 * i + 2) 8) 0

  all_unused : (i n : ℕ) → list_all test (range_with_len i n) ≡ unused bytes (at + 10 * i) n
  unfolding unused
  all_unused i zero = refl
  all_unused i (suc n) =
      let next : at + 10 * (i + 1) ≡ at + 10 * i + 10 = omega arith in
      ap (λ rest. test i && rest) (all_unused (i + 1) n ∙ ap (λ k. unused bytes k n) next)

pub returns : goal.returns
returns c =
    let bytes = c.args.bytes.now in
    let first : c.args.at + 10 * 0 ≡ c.args.at = omega arith in
    let found : c.all.result ≡ list_all (test bytes c.args.at) (range_with_len 0 c.args.count) =
    all_from_yields_List (test bytes c.args.at) _ _ _ c.all.ensures.ran (YieldsList-from_range 0 c.args.count c.args.count refl (omega arith)) (λ i b q called. search rules) in
    found ∙ all_unused bytes c.args.at 0 c.args.count ∙ ap (λ k. unused bytes k c.args.count) first
