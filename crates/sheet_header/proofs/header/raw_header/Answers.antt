use Rattle.std.proofs.Common.{◌≡◌, ℕ, ◌+◌, w32, List, length, get_or, take, drop, ap, ◌∙◌, arith}
use Rattle.std.proofs.lemmas.List.{drop-drop, take_rest, length-drop}
use Rattle.sheet_format.specs.Bytes.{field}
use Rattle.std.specs.Int.{from_le_bytes}
use Rattle.sheet_format.proofs.Fields.{field_four, field_cut}
use Rattle.sheet_header.proofs.header.raw_header.Goals as goal

-- what stands four bytes past a place
past_four : (bytes : List ℕ) (at : ℕ) (rest rest' : List ℕ) → rest ≡ drop at bytes → rest' ≡ drop 4 rest → rest' ≡ drop (at + 4) bytes
past_four bytes at rest rest' r e = e ∙ ap (drop 4) r ∙ drop-drop 4 at bytes

-- the first four bytes of what stands at a place are a field
first_four : (bytes : List ℕ) (at n : ℕ) (rest four : List ℕ) → rest ≡ drop at bytes → four ≡ take 4 rest → n ≡ from_le_bytes w32 four → n ≡ field bytes at 4
first_four bytes at n rest four r f e = e ∙ field_four four ∙ field_cut bytes four at 4 (f ∙ ap (take 4) r)

pub returns : goal.returns
unfolding field
returns c =
    let bytes = c.args.bytes.now in
    let at8 = take_rest bytes 8 in
    let at12 = past_four bytes 8 _ _ at8 c.in_ok-values.ensures.cases.1 in
    let at16 = past_four bytes 12 _ _ at12 c.in_ok-operations.ensures.cases.1 in
    let at20 = past_four bytes 16 _ _ at16 c.in_ok-script.ensures.cases.1 in
    let locations : c.from_le_bytes.result ≡ field bytes 2 2 = (let e = c.from_le_bytes.ensures in omega arith) in
    let processes : c.from_le_bytes-2.result ≡ field bytes 4 2 = (let e = c.from_le_bytes-2.ensures in omega arith) in
    let items : c.from_le_bytes-3.result ≡ field bytes 6 2 = (let e = c.from_le_bytes-3.ensures in omega arith) in
    let values = first_four bytes 8 _ _ _ at8 c.in_ok-values.ensures.cases.0 c.from_le_bytes-4.ensures in
    let operations = first_four bytes 12 _ _ _ at12 c.in_ok-operations.ensures.cases.0 c.from_le_bytes-5.ensures in
    let script = first_four bytes 16 _ _ _ at16 c.in_ok-script.ensures.cases.0 c.from_le_bytes-6.ensures in
    let total = first_four bytes 20 _ _ _ at20 c.in_ok-total.ensures.cases.0 c.from_le_bytes-7.ensures in (
      omega (arith, c.in-len8-up.len_at_least, ap length at8, length-drop 8 bytes, c.in_ok-values.ensures.cases.2, c.in_ok-operations.ensures.cases.2, c.in_ok-script.ensures.cases.2, c.in_ok-total.ensures.cases.2),
      λ i. record { version = get_or bytes 0 0; kind = get_or bytes 1 0; locations = locations i; processes = processes i; items = items i; values = values i; operations = operations i; script = script i; total = total i },
    )
