use Rattle.std.proofs.Common.{◌≡◌, ℕ, zero, suc, ◌+◌, List, Ok, sym, refl, ap, ◌∙◌, rules}
use Rattle.sheet_format.specs.Bytes.{field}
use Rattle.sheet_format.specs.Faults.{in_front}
use Rattle.sheet_format.specs.Reading.{locations_from, row_answer}
use Rattle.sheet_format.proofs.Steps.{ok_same}
use Rattle.sheet_reader.proofs.read_operation.read_action.Goals as goal

-- locations are read without a refusal
located : (bytes : List ℕ) (at n : ℕ) → row_answer (λ k. Ok (field bytes k 2)) 10 at n ≡ Ok (locations_from bytes at n)
unfolding row_answer locations_from
located bytes at zero = refl
located bytes at (suc n) = ap (in_front (field bytes at 2)) (located bytes (at + 10) n)

pub returns-in_err-locations-in-Snapshot : goal.returns-in_err-locations-in-Snapshot
returns-in_err-locations-in-Snapshot g c =
    let read = located c.args.bytes.now (c.args.at + 12) c.from-count.result in
    search (rules, read)

pub returns-in_ok-locations-in-Snapshot : goal.returns-in_ok-locations-in-Snapshot
returns-in_ok-locations-in-Snapshot g c =
    let bytes = c.args.bytes.now in
    let read = ok_same _ _ (sym (located bytes (c.args.at + 12) _) ∙ c.in_ok-locations-in-Snapshot.ensures.answer) in
    search (rules, read)
