-- What writing accepts, reading returns.
use Rattle.std.proofs.Common.{◌≡◌, ℕ, ◌+◌, ◌*◌, ◌^◌, ◌<◌, cond, eqb, leb, List, [], ◌++◌, map, length, get_or, take, drop, is_ok, Some, Ok, Option, sym, refl, ap, ◌∙◌, arith}
use Rattle.std.specs.List.{flat_map}
use Rattle.std.proofs.lemmas.List.{append-nil, take_at}
use Rattle.std.proofs.lemmas.Bool.{and_from, le-leb, eq-eqb}
use Rattle.sheet_format.specs.Bytes.{field, bytes_of, overwritten}
use Rattle.sheet_format.specs.Parts.{Parts, AllFitting}
use Rattle.sheet_format.specs.Format.{sizes, operations_at, script_at, total, item_byte, op_bytes, value_bytes, header_bytes, sheet_bytes}
use Rattle.sheet_format.specs.Reading.{starts, header_answer, values_answer, operations_answer, script_answer, body_answer, read_answer}
use Rattle.sheet_format.specs.Writing.{write_answer, write_after}
use Rattle.sheet_format.proofs.Fields.{bytes_length, next, peel, field_read}
use Rattle.sheet_format.proofs.Steps.{pass, go_on}
use Rattle.sheet_format.proofs.Sizes.{joined_length, ops_length, sheet_length}
use Rattle.sheet_format.proofs.ReadBack.{script_read, values_read}
use Rattle.sheet_format.proofs.ReadOperations.{ends, operations_read}
use Rattle.sheet_format.proofs.Accepted.{Laid, laid}
use Rattle.sheet_format.proofs.Counts.{true_within}

module _ {V : Type 0} (code : V → ℕ) (number : ℕ) (p : Parts V) (bytes body : List ℕ) where
  -- what stands in a header
  record Headed : Type 0 where
    version : get_or bytes 0 0 ≡ 1
    kind : get_or bytes 1 0 ≡ number
    locations : field bytes 2 2 ≡ length p.initial
    processes : field bytes 4 2 ≡ p.processes
    items : field bytes 6 2 ≡ length p.script
    values_place : field bytes 8 4 ≡ 24
    operations_place : field bytes 12 4 ≡ operations_at p
    script_place : field bytes 16 4 ≡ script_at p
    length_field : field bytes 20 4 ≡ total p
    rest : drop 24 bytes ≡ body

  headed : length p.initial < 65536 → p.processes < 65536 → length p.script < 65536 → total p < 2 ^ 32 → bytes ≡ header_bytes code number p ++ body → Headed
  unfolding header_bytes
  headed hl hp hn ht e =
      let l : List ℕ = bytes_of 2 (length p.initial) in
      let q : List ℕ = bytes_of 2 p.processes in
      let n : List ℕ = bytes_of 2 (length p.script) in
      let v : List ℕ = bytes_of 4 24 in
      let o : List ℕ = bytes_of 4 (operations_at p) in
      let s : List ℕ = bytes_of 4 (script_at p) in
      let t : List ℕ = bytes_of 4 (total p) in
      let at2 = peel bytes 2 2 l (q ++ (n ++ (v ++ (o ++ (s ++ t))))) body (bytes_length 2 (length p.initial)) (ap (drop 2) e) in
      let at4 = peel bytes 4 2 q (n ++ (v ++ (o ++ (s ++ t)))) body (bytes_length 2 p.processes) at2.1 in
      let at6 = peel bytes 6 2 n (v ++ (o ++ (s ++ t))) body (bytes_length 2 (length p.script)) at4.1 in
      let at8 = peel bytes 8 4 v (o ++ (s ++ t)) body (bytes_length 4 24) at6.1 in
      let at12 = peel bytes 12 4 o (s ++ t) body (bytes_length 4 (operations_at p)) at8.1 in
      let at16 = peel bytes 16 4 s t body (bytes_length 4 (script_at p)) at12.1 in
      record {
        version = ap (λ x. get_or x 0 0) e;
        kind = ap (λ x. get_or x 1 0) e;
        locations = field_read bytes 2 2 (length p.initial) _ hl at2.0;
        processes = field_read bytes 4 2 p.processes _ hp at4.0;
        items = field_read bytes 6 2 (length p.script) _ hn at6.0;
        values_place = field_read bytes 8 4 24 _ (omega arith) at8.0;
        operations_place = field_read bytes 12 4 (operations_at p) _ (omega arith) at12.0;
        script_place = field_read bytes 16 4 (script_at p) _ (omega arith) at16.0;
        length_field = field_read bytes 20 4 (total p) body (omega arith) at16.1;
        rest = next bytes 20 4 t body (bytes_length 4 (total p)) at16.1;
      }

  header_read : Laid p → length bytes ≡ total p → Headed
      → header_answer bytes number ≡ Ok (record { locations = length p.initial; processes = p.processes; items = length p.script; operations = operations_at p; script = script_at p })
  unfolding header_answer
  header_read d n h =
      pass (leb 24 (length bytes)) _ _ _ (le-leb _ _ (omega arith))
      (pass (eqb (field bytes 20 4) (length bytes)) _ _ _ (eq-eqb _ _ (h.length_field ∙ sym n))
      (pass (eqb (get_or bytes 0 0) 1) _ _ _ (eq-eqb _ _ h.version)
      (pass (eqb (get_or bytes 1 0) number) _ _ _ (eq-eqb _ _ h.kind)
      (pass _ _ _ _ (true_within 1 256 (field bytes 2 2) (omega arith) (omega arith))
      (pass _ _ _ _ (true_within 1 32 (field bytes 4 2) (omega arith) (omega arith))
      (pass _ _ _ _ (eq-eqb (field bytes 8 4) 24 h.values_place)
      (pass _ _ _ _ (and_from (eqb (field bytes 12 4) (24 + 8 * field bytes 2 2)) (leb (field bytes 12 4) (length bytes)) (eq-eqb _ _ (omega arith)) (le-leb _ _ (omega arith)))
      (pass _ _ _ _ (and_from (eqb (field bytes 16 4 + field bytes 6 2) (length bytes)) (leb (field bytes 12 4) (field bytes 16 4)) (eq-eqb _ _ (omega arith)) (le-leb _ _ (omega arith)))
      (λ i. Ok (record { locations = h.locations i; processes = h.processes i; items = h.items i; operations = h.operations_place i; script = h.script_place i }))))))))))

module _ {V : Type 0} (code : V → ℕ) (decode : ℕ → Option V) (number : ℕ) (back : (v : V) → decode (code v) ≡ Some v) (small : (v : V) → code v < 2 ^ 64) where
  sheet_read : (p : Parts V) (bytes : List ℕ) → AllFitting p.operations → Laid p → bytes ≡ sheet_bytes code number p → read_answer decode bytes number ≡ Ok p
  unfolding sheet_bytes read_answer body_answer
  sheet_read p bytes f d e =
      let vs : List ℕ = flat_map (value_bytes code) p.initial in
      let os : List ℕ = flat_map (op_bytes code) p.operations in
      let is : List ℕ = map item_byte p.script in
      let size : length bytes ≡ total p = ap length e ∙ sheet_length code number p in
      let few = ends (operations_at p) 4096 (script_at p) p.operations d.operations in
      let h = headed code number p bytes (vs ++ (os ++ is)) (omega (arith, d.locations)) (omega (arith, d.processes)) (omega (arith, d.items)) (omega (arith, d.locations, d.items)) e in
      let operations-bytes : drop (operations_at p) bytes ≡ os ++ is = next bytes 24 (8 * length p.initial) vs (os ++ is) (joined_length (value_bytes code) 8 (λ v. bytes_length 8 (code v)) p.initial) h.rest in
      let script-bytes : drop (script_at p) bytes ≡ is ++ [] = next bytes (operations_at p) (sizes p.operations) os is (ops_length code p.operations) operations-bytes ∙ sym (append-nil is) in
      go_on (header_answer bytes number) (body_answer decode bytes) _ (Ok p) (header_read code number p bytes (vs ++ (os ++ is)) d size h)
      (go_on (values_answer decode bytes 24 (length p.initial)) _ p.initial (Ok p) (values_read bytes code decode back small 24 p.initial (os ++ is) h.rest)
      (go_on (operations_answer decode bytes (script_at p) 4096 (operations_at p)) _ p.operations (Ok p)
      (operations_read bytes code decode back small (operations_at p) 4096 (script_at p) p.operations is f d.operations operations-bytes)
      (go_on (script_answer bytes (script_at p) (length p.script)) _ p.script (Ok p)
      (script_read bytes (script_at p) (total p) p.script [] d.script script-bytes)
      (pass (eqb (starts p.script) (length p.operations)) _ _ _ (eq-eqb _ _ d.begins) refl))))

  pub write_then_read : (p : Parts V) (out : List ℕ) (n : ℕ) → AllFitting p.operations → write_answer p (length out) ≡ Ok n
      → read_answer decode (take n (write_after p code number out)) number ≡ Ok p
  write_then_read p out n f e =
      let l = laid p n (length out) e in
      let bs : List ℕ = sheet_bytes code number p in
      let same : take n (cond (is_ok (write_answer p (length out))) (overwritten bs out) out) ≡ bs =
      ap (λ r. take n (cond (is_ok r) (overwritten bs out) out)) e ∙ take_at bs (drop (length bs) out) n (sheet_length code number p ∙ sym l.1) in
      sheet_read p _ f l.0 same
