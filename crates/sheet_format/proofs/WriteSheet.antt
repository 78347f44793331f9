-- What reading accepts, writing gives back byte for byte.
use Rattle.std.proofs.Common.{◌≡◌, ℕ, ◌+◌, ◌*◌, ◌≤◌, eqb, List, ◌∷◌, ◌++◌, map, length, get_or, drop, Some, Ok, Option, sym, refl, ap, ◌∙◌, subst, arith}
use Rattle.std.specs.List.{flat_map}
use Rattle.std.proofs.lemmas.List.{append-nil, drop_more, drop_all}
use Rattle.std.proofs.lemmas.Bool.{eqb-true}
use Rattle.sheet_format.specs.Bytes.{field, bytes_of, AllBelow}
use Rattle.sheet_format.specs.Parts.{Parts}
use Rattle.sheet_format.specs.Format.{operations_at, script_at, total, item_byte, op_bytes, value_bytes, header_bytes, sheet_bytes}
use Rattle.sheet_format.specs.Reading.{starts, header_answer, values_answer, operations_answer, script_answer, joined_answer, body_answer, read_answer}
use Rattle.sheet_format.specs.Writing.{operations_end, script_end}
use Rattle.sheet_format.specs.RoundTrip.{GivesBack}
use Rattle.sheet_format.proofs.Fields.{field_back, field_fits}
use Rattle.sheet_format.proofs.Steps.{ok_same, passed, begun}
use Rattle.sheet_format.proofs.Headers.{header_of, Headed, header_back}
use Rattle.sheet_format.proofs.ReadOperations.{ends}
use Rattle.sheet_format.proofs.Accepted.{Laid, accepted}
use Rattle.sheet_format.proofs.WriteBack.{join, Scripted, script_back, values_back}
use Rattle.sheet_format.proofs.WriteOperations.{Listed, operations_back}

module _ (bytes : List ℕ) where
  -- the first 24 bytes, by the fields
  front : List ℕ
  front = get_or bytes 0 0 ∷ get_or bytes 1 0 ∷ (bytes_of 2 (field bytes 2 2) ++ (bytes_of 2 (field bytes 4 2) ++ (bytes_of 2 (field bytes 6 2)
      ++ (bytes_of 4 (field bytes 8 4) ++ (bytes_of 4 (field bytes 12 4) ++ (bytes_of 4 (field bytes 16 4) ++ bytes_of 4 (field bytes 20 4)))))))

  front_back : AllBelow 256 bytes → 24 ≤ length bytes → bytes ≡ front ++ drop 24 bytes
  unfolding front
  front_back all h =
      let fields = join bytes 2 4 24 _ _ (field_back bytes 2 2 all (omega arith)) (join bytes 4 6 24 _ _ (field_back bytes 4 2 all (omega arith)) (join bytes 6 8 24 _ _ (field_back bytes 6 2 all (omega arith))
      (join bytes 8 12 24 _ _ (field_back bytes 8 4 all (omega arith)) (join bytes 12 16 24 _ _ (field_back bytes 12 4 all (omega arith)) (join bytes 16 20 24 _ _ (field_back bytes 16 4 all (omega arith)) (field_back bytes 20 4 all (omega arith))))))) in
      drop_more bytes 0 0 (omega arith) ∙ ap (λ l. get_or bytes 0 0 ∷ l) (drop_more bytes 1 0 (omega arith) ∙ ap (λ l. get_or bytes 1 0 ∷ l) fields)

  module _ {V : Type 0} (code : V → ℕ) (number : ℕ) where
    front_is : (p : Parts V) → Headed bytes number → length p.initial ≡ field bytes 2 2 → p.processes ≡ field bytes 4 2 → length p.script ≡ field bytes 6 2 → operations_at p ≡ field bytes 12 4 → script_at p ≡ field bytes 16 4 → total p ≡ field bytes 20 4
        → header_bytes code number p ≡ front
    unfolding header_bytes front
    front_is p d l q n o s t i = sym d.version i ∷ sym d.kind i ∷ (bytes_of 2 (l i) ++ (bytes_of 2 (q i) ++ (bytes_of 2 (n i) ++ (bytes_of 4 (sym d.values_place i) ++ (bytes_of 4 (o i) ++ (bytes_of 4 (s i) ++ bytes_of 4 (t i)))))))

    -- what a sheet that was read says of its bytes
    record Parted (p : Parts V) : Type 0 where
      locations : length p.initial ≡ field bytes 2 2
      values : drop 24 bytes ≡ flat_map (value_bytes code) p.initial ++ drop (24 + 8 * field bytes 2 2) bytes
      processes : p.processes ≡ field bytes 4 2
      operations : Listed bytes code (field bytes 16 4) 4096 (field bytes 12 4) p.operations
      script : Scripted bytes (field bytes 16 4) (field bytes 6 2) p.script
      begins : starts p.script ≡ length p.operations

    module _ (all : AllBelow 256 bytes) where
      body_back : (decode : ℕ → Option V) (kept : (c : ℕ) (v : V) → decode c ≡ Some v → code v ≡ c) (p : Parts V) → Headed bytes number → body_answer decode bytes (header_of bytes) ≡ Ok p → Parted p
      unfolding body_answer
      body_back decode kept p d e =
          let vs = begun (values_answer decode bytes 24 (field bytes 2 2)) _ p e in
          let os = begun (operations_answer decode bytes (field bytes 16 4) 4096 (field bytes 12 4)) _ p vs.rest_is in
          let is = begun (script_answer bytes (field bytes 16 4) (field bytes 6 2)) (joined_answer decode bytes (header_of bytes) vs.value os.value) p os.rest_is in
          let m = passed (eqb (starts is.value) (length os.value)) _ _ p is.rest_is in
          let v = values_back bytes all code decode kept 24 (field bytes 2 2) vs.value (omega (arith, d.operations_place, d.script_place, d.in_order)) vs.first_is in
          subst Parted (ok_same _ p m.1) (record {
            locations = v.0;
            values = v.1;
            processes = refl;
            operations = operations_back bytes all code decode kept (field bytes 16 4) 4096 (field bytes 12 4) os.value d.in_order (omega (arith, d.script_place)) os.first_is;
            script = script_back bytes (field bytes 16 4) (field bytes 6 2) is.value (omega (arith, d.script_place)) is.first_is;
            begins = eqb-true (starts is.value) (length os.value) m.0;
          })

      module _ (p : Parts V) (d : Headed bytes number) (q : Parted p) where
        operations_place : operations_at p ≡ field bytes 12 4
        operations_place = omega (arith, q.locations, d.operations_place)

        script_place : script_at p ≡ field bytes 16 4
        script_place = omega (arith, (ends (field bytes 12 4) 4096 (field bytes 16 4) p.operations q.operations.laid).0, operations_place)

        length_is : total p ≡ length bytes
        length_is = omega (arith, script_place, q.script.count, d.script_place)

        laid_out : Laid p
        laid_out = record {
          locations = omega (arith, q.locations, d.locations);
          processes = omega (arith, q.processes, d.processes);
          items = omega (arith, q.script.count, field_fits bytes 6 2 all (omega (arith, d.long)));
          operations = ap (λ k. operations_end k 4096 p.operations) operations_place ∙ q.operations.laid ∙ ap Ok (sym script_place);
          script = ap (λ k. script_end k p.script) script_place ∙ q.script.laid ∙ ap Ok (d.script_place ∙ sym length_is);
          begins = q.begins;
        }

        same_bytes : sheet_bytes code number p ≡ bytes
        unfolding sheet_bytes
        same_bytes =
            let vs : List ℕ = flat_map (value_bytes code) p.initial in
            let os : List ℕ = flat_map (op_bytes code) p.operations in
            let is : List ℕ = map item_byte p.script in
            let end : drop (field bytes 16 4) bytes ≡ is =
            q.script.stands ∙ ap (λ l. is ++ l) (drop_all (field bytes 16 4 + field bytes 6 2) bytes (omega (arith, d.script_place))) ∙ append-nil is in
            let middle : drop (field bytes 12 4) bytes ≡ os ++ is = q.operations.stands ∙ ap (λ l. os ++ l) end in
            let body : drop 24 bytes ≡ vs ++ (os ++ is) = q.values ∙ ap (λ l. vs ++ l) (ap (λ k. drop k bytes) (sym d.operations_place) ∙ middle) in
            let head = front_is p d q.locations q.processes q.script.count operations_place script_place (length_is ∙ sym d.length_field) in
            sym (front_back all d.long ∙ (λ i. sym head i ++ body i))

pub read_then_write : {V : Type 0} (code : V → ℕ) (decode : ℕ → Option V) (number : ℕ) → ((c : ℕ) (v : V) → decode c ≡ Some v → code v ≡ c) → (bytes : List ℕ) (p : Parts V)
    → AllBelow 256 bytes → read_answer decode bytes number ≡ Ok p → GivesBack code number p bytes
unfolding read_answer
read_then_write code decode number kept bytes p all e =
    let s = begun (header_answer bytes number) (body_answer decode bytes) p e in
    let h = header_back bytes number s.value s.first_is in
    let q = body_back bytes code number all decode kept p h.0 (ap (body_answer decode bytes) h.1 ∙ s.rest_is) in
    let n = length_is bytes code number all p h.0 q in
    (same_bytes bytes code number all p h.0 q, λ room r. accepted p room (laid_out bytes code number all p h.0 q) (omega arith) ∙ ap Ok n)
