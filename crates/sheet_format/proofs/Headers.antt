-- What a header that was read says of its bytes.
use Rattle.std.proofs.Common.{◌≡◌, ℕ, ◌+◌, ◌*◌, ◌≤◌, ◌&&◌, eqb, leb, List, length, get_or, Ok, subst, arith}
use Rattle.std.proofs.lemmas.Bool.{and_parts, leb-true, eqb-true}
use Rattle.sheet_format.specs.declared.header.Header.{Header}
use Rattle.sheet_format.specs.Bytes.{field}
use Rattle.sheet_format.specs.Reading.{Placed, within, header_answer}
use Rattle.sheet_format.proofs.Counts.{within_true}
use Rattle.sheet_format.proofs.Steps.{ok_same, passed}

module _ (bytes : List ℕ) where
  -- what the fields of a header say
  abbrev pub header_of : Header
  header_of = record { locations = field bytes 2 2; processes = field bytes 4 2; items = field bytes 6 2; operations = field bytes 12 4; script = field bytes 16 4 }

  -- what a header that was read says of its bytes
  pub record Headed (number : ℕ) : Type 0 where
    pub long : 24 ≤ length bytes
    pub length_field : field bytes 20 4 ≡ length bytes
    pub version : get_or bytes 0 0 ≡ 1
    pub kind : get_or bytes 1 0 ≡ number
    pub locations : (1 ≤ field bytes 2 2) × (field bytes 2 2 ≤ 256)
    pub processes : (1 ≤ field bytes 4 2) × (field bytes 4 2 ≤ 32)
    pub values_place : field bytes 8 4 ≡ 24
    pub operations_place : field bytes 12 4 ≡ 24 + 8 * field bytes 2 2
    pub script_place : field bytes 16 4 + field bytes 6 2 ≡ length bytes
    pub in_order : field bytes 12 4 ≤ field bytes 16 4

  pub header_back : (number : ℕ) (h : Header) → header_answer bytes number ≡ Ok h → Headed number × (header_of ≡ h)
  unfolding header_answer
  header_back number h e =
      let a = passed (leb 24 (length bytes)) _ _ h e in
      let b = passed (eqb (field bytes 20 4) (length bytes)) _ _ h a.1 in
      let c = passed (eqb (get_or bytes 0 0) 1) _ _ h b.1 in
      let d = passed (eqb (get_or bytes 1 0) number) _ _ h c.1 in
      let f = passed (within 1 256 (field bytes 2 2)) _ _ h d.1 in
      let i = passed (within 1 32 (field bytes 4 2)) _ _ h f.1 in
      let j = passed (eqb (field bytes 8 4) 24) _ _ h i.1 in
      let k = passed (eqb (field bytes 12 4) (24 + 8 * field bytes 2 2) && leb (field bytes 12 4) (length bytes)) _ _ h j.1 in
      let l = passed (eqb (field bytes 16 4 + field bytes 6 2) (length bytes) && leb (field bytes 12 4) (field bytes 16 4)) _ _ h k.1 in
      let o = and_parts (eqb (field bytes 12 4) (24 + 8 * field bytes 2 2)) (leb (field bytes 12 4) (length bytes)) k.0 in
      let s = and_parts (eqb (field bytes 16 4 + field bytes 6 2) (length bytes)) (leb (field bytes 12 4) (field bytes 16 4)) l.0 in (
        record {
          long = leb-true 24 (length bytes) a.0;
          length_field = eqb-true (field bytes 20 4) (length bytes) b.0;
          version = eqb-true (get_or bytes 0 0) 1 c.0;
          kind = eqb-true (get_or bytes 1 0) number d.0;
          locations = within_true 1 256 (field bytes 2 2) f.0;
          processes = within_true 1 32 (field bytes 4 2) i.0;
          values_place = eqb-true (field bytes 8 4) 24 j.0;
          operations_place = eqb-true (field bytes 12 4) (24 + 8 * field bytes 2 2) o.0;
          script_place = eqb-true (field bytes 16 4 + field bytes 6 2) (length bytes) s.0;
          in_order = leb-true (field bytes 12 4) (field bytes 16 4) s.1;
        },
        ok_same _ h l.1,
      )

  -- it puts the parts inside the sheet
  pub placed : (number : ℕ) (h : Header) → header_answer bytes number ≡ Ok h → Placed (length bytes) h
  placed number h e =
      let d = header_back number h e in
      subst (Placed (length bytes)) d.1 (record {
        values = omega (arith, d.0.operations_place, d.0.in_order, d.0.script_place);
        before = d.0.in_order;
        script_end = omega (arith, d.0.script_place);
      })

  -- and counts a location at least
  pub some_location : (number : ℕ) (h : Header) → header_answer bytes number ≡ Ok h → 1 ≤ h.locations
  some_location number h e =
      let d = header_back number h e in
      subst (λ (k : Header). 1 ≤ k.locations) d.1 d.0.locations.0
