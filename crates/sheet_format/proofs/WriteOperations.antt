-- Operations that were read stand in the bytes as they are written.
use Rattle.std.proofs.Common.{◌≡◌, ℕ, zero, suc, ◌+◌, ◌*◌, ◌≤◌, true, ◌||◌, eqb, leb, List, [], ◌∷◌, ◌++◌, length, get_or, drop, Some, None, Ok, Option, Result, sym, refl, ap, ◌∙◌, subst, ⊎_elim, arith}
use Rattle.std.specs.List.{flat_map}
use Rattle.std.proofs.lemmas.List.{drop_more}
use Rattle.std.proofs.lemmas.Bool.Decides.{nat_tests}
use Rattle.std.proofs.lemmas.Bool.{and_parts, eqb-true, leb-true, cond-true, cond-false, cases_Bool}
use Rattle.operation.specs.declared.kind.OperationKind.{OperationKind}
use Rattle.operation.specs.declared.kind.OperationKind.TheVariants.{Read, Ll, Sc, Snapshot, Kcss}
use Rattle.sheet_format.specs.declared.fault.SheetRefusal.TheVariants.{WrongOperation}
use Rattle.sheet_format.specs.declared.fault.SheetFault.{SheetFault}
use Rattle.sheet_format.specs.declared.head.OperationHead.{OperationHead}
use Rattle.sheet_format.specs.Bytes.{field, bytes_of, AllBelow}
use Rattle.sheet_format.specs.Faults.{fault, followed}
use Rattle.operation.specs.Kinds.{kind_number, kind_of, counted, takes_new, takes_expected}
use Rattle.sheet_format.specs.Parts.{Act, sc, kcss, Op}
use Rattle.sheet_format.specs.Format.{act_kind, act_count, size_by, location_bytes, new_code, operands_bytes, op_bytes}
use Rattle.sheet_format.specs.Reading.{unused, head_fits, head_by, head_answer, value_answer, operands_answer, action_by, action_answer, operation_answer, operations_answer}
use Rattle.sheet_format.specs.Writing.{operations_end}
use Rattle.sheet_format.proofs.Fields.{field_back}
use Rattle.sheet_format.proofs.Steps.{never_ok, ok_same, pass, passed, split, begun}
use Rattle.sheet_format.proofs.WriteBack.{join, up_to, nothing, location_back, locations_back, value_code, operands_back}

kind_back : (n : ℕ) (k : OperationKind) → kind_of n ≡ Some k → kind_number k ≡ n
kind_back n Read e = grind (arith, nat_tests)
kind_back n Ll e = grind (arith, nat_tests)
kind_back n Sc e = grind (arith, nat_tests)
kind_back n Snapshot e = grind (arith, nat_tests)
kind_back n Kcss e = grind (arith, nat_tests)

module _ (bytes : List ℕ) where
  -- what a head that was read says of its bytes
  pub record Headed (at end : ℕ) (h : OperationHead) : Type 0 where
    pub room : at + 12 ≤ end
    pub kind_byte : kind_number h.kind ≡ get_or bytes at 0
    pub process_byte : h.process ≡ get_or bytes (at + 1) 0
    pub count_byte : h.count ≡ get_or bytes (at + 2) 0
    pub counts : counted h.kind h.count ≡ true
    pub zero_byte : get_or bytes (at + 3) 0 ≡ 0
    pub inside : at + size_by h.count ≤ end
    pub new : (takes_new h.kind || eqb (field bytes (at + 4) 8) 0) ≡ true
    pub expected : (takes_expected h.kind || unused bytes (at + 12) h.count) ≡ true

  head_by_back : (at end : ℕ) (o : Option OperationKind) (h : OperationHead) → kind_of (get_or bytes at 0) ≡ o → at + 12 ≤ end → head_by bytes at end o ≡ Ok h → Headed at end h
  head_by_back at end None h k r e = never_ok (fault WrongOperation at) h e
  head_by_back at end (Some kind) h k r e =
      let n : ℕ = get_or bytes (at + 2) 0 in
      let p = passed (head_fits bytes at end kind) (fault WrongOperation at) _ h e in
      let a = and_parts (counted kind n) _ p.0 in
      let b = and_parts (eqb (get_or bytes (at + 3) 0) 0) _ a.1 in
      let c = and_parts (leb (at + size_by n) end) _ b.1 in
      let d = and_parts (takes_new kind || eqb (field bytes (at + 4) 8) 0) (takes_expected kind || unused bytes (at + 12) n) c.1 in
      subst (Headed at end) (ok_same _ h p.1) (record {
        room = r;
        kind_byte = kind_back (get_or bytes at 0) kind k;
        process_byte = refl;
        count_byte = refl;
        counts = a.0;
        zero_byte = eqb-true (get_or bytes (at + 3) 0) 0 b.0;
        inside = leb-true (at + size_by n) end c.0;
        new = d.0;
        expected = d.1;
      })

  pub head_back : (at end : ℕ) (h : OperationHead) → head_answer bytes at end ≡ Ok h → Headed at end h
  unfolding head_answer
  head_back at end h e =
      let p = passed (leb (at + 12) end) (fault WrongOperation at) (head_by bytes at end (kind_of (get_or bytes at 0))) h e in
      head_by_back at end (kind_of (get_or bytes at 0)) h refl (leb-true (at + 12) end p.0) p.1

  module _ {V : Type 0} (code : V → ℕ) where
    -- what an action that was read says of its bytes
    record Acted (at : ℕ) (kind : OperationKind) (count : ℕ) (a : Act V) : Type 0 where
      kind_is : act_kind a ≡ kind
      count_is : act_count a ≡ count
      new : field bytes (at + 4) 8 ≡ new_code code a
      operands : drop (at + 12) bytes ≡ operands_bytes code a ++ drop (at + size_by count) bytes

    -- what an operation that was read says of its bytes
    record Operated (at end : ℕ) (o : Op V) : Type 0 where
      count_byte : get_or bytes (at + 2) 0 ≡ act_count o.act
      counts : counted (act_kind o.act) (act_count o.act) ≡ true
      inside : at + size_by (act_count o.act) ≤ end
      stands : drop at bytes ≡ op_bytes code o ++ drop (at + size_by (act_count o.act)) bytes

    -- what operations that were read up to a place say of their bytes
    pub record Listed (end left at : ℕ) (ops : List (Op V)) : Type 0 where
      pub laid : operations_end at left ops ≡ Ok end
      pub stands : drop at bytes ≡ flat_map (op_bytes code) ops ++ drop end bytes

  module _ (all : AllBelow 256 bytes) {V : Type 0} (code : V → ℕ) where
    one_back : (at count : ℕ) → at + size_by count ≤ length bytes → eqb count 1 ≡ true → unused bytes (at + 12) count ≡ true
        → (1 ≡ count) × (drop (at + 12) bytes ≡ location_bytes code (field bytes (at + 12) 2) ++ drop (at + size_by count) bytes)
    one_back at count h c u =
        let one : 1 ≡ count = sym (eqb-true count 1 c) in
        let place : at + 12 + 10 ≡ at + size_by count = omega arith in (
          one,
          up_to bytes (at + 12) (at + 12 + 10) (at + size_by count) (location_bytes code (field bytes (at + 12) 2)) place
              (location_back bytes all code (at + 12) (omega arith) (ap (unused bytes (at + 12)) one ∙ u)),
        )

    module _ (decode : ℕ → Option V) (kept : (c : ℕ) (v : V) → decode c ≡ Some v → code v ≡ c) where
      action_back : (at : ℕ) (kind : OperationKind) (count : ℕ) (a : Act V) → at + size_by count ≤ length bytes → counted kind count ≡ true
          → (takes_new kind || eqb (field bytes (at + 4) 8) 0) ≡ true → (takes_expected kind || unused bytes (at + 12) count) ≡ true → action_by decode bytes at kind count ≡ Ok a → Acted code at kind count a
      action_back at Read count a h c n u e =
          let one = one_back at count h c u in
          subst (Acted code at Read count) (ok_same _ a e) (record { kind_is = refl; count_is = one.0; new = eqb-true (field bytes (at + 4) 8) 0 n; operands = one.1 })
      action_back at Ll count a h c n u e =
          let one = one_back at count h c u in
          subst (Acted code at Ll count) (ok_same _ a e) (record { kind_is = refl; count_is = one.0; new = eqb-true (field bytes (at + 4) 8) 0 n; operands = one.1 })
      action_back at Sc count a h c n u e =
          let one = one_back at count h c u in
          let s = begun (value_answer decode bytes (at + 4)) (λ v. Ok (sc (field bytes (at + 12) 2) v)) a e in
          subst (Acted code at Sc count) (ok_same _ a s.rest_is) (record { kind_is = refl; count_is = one.0; new = value_code bytes all code decode kept (at + 4) s.value s.first_is; operands = one.1 })
      action_back at Snapshot count a h c n u e =
          let ls = locations_back bytes all code (at + 12) count (omega arith) u in
          let place : at + 12 + 10 * count ≡ at + size_by count = omega arith in
          subst (Acted code at Snapshot count) (ok_same _ a e) (record { kind_is = refl; count_is = ls.0; new = eqb-true (field bytes (at + 4) 8) 0 n; operands = up_to bytes (at + 12) (at + 12 + 10 * count) (at + size_by count) _ place ls.1 })
      action_back at Kcss count a h c n u e =
          let s = begun (value_answer decode bytes (at + 4)) _ a e in
          let t = begun (operands_answer decode bytes (at + 12) count) (λ os. Ok (kcss s.value os)) a s.rest_is in
          let os = operands_back bytes all code decode kept (at + 12) count t.value (omega arith) t.first_is in
          let place : at + 12 + 10 * count ≡ at + size_by count = omega arith in
          subst (Acted code at Kcss count) (ok_same _ a t.rest_is) (record { kind_is = refl; count_is = os.0; new = value_code bytes all code decode kept (at + 4) s.value s.first_is; operands = up_to bytes (at + 12) (at + 12 + 10 * count) (at + size_by count) _ place os.1 })

      -- the twelve bytes and the operands
      made : (at end : ℕ) (h : OperationHead) (a : Act V) → end ≤ length bytes → Headed at end h → Acted code at h.kind h.count a → Operated code at end (record { process = h.process; act = a })
      unfolding op_bytes
      made at end h a l d x =
          let count : h.count ≡ act_count a = sym x.count_is in
          let rest : List ℕ = drop (at + size_by h.count) bytes in
          let p2 : at + 1 + 1 ≡ at + 2 = omega arith in
          let p3 : at + 2 + 1 ≡ at + 3 = omega arith in
          let p4 : at + 3 + 1 ≡ at + 4 = omega arith in
          let p12 : at + 4 + 8 ≡ at + 12 = omega arith in
          let code-bytes : List ℕ = bytes_of 8 (new_code code a) in
          let last : drop (at + 4) bytes ≡ (code-bytes ++ operands_bytes code a) ++ rest =
          join bytes (at + 4) (at + 12) (at + size_by h.count) code-bytes (operands_bytes code a)
          (up_to bytes (at + 4) (at + 4 + 8) (at + 12) code-bytes p12 (field_back bytes (at + 4) 8 all (omega arith) ∙ ap (λ c. bytes_of 8 c ++ drop (at + 4 + 8) bytes) x.new))
          x.operands in
          let third : drop (at + 3) bytes ≡ 0 ∷ ((code-bytes ++ operands_bytes code a) ++ rest) =
          drop_more bytes (at + 3) 0 (omega arith) ∙ (λ i. d.zero_byte i ∷ (ap (λ k. drop k bytes) p4 ∙ last) i) in
          let second : drop (at + 2) bytes ≡ act_count a ∷ 0 ∷ ((code-bytes ++ operands_bytes code a) ++ rest) =
          drop_more bytes (at + 2) 0 (omega arith) ∙ (λ i. (sym d.count_byte ∙ count) i ∷ (ap (λ k. drop k bytes) p3 ∙ third) i) in
          let first : drop (at + 1) bytes ≡ h.process ∷ act_count a ∷ 0 ∷ ((code-bytes ++ operands_bytes code a) ++ rest) =
          drop_more bytes (at + 1) 0 (omega arith) ∙ (λ i. sym d.process_byte i ∷ (ap (λ k. drop k bytes) p2 ∙ second) i) in
          record {
            count_byte = sym d.count_byte ∙ count;
            counts = ap (λ k. counted k (act_count a)) x.kind_is ∙ ap (counted h.kind) x.count_is ∙ d.counts;
            inside = omega (arith, d.inside);
            stands = drop_more bytes at 0 (omega (arith, d.room)) ∙ (λ i. (sym d.kind_byte ∙ ap kind_number (sym x.kind_is)) i ∷ first i)
                ∙ ap (λ n. op_bytes code (record { process = h.process; act = a }) ++ drop (at + size_by n) bytes) count;
          }

      operation_back : (at end : ℕ) (o : Op V) → end ≤ length bytes → operation_answer decode bytes end at ≡ Ok o → Operated code at end o
      unfolding operation_answer
      operation_back at end o l e =
          let s = begun (head_answer bytes at end) (action_answer decode bytes at) o e in
          let h : OperationHead = s.value in
          let d = head_back at end h s.first_is in
          let t = begun (action_by decode bytes at h.kind h.count) (λ a. Ok (record { process = h.process; act = a })) o s.rest_is in
          subst (Operated code at end) (ok_same _ o t.rest_is)
          (made at end h t.value l d (action_back at h.kind h.count t.value (omega (arith, d.inside)) d.counts d.new d.expected t.first_is))

      listed_none : (end left at : ℕ) (ops : List (Op V)) → at ≤ end → leb end at ≡ true → ◌≡◌ {A = Result (List (Op V)) SheetFault} (Ok []) (Ok ops) → Listed code end left at ops
      unfolding operations_end
      listed_none end left at ops h k e =
          let same : at ≡ end = omega (arith, leb-true end at k) in
          subst (Listed code end left at) (ok_same [] ops e) (record { laid = ap Ok same; stands = nothing bytes at end (sym same) })

      listed_more : (end left at : ℕ) (ops : List (Op V)) → end ≤ length bytes
          → ((x : ℕ) (os : List (Op V)) → x ≤ end → operations_answer decode bytes end left x ≡ Ok os → Listed code end left x os)
          → followed (operation_answer decode bytes end at) (operations_answer decode bytes end left (at + size_by (get_or bytes (at + 2) 0))) ≡ Ok ops → Listed code end (suc left) at ops
      unfolding operations_end
      listed_more end left at ops l ih e =
          let s = split (operation_answer decode bytes end at) (operations_answer decode bytes end left (at + size_by (get_or bytes (at + 2) 0))) ops e in
          let d = operation_back at end s.first l s.first_is in
          let n : ℕ = act_count s.first.act in
          let more = ih (at + size_by n) s.others d.inside (ap (λ x. operations_answer decode bytes end left (at + size_by x)) (sym d.count_byte) ∙ s.others_are) in
          subst (Listed code end (suc left) at) (sym s.whole) (record {
            laid = pass (counted (act_kind s.first.act) n) (fault WrongOperation at) (operations_end (at + size_by n) left s.others) _ d.counts more.laid;
            stands = join bytes at (at + size_by n) end (op_bytes code s.first) (flat_map (op_bytes code) s.others) d.stands more.stands;
          })

      pub operations_back : (end left at : ℕ) (ops : List (Op V)) → at ≤ end → end ≤ length bytes → operations_answer decode bytes end left at ≡ Ok ops → Listed code end left at ops
      unfolding operations_answer operations_end
      operations_back end zero at ops h l e =
          let p = passed (leb end at) (fault WrongOperation at) (Ok []) ops e in
          listed_none end zero at ops h p.0 p.1
      operations_back end (suc left) at ops h l e =
          let rest : Result (List (Op V)) SheetFault = followed (operation_answer decode bytes end at) (operations_answer decode bytes end left (at + size_by (get_or bytes (at + 2) 0))) in
          ⊎_elim
          (λ t. listed_none end (suc left) at ops h t (sym (cond-true (leb end at) (Ok []) rest t) ∙ e))
          (λ f. listed_more end left at ops l (λ x os k d. operations_back end left x os k l d) (sym (cond-false (leb end at) (Ok []) rest f) ∙ e))
          (cases_Bool (leb end at))
