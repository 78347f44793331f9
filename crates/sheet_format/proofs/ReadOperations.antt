-- Bytes that hold operations read as those operations.
use Rattle.std.proofs.Common.{◌≡◌, ℕ, zero, suc, ◌+◌, ◌*◌, ◌^◌, ◌<◌, ◌≤◌, true, ◌||◌, eqb, leb, List, [], ◌∷◌, ◌++◌, length, get_or, drop, Some, Ok, Option, sym, refl, ap, ◌∙◌, arith}
use Rattle.std.specs.List.{flat_map}
use Rattle.std.proofs.lemmas.Bool.{and_from, le-leb, lt-leb, cond-true, cond-false}
use Rattle.operation.specs.declared.kind.OperationKind.{OperationKind}
use Rattle.operation.specs.declared.kind.OperationKind.TheVariants.{Read, Ll, Sc, Snapshot, Kcss}
use Rattle.sheet_format.specs.declared.fault.SheetRefusal.TheVariants.{WrongOperation}
use Rattle.sheet_format.specs.Bytes.{field, bytes_of}
use Rattle.sheet_format.specs.Faults.{fault}
use Rattle.operation.specs.Kinds.{kind_number, kind_of, counted, takes_new, takes_expected}
use Rattle.sheet_format.specs.Parts.{Act, read, ll, sc, snapshot, kcss, Op, Fitting, AllFitting}
use Rattle.sheet_format.specs.Format.{act_kind, act_count, size_by, sizes, new_code, operands_bytes, op_bytes}
use Rattle.sheet_format.specs.Reading.{unused, head_fits, head_by, head_answer, value_answer, operands_answer, action_by, action_answer, operation_answer, operations_answer}
use Rattle.sheet_format.specs.Writing.{operations_end}
use Rattle.sheet_format.proofs.Fields.{bytes_length, byte_at, byte_past, drop_past, peel, field_read}
use Rattle.sheet_format.proofs.Counts.{counted_range}
use Rattle.sheet_format.proofs.Steps.{never_ok, ok_same, pass, passed, gather, go_on}
use Rattle.sheet_format.proofs.Sizes.{op_length}
use Rattle.sheet_format.proofs.ReadBack.{locations_read, location_read, value_by, operands_read}

kind_read : (k : OperationKind) → kind_of (kind_number k) ≡ Some k
kind_read Read = refl
kind_read Ll = refl
kind_read Sc = refl
kind_read Snapshot = refl
kind_read Kcss = refl

-- operations that are laid out end after all of them
pub ends : {V : Type 0} (at left end : ℕ) (ops : List (Op V)) → operations_end at left ops ≡ Ok end → (end ≡ at + sizes ops) × (length ops ≤ left) × (sizes ops ≤ 172 * left)
unfolding operations_end
ends at left end [] h = let e : at ≡ end = ok_same at end h in omega arith
ends at zero end (o ∷ ops) h = never_ok (fault WrongOperation at) end h
ends at (suc left) end (o ∷ ops) h =
    let p = passed (counted (act_kind o.act) (act_count o.act)) (fault WrongOperation at) (operations_end (at + size_by (act_count o.act)) left ops) end h in
    let ih = ends (at + size_by (act_count o.act)) left end ops p.1 in
    let range = counted_range (act_kind o.act) (act_count o.act) p.0 in
    omega arith

module _ (bytes : List ℕ) {V : Type 0} (code : V → ℕ) where
  new_unused : (a : Act V) → (takes_new (act_kind a) || eqb (new_code code a) 0) ≡ true
  new_unused (read a) = refl
  new_unused (ll a) = refl
  new_unused (sc a v) = refl
  new_unused (snapshot ls) = refl
  new_unused (kcss v os) = refl

  expected_unused : (at : ℕ) (a : Act V) (rest : List ℕ) → Fitting a → drop at bytes ≡ operands_bytes code a ++ rest → (takes_expected (act_kind a) || unused bytes at (act_count a)) ≡ true
  expected_unused at (read a) rest h e = (location_read bytes code at a rest h e).0
  expected_unused at (ll a) rest h e = (location_read bytes code at a rest h e).0
  expected_unused at (sc a v) rest h e = (location_read bytes code at a rest h e).0
  expected_unused at (snapshot ls) rest h e = (locations_read bytes code at ls rest h e).0
  expected_unused at (kcss v os) rest h e = refl

  -- what stands at an operation's place
  record Parted (at : ℕ) (o : Op V) (rest : List ℕ) : Type 0 where
    kind_byte : get_or bytes at 0 ≡ kind_number (act_kind o.act)
    process_byte : get_or bytes (at + 1) 0 ≡ o.process
    count_byte : get_or bytes (at + 2) 0 ≡ act_count o.act
    zero_byte : get_or bytes (at + 3) 0 ≡ 0
    new : field bytes (at + 4) 8 ≡ new_code code o.act
    operands : drop (at + 12) bytes ≡ operands_bytes code o.act ++ rest

  module _ (small : (v : V) → code v < 2 ^ 64) where
    new_small : (a : Act V) → new_code code a < 2 ^ 64
    new_small (read a) = omega arith
    new_small (ll a) = omega arith
    new_small (sc a v) = small v
    new_small (snapshot ls) = omega arith
    new_small (kcss v os) = small v

    parted : (at : ℕ) (o : Op V) (rest : List ℕ) → drop at bytes ≡ op_bytes code o ++ rest → Parted at o rest
    unfolding op_bytes
    parted at o rest e =
        let n : ℕ = new_code code o.act in
        let tail : List ℕ = (bytes_of 8 n ++ operands_bytes code o.act) ++ rest in
        let l : List ℕ = kind_number (act_kind o.act) ∷ o.process ∷ act_count o.act ∷ 0 ∷ tail in
        let p = peel bytes (at + 4) 8 (bytes_of 8 n) (operands_bytes code o.act) rest (bytes_length 8 n) (drop_past bytes at 4 l e) in
        let place : at + 4 + 8 ≡ at + 12 = omega arith in
        record {
          kind_byte = byte_at bytes at _ _ e;
          process_byte = byte_past bytes at 1 l e;
          count_byte = byte_past bytes at 2 l e;
          zero_byte = byte_past bytes at 3 l e;
          new = field_read bytes (at + 4) 8 n _ (new_small o.act) p.0;
          operands = ap (λ k. drop k bytes) (sym place) ∙ p.1;
        }

  head_read : (at end : ℕ) (o : Op V) (rest : List ℕ) → Fitting o.act → counted (act_kind o.act) (act_count o.act) ≡ true → at + size_by (act_count o.act) ≤ end → Parted at o rest
      → head_answer bytes at end ≡ Ok (record { kind = act_kind o.act; process = o.process; count = act_count o.act })
  unfolding head_answer
  head_read at end o rest h c room d =
      let k : OperationKind = act_kind o.act in
      let n : ℕ = act_count o.act in
      let fits : head_fits bytes at end k ≡ true =
      and_from _ _ (ap (counted k) d.count_byte ∙ c)
      (and_from _ _ (ap (λ b. eqb b 0) d.zero_byte)
      (and_from _ _ (ap (λ x. leb (at + size_by x) end) d.count_byte ∙ le-leb (at + size_by n) end room)
      (and_from _ _ (ap (λ x. takes_new k || eqb x 0) d.new ∙ new_unused o.act)
      (ap (λ x. takes_expected k || unused bytes (at + 12) x) d.count_byte ∙ expected_unused (at + 12) o.act rest h d.operands)))) in
      pass (leb (at + 12) end) (fault WrongOperation at) (head_by bytes at end (kind_of (get_or bytes at 0))) _ (le-leb (at + 12) end (omega arith))
      (ap (head_by bytes at end) (ap kind_of d.kind_byte ∙ kind_read k)
      ∙ pass (head_fits bytes at end k) (fault WrongOperation at) (Ok (record { kind = k; process = get_or bytes (at + 1) 0; count = get_or bytes (at + 2) 0 })) _ fits
      (λ i. Ok (record { kind = k; process = d.process_byte i; count = d.count_byte i })))

  module _ (decode : ℕ → Option V) (back : (v : V) → decode (code v) ≡ Some v) (small : (v : V) → code v < 2 ^ 64) where
    action_read : (at : ℕ) (a : Act V) (rest : List ℕ) → Fitting a → field bytes (at + 4) 8 ≡ new_code code a → drop (at + 12) bytes ≡ operands_bytes code a ++ rest
        → action_by decode bytes at (act_kind a) (act_count a) ≡ Ok a
    action_read at (read a) rest h n e = ap (λ x. Ok (read x)) (location_read bytes code (at + 12) a rest h e).1
    action_read at (ll a) rest h n e = ap (λ x. Ok (ll x)) (location_read bytes code (at + 12) a rest h e).1
    action_read at (sc a v) rest h n e =
        go_on (value_answer decode bytes (at + 4)) (λ x. Ok (sc (field bytes (at + 12) 2) x)) v (Ok (sc a v)) (value_by bytes code decode back small (at + 4) v n)
        (ap (λ x. Ok (sc x v)) (location_read bytes code (at + 12) a rest h e).1)
    action_read at (snapshot ls) rest h n e = ap (λ x. Ok (snapshot x)) (locations_read bytes code (at + 12) ls rest h e).1
    action_read at (kcss v os) rest h n e =
        go_on (value_answer decode bytes (at + 4)) _ v (Ok (kcss v os)) (value_by bytes code decode back small (at + 4) v n)
        (go_on (operands_answer decode bytes (at + 12) (length os)) (λ x. Ok (kcss v x)) os (Ok (kcss v os)) (operands_read bytes code decode back small (at + 12) os rest h e) refl)

    operation_read : (at end : ℕ) (o : Op V) (rest : List ℕ) → Fitting o.act → counted (act_kind o.act) (act_count o.act) ≡ true → at + size_by (act_count o.act) ≤ end → Parted at o rest
        → operation_answer decode bytes end at ≡ Ok o
    unfolding operation_answer
    operation_read at end o rest h c room d =
        go_on (head_answer bytes at end) (action_answer decode bytes at) _ (Ok o) (head_read at end o rest h c room d)
        (go_on (action_by decode bytes at (act_kind o.act) (act_count o.act)) (λ a. Ok (record { process = o.process; act = a })) o.act (Ok o)
        (action_read at o.act rest h d.new d.operands) refl)

    pub operations_read : (at left end : ℕ) (ops : List (Op V)) (rest : List ℕ) → AllFitting ops → operations_end at left ops ≡ Ok end → drop at bytes ≡ flat_map (op_bytes code) ops ++ rest
        → operations_answer decode bytes end left at ≡ Ok ops
    unfolding operations_answer operations_end
    operations_read at zero end [] rest h l e = pass (leb end at) (fault WrongOperation at) (Ok []) (Ok []) (le-leb end at (omega (arith, ok_same at end l))) refl
    operations_read at (suc left) end [] rest h l e = cond-true (leb end at) (Ok []) _ (le-leb end at (omega (arith, ok_same at end l)))
    operations_read at zero end (o ∷ ops) rest h l e = never_ok (fault WrongOperation at) end l
    operations_read at (suc left) end (o ∷ ops) rest h l e =
        let n : ℕ = act_count o.act in
        let p = passed (counted (act_kind o.act) n) (fault WrongOperation at) (operations_end (at + size_by n) left ops) end l in
        let past = ends (at + size_by n) left end ops p.1 in
        let more = flat_map (op_bytes code) ops in
        let q = peel bytes at (size_by n) (op_bytes code o) more rest (op_length code o) e in
        let d = parted small at o (more ++ rest) q.0 in
        cond-false (leb end at) (Ok []) _ (lt-leb end at (omega arith))
        ∙ gather (operation_answer decode bytes end at) (operations_answer decode bytes end left (at + size_by (get_or bytes (at + 2) 0))) o ops
        (operation_read at end o (more ++ rest) h.0 p.0 (omega arith) d)
        (ap (λ x. operations_answer decode bytes end left (at + size_by x)) d.count_byte ∙ operations_read (at + size_by n) left end ops rest h.1 p.1 q.1)
