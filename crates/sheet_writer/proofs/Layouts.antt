-- Where the parts of a sheet end, step by step, and what each refusal of the layout follows from.
use Rattle.std.proofs.Common.{◌≡◌, ℕ, zero, suc, ◌+◌, ◌*◌, ◌<◌, ◌≤◌, Bool, true, false, eqb, leb, List, [], ◌∷◌, map, length, get_or, drop, cond, nat_lt, Option, Some, None, Ok, Err, Result, sym, refl, ap, ◌∙◌, arith}
use Rattle.std.proofs.lemmas.List.{at_drop_more, at_drop_all}
use Rattle.std.proofs.lemmas.Iterator.{index_from_first}
use Rattle.std.specs.List.{prefix_len, AllWithin, HoldsAt}
use Rattle.std.specs.Option.{MatchOption, unwrap_or}
use Rattle.std.proofs.lemmas.Bool.Decides.{nat_tests}
use Rattle.operation.specs.declared.kind.OperationKind.{OperationKind}
use Rattle.sheet_format.specs.declared.fault.SheetRefusal.TheVariants.{WrongHeader, WrongOperation, WrongScript}
use Rattle.sheet_format.specs.declared.fault.SheetFault.{SheetFault}
use Rattle.sheet_format.specs.declared.parts.Operation.{Operation}
use Rattle.sheet_format.specs.declared.parts.ScriptItem.{ScriptItem}
use Rattle.operation.specs.Kinds.{counted}
use Rattle.sheet_format.specs.Faults.{fault, require, then}
use Rattle.sheet_format.specs.Parts.{Op, Parts, op_of}
use Rattle.sheet_format.specs.Format.{act_kind, act_count, size_by, operations_at}
use Rattle.sheet_format.specs.Reading.{within, starts}
use Rattle.sheet_format.proofs.Steps.{pass, stop, go_on, refused}
use Rattle.sheet_format.specs.Writing.{operations_end, writable, script_end, layout_answer}

-- a test at one kind and count, known at equal ones
pub counted_at : {r b : Bool} {k k' : OperationKind} {n n' : ℕ} → r ≡ counted k n → r ≡ b → k ≡ k' → n ≡ n' → counted k' n' ≡ b
counted_at is was p q = sym (λ i. counted (p i) (q i)) ∙ sym is ∙ was

ops_none : (V : Type 0) (at left : ℕ) → operations_end {V = V} at left [] ≡ Ok at
unfolding operations_end
ops_none V at zero = refl
ops_none V at (suc left) = refl

module _ {V : Type 0} where
  ops_full : (at : ℕ) (o : Op V) (rest : List (Op V)) → operations_end at 0 (o ∷ rest) ≡ Err (fault WrongOperation at)
  unfolding operations_end
  ops_full at o rest = refl

  ops_more : (at left : ℕ) (o : Op V) (rest : List (Op V)) → operations_end at (suc left) (o ∷ rest)
      ≡ require (counted (act_kind o.act) (act_count o.act)) (fault WrongOperation at) (operations_end (at + size_by (act_count o.act)) left rest)
  unfolding operations_end
  ops_more at left o rest = refl

  ops_wrong : (at left : ℕ) (o : Op V) (rest : List (Op V)) → counted (act_kind o.act) (act_count o.act) ≡ false
      → operations_end at left (o ∷ rest) ≡ Err (fault WrongOperation at)
  ops_wrong at zero o rest e = ops_full at o rest
  ops_wrong at (suc left) o rest e = ops_more at left o rest ∙ ap (λ b. require b (fault WrongOperation at) (operations_end (at + size_by (act_count o.act)) left rest)) e

  pub ops_all : (os : List (Op V)) (i end left : ℕ) → length os ≤ i → operations_end end left (drop i os) ≡ Ok end
  ops_all os i end left h = at_drop_all (operations_end end left) os i h ∙ ops_none V end left

  -- operation `i` is `o`
  module _ (os : List (Op V)) (i : ℕ) (h : i < length os) (o : Op V) (is : o ≡ get_or os i o) (end : ℕ) where
    here : (left : ℕ) → operations_end end left (drop i os) ≡ operations_end end left (o ∷ drop (i + 1) os)
    here left = at_drop_more (operations_end end left) os i o h ∙ ap (λ p. operations_end end left (p ∷ drop (i + 1) os)) (sym is)

    pub too_many : (left : ℕ) → left ≡ 0 → operations_end end left (drop i os) ≡ Err (fault WrongOperation end)
    too_many left e = here left ∙ ap (λ n. operations_end end n (o ∷ drop (i + 1) os)) e ∙ ops_full end o (drop (i + 1) os)

    pub miscounted : (left : ℕ) → counted (act_kind o.act) (act_count o.act) ≡ false → operations_end end left (drop i os) ≡ Err (fault WrongOperation end)
    miscounted left e = here left ∙ ops_wrong end left o (drop (i + 1) os) e

    pub ops_on : (left fewer count : ℕ) → left ≡ suc fewer → count ≡ act_count o.act → counted (act_kind o.act) (act_count o.act) ≡ true
        → operations_end (end + size_by count) fewer (drop (i + 1) os) ≡ operations_end end left (drop i os)
    ops_on left fewer count e q t =
        let rest = drop (i + 1) os in
        ap (λ n. operations_end (end + size_by n) fewer rest) q
        ∙ sym (here left ∙ ap (λ n. operations_end end n (o ∷ rest)) e ∙ ops_more end fewer o rest
        ∙ ap (λ b. require b (fault WrongOperation end) (operations_end (end + size_by (act_count o.act)) fewer rest)) t)

-- the first item that has no byte, if there is one
abbrev Stops : List ScriptItem → Option ℕ → Type 0
Stops items r = MatchOption r (AllWithin (λ i. writable i ≡ true) items 0 (length items)) (λ i. (i < length items) × HoldsAt (λ j. writable j ≡ false) items i × AllWithin (λ j. writable j ≡ true) items 0 i)

-- where a script ends, by how many of its first items have a byte
first_end : ℕ → ℕ → ℕ → Result ℕ SheetFault
first_end at n len = cond (nat_lt n len) (Err (fault WrongScript (at + n))) (Ok (at + len))

first_step : (b : Bool) (at n len : ℕ) → require b (fault WrongScript at) (first_end (at + 1) n len) ≡ first_end at (cond b (1 + n) 0) (suc len)
unfolding first_end
first_step true at n len =
    let t : nat_lt n len ≡ nat_lt (1 + n) (suc len) = grind (arith, nat_tests) in
    let e : (at + 1) + n ≡ at + (1 + n) = omega arith in
    let f : (at + 1) + len ≡ at + suc len = omega arith in
    λ i. cond (t i) (Err (fault WrongScript (e i))) (Ok (f i))
first_step false at n len =
    let t : true ≡ nat_lt 0 (suc len) = grind (arith, nat_tests) in
    let e : at ≡ at + 0 = omega arith in
    λ i. cond (t i) (Err (fault WrongScript (e i))) (Ok (at + suc len))

by_first : (at : ℕ) (items : List ScriptItem) → script_end at items ≡ first_end at (prefix_len writable items) (length items)
unfolding script_end first_end
by_first at [] = let e : at ≡ at + 0 = omega arith in ap Ok e
by_first at (i ∷ rest) = ap (require (writable i) (fault WrongScript at)) (by_first (at + 1) rest) ∙ first_step (writable i) at (prefix_len writable rest) (length rest)

first_at : (items : List ScriptItem) (r : Option ℕ) → Stops items r → prefix_len writable items ≡ unwrap_or r (length items)
first_at items r = index_from_first (prefix_len writable) (λ i. writable i ≡ false) (λ i. writable i ≡ true) refl
    (λ x xs h. ap (λ b. cond b (1 + prefix_len writable xs) 0) h)
    (λ x xs h. let e : 1 + prefix_len writable xs ≡ prefix_len writable xs + 1 = omega arith in ap (λ b. cond b (1 + prefix_len writable xs) 0) h ∙ e)
    items r

abbrev pub end_by : ℕ → ℕ → Option ℕ → Result ℕ SheetFault
end_by at len (Some i) = Err (fault WrongScript (at + i))
end_by at len None = Ok (at + len)

pub script_ends : (at : ℕ) (items : List ScriptItem) (r : Option ℕ) → Stops items r → script_end at items ≡ end_by at (length items) r
unfolding first_end
script_ends at items (Some i) h =
    let t : nat_lt i (length items) ≡ true = grind (arith, nat_tests, h.0) in
    by_first at items ∙ ap (λ n. first_end at n (length items)) (first_at items (Some i) h) ∙ ap (λ b. cond b (Err (fault WrongScript (at + i))) (Ok (at + length items))) t
script_ends at items None h =
    let len = length items in
    let t : nat_lt len len ≡ false = grind (arith, nat_tests) in
    by_first at items ∙ ap (λ n. first_end at n len) (first_at items None h) ∙ ap (λ b. cond b (Err (fault WrongScript (at + len))) (Ok (at + len))) t

-- what the code found of its counts and lists, at equal ones
pub within_at : {r b : Bool} {n n' : ℕ} (low high : ℕ) → n ≡ n' → r ≡ b → r ≡ within low high n → within low high n' ≡ b
within_at low high p was is = sym (ap (within low high) p) ∙ sym is ∙ was

pub ops_at : {V : Type 0} {r w : Result ℕ SheetFault} {n n' : ℕ} {os os' : List (Operation V)} → r ≡ operations_end (24 + 8 * n) 4096 (map op_of os) → r ≡ w → n ≡ n' → os ≡ os'
    → operations_end (24 + 8 * n') 4096 (map op_of os') ≡ w
ops_at is was p q = sym (λ i. operations_end (24 + 8 * p i) 4096 (map op_of (q i))) ∙ sym is ∙ was

pub items_at : {r w : Result ℕ SheetFault} {items items' : List ScriptItem} (at : ℕ) → r ≡ script_end at items → r ≡ w → items ≡ items' → script_end at items' ≡ w
items_at at is was q = sym (ap (script_end at) q) ∙ sym is ∙ was

-- the rules of the layout past the three counts, and its ways out
module _ {V : Type 0} (p : Parts V) where
  abbrev pub script_rule : ℕ → Result ℕ SheetFault
  script_rule end = require (eqb (starts p.script) (length p.operations)) (fault WrongScript end) (Ok end)

  abbrev pub body_rule : Result ℕ SheetFault
  body_rule = then (operations_end (operations_at p) 4096 p.operations) (λ s. then (script_end s p.script) script_rule)

  pub wrong_locations : within 1 256 (length p.initial) ≡ false → layout_answer p ≡ Err (fault WrongHeader 2)
  unfolding layout_answer
  wrong_locations h = stop _ _ _ h

  module _ (l : within 1 256 (length p.initial) ≡ true) where
    pub wrong_processes : within 1 32 p.processes ≡ false → layout_answer p ≡ Err (fault WrongHeader 4)
    unfolding layout_answer
    wrong_processes h = pass _ _ _ _ l (stop _ _ _ h)

    module _ (q : within 1 32 p.processes ≡ true) where
      pub wrong_items : 65535 < length p.script → layout_answer p ≡ Err (fault WrongHeader 6)
      unfolding layout_answer
      wrong_items h =
          let e : leb (length p.script) 65535 ≡ false = grind (arith, nat_tests) in
          pass _ _ _ _ l (pass _ _ _ _ q (stop _ _ _ e))

      module _ (n : length p.script ≤ 65535) where
        body : layout_answer p ≡ body_rule
        unfolding layout_answer
        body =
            let e : leb (length p.script) 65535 ≡ true = grind (arith, nat_tests) in
            pass _ _ _ _ l (pass _ _ _ _ q (pass _ _ _ _ e refl))

        pub wrong_operation : (f : SheetFault) → operations_end (operations_at p) 4096 p.operations ≡ Err f → layout_answer p ≡ Err f
        wrong_operation f e = body ∙ refused _ _ f e

        module _ (s : ℕ) (ops : operations_end (operations_at p) 4096 p.operations ≡ Ok s) where
          pub wrong_item : (f : SheetFault) → script_end s p.script ≡ Err f → layout_answer p ≡ Err f
          wrong_item f e = body ∙ go_on _ _ s _ ops (refused _ _ f e)

          module _ (end : ℕ) (items : script_end s p.script ≡ Ok end) where
            pub wrong_starts : (starts p.script ≡ length p.operations → ⊥) → layout_answer p ≡ Err (fault WrongScript end)
            wrong_starts h =
                let e : eqb (starts p.script) (length p.operations) ≡ false = grind (arith, nat_tests) in
                body ∙ go_on _ _ s _ ops (go_on _ _ end _ items (stop _ _ _ e))

            pub right_starts : starts p.script ≡ length p.operations → layout_answer p ≡ Ok end
            right_starts h =
                let e : eqb (starts p.script) (length p.operations) ≡ true = grind (arith, nat_tests) in
                body ∙ go_on _ _ s _ ops (go_on _ _ end _ items (pass _ _ _ _ e refl))
