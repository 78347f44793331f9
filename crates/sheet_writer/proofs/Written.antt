-- What an accepted layout says of the parts, and what writing answers and leaves.
use Rattle.std.proofs.Common.{◌≡◌, ℕ, zero, suc, ◌+◌, ◌<◌, ◌≤◌, true, false, cond, leb, List, [], ◌∷◌, map, length, vec_items, is_ok, Ok, Err, take, Option, refl, ap, ◌∙◌, rules, arith}
use Rattle.std.specs.Bool.{IsTrue}
use Rattle.std.specs.List.{AllByRecursion}
use Rattle.std.proofs.lemmas.Bool.Decides.{nat_tests}
use Rattle.sheet_format.specs.declared.fault.SheetRefusal.TheVariants.{WrongOperation, WrongScript, ShortOutput}
use Rattle.sheet_format.specs.declared.fault.SheetFault.{SheetFault}
use Rattle.sheet_format.specs.declared.parts.Operation.{Operation}
use Rattle.sheet_format.specs.declared.parts.ScriptItem.{ScriptItem}
use Rattle.sheet_format.specs.declared.parts.Sheet.{Sheet}
use Rattle.sheet_format.specs.Bytes.{overwritten}
use Rattle.sheet_format.specs.Faults.{fault}
use Rattle.operation.specs.Kinds.{counted}
use Rattle.sheet_format.specs.Parts.{act_of, op_of, Parts, parts_of, AllFitting}
use Rattle.sheet_format.specs.Format.{act_kind, act_count, size_by, operations_at, script_at, total, sheet_bytes}
use Rattle.sheet_format.specs.Reading.{read_answer}
use Rattle.sheet_format.specs.RoundTrip.{WriteThenRead}
use Rattle.sheet_format.specs.Writing.{operations_end, writable, script_end, layout_answer, write_answer, write_after}
use Rattle.sheet_format.proofs.Counts.{counted_range}
use Rattle.sheet_format.proofs.Steps.{never_ok, pass, stop, passed, go_on, refused}
use Rattle.sheet_format.proofs.Accepted.{laid_out}

-- The operations of an accepted layout have small counts, and each item of its script has a byte.
abbrev pub Small : {V : Type 0} → List (Operation V) → Type 0
Small = AllByRecursion (λ o. act_count (act_of o.action) < 256)

small : {V : Type 0} (at left end : ℕ) (os : List (Operation V)) → operations_end at left (map op_of os) ≡ Ok end → Small os
unfolding operations_end
small at left end [] e = tt
small at zero end (o ∷ os) e = never_ok (fault WrongOperation at) end e
small at (suc left) end (o ∷ os) e =
    let act = act_of o.action in
    let next : ℕ = at + size_by (act_count act) in
    let q = passed (counted (act_kind act) (act_count act)) (fault WrongOperation at) (operations_end next left (map op_of os)) end e in
    let range = counted_range (act_kind act) (act_count act) q.0 in
    (omega arith, small next left end os q.1)

abbrev pub Writable : List ScriptItem → Type 0
Writable = AllByRecursion (λ i. IsTrue (writable i))

stands : (at end : ℕ) (items : List ScriptItem) → script_end at items ≡ Ok end → Writable items
unfolding script_end
stands at end [] e = tt
stands at end (i ∷ rest) e =
    let q = passed (writable i) (fault WrongScript at) (script_end (at + 1) rest) end e in
    (search (rules, q.0), stands (at + 1) end rest q.1)

module _ {V : Type 0} (s : Sheet V) (end : ℕ) (laid : layout_answer (parts_of s) ≡ Ok end) where
  pub laid_total : end ≡ total (parts_of s)
  laid_total = (laid_out (parts_of s) end laid).1

  pub laid_small : Small (vec_items s.operations)
  laid_small = small (operations_at (parts_of s)) 4096 (script_at (parts_of s)) (vec_items s.operations) (laid_out (parts_of s) end laid).0.operations

  pub laid_writable : Writable (vec_items s.script)
  laid_writable = stands (script_at (parts_of s)) (total (parts_of s)) (vec_items s.script) (laid_out (parts_of s) end laid).0.script

module _ {V : Type 0} (p : Parts V) (room : ℕ) where
  pub write_refused : (f : SheetFault) → layout_answer p ≡ Err f → write_answer p room ≡ Err f
  unfolding write_answer
  write_refused f e = refused _ _ f e

  pub write_short : (end : ℕ) → layout_answer p ≡ Ok end → room < end → write_answer p room ≡ Err (fault ShortOutput end)
  unfolding write_answer
  write_short end e h =
      let t : leb end room ≡ false = grind (arith, nat_tests) in
      go_on _ _ end _ e (stop _ _ _ t)

  pub write_fits : (end : ℕ) → layout_answer p ≡ Ok end → end ≤ room → write_answer p room ≡ Ok end
  unfolding write_answer
  write_fits end e h =
      let t : leb end room ≡ true = grind (arith, nat_tests) in
      go_on _ _ end _ e (pass _ _ _ _ t refl)

module _ {V : Type 0} (p : Parts V) (code : V → ℕ) (number : ℕ) (out : List ℕ) where
  pub after_refused : (f : SheetFault) → write_answer p (length out) ≡ Err f → write_after p code number out ≡ out
  after_refused f e = ap (λ r. cond (is_ok r) (overwritten (sheet_bytes code number p) out) out) e

  pub after_fits : (end : ℕ) → write_answer p (length out) ≡ Ok end → write_after p code number out ≡ overwritten (sheet_bytes code number p) out
  after_fits end e = ap (λ r. cond (is_ok r) (overwritten (sheet_bytes code number p) out) out) e

  -- reading what is left
  pub reads_back : (decode : ℕ → Option V) → WriteThenRead code decode number p out → (end : ℕ) → AllFitting p.operations → write_answer p (length out) ≡ Ok end
      → (after : List ℕ) → after ≡ write_after p code number out → read_answer decode (take end after) number ≡ Ok p
  reads_back decode back end f e after is = ap (λ o. read_answer decode (take end o) number) is ∙ back end f e
