-- What the loop over the operations keeps. The most that may be read is a variable here, so that no proof
-- counts down from it.
use Rattle.std.proofs.Common.{◌≡◌, ℕ, zero, suc, ◌+◌, ◌-◌, ◌<◌, ◌≤◌, true, false, cond, leb, List, [], ◌∷◌, ◌++◌, get_or, Ok, Err, Option, sym, ap, ◌∙◌, arith}
use Rattle.std.proofs.lemmas.Bool.Decides.{nat_tests}
use Rattle.sheet_format.specs.declared.fault.SheetRefusal.TheVariants.{WrongOperation}
use Rattle.sheet_format.specs.declared.fault.SheetFault.{SheetFault}
use Rattle.sheet_format.specs.Faults.{fault, require, followed}
use Rattle.sheet_format.specs.Format.{size_by}
use Rattle.sheet_format.specs.Parts.{Op}
use Rattle.sheet_format.specs.Reading.{operation_answer, operations_answer}
use Rattle.sheet_reader.proofs.Answering.{ahead, ahead_more, ahead_refused, ahead_all}

module _ {V : Type 0} (decode : ℕ → Option V) (bytes : List ℕ) (end : ℕ) where
  ended : (left at : ℕ) → end ≤ at → Ok [] ≡ operations_answer decode bytes end left at
  unfolding operations_answer
  ended zero at h = let e : true ≡ leb end at = grind (arith, nat_tests) in ap (λ b. require b (fault WrongOperation at) (Ok [])) e
  ended (suc left) at h =
      let e : true ≡ leb end at = grind (arith, nat_tests) in
      ap (λ b. cond b (Ok []) (followed (operation_answer decode bytes end at) (operations_answer decode bytes end left (at + size_by (get_or bytes (at + 2) 0))))) e

  full : (at : ℕ) → at < end → operations_answer decode bytes end 0 at ≡ Err (fault WrongOperation at)
  unfolding operations_answer
  full at h = let e : leb end at ≡ false = grind (arith, nat_tests) in ap (λ b. require b (fault WrongOperation at) (Ok [])) e

  going : (left at : ℕ) → at < end → followed (operation_answer decode bytes end at) (operations_answer decode bytes end left (at + size_by (get_or bytes (at + 2) 0)))
      ≡ operations_answer decode bytes end (suc left) at
  unfolding operations_answer
  going left at h =
      let e : false ≡ leb end at = grind (arith, nat_tests) in
      ap (λ b. cond b (Ok []) (followed (operation_answer decode bytes end at) (operations_answer decode bytes end left (at + size_by (get_or bytes (at + 2) 0))))) e

  module _ (most first : ℕ) where
    -- n operations were read, and the next one starts at `next`
    abbrev pub Gathered : List (Op V) → ℕ → ℕ → Type 0
    Gathered done n next = ahead done (operations_answer decode bytes end (most - n) next) ≡ operations_answer decode bytes end most first

    module _ (done : List (Op V)) (n next : ℕ) (h : Gathered done n next) where
      pub gathered_all : end ≤ next → operations_answer decode bytes end most first ≡ Ok done
      gathered_all e = ahead_all done _ (ap (ahead done) (ended (most - n) next e) ∙ h)

      pub gathered_full : n ≡ most → next < end → operations_answer decode bytes end most first ≡ Err (fault WrongOperation next)
      gathered_full e l =
          let m : most - n ≡ 0 = omega arith in
          sym h ∙ ap (ahead done) (ap (λ k. operations_answer decode bytes end k next) m ∙ full next l)

      module _ (some : n < most) (l : next < end) where
        opened : ahead done (followed (operation_answer decode bytes end next) (operations_answer decode bytes end (most - (n + 1)) (next + size_by (get_or bytes (next + 2) 0))))
            ≡ operations_answer decode bytes end most first
        opened =
            let m : suc (most - (n + 1)) ≡ most - n = omega arith in
            ap (ahead done) (going (most - (n + 1)) next l ∙ ap (λ k. operations_answer decode bytes end k next) m) ∙ h

        pub gathered_refused : (f : SheetFault) → operation_answer decode bytes end next ≡ Err f → operations_answer decode bytes end most first ≡ Err f
        gathered_refused = ahead_refused done _ _ _ opened

        pub gathered_more : (o : Op V) (done' : List (Op V)) (n' after : ℕ) → operation_answer decode bytes end next ≡ Ok o → done' ≡ done ++ o ∷ []
            → n' ≡ n + 1 → after ≡ next + size_by (get_or bytes (next + 2) 0) → Gathered done' n' after
        gathered_more o done' n' after e d c a =
            ap (λ k. ahead done' (operations_answer decode bytes end (most - k) after)) c
            ∙ ap (λ k. ahead done' (operations_answer decode bytes end (most - (n + 1)) k)) a
            ∙ ahead_more done _ _ _ opened o done' e d
