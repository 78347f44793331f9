-- What the loop over a row keeps.
use Rattle.std.proofs.Common.{◌≡◌, ℕ, zero, suc, ◌+◌, ◌-◌, ◌*◌, ◌<◌, ◌≤◌, true, List, [], ◌∷◌, ◌++◌, is_ok, Ok, Err, Result, sym, ap, ◌∙◌, mul-zero, mul-one, mul-add, arith}
use Rattle.sheet_format.specs.declared.fault.SheetFault.{SheetFault}
use Rattle.sheet_format.specs.Faults.{followed}
use Rattle.sheet_format.specs.Reading.{row_answer}
use Rattle.sheet_format.proofs.Steps.{split}
use Rattle.sheet_reader.proofs.Answering.{ahead, ahead_more, ahead_refused, ahead_all}

module _ {X : Type 0} (one : ℕ → Result X SheetFault) (w at count : ℕ) where
  -- i of the items were read
  abbrev pub Kept : ℕ → List X → Type 0
  Kept i done = ahead done (row_answer one w (at + w * i) (count - i)) ≡ row_answer one w at count

  module _ (i : ℕ) (done : List X) (h : Kept i done) where
    opened : i < count → ahead done (followed (one (at + w * i)) (row_answer one w (at + w * (i + 1)) (count - (i + 1)))) ≡ row_answer one w at count
    unfolding row_answer
    opened left =
        let next : (at + w * i) + w ≡ at + w * (i + 1) = let e = mul-add w i 1 in let o = mul-one w in omega (arith, e, o) in
        let n : suc (count - (i + 1)) ≡ count - i = omega arith in
        ap (λ k. ahead done (followed (one (at + w * i)) (row_answer one w k (count - (i + 1))))) (sym next)
        ∙ ap (λ k. ahead done (row_answer one w (at + w * i) k)) n ∙ h

    pub kept_more : i < count → (x : X) (done' : List X) → one (at + w * i) ≡ Ok x → done' ≡ done ++ x ∷ [] → Kept (i + 1) done'
    kept_more left = ahead_more done _ _ _ (opened left)

    pub kept_refused : i < count → (f : SheetFault) → one (at + w * i) ≡ Err f → row_answer one w at count ≡ Err f
    kept_refused left = ahead_refused done _ _ _ (opened left)

    pub kept_all : count ≤ i → row_answer one w at count ≡ Ok done
    unfolding row_answer
    kept_all end =
        let n : 0 ≡ count - i = omega arith in
        ahead_all done _ (ap (λ k. ahead done (row_answer one w (at + w * i) k)) n ∙ h)

  -- before item i, the first item was read if any was
  abbrev pub Started : ℕ → Type 0
  Started i = 0 < i → is_ok (one at) ≡ true

  -- where item i is read, the first was
  pub first_read : (i : ℕ) (x : X) → Started i → one (at + w * i) ≡ Ok x → is_ok (one at) ≡ true
  first_read zero x h e =
      let a : at + w * 0 ≡ at = rw mul-zero (omega arith) in
      ap (λ k. is_ok (one k)) (sym a) ∙ ap is_ok e
  first_read (suc i) x h e = h (omega arith)

-- where some items were read, the first was
pub first_of : {X : Type 0} (one : ℕ → Result X SheetFault) (w at n : ℕ) (xs : List X) → 1 ≤ n → row_answer one w at n ≡ Ok xs → is_ok (one at) ≡ true
unfolding row_answer
first_of one w at zero xs h e = absurd (omega arith)
first_of one w at (suc n) xs h e =
    let s = split (one at) (row_answer one w (at + w) n) xs e in
    ap is_ok s.first_is
