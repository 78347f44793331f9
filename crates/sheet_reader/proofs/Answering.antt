-- How a list is read item by item: what a loop has, with what is to come, is the whole answer.
use Rattle.std.proofs.Common.{◌≡◌, List, [], ◌∷◌, ◌++◌, Ok, Err, Result, sym, refl, ap, ◌∙◌}
use Rattle.std.proofs.lemmas.List.{append_assoc, append-nil}
use Rattle.sheet_format.specs.declared.fault.SheetFault.{SheetFault}
use Rattle.sheet_format.specs.Faults.{followed, in_front}

module _ {X : Type 0} where
  -- items that were read, in front of what is still to come
  abbrev pub ahead : List X → Result (List X) SheetFault → Result (List X) SheetFault
  ahead done (Ok rest) = Ok (done ++ rest)
  ahead done (Err f) = Err f

  one_more : (done : List X) (x : X) (rest : Result (List X) SheetFault) → ahead (done ++ x ∷ []) rest ≡ ahead done (in_front x rest)
  one_more done x (Ok rest) = ap Ok (append_assoc done (x ∷ []) rest)
  one_more done x (Err f) = refl

  -- the next item is read, or refused, or there is none
  module _ (done : List X) (one : Result X SheetFault) (rest whole : Result (List X) SheetFault) (h : ahead done (followed one rest) ≡ whole) where
    pub ahead_more : (x : X) (done' : List X) → one ≡ Ok x → done' ≡ done ++ x ∷ [] → ahead done' rest ≡ whole
    ahead_more x done' e d = ap (λ xs. ahead xs rest) d ∙ one_more done x rest ∙ ap (λ r. ahead done (followed r rest)) (sym e) ∙ h

    pub ahead_refused : (f : SheetFault) → one ≡ Err f → whole ≡ Err f
    ahead_refused f e = sym h ∙ ap (λ r. ahead done (followed r rest)) e

  pub ahead_all : (done : List X) (whole : Result (List X) SheetFault) → ahead done (Ok []) ≡ whole → whole ≡ Ok done
  ahead_all done whole h = sym h ∙ ap Ok (append-nil done)
