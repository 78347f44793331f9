-- How the steps of a reading or a layout go on, and what an accepted one says of its steps.
use Rattle.std.proofs.Common.{◌≡◌, ℕ, Bool, true, false, List, ◌∷◌, Some, None, Ok, Err, Option, Result, refl, ap, ◌∙◌, arith}
use Rattle.std.specs.Option.{ok_or}
use Rattle.sheet_format.specs.declared.fault.SheetFault.{SheetFault}
use Rattle.sheet_format.specs.Faults.{require, then, in_front, followed}

pub never_ok : {X Y : Type 0} (f : SheetFault) (x : X) → ◌≡◌ {A = Result X SheetFault} (Err f) (Ok x) → Y
never_ok f x e = let z : ◌≡◌ {A = ℕ} 0 1 = cc in absurd (omega arith)

pub ok_same : {X : Type 0} (x y : X) → ◌≡◌ {A = Result X SheetFault} (Ok x) (Ok y) → x ≡ y
ok_same x y e = cc

module _ {X : Type 0} where
  -- a test that holds lets the reading go on
  pub pass : (t : Bool) (f : SheetFault) (next r : Result X SheetFault) → t ≡ true → next ≡ r → require t f next ≡ r
  pass true f next r h e = e
  pass false f next r h e = let z : ◌≡◌ {A = ℕ} 0 1 = cc in absurd (omega arith)

  -- one that does not hold refuses
  pub stop : (t : Bool) (f : SheetFault) (next : Result X SheetFault) → t ≡ false → require t f next ≡ Err f
  stop t f next e = ap (λ b. require b f next) e

  pub passed : (t : Bool) (f : SheetFault) (next : Result X SheetFault) (x : X) → require t f next ≡ Ok x → (t ≡ true) × (next ≡ Ok x)
  passed true f next x e = (refl, e)
  passed false f next x e = never_ok f x e

  -- the parts of a list that is read
  pub gather : (r : Result X SheetFault) (rest : Result (List X) SheetFault) (x : X) (xs : List X) → r ≡ Ok x → rest ≡ Ok xs → followed r rest ≡ Ok (x ∷ xs)
  gather r rest x xs p q = ap (λ s. followed s rest) p ∙ ap (in_front x) q

  pub some_ok : (o : Option X) (f : SheetFault) (x : X) → ok_or o f ≡ Ok x → o ≡ Some x
  some_ok (Some y) f x e = cc
  some_ok None f x e = never_ok f x e

  -- both parts of a list that was read
  pub record Split (r : Result X SheetFault) (rest : Result (List X) SheetFault) (ys : List X) : Type 0 where
    pub first : X
    pub others : List X
    pub first_is : r ≡ Ok first
    pub others_are : rest ≡ Ok others
    pub whole : ys ≡ first ∷ others

  pub split : (r : Result X SheetFault) (rest : Result (List X) SheetFault) (ys : List X) → followed r rest ≡ Ok ys → Split r rest ys
  split (Ok x) (Ok xs) ys e = record { first = x; others = xs; first_is = refl; others_are = refl; whole = cc }
  split (Ok x) (Err f) ys e = never_ok f ys e
  split (Err f) rest ys e = never_ok f ys e

  -- the first part of what was accepted
  module _ {Y : Type 0} where
    pub go_on : (r : Result X SheetFault) (next : X → Result Y SheetFault) (x : X) (y : Result Y SheetFault) → r ≡ Ok x → next x ≡ y → then r next ≡ y
    go_on r next x y p q = ap (λ s. then s next) p ∙ q

    pub refused : (r : Result X SheetFault) (next : X → Result Y SheetFault) (f : SheetFault) → r ≡ Err f → then r next ≡ Err f
    refused r next f e = ap (λ s. then s next) e

    pub record Begun (r : Result X SheetFault) (next : X → Result Y SheetFault) (y : Y) : Type 0 where
      pub value : X
      pub first_is : r ≡ Ok value
      pub rest_is : next value ≡ Ok y

    pub begun : (r : Result X SheetFault) (next : X → Result Y SheetFault) (y : Y) → then r next ≡ Ok y → Begun r next y
    begun (Ok x) next y e = record { value = x; first_is = refl; rest_is = e }
    begun (Err f) next y e = never_ok f y e
