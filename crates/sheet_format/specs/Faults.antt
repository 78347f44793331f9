-- The refusals of the sheet layer, and how the steps of a reading join.
use Rattle.std.specs.Prelude.{◌≡◌, ℕ, Bool, cond, List, ◌∷◌, Ok, Err, Result}
use Rattle.sheet_format.specs.declared.fault.SheetRefusal.{SheetRefusal}
use Rattle.sheet_format.specs.declared.fault.SheetRefusal.TheVariants.{WrongLength, WrongHeader, WrongOffset, WrongOperation, WrongCode, WrongScript, ShortOutput}
use Rattle.sheet_format.specs.declared.fault.SheetFault.{SheetFault}
use Rattle.sheet_format.specs.declared.fault.ReadError.{ReadError}
use Rattle.sheet_format.specs.declared.fault.ReadError.TheVariants.{Fault, NoMemory}

-- each refusal's number: 20 to 26
abbrev pub refusal_number : SheetRefusal → ℕ
refusal_number WrongLength = 20
refusal_number WrongHeader = 21
refusal_number WrongOffset = 22
refusal_number WrongOperation = 23
refusal_number WrongCode = 24
refusal_number WrongScript = 25
refusal_number ShortOutput = 26

-- a refusal, with the place that it tells
abbrev pub fault : SheetRefusal → ℕ → SheetFault
fault why at = record { refusal = why; place = at }

-- go on where the test holds, else refuse
abbrev pub require : {X : Type 0} → Bool → SheetFault → Result X SheetFault → Result X SheetFault
require test f next = cond test next (Err f)

-- go on with what the first part gives, or refuse as it does
abbrev pub then : {X Y : Type 0} → Result X SheetFault → (X → Result Y SheetFault) → Result Y SheetFault
then (Ok x) next = next x
then (Err f) next = Err f

-- an item in front of the others; the first that refuses decides
abbrev pub in_front : {X : Type 0} → X → Result (List X) SheetFault → Result (List X) SheetFault
in_front x (Ok xs) = Ok (x ∷ xs)
in_front x (Err f) = Err f

-- an item that may be refused, in front of the others: its refusal comes before theirs
abbrev pub followed : {X : Type 0} → Result X SheetFault → Result (List X) SheetFault → Result (List X) SheetFault
followed (Ok x) rest = in_front x rest
followed (Err f) rest = Err f

-- An answer of the code is the one that the rules give, with what it holds seen through `view`; only want
-- of memory may come in its place.
abbrev pub Refuses : {Y : Type 0} → ReadError → Result Y SheetFault → Type 0
Refuses (Fault f) answer = answer ≡ Err f
Refuses NoMemory answer = Unit {0}

-- what the code has read is what the rules give, seen through `view`; its error is one that `Refuses` allows
abbrev pub Reads : {X Y : Type 0} → (X → Y) → Result X ReadError → Result Y SheetFault → Type 0
Reads view (Ok x) answer = answer ≡ Ok (view x)
Reads view (Err e) answer = Refuses e answer

-- Memory may be wanting only where there is something to keep.
abbrev pub Wants : ReadError → Type 0 → Type 0
Wants (Fault f) kept = Unit {0}
Wants NoMemory kept = kept

-- an answer may be want of memory only where `kept` holds
abbrev pub NeedsMemory : {X : Type 0} → Result X ReadError → Type 0 → Type 0
NeedsMemory (Ok x) kept = Unit {0}
NeedsMemory (Err e) kept = Wants e kept
