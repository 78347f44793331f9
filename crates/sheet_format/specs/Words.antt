-- Refusals in plain words. `codes` is a fixed text and `decimal` a number in decimal.
use Rattle.std.specs.Prelude.{ℕ, List, ◌++◌, codes, decimal}
use Rattle.sheet_format.specs.declared.fault.SheetRefusal.{SheetRefusal}
use Rattle.sheet_format.specs.declared.fault.SheetRefusal.TheVariants.{WrongLength, WrongHeader, WrongOffset, WrongOperation, WrongCode, WrongScript, ShortOutput}
use Rattle.sheet_format.specs.declared.fault.SheetFault.{SheetFault}
use Rattle.sheet_format.specs.declared.fault.ReadError.{ReadError}
use Rattle.sheet_format.specs.declared.fault.ReadError.TheVariants.{Fault, NoMemory}
use Rattle.sheet_format.specs.Faults.{refusal_number}

-- what is wrong, for each refusal
abbrev pub refusal_words : SheetRefusal → List ℕ
refusal_words WrongLength = codes "the sheet is shorter than its header or not as long as it says"
refusal_words WrongHeader = codes "version, kind, number of locations, processes or script items is not allowed"
refusal_words WrongOffset = codes "an offset is wrong, below the one before or past the total"
refusal_words WrongOperation = codes "an operation's kind, count, zero byte or an unused code is wrong, it runs past the script, or there are more than 4,096"
refusal_words WrongCode = codes "a code gives no value of this kind"
refusal_words WrongScript = codes "a script byte is wrong, or the starts are not as many as the operations"
refusal_words ShortOutput = codes "the output is too short"

-- A fault's layer, number and place, and why.
abbrev pub fault_line : SheetFault → List ℕ
fault_line f = codes "layer " ++ (decimal 3 ++ (codes ", number " ++ (decimal (refusal_number f.refusal)
    ++ (codes ", place " ++ (decimal f.place ++ (codes ": " ++ refusal_words f.refusal))))))

-- a fault's line, or that no memory is left
abbrev pub error_line : ReadError → List ℕ
error_line (Fault f) = fault_line f
error_line NoMemory = codes "no memory is left to hold the sheet"
