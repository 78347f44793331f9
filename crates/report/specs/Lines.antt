-- The lines of a report, word for word. `codes` is a fixed text and `decimal` a number in decimal; "\n" ends
-- the line.
use Rattle.std.specs.Prelude.{ℕ, ◌+◌, Bool, cond, List, ◌++◌, codes, decimal}
use Rattle.std.specs.List.{flat_map}
use Rattle.sheet.specs.declared.SheetFault.{SheetFault}
use Rattle.sheet.specs.declared.ScriptItem.{ScriptItem}
use Rattle.sheet.specs.declared.ScriptItem.TheVariants.{Start, Step}
use Rattle.sheet.specs.Faults.{refusal_number}
use Rattle.sheet.specs.Parts.{Act, read, ll, sc, snapshot, kcss, Op}
use Rattle.sheet.specs.Words.{refusal_words}

-- how many bytes the sheet has
abbrev pub size_line : ℕ → List ℕ
size_line long = codes "run sheet, " ++ (decimal long ++ codes " bytes\n")

-- what the header says
abbrev pub header_line : ℕ → ℕ → ℕ → ℕ → List ℕ
header_line kind locations processes items = codes "version 1, kind " ++ (decimal kind ++ (codes ", " ++ (decimal locations
    ++ (codes " locations, " ++ (decimal processes ++ (codes " processes, " ++ (decimal items ++ codes " script items\n")))))))

-- the code of the value that a location holds at first
abbrev pub value_line : ℕ → ℕ → List ℕ
value_line location code = codes "  location " ++ (decimal location ++ (codes ": code " ++ (decimal code ++ codes "\n")))

-- a number with a blank before it
abbrev pub spaced : ℕ → List ℕ
spaced n = codes " " ++ decimal n

module _ {V : Type 0} (code : V → ℕ) where
  -- what an operation does: a KCSS names its locations, then the codes that it expects there, then its new code
  abbrev pub act_words : Act V → List ℕ
  act_words (read a) = codes "READ " ++ decimal a
  act_words (ll a) = codes "LL " ++ decimal a
  act_words (sc a v) = codes "SC " ++ (decimal a ++ (codes ", new " ++ decimal (code v)))
  act_words (snapshot locations) = codes "SNAPSHOT" ++ flat_map spaced locations
  act_words (kcss v operands) = codes "KCSS" ++ (flat_map (λ o. spaced o.location) operands
      ++ (codes ", expecting" ++ (flat_map (λ o. spaced (code o.expected)) operands ++ (codes ", new " ++ decimal (code v)))))

  -- an operation is counted from 1
  abbrev pub operation_line : ℕ → Op V → List ℕ
  operation_line i o = codes "  " ++ (decimal (i + 1) ++ (codes ": process " ++ (decimal o.process ++ (codes ", " ++ (act_words o.act ++ codes "\n")))))

-- a turn of the schedule; a start names the operation that comes after those that were started before
abbrev pub item_line : ℕ → ℕ → ScriptItem → List ℕ
item_line turn started Start = codes "  " ++ (decimal turn ++ (codes ": start operation " ++ (decimal (started + 1) ++ codes "\n")))
item_line turn started (Step process) = codes "  " ++ (decimal turn ++ (codes ": step process " ++ (decimal process ++ codes "\n")))

-- how many operations are started once an item was carried out
abbrev pub started_by : ScriptItem → ℕ → ℕ
started_by Start started = started + 1
started_by (Step process) started = started

-- how many bytes came when the sheet was written again, and whether they were the bytes that were read
abbrev pub again_line : ℕ → Bool → List ℕ
again_line long same = codes "written again, " ++ (decimal long ++ (codes " bytes: " ++ (cond same (codes "the same") (codes "different") ++ codes "\n")))

-- the layer, number and place of a refusal, and why
abbrev pub refusal_line : SheetFault → List ℕ
refusal_line f = codes "refused: layer " ++ (decimal 3 ++ (codes ", number " ++ (decimal (refusal_number f.refusal)
    ++ (codes ", place " ++ (decimal f.place ++ (codes ": " ++ (refusal_words f.refusal ++ codes "\n")))))))
