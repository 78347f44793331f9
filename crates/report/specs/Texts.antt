-- The report on a run sheet, as a function of its bytes.
use Rattle.std.specs.Prelude.{◌≡◌, ℕ, ◌+◌, Bool, true, cond, List, [], ◌∷◌, ◌++◌, length, is_ok, Ok, Err, string_bytes, codes, Result, ◌==◌, slice_index}
use Rattle.value.specs.declared.link.Link.{Link}
use Rattle.value.specs.declared.number.Number.{Number}
use Rattle.value.specs.Codes.{number_of, link_code, link_of}
use Rattle.sheet.specs.declared.SheetFault.{SheetFault}
use Rattle.sheet.specs.declared.ScriptItem.{ScriptItem}
use Rattle.sheet.specs.Parts.{Op, Parts}
use Rattle.sheet.specs.Reading.{read_answer}
use Rattle.report.specs.declared.answer.Report.{Report}
use Rattle.report.specs.Lines.{size_line, header_line, value_line, operation_line, item_line, started_by, again_line, refusal_line}

-- a line for each item, with its place in the list
abbrev pub numbered : {X : Type 0} → (ℕ → X → List ℕ) → ℕ → List X → List ℕ
numbered line i [] = []
numbered line i (x ∷ rest) = line i x ++ numbered line (i + 1) rest

-- a line for each turn of a schedule, after so many turns and so many starts
abbrev pub turns : ℕ → ℕ → List ScriptItem → List ℕ
turns i started [] = []
turns i started (x ∷ rest) = item_line (i + 1) started x ++ turns (i + 1) (started_by x started) rest

module _ {V : Type 0} (code : V → ℕ) where
  -- the initial values: a heading, then a line for each location
  abbrev pub values_text : List V → List ℕ
  values_text values = codes "initial values\n" ++ numbered (λ i v. value_line i (code v)) 0 values

  -- the operations: a heading, then a line for each in its turn
  abbrev pub operations_text : List (Op V) → List ℕ
  operations_text ops = codes "operations\n" ++ numbered (operation_line code) 0 ops

-- the schedule: a heading, then a line for each turn
abbrev pub script_text : List ScriptItem → List ℕ
script_text items = codes "schedule\n" ++ turns 0 0 items

module _ {V : Type 0} (code : V → ℕ) (number : ℕ) where
  -- what a sheet of this length says
  abbrev pub parts_text : ℕ → Parts V → List ℕ
  parts_text long p = size_line long ++ (header_line number (length p.initial) p.processes (length p.script)
      ++ (values_text code p.initial ++ (operations_text code p.operations ++ script_text p.script)))

  -- A sheet that is read is described, and said to come back the same when it is written again; one that is
  -- refused gets one line.
  abbrev pub answer_text : ℕ → Result (Parts V) SheetFault → List ℕ
  answer_text long (Ok p) = parts_text long p ++ again_line long true
  answer_text long (Err f) = refusal_line f

-- a sheet whose byte 1 is 2 is read as links, any other as numbers
abbrev pub is_links : List ℕ → Bool
is_links bytes = slice_index bytes 1 == 2

-- what reading the bytes as a sheet of links answers
abbrev pub links_answer : List ℕ → Result (Parts Link) SheetFault
links_answer bytes = read_answer link_of bytes 2

-- what reading the bytes as a sheet of numbers answers
abbrev pub numbers_answer : List ℕ → Result (Parts Number) SheetFault
numbers_answer bytes = read_answer number_of bytes 1

-- the report on these bytes, read as the kind that their byte 1 tells
unfoldable pub report_text : List ℕ → List ℕ
report_text bytes = cond (is_links bytes) (answer_text link_code 2 (length bytes) (links_answer bytes)) (answer_text (λ v. v.value) 1 (length bytes) (numbers_answer bytes))

-- whether reading these bytes, as the kind that their byte 1 tells, accepts them
unfoldable pub is_accepted : List ℕ → Bool
is_accepted bytes = cond (is_links bytes) (is_ok (links_answer bytes)) (is_ok (numbers_answer bytes))

-- what a report holds
pub record Reports (r : Report) (text : List ℕ) (accepted : Bool) : Type 0 where
  pub says : string_bytes r.text ≡ text
  pub tells : r.accepted ≡ accepted
