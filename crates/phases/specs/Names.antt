-- The names of the lines.
use Rattle.std.specs.Prelude.{List, ℕ, codes}
use Rattle.phases.specs.declared.name.Line.{Line}
use Rattle.phases.specs.declared.name.Line.TheVariants.{L13, L1, L3a, L3b, L7, L8, L9, L11, S6, S9}

-- a line's name as text, as the rules write it
abbrev pub line_name : Line → List ℕ
line_name L13 = codes "13"
line_name L1 = codes "1"
line_name L3a = codes "3a"
line_name L3b = codes "3b"
line_name L7 = codes "7"
line_name L8 = codes "8"
line_name L9 = codes "9"
line_name L11 = codes "11"
line_name S6 = codes "S6"
line_name S9 = codes "S9"
