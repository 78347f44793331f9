use Rattle.std.proofs.Common.{◌≡◌, ◌+◌, ◌-◌, ◌*◌, ◌≤◌, map, drop}
use Rattle.sheet_format.specs.Parts.{op_of}
use Rattle.sheet_format.specs.Writing.{operations_end}
use Rattle.sheet_writer.proofs.layout.operations_end.Given as goal

abbrev pub invariant-loop-i : goal.invariant-loop-i
invariant-loop-i g l = record {
  few : l.i ≤ 4096;
  bound : l.end ≤ l.at + 172 * l.i;
  answer : operations_end l.end (4096 - l.i) (drop l.i (map op_of l.operations)) ≡ operations_end l.at 4096 (map op_of l.operations);
}
