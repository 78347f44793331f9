use Rattle.std.proofs.Common.{take}
use Rattle.std.specs.List.{flat_map, AllByRecursion}
use Rattle.sheet_writer.specs.Puts.{Puts}
use Rattle.sheet_writer.proofs.output.Output.put_all.Given as goal

abbrev pub invariant-loop-item : goal.invariant-loop-item
invariant-loop-item g l = record {
  done : Puts l.initial.self (flat_map g.R.Row.bytes (take l.item-index l.items)) l.self;
  fits : AllByRecursion g.R.Row.Fits (take l.item-index l.items);
}
