use Rattle.std.proofs.Common.{◌≡◌, ◌+◌, ◌≤◌, drop}
use Rattle.sheet_format.specs.Reading.{starts}
use Rattle.sheet_format.proofs.script.start_count.Given as goal

abbrev pub invariant-loop-item : goal.invariant-loop-item
invariant-loop-item l = (l.count ≤ l.item-index) × (l.count + starts (drop l.item-index l.items) ≡ starts l.items)
