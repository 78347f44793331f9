use Rattle.std.proofs.Common.{◌≡◌, suc, ◌+◌, ◌-◌, ◌<◌, ◌≤◌, map, length, drop, Err, sym, ap, ◌∙◌, arith}
use Rattle.std.proofs.lemmas.List.{length-map, get_or-map}
use Rattle.sheet_format.specs.declared.fault.SheetRefusal.TheVariants.{WrongOperation}
use Rattle.sheet_format.specs.Faults.{fault}
use Rattle.sheet_format.specs.Parts.{op_of}
use Rattle.sheet_format.specs.Writing.{operations_end}
use Rattle.sheet_format.proofs.Counts.{counted_range}
use Rattle.sheet_writer.proofs.Layouts.{counted_at, too_many, miscounted, ops_on, ops_all}
use Rattle.sheet_writer.proofs.layout.operations_end.Goals.{then-i-ge-MOST_OPERATIONS-via-then-i-ge-MOST_OPERATIONS, then-i-ge-MOST_OPERATIONS-via-else-i-ge-MOST_OPERATIONS+then-not-counts}
use Rattle.sheet_writer.proofs.layout.operations_end.Goals as goal

pub returns-then-i-ge-MOST_OPERATIONS : goal.returns-then-i-ge-MOST_OPERATIONS
returns-then-i-ge-MOST_OPERATIONS g c =
    let ops = c.args.operations.now in
    let i = c.loop-i.i in
    let item = c.index-operations-i.result in
    let h : i < length (map op_of ops) = omega (arith, length-map ops op_of) in
    let is = ap op_of c.index-operations-i.is ∙ sym (get_or-map op_of ops i item (op_of item) c.loop-i-test.true) in
    let end = c.loop-i.end in
    let wrong : operations_end end (4096 - i) (drop i (map op_of ops)) ≡ Err (fault WrongOperation end) = elim c.then-i-ge-MOST_OPERATIONS.branch [
      | then-i-ge-MOST_OPERATIONS-via-then-i-ge-MOST_OPERATIONS w ↦ too_many (map op_of ops) i h (op_of item) is end (4096 - i) (omega (arith, w.if-i-ge-MOST_OPERATIONS.true))
      | then-i-ge-MOST_OPERATIONS-via-else-i-ge-MOST_OPERATIONS+then-not-counts w ↦ miscounted (map op_of ops) i h (op_of item) is end (4096 - i)
          (counted_at w.counts.ensures w.if-not-counts.true w.action_kind.ensures c.action_count-count.ensures)
    ] in
    record { answer = ap Err c.new.ensures ∙ sym wrong ∙ c.loop-i.invariant.answer; bound = tt }

pub loop-i-preserved : goal.loop-i-preserved
loop-i-preserved g c =
    let ops = c.args.operations.now in
    let i = c.loop-i.i in
    let item = c.index-operations-i.result in
    let h : i < length (map op_of ops) = omega (arith, length-map ops op_of) in
    let is = ap op_of c.index-operations-i.is ∙ sym (get_or-map op_of ops i item (op_of item) c.loop-i-test.true) in
    let small = counted_range c.action_kind.result c.action_count-count.result (sym c.if-not-counts.ensures) in
    let e : 4096 - i ≡ suc (4096 - (i + 1)) = omega arith in
    record {
      few = omega arith;
      bound = omega arith;
      answer = ops_on (map op_of ops) i h (op_of item) is c.loop-i.end (4096 - i) (4096 - (i + 1)) c.action_count-count.result e c.action_count-count.ensures
          (counted_at c.counts.ensures c.if-not-counts.false c.action_kind.ensures c.action_count-count.ensures)
          ∙ c.loop-i.invariant.answer;
    }

pub returns : goal.returns
returns g c =
    let ops = c.args.operations.now in
    let i = c.loop-i.i in
    let h : length (map op_of ops) ≤ i = omega (arith, length-map ops op_of) in
    record {
      answer = sym (ops_all (map op_of ops) i c.loop-i.end (4096 - i) h) ∙ c.loop-i.invariant.answer;
      bound = omega arith;
    }
