use Rattle.std.proofs.Common.{◌≡◌, ◌+◌, ◌<◌, [], ◌∷◌, map, vec_items, vec_len, sym, refl, ap, ◌∙◌, rules, arith}
use Rattle.std.proofs.lemmas.List.{map_push}
use Rattle.std.proofs.lemmas.Slice.{pushed}
use Rattle.sheet_format.specs.Parts.{op_of}
use Rattle.sheet_reader.proofs.Gathered.{gathered_all, gathered_full, gathered_refused, gathered_more}
use Rattle.sheet_reader.proofs.sheet.read_operations.Goals as goal

pub returns-then-len-eq-MOST_OPERATIONS : goal.returns-then-len-eq-MOST_OPERATIONS
returns-then-len-eq-MOST_OPERATIONS g c =
    let full = gathered_full g.V.ValueKind.decoded c.args.bytes.now c.args.end 4096 c.args.at _ _ _ c.loop-next.invariant.2 (sym c.len.ensures ∙ c.if-len-eq-MOST_OPERATIONS.true) c.loop-next-test.true in
    search (rules, full)

pub returns-in_err-operation : goal.returns-in_err-operation
returns-in_err-operation g c =
    let some : vec_len c.loop-next.operations < 4096 = let e = c.len.ensures in let b = c.loop-next.invariant.1 in let l = c.if-len-eq-MOST_OPERATIONS.false in grind arith in
    let passes = gathered_refused g.V.ValueKind.decoded c.args.bytes.now c.args.end 4096 c.args.at _ _ _ c.loop-next.invariant.2 some c.loop-next-test.true in
    search (rules, passes)

pub loop-next-preserved : goal.loop-next-preserved
loop-next-preserved g c =
    let some : vec_len c.loop-next.operations < 4096 = let e = c.len.ensures in let b = c.loop-next.invariant.1 in let l = c.if-len-eq-MOST_OPERATIONS.false in grind arith in
    let put = pushed (c.in_ok-operation.operation ∷ []) refl c.in_ok-push.was c.push.ensures.items in
    let long : vec_len c.push.new.self ≡ vec_len c.loop-next.operations + 1 = c.in_ok-push.ensures.len in
    let read = c.in_ok-operation.ensures in (
      read.next.1,
      omega (arith, long, some),
      gathered_more g.V.ValueKind.decoded c.args.bytes.now c.args.end 4096 c.args.at _ _ _ c.loop-next.invariant.2 some c.loop-next-test.true _ _ _ _
          read.answer (ap (map op_of) put ∙ map_push op_of (vec_items c.loop-next.operations) c.in_ok-operation.operation) long read.next.0,
    )

pub returns : goal.returns
returns g c = gathered_all g.V.ValueKind.decoded c.args.bytes.now c.args.end 4096 c.args.at _ _ _ c.loop-next.invariant.2 c.loop-next-test.false
