use Rattle.std.proofs.Common.{rules, vec_items, refl}
use Rattle.std.proofs.Output.{has_written_append}
use Rattle.std.proofs.lemmas.Iterator.{YieldsList-from_slice, YieldsList-from_map}
use Rattle.report.specs.Lines.{spaced}
use Rattle.report.proofs.Telling.{at_ok, tells_each}
use Rattle.report.proofs.operations.WordsDisplay.fmt.Goals as goal

pub returns-in_ok-write-in-Snapshot-clause-writes : goal.returns-in_ok-write-in-Snapshot-clause-writes
returns-in_ok-write-in-Snapshot-clause-writes g c plain ok =
    let items = vec_items c.in-Snapshot.locations in
    let first = c.in_ok-write-in-Snapshot.ensures.writes plain refl in
    let rest = tells_each _ spaced _ _ (at_ok c.write_spaced.result c.write_spaced.ensures ok) (λ n. n) items
    (YieldsList-from_map {s = c.map.result} _ (λ n. n) (YieldsList-from_slice items cc) c.map.ensures.closure (λ x r q k. search rules)) first.plain in
    rw c.in-Snapshot.is (has_written_append _ _ _ _ _ _ first rest)

pub returns-in_ok-write_spaced-in-Kcss-2-clause-writes : goal.returns-in_ok-write_spaced-in-Kcss-2-clause-writes
returns-in_ok-write_spaced-in-Kcss-2-clause-writes g c plain ok =
    let operands = vec_items c.in-Kcss.operands in
    let first = c.in_ok-write-in-Kcss.ensures.writes plain refl in
    let named = tells_each _ spaced _ _ c.in_ok-write_spaced-in-Kcss.ensures (λ o. o.location) operands
    (YieldsList-from_map {s = c.map-in-Kcss.result} _ (λ o. o.location) (YieldsList-from_slice operands cc) c.map-in-Kcss.ensures.closure (λ x r q k. search rules))
    first.plain in
    let second = c.in_ok-write-in-Kcss-2.ensures.writes named.plain refl in
    let expected = tells_each _ spaced _ _ c.in_ok-write_spaced-in-Kcss-2.ensures (λ o. g.V.ValueKind.coded o.expected) operands
    (YieldsList-from_map {s = c.map-in-Kcss-2.result} _ (λ o. g.V.ValueKind.coded o.expected) (YieldsList-from_slice operands cc) c.map-in-Kcss-2.ensures.closure (λ x r q k. search rules))
    second.plain in
    let last = rw c.code-code-in-Kcss.ensures at (c.write-in-Kcss-3.ensures.writes expected.plain ok) in
    rw c.in-Kcss.is
    (has_written_append _ _ _ _ _ _ first (has_written_append _ _ _ _ _ _ named (has_written_append _ _ _ _ _ _ second (has_written_append _ _ _ _ _ _ expected last))))
