use Rattle.std.proofs.Common.{◌+◌, ◌∷◌, drop, ap, ◌∙◌, arith}
use Rattle.std.proofs.lemmas.List.{at_drop_more, at_drop_all}
use Rattle.sheet_format.specs.declared.parts.ScriptItem.TheVariants.{Start}
use Rattle.sheet_format.specs.Reading.{starts}
use Rattle.sheet_format.proofs.script.start_count.Goals.{in-Start, in_default}
use Rattle.sheet_format.proofs.script.start_count.Goals as goal

pub loop-item-preserved : goal.loop-item-preserved
loop-item-preserved c =
    let items = c.args.items.now in
    let i = c.loop-item.item-index in
    let rest = drop (i + 1) items in
    let e = at_drop_more starts items i Start c.loop-item-test.true in
    elim c.match-item.branch [
      | in-Start w ↦ let k = e ∙ ap (λ x. starts (x ∷ rest)) w.in-Start.is in (omega (arith, w.count-is), omega (arith, k, w.count-is, c.loop-item.invariant.1))
      | in_default w ↦ let k = e ∙ ap (λ x. starts (x ∷ rest)) w.in_default.is in (omega (arith, w.count-is), omega (arith, k, w.count-is, c.loop-item.invariant.1))
    ]

pub returns : goal.returns
returns c = omega (arith, c.loop-item.invariant.1, at_drop_all starts c.args.items.now c.loop-item.item-index c.loop-item-test.false)
