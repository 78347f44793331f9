use Rattle.std.proofs.Common.{◌+◌, ◌*◌, [], ◌∷◌, sym, refl, ap, ◌∙◌, rules}
use Rattle.std.proofs.lemmas.Slice.{pushed}
use Rattle.sheet_reader.proofs.Row.{kept_more, kept_refused, kept_all, first_read}
use Rattle.sheet_reader.proofs.rows.read_row.Goals as goal

pub returns-in_err-item-clause-answer : goal.returns-in_err-item-clause-answer
returns-in_err-item-clause-answer g c =
    let one = g.R.Row.answer c.args.bytes.now in
    let w = g.R.Row.WIDTH in
    let refused = sym (c.read_one.ensures ∙ ap (λ k. one (c.args.at + k * c.loop-i.i)) c.WIDTH.ensures) ∙ c.in_err-item.was in
    let all = kept_refused one w c.args.at c.args.count c.loop-i.i _ c.loop-i.invariant.0 c.loop-i-test.true _ refused in
    search (rules, all)

pub loop-i-preserved : goal.loop-i-preserved
loop-i-preserved g c =
    let one = g.R.Row.answer c.args.bytes.now in
    let w = g.R.Row.WIDTH in
    let read = sym (c.read_one.ensures ∙ ap (λ k. one (c.args.at + k * c.loop-i.i)) c.WIDTH.ensures) ∙ c.in_ok-item.was in
    let put = pushed (c.in_ok-item.item ∷ []) refl c.in_ok-push.was c.push.ensures.items in (
      kept_more one w c.args.at c.args.count c.loop-i.i _ c.loop-i.invariant.0 c.loop-i-test.true _ _ read put,
      λ _. first_read one w c.args.at c.args.count c.loop-i.i _ c.loop-i.invariant.1 read,
    )

pub returns-clause-answer : goal.returns-clause-answer
returns-clause-answer g c = kept_all (g.R.Row.answer c.args.bytes.now) g.R.Row.WIDTH c.args.at c.args.count c.loop-i.i _ c.loop-i.invariant.0 c.loop-i-test.false
