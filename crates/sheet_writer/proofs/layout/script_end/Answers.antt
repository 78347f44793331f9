use Rattle.std.proofs.Common.{◌≡◌, length, true, false, Err, sym, ap, ◌∙◌, rules}
use borrow.Author.Tests.{tests}
use Rattle.std.proofs.lemmas.Iterator.{IsFirst-from_position, YieldsList-from_slice}
use Rattle.sheet_format.specs.Writing.{writable}
use Rattle.sheet_writer.proofs.Layouts.{end_by, script_ends}
use Rattle.sheet_writer.proofs.layout.script_end.Goals as goal

pub returns-in-Some : goal.returns-in-Some
returns-in-Some c =
    let items = c.args.items.now in
    let first = IsFirst-from_position _ _ _ (λ i. writable i ≡ false) (λ i. writable i ≡ true) c.position.ensures.ran (YieldsList-from_slice items cc) (λ x q k. search (rules, tests)) (λ x q k. search (rules, tests)) in
    ap Err c.new.ensures ∙ sym (script_ends c.args.at items _ first ∙ ap (end_by c.args.at (length items)) c.in-Some.is)

pub returns-in-None : goal.returns-in-None
returns-in-None c =
    let items = c.args.items.now in
    let first = IsFirst-from_position _ _ _ (λ i. writable i ≡ false) (λ i. writable i ≡ true) c.position.ensures.ran (YieldsList-from_slice items cc) (λ x q k. search (rules, tests)) (λ x q k. search (rules, tests)) in
    sym (script_ends c.args.at items _ first ∙ ap (end_by c.args.at (length items)) c.in-None.is)
