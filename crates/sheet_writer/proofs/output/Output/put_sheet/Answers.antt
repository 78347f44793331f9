use Rattle.std.proofs.Common.{length, vec_items, sym, ap, subst, arith}
use Rattle.std.specs.List.{flat_map, AllByRecursion}
use Rattle.sheet_format.specs.Format.{value_bytes}
use Rattle.sheet_format.specs.Parts.{act_of, Fitting}
use Rattle.sheet_writer.proofs.Made.{ops_bytes, items_bytes, sheet_made, sheet_length, all_fitting}
use Rattle.sheet_writer.proofs.Written.{Small, Writable, laid_total, laid_small, laid_writable}
use Rattle.sheet_writer.proofs.Putting.{puts_as, then_puts}
use Rattle.sheet_writer.proofs.output.Output.put_sheet.Goals as goal

pub put_header-requires-clause-room : goal.put_header-requires-clause-room
put_header-requires-clause-room g c =
    let code = g.V.ValueKind.coded in
    let long = sheet_length code c.args.sheet.now g.V.ValueKind.KIND in
    record { holds = omega arith }

pub put_header-requires-clause-whole : goal.put_header-requires-clause-whole
put_header-requires-clause-whole g c = laid_total c.args.sheet.now c.args.end c.requires.laid

pub put_all-requires-clause-room : goal.put_all-requires-clause-room
put_all-requires-clause-room g c =
    let code = g.V.ValueKind.coded in
    let long = sheet_length code c.args.sheet.now g.V.ValueKind.KIND in
    let values = ap (λ vs. length (flat_map (value_bytes code) vs)) c.deref.ensures.value in
    record { holds = omega arith }

pub put_all-requires-2-clause-room : goal.put_all-requires-2-clause-room
put_all-requires-2-clause-room g c =
    let code = g.V.ValueKind.coded in
    let long = sheet_length code c.args.sheet.now g.V.ValueKind.KIND in
    let values = ap (λ vs. length (flat_map (value_bytes code) vs)) c.deref.ensures.value in
    let ops = ap (λ os. length (ops_bytes code os)) c.deref-2.ensures.value in
    record { holds = omega arith }

pub put_all-requires-2-clause-allowed : goal.put_all-requires-2-clause-allowed
put_all-requires-2-clause-allowed g c = subst Small (sym c.deref-2.ensures.value) (laid_small c.args.sheet.now c.args.end c.requires.laid)

pub put_all-requires-3-clause-room : goal.put_all-requires-3-clause-room
put_all-requires-3-clause-room g c =
    let code = g.V.ValueKind.coded in
    let long = sheet_length code c.args.sheet.now g.V.ValueKind.KIND in
    let values = ap (λ vs. length (flat_map (value_bytes code) vs)) c.deref.ensures.value in
    let ops = ap (λ os. length (ops_bytes code os)) c.deref-2.ensures.value in
    let items = ap (λ is. length (items_bytes code is)) c.deref-3.ensures.value in
    record { holds = omega arith }

pub put_all-requires-3-clause-allowed : goal.put_all-requires-3-clause-allowed
put_all-requires-3-clause-allowed g c = subst Writable (sym c.deref-3.ensures.value) (laid_writable c.args.sheet.now c.args.end c.requires.laid)

pub returns-clause-puts : goal.returns-clause-puts
returns-clause-puts g c =
    let code = g.V.ValueKind.coded in
    let sheet = c.args.sheet.now in
    let made = sheet_made code sheet g.V.ValueKind.KIND in
    let values_are = ap (flat_map (value_bytes code)) c.deref.ensures.value in
    let ops_are = ap (ops_bytes code) c.deref-2.ensures.value in
    let items_are = ap (items_bytes code) c.deref-3.ensures.value in
    puts_as made (then_puts c.put_header.ensures (then_puts (puts_as values_are c.put_all.ensures.puts) (then_puts (puts_as ops_are c.put_all-2.ensures.puts) (puts_as items_are c.put_all-3.ensures.puts))))

pub returns-clause-fits : goal.returns-clause-fits
returns-clause-fits g c = all_fitting (vec_items c.args.sheet.now.operations) (subst (AllByRecursion (λ o. Fitting (act_of o.action))) c.deref-2.ensures.value c.put_all-2.ensures.fits)
