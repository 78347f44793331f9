use Rattle.std.proofs.Common.{Err, vec_items, refl, sym, ap, ◌∙◌, arith, rules}
use Rattle.std.proofs.lemmas.List.{length-map}
use Rattle.std.proofs.lemmas.Result.{err_from_is_err_and}
use Rattle.sheet_format.specs.Parts.{op_of, parts_of}
use Rattle.sheet_format.specs.Reading.{starts}
use Rattle.sheet_writer.proofs.Layouts.{within_at, ops_at, items_at, wrong_locations, wrong_processes, wrong_items, wrong_operation, wrong_item, wrong_starts, right_starts}
use Rattle.sheet_writer.proofs.layout.layout.Goals as goal

pub returns-then-not-contains : goal.returns-then-not-contains
returns-then-not-contains g c =
    let locations = within_at 1 256 (c.len-locations.ensures ∙ c.args.sheet.now.initial.ok.0) c.if-not-contains.true (search rules) in
    ap Err c.new-then-not-contains.ensures ∙ sym (wrong_locations (parts_of c.args.sheet.now) locations)

pub returns-then-not-contains-2 : goal.returns-then-not-contains-2
returns-then-not-contains-2 g c =
    let p = parts_of c.args.sheet.now in
    let locations = within_at 1 256 (c.len-locations.ensures ∙ c.args.sheet.now.initial.ok.0) c.if-not-contains.false (search rules) in
    let processes = within_at 1 32 (refl {a = p.processes}) c.if-not-contains-2.true (search rules) in
    ap Err c.new-then-not-contains-2.ensures ∙ sym (wrong_processes p locations processes)

pub returns-then-len-gt65535 : goal.returns-then-len-gt65535
returns-then-len-gt65535 g c =
    let p = parts_of c.args.sheet.now in
    let locations = within_at 1 256 (c.len-locations.ensures ∙ c.args.sheet.now.initial.ok.0) c.if-not-contains.false (search rules) in
    let processes = within_at 1 32 (refl {a = p.processes}) c.if-not-contains-2.false (search rules) in
    let long = c.args.sheet.now.script.ok.0 in
    ap Err c.new-then-len-gt65535.ensures ∙ sym (wrong_items p locations processes (omega arith))

pub returns-in_err-script_at : goal.returns-in_err-script_at
returns-in_err-script_at g c =
    let p = parts_of c.args.sheet.now in
    let locations = within_at 1 256 (c.len-locations.ensures ∙ c.args.sheet.now.initial.ok.0) c.if-not-contains.false (search rules) in
    let processes = within_at 1 32 (refl {a = p.processes}) c.if-not-contains-2.false (search rules) in
    let long = c.args.sheet.now.script.ok.0 in
    let q = err_from_is_err_and c.from_residual.result c.from_residual.ensures.1 in
    let f = c.in_err-script_at.field-0.0 in
    let ops = ops_at c.operations_end.ensures.answer c.in_err-script_at.was (c.len-locations.ensures ∙ c.args.sheet.now.initial.ok.0) c.deref.ensures.value in
    q.1 ∙ ap Err q.2 ∙ sym (wrong_operation p locations processes (omega arith) f ops)

pub returns-in_err-end : goal.returns-in_err-end
returns-in_err-end g c =
    let p = parts_of c.args.sheet.now in
    let locations = within_at 1 256 (c.len-locations.ensures ∙ c.args.sheet.now.initial.ok.0) c.if-not-contains.false (search rules) in
    let processes = within_at 1 32 (refl {a = p.processes}) c.if-not-contains-2.false (search rules) in
    let long = c.args.sheet.now.script.ok.0 in
    let q = err_from_is_err_and c.from_residual-in_err-end.result c.from_residual-in_err-end.ensures.1 in
    let f = c.in_err-end.field-0.0 in
    let ops = ops_at c.operations_end.ensures.answer c.in_ok-script_at.was (c.len-locations.ensures ∙ c.args.sheet.now.initial.ok.0) c.deref.ensures.value in
    let items = items_at c.in_ok-script_at.script_at c.script_end.ensures c.in_err-end.was c.deref-2.ensures.value in
    q.1 ∙ ap Err q.2 ∙ sym (wrong_item p locations processes (omega arith) c.in_ok-script_at.script_at ops f items)

pub returns-then-start_count-len : goal.returns-then-start_count-len
returns-then-start_count-len g c =
    let p = parts_of c.args.sheet.now in
    let locations = within_at 1 256 (c.len-locations.ensures ∙ c.args.sheet.now.initial.ok.0) c.if-not-contains.false (search rules) in
    let processes = within_at 1 32 (refl {a = p.processes}) c.if-not-contains-2.false (search rules) in
    let long = c.args.sheet.now.script.ok.0 in
    let ops = ops_at c.operations_end.ensures.answer c.in_ok-script_at.was (c.len-locations.ensures ∙ c.args.sheet.now.initial.ok.0) c.deref.ensures.value in
    let items = items_at c.in_ok-script_at.script_at c.script_end.ensures c.in_ok-end.was c.deref-2.ensures.value in
    let starts_are = c.start_count.ensures ∙ ap starts c.deref-3.ensures.value in
    let count_is = c.len-2.ensures ∙ c.args.sheet.now.operations.ok.0 ∙ sym (length-map (vec_items c.args.sheet.now.operations) op_of) in
    ap Err c.new-then-start_count-len.ensures ∙ sym (wrong_starts p locations processes (omega arith) c.in_ok-script_at.script_at ops c.in_ok-end.end items (λ e. c.if-start_count-len.true (omega (arith, e))))

pub returns : goal.returns
returns g c =
    let p = parts_of c.args.sheet.now in
    let locations = within_at 1 256 (c.len-locations.ensures ∙ c.args.sheet.now.initial.ok.0) c.if-not-contains.false (search rules) in
    let processes = within_at 1 32 (refl {a = p.processes}) c.if-not-contains-2.false (search rules) in
    let long = c.args.sheet.now.script.ok.0 in
    let ops = ops_at c.operations_end.ensures.answer c.in_ok-script_at.was (c.len-locations.ensures ∙ c.args.sheet.now.initial.ok.0) c.deref.ensures.value in
    let items = items_at c.in_ok-script_at.script_at c.script_end.ensures c.in_ok-end.was c.deref-2.ensures.value in
    let starts_are = c.start_count.ensures ∙ ap starts c.deref-3.ensures.value in
    let count_is = c.len-2.ensures ∙ c.args.sheet.now.operations.ok.0 ∙ sym (length-map (vec_items c.args.sheet.now.operations) op_of) in
    sym (right_starts p locations processes (omega arith) c.in_ok-script_at.script_at ops c.in_ok-end.end items (omega arith))
