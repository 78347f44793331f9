use Rattle.std.proofs.Common.{length, Err, sym, ap, ◌∙◌, arith, rules}
use Rattle.std.proofs.lemmas.Result.{err_from_is_err_and, IfOk-from_err}
use Rattle.sheet_format.specs.declared.fault.SheetRefusal.TheVariants.{ShortOutput}
use Rattle.sheet_format.specs.Faults.{fault}
use Rattle.sheet_format.specs.Parts.{parts_of}
use Rattle.sheet_format.proofs.Sizes.{sheet_length}
use Rattle.sheet_writer.proofs.Putting.{put_over}
use Rattle.sheet_format.proofs.ReadSheet.{write_then_read}
use Rattle.sheet_writer.proofs.Written.{laid_total, write_refused, write_short, write_fits, after_refused, after_fits, reads_back}
use Rattle.sheet_writer.proofs.sheet.write.Goals as goal

pub returns-in_err-end : goal.returns-in_err-end
returns-in_err-end g c =
    let p = parts_of c.args.sheet.now in
    let out = c.args.out.now in
    let f = c.in_err-end.field-0.0 in
    let q = err_from_is_err_and c.from_residual.result c.from_residual.ensures.1 in
    let refused = write_refused p (length out) f (sym c.layout.ensures ∙ c.in_err-end.was) in
    record {
      answer = q.1 ∙ ap Err q.2 ∙ sym refused;
      after = sym (after_refused p g.V.ValueKind.coded g.V.ValueKind.KIND out f refused);
      returns = IfOk-from_err _ _ c.from_residual.ensures.0;
    }

pub returns-then-out-end : goal.returns-then-out-end
returns-then-out-end g c =
    let p = parts_of c.args.sheet.now in
    let out = c.args.out.now in
    let end = c.in_ok-end.end in
    let short = write_short p (length out) end (sym c.layout.ensures ∙ c.in_ok-end.was) c.if-out-end.true in
    record {
      answer = ap Err c.new.ensures ∙ sym short;
      after = sym (after_refused p g.V.ValueKind.coded g.V.ValueKind.KIND out (fault ShortOutput end) short);
      returns = tt;
    }

pub put_sheet-requires : goal.put_sheet-requires
put_sheet-requires g c =
    let sheet = c.args.sheet.now in
    let end = c.in_ok-end.end in
    let laid = sym c.layout.ensures ∙ c.in_ok-end.was in
    let whole = laid_total sheet end laid in
    record {
      room = record { holds = omega (arith, whole, ap length c.new-2.ensures.bytes, sheet_length g.V.ValueKind.coded g.V.ValueKind.KIND (parts_of sheet)) };
      laid = laid;
    }

pub returns : goal.returns
returns g c =
    let p = parts_of c.args.sheet.now in
    let out = c.args.out.now in
    let end = c.in_ok-end.end in
    let code = g.V.ValueKind.coded in
    let number = g.V.ValueKind.KIND in
    let laid = sym c.layout.ensures ∙ c.in_ok-end.was in
    let fits = write_fits p (length out) end laid c.if-out-end.false in
    let same = c.put_sheet.ensures.puts.same_reference in
    let left = put_over c.new-2.ensures.empty c.new-2.ensures.bytes c.put_sheet.ensures.puts ∙ sym (after_fits p code number out end fits) in
    let back = write_then_read code g.V.ValueKind.decoded number g.met.V.ValueKind.returned (λ v. omega (arith, g.met.V.ValueKind.bounded v, g.met.V.ValueKind.capped)) p out in
    record {
      answer = sym fits;
      after = search rules;
      returns = reads_back p code number out g.V.ValueKind.decoded back end c.put_sheet.ensures.fits fits _ (search rules);
    }
