use Rattle.std.proofs.Common.{◌+◌, ◌++◌, length, take, sym, refl, ap, ◌∙◌, rules, arith}
use Rattle.std.proofs.lemmas.List.{places, drop-drop}
use Rattle.std.proofs.lemmas.Slice.{take-put_mid, drop-put_mid}
use Rattle.sheet_writer.proofs.output.Output.put.Goals as goal

pub returns : goal.returns
returns c =
    let at = c.args.self.now.at in
    let out = c.args.self.now.bytes.now in
    let bytes = c.args.bytes.now in
    let end = at + length bytes in
    let copied = c.copy_from_slice.ensures.after in
    let room = c.requires.holds in
    record {
      writes = take-put_mid at _ out _ end (omega (arith, ap length copied)) (omega arith) ∙ ap (λ bs. take at out ++ bs) copied;
      leaves = drop-put_mid at _ out _ end (omega arith) (omega arith) (omega (arith, ap length copied)) ∙ sym (drop-drop (length bytes) at out);
      moves = refl;
      keeps_length = search (rules, places);
      same_reference = refl;
    }
