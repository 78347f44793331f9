use Rattle.std.proofs.Common.{◌≡◌, ◌∙◌, take, drop, rules}
use Rattle.sheet_format.proofs.Fields.{field_eight, field_cut}
use Rattle.sheet_reader.proofs.bytes.code_at.Goals as goal

pub returns : goal.returns
returns c =
    let here : c.unwrap.result ≡ take 8 (drop c.args.at c.args.bytes.now) = search rules in
    c.from_le_bytes.ensures ∙ field_eight c.unwrap.result ∙ field_cut c.args.bytes.now c.unwrap.result c.args.at 8 here
