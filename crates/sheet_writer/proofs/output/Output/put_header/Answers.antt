use Rattle.std.proofs.Common.{sym, ◌∙◌}
use Rattle.sheet_format.specs.Parts.{parts_of}
use Rattle.sheet_writer.proofs.Made.{header_made}
use Rattle.sheet_writer.proofs.Putting.{puts_as, room_as}
use Rattle.sheet_writer.proofs.output.Output.put_header.Goals as goal

pub put_all-requires-clause-room : goal.put_all-requires-clause-room
put_all-requires-clause-room g c =
    let made = header_made g.V.ValueKind.coded (parts_of c.args.sheet.now) g.V.ValueKind.KIND c.from.result c.len-locations.result c.from-2.result c.len-items.result c.args.end g.met.V.ValueKind.numbered (c.from.ensures ∙ c.KIND.ensures)
    (c.len-locations.ensures ∙ c.args.sheet.now.initial.ok.0) c.from-2.ensures (c.len-items.ensures ∙ c.args.sheet.now.script.ok.0) c.requires.whole in
    room_as (sym made) c.requires.room

pub returns : goal.returns
returns g c =
    let made = header_made g.V.ValueKind.coded (parts_of c.args.sheet.now) g.V.ValueKind.KIND c.from.result c.len-locations.result c.from-2.result c.len-items.result c.args.end g.met.V.ValueKind.numbered (c.from.ensures ∙ c.KIND.ensures)
    (c.len-locations.ensures ∙ c.args.sheet.now.initial.ok.0) c.from-2.ensures (c.len-items.ensures ∙ c.args.sheet.now.script.ok.0) c.requires.whole in
    puts_as made c.put_all.ensures.puts
