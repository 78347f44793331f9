use Rattle.std.proofs.Common.{sym, ap, ◌∙◌, take}
use Rattle.sheet_writer.proofs.Bytes.{lowest_bytes}
use Rattle.sheet_writer.proofs.Putting.{puts_as, room_as}
use Rattle.sheet_writer.proofs.output.Output.put_number.Goals as goal

pub put-requires : goal.put-requires
put-requires c = room_as (sym (ap (take c.args.width) c.to_le_bytes.ensures ∙ lowest_bytes c.args.width c.args.number c.requires.narrow)) c.requires.room

pub returns : goal.returns
returns c = puts_as (ap (take c.args.width) c.to_le_bytes.ensures ∙ lowest_bytes c.args.width c.args.number c.requires.narrow) c.put.ensures
