use Rattle.sheet_writer.proofs.Putting.{room_for}
use Rattle.sheet_writer.proofs.output.Output.put_all.Goals as goal

pub put_one-requires-clause-room : goal.put_one-requires-clause-room
put_one-requires-clause-room g c = room_for g.R.Row.bytes c.args.items.now c.loop-item.item-index c.loop-item.invariant.done c.item-item.result c.loop-item-test.true c.item-item.is c.requires.room
