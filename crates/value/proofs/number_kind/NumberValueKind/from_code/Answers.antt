use Rattle.std.proofs.Common.{sym}
use Rattle.value.specs.Decoded.{number_at}
use Rattle.value.proofs.number_kind.NumberValueKind.from_code.Goals as goal

pub returns : goal.returns
returns c = sym (number_at c.args.code _)
