use Rattle.std.proofs.Common.{sym, arith}
use Rattle.std.proofs.lemmas.Bool.Decides.{nat_tests}
use Rattle.value.specs.Decoded.{link_at}
use Rattle.value.proofs.link_kind.LinkValueKind.from_code.Goals as goal

pub returns : goal.returns
returns c = sym (link_at c.args.code _ _ _ _ (grind (arith, nat_tests)))
