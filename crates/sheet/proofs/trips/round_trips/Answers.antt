use Rattle.std.proofs.Common.{arith}
use Rattle.sheet_format.proofs.ReadSheet.{write_then_read}
use Rattle.sheet_format.proofs.WriteSheet.{read_then_write}
use Rattle.sheet.proofs.trips.round_trips.Goals as goal

pub returns : goal.returns
returns g c =
    let k = g.V.ValueKind in
    let m = g.met.V.ValueKind in
    record {
      writing = write_then_read k.coded k.decoded k.KIND m.returned (λ v. omega (arith, m.bounded v, m.capped));
      reading = read_then_write k.coded k.decoded k.KIND m.kept;
    }
