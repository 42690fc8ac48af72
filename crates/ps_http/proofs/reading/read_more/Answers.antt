use Rattle.std.proofs.Common.{take}
use Rattle.ps_http.proofs.ReadingLemmas.{came_once, wanting}
use Rattle.ps_http.proofs.reading.read_more.Goals as goal

pub returns-in_err-extend_from_slice-in-Bytes-clause-reads : goal.returns-in_err-extend_from_slice-in-Bytes-clause-reads
returns-in_err-extend_from_slice-in-Bytes-clause-reads g c =
    let got = c.in-Bytes.ensures in (
      take c.in-Bytes.count c.read.new.room,
      wanting _ c.from_residual.result c.from_residual.ensures.1,
      came_once g.L.Link c.args.link.now c.read.new.self c.in-Bytes.count c.read.new.room got.bytes got.received got.holds got.cause,
    )
