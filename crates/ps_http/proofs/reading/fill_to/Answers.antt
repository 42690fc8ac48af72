use Rattle.ps_http.proofs.ReadingLemmas.{reads_passed}
use Rattle.ps_http.proofs.reading.fill_to.Goals as goal

pub returns-in_err-read_more-clause-reads : goal.returns-in_err-read_more-clause-reads
returns-in_err-read_more-clause-reads g c =
    reads_passed g.L.Link (Unit {0}) (Unit {0}) c.args.link.now c.loop-link.link c.read_more.new.link c.args.bytes.now.items c.loop-link.bytes.items c.read_more.new.bytes.items
    c.in_err-read_more.field-0.0 c.from_residual.result c.from_residual.ensures.1 c.loop-link.invariant c.in_err-read_more.ensures.reads
