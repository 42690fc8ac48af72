use Rattle.ps_http.specs.declared.starts.Start.{Start}
use Rattle.ps_http.proofs.ReadingLemmas.{reads_passed}
use Rattle.ps_http.proofs.starts.read_start.Goals as goal

pub returns-in_err-read_more-in-Waits-clause-reads : goal.returns-in_err-read_more-in-Waits-clause-reads
returns-in_err-read_more-in-Waits-clause-reads g c =
    reads_passed g.L.Link (Unit {0}) Start c.args.link.now c.loop-link.link c.read_more.new.link c.args.bytes.now.items c.loop-link.bytes.items c.read_more.new.bytes.items
    c.in_err-read_more-in-Waits.field-0.0 c.from_residual-in_err-read_more-in-Waits.result c.from_residual-in_err-read_more-in-Waits.ensures.1 c.loop-link.invariant c.in_err-read_more-in-Waits.ensures.reads
