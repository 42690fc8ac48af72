use Rattle.ps_http.proofs.ChunkLineLemmas.{ends_there}
use Rattle.ps_http.proofs.chunks.size_of_line.Goals as goal

pub returns-else-len-line-clause-none : goal.returns-else-len-line-clause-none
returns-else-len-line-clause-none c = λ l reads.
    let found = rw c.in-Ok-Complete.field-0-is at c.in-Ok-Complete.ensures.complete in
    c.if-len-line.false (ends_there c.args.line.now c.in-Ok-Complete.len c.in-Ok-Complete.size found.0 l found.1 reads)
