use Rattle.std.proofs.Common.{arith, ◌∙◌}
use Rattle.std.proofs.lemmas.Bool.{ne_eqb}
use Rattle.ps_http.proofs.StayLemmas.{line_later}
use Rattle.ps_http.proofs.chunks.line_end.Goals as goal

pub loop-at-preserved : goal.loop-at-preserved
loop-at-preserved c = line_later c.args.bytes.now c.loop-at.at (grind arith) (ne_eqb _ _ c.if-bytes-at-eq10.false) ∙ c.loop-at.invariant
