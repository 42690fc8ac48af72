use Rattle.std.proofs.Common.{arith, ◌≤◌, length, inl}
use Rattle.std.proofs.lemmas.Grind.{common_steps}
use Rattle.ps_http.proofs.HeadLemmas.{at_taken, whole_head, unless_map}
use Rattle.ps_http.proofs.heads.read_head.Goals as goal

pub returns-in-Ok-Complete-clause-says : goal.returns-in-Ok-Complete-clause-says
returns-in-Ok-Complete-clause-says c =
    let found = rw c.in-Ok-Complete.field-0-is at c.in-Ok-Complete.ensures.complete in
    let few : length c.parse_request.new.headers ≤ 100 = grind (arith, common_steps) in
    let whole = whole_head c.args.head.now c.parse_request.new.headers c.in-Ok-Complete.spans found.0 found.1 c.if-spans-head.true few in
    let says = c.judge.ensures.judged found.0 (at_taken c.args.head.now c.parse_request.new.headers c.in-Ok-Complete.spans found.0 found.1) in
    unless_map c.judge.result (λ is. inl (found.0, whole, is)) says
