use Rattle.std.proofs.Common.{arith, ◌≡◌, ◌-◌, length, take, drop}
use Rattle.std.proofs.lemmas.Grind.{common_steps}
use Rattle.ps_http.proofs.StartLemmas.{refused_head}
use Rattle.ps_http.proofs.starts.start_of.Goals as goal

pub returns-in-Err-Refused-clause-says : goal.returns-in-Err-Refused-clause-says
returns-in-Err-Refused-clause-says c =
    let says = rw c.in-Err-Refused.field-0-is at c.in-Err-Refused.ensures.says in
    let bytes = c.args.bytes.now in
    let skip = c.blank_len-skip.result in
    let rest = take (length bytes - skip) (drop skip bytes) in
    let cut : rest ≡ drop skip bytes = grind (arith, common_steps) in
    refused_head bytes rest skip c.in-Ends.end c.in-Err-Refused.code c.blank_len-skip.ensures.value (grind arith) cut c.in-Ends.ensures.value says
