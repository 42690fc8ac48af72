use Rattle.std.proofs.Common.{◌≡◌, ◌++◌, ◌∙◌, ◌/◌, ◌%◌, codes, string_bytes, arith}
use Rattle.std.proofs.lemmas.Result.{IfOk-weaker}
use Rattle.ps_json.proofs.TimeLemmas.{padded, padded-two, padded-three}
use Rattle.ps_json.proofs.print.time.clock_text.Goals as goal

pub returns : goal.returns
returns c =
    let hour = c.args.ms / 3600000 % 24 in
    let minute = c.args.ms / 60000 % 60 in
    let second = c.args.ms / 1000 % 60 in
    let milli = c.args.ms % 1000 in
    IfOk-weaker c.format.result _ _
    (λ text e.
    let shown : string_bytes text ≡ padded 2 hour ++ (codes ":" ++ (padded 2 minute ++ (codes ":" ++ (padded 2 second ++ (codes "." ++ padded 3 milli))))) =
    simp (c.laid_out.ensures, c.laid_out-2.ensures, c.laid_out-3.ensures, c.laid_out-4.ensures) at e in
    shown ∙ rw (padded-two hour (omega arith), padded-two minute (omega arith), padded-two second (omega arith), padded-three milli (omega arith)))
    c.format.ensures.ok
