use Rattle.std.proofs.Common.{◌≡◌, ◌++◌, ◌∙◌, ◌/◌, ◌%◌, ◌==◌, false, codes, decimal, string_bytes, arith}
use Rattle.std.proofs.lemmas.Result.{IfOk-weaker}
use Rattle.ps_json.proofs.TimeLemmas.{padded, padded-three}
use Rattle.ps_json.proofs.print.time.duration_text.Goals as goal

pub returns-else-millis-eq0 : goal.returns-else-millis-eq0
returns-else-millis-eq0 c =
    let milli = c.args.ms % 1000 in
    let part : (milli == 0) ≡ false = grind (arith, c.if-millis-eq0.false) in
    IfOk-weaker c.format-else-millis-eq0.result _ _
    (λ text e.
    let shown : string_bytes text ≡ decimal (c.args.ms / 1000) ++ (codes "." ++ (padded 3 milli ++ codes "s")) = simp c.laid_out.ensures at e in
    shown ∙ rw (part, padded-three milli (omega arith)))
    c.format-else-millis-eq0.ensures.ok
