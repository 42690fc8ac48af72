use Rattle.std.proofs.Common.{◌≡◌, ◌++◌, ◌∙◌, codes, string_bytes}
use Rattle.std.proofs.lemmas.Result.{IfOk-weaker}
use Rattle.ps_json.proofs.TimeLemmas.{padded, padded-two, padded-four}
use Rattle.ps_json.proofs.print.time.date_text.Goals as goal

pub returns : goal.returns
returns c =
    let date = c.args.date in
    IfOk-weaker c.format.result _ _
    (λ text e.
    let shown : string_bytes text ≡ padded 4 date.year ++ (codes "-" ++ (padded 2 date.month ++ (codes "-" ++ padded 2 date.day))) =
    simp (c.laid_out.ensures, c.laid_out-2.ensures, c.laid_out-3.ensures) at e in
    shown ∙ rw (padded-four date.year c.requires.year, padded-two date.month c.requires.month, padded-two date.day c.requires.day))
    c.format.ensures.ok
