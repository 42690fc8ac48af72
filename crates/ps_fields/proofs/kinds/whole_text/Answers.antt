use Rattle.std.proofs.Common.{◌≡◌, false, get_or, ◌==◌, ◌∙◌, rules}
use Rattle.std.proofs.lemmas.Bool.{eqb-false}
use Rattle.ps_fields.proofs.KindLemmas.{whole_told}
use Rattle.ps_fields.proofs.kinds.whole_text.Goals as goal

pub returns : goal.returns
returns c =
    let no_plus : (get_or c.args.text.now 0 0 == 43) ≡ false = search rules in
    c.ok.ensures.value ∙ whole_told c.args.text.now c.parse.result c.parse.ensures.value.0 (eqb-false _ _ no_plus)
