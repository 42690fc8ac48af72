use Rattle.std.proofs.Common.{lit<, ap, ◌∙◌, unwrap_or, List, [], ℕ, Bor}
use Rattle.std.proofs.lemmas.Iterator.Consumers.{nth_from_yields_List}
use Rattle.std.proofs.lemmas.Iterator.Splits.{YieldsList-from_str_split}
use Rattle.ps_names.proofs.PartLemmas.{text-or}
use Rattle.ps_names.proofs.grammar.part.Goals as goal

pub returns : goal.returns
returns c =
    let found = nth_from_yields_List c.nth.result c.nth.new.self c.args.place c.nth.ensures.ran (YieldsList-from_str_split 47 c.args.text.now (lit< tt) c.split.ensures.text c.split.ensures.has_more c.split.ensures.pattern) in
    ap (λ (x : Bor (List ℕ)). x.now) c.unwrap_or.ensures ∙ text-or c.nth.result _ ∙ ap (λ r. unwrap_or r []) found
