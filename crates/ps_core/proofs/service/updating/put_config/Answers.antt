use Rattle.std.proofs.Common.{sym, ap, ◌∙◌, subst}
use Rattle.std.specs.Map.{values_of}
use Rattle.ps_core.specs.Changing.{kept_number, with_topic_config}
use Rattle.ps_tables.specs.Numbers.{IsNumbered}
use Rattle.ps_tables.proofs.numbers.Changes.{found-number, none-changed, set-changes}
use Rattle.ps_tables.proofs.numbers.Numbered.{numbered-found, numbered-put-keys}
use Rattle.ps_core.proofs.service.updating.put_config.Goals as goal

pub returns-in-Some-clause-numbered : goal.returns-in-Some-clause-numbered
returns-in-Some-clause-numbered c =
    let n = c.args.number in
    let es = c.args.topics.now.entries in
    let x = c.in-Some.topic.now in
    subst (IsNumbered kept_number) (sym (c.get_mut.follows.holds (with_topic_config c.args.config x)).0)
    (numbered-put-keys kept_number n (with_topic_config c.args.config x) es c.requires.numbered (found-number kept_number n x es c.requires.numbered (sym c.in-Some.ensures.value)))

pub returns-in-Some-clause-values : goal.returns-in-Some-clause-values
returns-in-Some-clause-values c =
    let x = c.in-Some.topic.now in
    ap values_of (c.get_mut.follows.holds (with_topic_config c.args.config x)).0
    ∙ set-changes kept_number c.args.number (with_topic_config c.args.config) x c.args.topics.now.entries c.requires.numbered c.requires.ordered (sym c.in-Some.ensures.value)

pub returns-in_default-clause-values : goal.returns-in_default-clause-values
returns-in_default-clause-values c =
    let es = c.args.topics.now.entries in
    ap (λ m. values_of m.entries) c.get_mut.follows.holds-at-none
    ∙ sym (none-changed kept_number c.args.number (with_topic_config c.args.config) (values_of es) (sym (numbered-found kept_number c.args.number es c.requires.numbered) ∙ sym c.in_default.ensures.value))
