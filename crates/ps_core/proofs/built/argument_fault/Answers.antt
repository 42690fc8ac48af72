use Rattle.std.proofs.Common.{sym, ap, ◌∷◌, [], not, ◌∙◌}
use Rattle.ps_base.specs.declared.reason.Reason.TheVariants.{UpdateMask}
use Rattle.ps_config.specs.Masks.{is_mask}
use Rattle.ps_message.specs.Lists.{first_of}
use Rattle.ps_message.specs.Messages.{broken}
use Rattle.ps_core.proofs.checking.Faults.{sub-masked, topic-masked}
use Rattle.ps_core.proofs.built.argument_fault.Goals as goal

pub returns-in-UpdateTopic : goal.returns-in-UpdateTopic
returns-in-UpdateTopic c =
    let mask = c.in-UpdateTopic.mask in
    rw (c.in-UpdateTopic.is)
    (c.topic_update_fault.ensures ∙ ap (λ fault. first_of (broken (not (is_mask 2 mask)) UpdateMask ∷ fault ∷ [])) (sym (topic-masked mask c.in-UpdateTopic.config)))

pub returns-in-UpdateSubscription : goal.returns-in-UpdateSubscription
returns-in-UpdateSubscription c =
    let mask = c.in-UpdateSubscription.mask in
    rw (c.in-UpdateSubscription.is)
    (c.sub_update_fault.ensures ∙ ap (λ fault. first_of (broken (not (is_mask 9 mask)) UpdateMask ∷ fault ∷ [])) (sym (sub-masked mask c.in-UpdateSubscription.config)))
