-- What is only shown, as the rules say.
use Rattle.std.proofs.Common.{◌≡◌, ◌<◌, ◌^◌, ℕ, List, Some, None, option_map, false, find, refl, ap, ◌∙◌}
use Rattle.ps_base.specs.declared.refusal.Refusal.TheVariants.{NotFound}
use Rattle.ps_model.specs.declared.command.Command.TheVariants.{GetTopic, GetSubscription}
use Rattle.ps_model.specs.declared.reply.Reply.TheVariants.{Refused, Topic, Subscription}
use Rattle.ps_model.specs.declared.world.TopicRow.{TopicRow}
use Rattle.ps_model.specs.Showing.{topic_shown, sub_shown}
use Rattle.ps_model.specs.Subscriptions.{get_sub_at}
use Rattle.ps_model.specs.Topics.{get_topic_at}
use Rattle.ps_model.specs.Worlds.{topic_named}
use Rattle.ps_tables.specs.declared.kept_subscription.KeptSubscription.{KeptSubscription}
use Rattle.ps_core.specs.Carrying.{IsCarried}
use Rattle.ps_tables.specs.Members.{has_name}
use Rattle.ps_core.specs.State.{State, seen, sub_row}
use Rattle.ps_core.proofs.carrying.Kept.{sub-named-seen}
use Rattle.ps_core.proofs.carrying.Outcomes.{outcome-open, carried-shown}

pub topic-missing : (at : ℕ) (name : List ℕ) (s : State) → s.count < 2 ^ 50 → topic_named (seen s) name ≡ None → IsCarried at (GetTopic name) s s (Refused (NotFound name)) false
topic-missing at name s room missing =
    carried-shown at (GetTopic name) s (Refused (NotFound name)) (outcome-open s at (GetTopic name) room refl ∙ ap (get_topic_at (seen s) name) missing)

pub topic-found : (at : ℕ) (name : List ℕ) (s : State) → s.count < 2 ^ 50 → (row : TopicRow) → topic_named (seen s) name ≡ Some row → IsCarried at (GetTopic name) s s (Topic (topic_shown row)) false
topic-found at name s room row there =
    carried-shown at (GetTopic name) s (Topic (topic_shown row)) (outcome-open s at (GetTopic name) room refl ∙ ap (get_topic_at (seen s) name) there)

pub subscription-missing : (at : ℕ) (name : List ℕ) (s : State) → s.count < 2 ^ 50 → find (has_name name) s.subscriptions ≡ None → IsCarried at (GetSubscription name) s s (Refused (NotFound name)) false
subscription-missing at name s room missing =
    carried-shown at (GetSubscription name) s (Refused (NotFound name))
    (outcome-open s at (GetSubscription name) room refl ∙ ap (get_sub_at (seen s) name) (sub-named-seen s name ∙ ap (option_map sub_row) missing))

pub subscription-found : (at : ℕ) (name : List ℕ) (s : State) → s.count < 2 ^ 50 → (x : KeptSubscription) → find (has_name name) s.subscriptions ≡ Some x
    → IsCarried at (GetSubscription name) s s (Subscription (sub_shown (seen s) (sub_row x))) false
subscription-found at name s room x there =
    carried-shown at (GetSubscription name) s (Subscription (sub_shown (seen s) (sub_row x)))
    (outcome-open s at (GetSubscription name) room refl ∙ ap (get_sub_at (seen s) name) (sub-named-seen s name ∙ ap (option_map sub_row) there))
