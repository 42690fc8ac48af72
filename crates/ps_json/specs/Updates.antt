-- What the update of a topic or of a subscription asks, by the name in its path and the fields of its body: its checks in their order, and the command.
use Rattle.std.specs.Prelude.{ℕ, List, codes, Result, Ok}
use Rattle.serde_json.specs.Data.{Members}
use Rattle.ps_base.specs.declared.refusal.Refusal.{Refusal}
use Rattle.ps_names.specs.Names.{is_topic_name, is_sub_name}
use Rattle.ps_model.specs.declared.command.Command.{Command}
use Rattle.ps_model.specs.declared.command.Command.TheVariants.{UpdateTopic, UpdateSubscription}
use Rattle.ps_fields.specs.declared.rows.Object.TheVariants as body
use Rattle.ps_json.specs.Bodies.{built, mask_in, mask_read, own_name, resource_in, well_formed}
use Rattle.ps_json.specs.Checks.{and_then, name_read}
use Rattle.ps_json.specs.Masks.{names_in}
use Rattle.ps_json.specs.Settings.{changed_subscription, changed_topic}

-- of a topic, by the fields of the body, those of the topic in it and the names of the mask
abbrev pub topic_update : List ℕ → Members → Members → List (List ℕ) → Result Command Refusal
topic_update name ms settings names =
    and_then (built body.Topic (codes "topic.") settings names) (λ none.
    and_then (name_read (is_topic_name name) name) (λ topic.
    and_then (well_formed body.TopicUpdate ms) (λ none.
    and_then (own_name name settings) (λ none.
    and_then (mask_read body.Topic names) (λ mask.
    and_then (changed_topic mask settings) (λ config. Ok (UpdateTopic topic mask config)))))))

abbrev pub update_topic : List ℕ → Members → Result Command Refusal
update_topic name ms = topic_update name ms (resource_in (codes "topic") ms) (names_in (mask_in ms))

-- the same of a subscription
abbrev pub subscription_update : List ℕ → Members → Members → List (List ℕ) → Result Command Refusal
subscription_update name ms settings names =
    and_then (built body.Subscription (codes "subscription.") settings names) (λ none.
    and_then (name_read (is_sub_name name) name) (λ subscription.
    and_then (well_formed body.SubscriptionUpdate ms) (λ none.
    and_then (own_name name settings) (λ none.
    and_then (mask_read body.Subscription names) (λ mask.
    and_then (changed_subscription mask settings) (λ config. Ok (UpdateSubscription subscription mask config)))))))

abbrev pub update_subscription : List ℕ → Members → Result Command Refusal
update_subscription name ms = subscription_update name ms (resource_in (codes "subscription") ms) (names_in (mask_in ms))
