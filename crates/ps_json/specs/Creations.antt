-- What the creation of a topic or of a subscription asks, by the name in its path and the fields of its body: its checks in their order, and the command.
use Rattle.std.specs.Prelude.{ℕ, List, [], codes, if◌then◌else◌, unwrap_or, Result, Ok, Err}
use Rattle.serde_json.specs.Data.{Members}
use Rattle.serde_json.specs.Find.{get_member}
use Rattle.ps_base.specs.declared.reason.Reason.TheVariants.{Topic}
use Rattle.ps_base.specs.declared.refusal.Refusal.{Refusal}
use Rattle.ps_base.specs.declared.refusal.Refusal.TheVariants.{InvalidArgument}
use Rattle.ps_names.specs.Names.{is_topic_name, is_sub_name}
use Rattle.ps_model.specs.declared.command.Command.{Command}
use Rattle.ps_model.specs.declared.command.Command.TheVariants.{CreateTopic, CreateSubscription}
use Rattle.ps_fields.specs.declared.rows.Object.TheVariants as body
use Rattle.ps_fields.specs.Kinds.{text_of}
use Rattle.ps_json.specs.Bodies.{built, own_name, well_formed}
use Rattle.ps_json.specs.Checks.{and_then, name_read}
use Rattle.ps_json.specs.Settings.{new_subscription, new_topic}

abbrev pub create_topic : List ℕ → Members → Result Command Refusal
create_topic name ms =
    and_then (built body.Topic [] ms []) (λ none.
    and_then (name_read (is_topic_name name) name) (λ topic.
    and_then (well_formed body.Topic ms) (λ none.
    and_then (own_name name ms) (λ none.
    and_then (new_topic ms) (λ config. Ok (CreateTopic topic config))))))

-- the name of the topic that a subscription is to be attached to
abbrev pub topic_in : Members → List ℕ
topic_in ms = unwrap_or (text_of (get_member (codes "topic") ms)) []

abbrev pub topic_read : Members → Result (List ℕ) Refusal
topic_read ms = if is_topic_name (topic_in ms) then Ok (topic_in ms) else Err (InvalidArgument Topic)

abbrev pub create_subscription : List ℕ → Members → Result Command Refusal
create_subscription name ms =
    and_then (built body.Subscription [] ms []) (λ none.
    and_then (name_read (is_sub_name name) name) (λ subscription.
    and_then (well_formed body.Subscription ms) (λ none.
    and_then (own_name name ms) (λ none.
    and_then (topic_read ms) (λ topic.
    and_then (new_subscription ms) (λ config. Ok (CreateSubscription subscription topic config)))))))
