-- The command that a call asks, or the first check that it breaks.
use Rattle.std.specs.Prelude.{Option, Some, None, Result, Ok, Err}
use Rattle.serde_json.specs.Data.{Data, Members}
use Rattle.serde_json.specs.Find.{as_object}
use Rattle.ps_base.specs.declared.reason.Reason.TheVariants.{Body}
use Rattle.ps_base.specs.declared.refusal.Refusal.{Refusal}
use Rattle.ps_base.specs.declared.refusal.Refusal.TheVariants.{InvalidArgument, Unimplemented}
use Rattle.ps_model.specs.declared.command.Command.{Command}
use Rattle.ps_model.specs.declared.command.Command.TheVariants as command
use Rattle.ps_json.specs.declared.call.CallKind.{CallKind}
use Rattle.ps_json.specs.declared.call.CallKind.TheVariants.{CreateTopic, UpdateTopic, GetTopic, DeleteTopic, ListTopics, ListTopicSubscriptions, Publish, CreateSubscription, UpdateSubscription, GetSubscription, DeleteSubscription, ListSubscriptions, Pull, Acknowledge, ModifyAckDeadline, Detach}
use Rattle.ps_json.specs.declared.named.PathNames.{PathNames}
use Rattle.ps_json.specs.declared.named.Query.{Query}
use Rattle.ps_json.specs.Checks.{and_then, checked}
use Rattle.ps_json.specs.Creations.{create_topic, create_subscription}
use Rattle.ps_json.specs.Deliveries.{pull, acknowledge, modify}
use Rattle.ps_json.specs.Listing.{topics_asked, topic_subscriptions_asked, subscriptions_asked}
use Rattle.ps_json.specs.Names.{call_name, topic_name, sub_name}
use Rattle.ps_json.specs.Naming.{topic_in, sub_in, detach_checks}
use Rattle.ps_json.specs.Publishing.{publish}
use Rattle.ps_json.specs.Updates.{update_topic, update_subscription}

abbrev pub fields_in : Option Members → Result Members Refusal
fields_in None = Err (InvalidArgument Body)
fields_in (Some ms) = Ok ms

-- the fields of a body, which is an object
abbrev pub fields_of : Data → Result Members Refusal
fields_of body = fields_in (as_object body)

-- why a call is refused that isn't built
abbrev pub unbuilt : CallKind → Refusal
unbuilt call = Unimplemented (call_name call)

-- The command of a call by the names in its path, its query and its body: how the body is read, the checks on it in their order, and what is asked by a call that breaks none. A call that has no line here isn't built.
abbrev pub command_of : CallKind → PathNames → Query → Data → Result Command Refusal
command_of CreateTopic path query body = and_then (fields_of body) (create_topic (topic_name path))
command_of UpdateTopic path query body = and_then (fields_of body) (update_topic (topic_name path))
command_of GetTopic path query body = and_then (topic_in path) (λ topic. Ok (command.GetTopic topic))
command_of DeleteTopic path query body = and_then (topic_in path) (λ topic. Ok (command.DeleteTopic topic))
command_of ListTopics path query body = topics_asked path query
command_of ListTopicSubscriptions path query body = topic_subscriptions_asked path query
command_of Publish path query body = and_then (fields_of body) (publish (topic_name path))
command_of CreateSubscription path query body = and_then (fields_of body) (create_subscription (sub_name path))
command_of UpdateSubscription path query body = and_then (fields_of body) (update_subscription (sub_name path))
command_of GetSubscription path query body = and_then (sub_in path) (λ subscription. Ok (command.GetSubscription subscription))
command_of DeleteSubscription path query body = and_then (sub_in path) (λ subscription. Ok (command.DeleteSubscription subscription))
command_of ListSubscriptions path query body = subscriptions_asked path query
command_of Pull path query body = and_then (fields_of body) (pull (sub_name path))
command_of Acknowledge path query body = and_then (fields_of body) (acknowledge (sub_name path))
command_of ModifyAckDeadline path query body = and_then (fields_of body) (modify (sub_name path))
command_of Detach path query body = and_then (fields_of body) (λ ms. checked (detach_checks (sub_name path) ms) (command.Detach (sub_name path)))
command_of call path query body = Err (unbuilt call)
