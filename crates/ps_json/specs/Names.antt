-- The names of resources by the parts of a path, and those of calls.
use Rattle.std.specs.Prelude.{ℕ, List, ◌++◌, codes}
use Rattle.ps_json.specs.declared.named.PathNames.{PathNames}
use Rattle.ps_json.specs.declared.call.CallKind.{CallKind}
use Rattle.ps_json.specs.declared.call.CallKind.TheVariants.{CreateTopic, UpdateTopic, GetTopic, DeleteTopic, ListTopics, ListTopicSubscriptions, ListTopicSnapshots, Publish, CreateSubscription, UpdateSubscription, GetSubscription, DeleteSubscription, ListSubscriptions, Pull, Acknowledge, ModifyAckDeadline, Seek, Detach, CreateSnapshot, UpdateSnapshot, GetSnapshot, DeleteSnapshot, ListSnapshots}

-- a resource of this kind
abbrev pub name_at : List ℕ → PathNames → List ℕ
name_at kind path = codes "projects/" ++ (path.project ++ (codes "/" ++ (kind ++ (codes "/" ++ path.id))))

abbrev pub topic_name : PathNames → List ℕ
topic_name = name_at (codes "topics")

abbrev pub sub_name : PathNames → List ℕ
sub_name = name_at (codes "subscriptions")

-- a call, as a caller reads it
abbrev pub call_name : CallKind → List ℕ
call_name CreateTopic = codes "CreateTopic"
call_name UpdateTopic = codes "UpdateTopic"
call_name GetTopic = codes "GetTopic"
call_name DeleteTopic = codes "DeleteTopic"
call_name ListTopics = codes "ListTopics"
call_name ListTopicSubscriptions = codes "ListTopicSubscriptions"
call_name ListTopicSnapshots = codes "ListTopicSnapshots"
call_name Publish = codes "Publish"
call_name CreateSubscription = codes "CreateSubscription"
call_name UpdateSubscription = codes "UpdateSubscription"
call_name GetSubscription = codes "GetSubscription"
call_name DeleteSubscription = codes "DeleteSubscription"
call_name ListSubscriptions = codes "ListSubscriptions"
call_name Pull = codes "Pull"
call_name Acknowledge = codes "Acknowledge"
call_name ModifyAckDeadline = codes "ModifyAckDeadline"
call_name Seek = codes "Seek"
call_name Detach = codes "Detach"
call_name CreateSnapshot = codes "CreateSnapshot"
call_name UpdateSnapshot = codes "UpdateSnapshot"
call_name GetSnapshot = codes "GetSnapshot"
call_name DeleteSnapshot = codes "DeleteSnapshot"
call_name ListSnapshots = codes "ListSnapshots"
