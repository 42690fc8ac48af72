use Rattle.ps_json.proofs.call.command.Goals as goal

pub returns-in-CreateTopic : goal.returns-in-CreateTopic
returns-in-CreateTopic c = rw c.in-CreateTopic.is (c.create_topic_at.ensures c.args.query.now)

pub returns-in-Publish : goal.returns-in-Publish
returns-in-Publish c = rw c.in-Publish.is (c.publish_at.ensures c.args.query.now)

pub returns-in-CreateSubscription : goal.returns-in-CreateSubscription
returns-in-CreateSubscription c = rw c.in-CreateSubscription.is (c.create_subscription_at.ensures c.args.query.now)

pub returns-in-Pull : goal.returns-in-Pull
returns-in-Pull c = rw c.in-Pull.is (c.pull_at.ensures c.args.query.now)

pub returns-in-Acknowledge : goal.returns-in-Acknowledge
returns-in-Acknowledge c = rw c.in-Acknowledge.is (c.acknowledge_at.ensures c.args.query.now)

pub returns-in-ModifyAckDeadline : goal.returns-in-ModifyAckDeadline
returns-in-ModifyAckDeadline c = rw c.in-ModifyAckDeadline.is (c.modify_at.ensures c.args.query.now)

pub returns-in-Detach : goal.returns-in-Detach
returns-in-Detach c = rw c.in-Detach.is (c.detach_at.ensures c.args.query.now)

pub returns-in-UpdateTopic : goal.returns-in-UpdateTopic
returns-in-UpdateTopic c = rw c.in-UpdateTopic.is (c.update_topic_at.ensures c.args.query.now)

pub returns-in-UpdateSubscription : goal.returns-in-UpdateSubscription
returns-in-UpdateSubscription c = rw c.in-UpdateSubscription.is (c.update_subscription_at.ensures c.args.query.now)
