-- What the worked examples share: names, settings, messages and calls.
use Rattle.std.specs.Prelude.{ℕ, false, List, [], ◌∷◌, Option, Some, None, codes, map}
use Rattle.ps_base.specs.declared.ack_id.AckId.{AckId}
use Rattle.ps_base.specs.declared.reason.Reason.{Reason}
use Rattle.ps_base.specs.declared.refusal.Refusal.TheVariants.{InvalidArgument, NotFound, AlreadyExists, FailedPrecondition}
use Rattle.ps_config.specs.declared.config.SubConfig.{SubConfig}
use Rattle.ps_message.specs.declared.message.Message.{Message}
use Rattle.ps_model.specs.declared.command.Command.{Command}
use Rattle.ps_model.specs.declared.command.Command.TheVariants.{Tick, CreateTopic, CreateSubscription, Publish, Pull, Acknowledge, ModifyAckDeadline}
use Rattle.ps_model.specs.declared.command.Entry.{Entry}
use Rattle.ps_model.specs.declared.reply.Reply.{Reply}
use Rattle.ps_model.specs.declared.reply.Reply.TheVariants.{Received, Refused}
use Rattle.ps_model.specs.declared.reply.ReceivedMessage.{ReceivedMessage}
use Rattle.ps_model.specs.declared.stat.Stat.{Stat}
use Rattle.ps_model.specs.declared.world.World.{World}
use Rattle.ps_model.specs.declared.world.MarkRow.{MarkRow}
use Rattle.ps_model.specs.declared.mark.Mark.{Mark}
use Rattle.ps_config.specs.Masks.{default_topic, default_sub}
use Rattle.ps_model.specs.Counting.{stat}
use Rattle.ps_model.specs.Step.{empty_world, reply, entry_of}
use Rattle.ps_model.specs.History.{called, after_calls, replies}

-- a moment and a command
abbrev pub Call : Type 0
Call = ℕ × Command

-- what a call is told after these calls from the empty world
abbrev pub told : List Call → Call → Reply
told calls c = reply (after_calls empty_world calls) c.0 c.1

-- what is recorded of it
abbrev pub recorded_of : List Call → Call → Option Entry
recorded_of calls c = entry_of (after_calls empty_world calls) c.0 c.1

-- what the world counts after these calls
abbrev pub counted : List Call → Stat
counted calls = stat (after_calls empty_world calls)

abbrev pub topic_name : List ℕ
topic_name = codes "projects/p/topics/abc"

abbrev pub sub_name : List ℕ
sub_name = codes "projects/p/subscriptions/sub"

-- a second subscription
abbrev pub other_name : List ℕ
other_name = codes "projects/p/subscriptions/sub2"

-- the topic and a subscription of it with these settings, at 1000
abbrev pub base_with : SubConfig → List Call
base_with config = (1000, CreateTopic topic_name default_topic) ∷ (1000, CreateSubscription sub_name topic_name config) ∷ []

abbrev pub base : List Call
base = base_with default_sub

-- the payload `hi`
abbrev pub hi : Message
hi = record { payload = codes "hi"; attributes = []; key = [] }

-- the same with an ordering key
abbrev pub keyed : List ℕ → Message
keyed key = record hi { key = key }

abbrev pub publish_at : ℕ → List Message → Call
publish_at t messages = (t, Publish topic_name messages)

-- a pull of at most so many, with the budget of a call that isn't a stream's
abbrev pub pull_of : List ℕ → ℕ → Command
pull_of sub most = Pull sub most 10000000 None

abbrev pub pull_at : ℕ → ℕ → Call
pull_at t most = (t, pull_of sub_name most)

abbrev pub id : ℕ → ℕ → ℕ → AckId
id sub message lease = record { sub = sub; message = message; lease = lease }

abbrev pub ack_at : ℕ → List AckId → Call
ack_at t ids = (t, Acknowledge sub_name ids)

abbrev pub modify_at : ℕ → List (AckId × ℕ) → Call
modify_at t items = (t, ModifyAckDeadline sub_name items)

-- a message that was published at 1000, under this id
abbrev pub out : AckId → Message → ReceivedMessage
out ack message = record { id = ack; attempt = None; publish = 1000; message = message }

-- an answer of a subscription with neither exactly-once mode nor ordering
abbrev pub plain_answer : List ReceivedMessage → Reply
plain_answer = Received false false

-- the entry of a call that is recorded as it was made
abbrev pub noted : Call → Option Entry
noted c = Some (record { now = c.0; command = c.1 })

-- that settling alone is recorded
abbrev pub tick_at : ℕ → Option Entry
tick_at t = Some (record { now = t; command = Tick })

-- what each call of a run is told, behind these calls
abbrev pub each_told : List Call → List Call → List Reply
each_told calls run = replies (after_calls empty_world calls) run

-- what is recorded of each call of a run from this world
abbrev pub entries_from : World → List Call → List (Option Entry)
entries_from w [] = []
entries_from w (c ∷ cs) = entry_of w c.0 c.1 ∷ entries_from (called w c) cs

-- and behind these calls
abbrev pub each_recorded : List Call → List Call → List (Option Entry)
each_recorded calls run = entries_from (after_calls empty_world calls) run

-- where the messages stand after these calls
abbrev pub marks_after : List Call → List MarkRow
marks_after calls = (after_calls empty_world calls).marks

-- where a message stands on a subscription, both by number
abbrev pub standing : ℕ → ℕ → Mark → MarkRow
standing sub message mark = record { sub = sub; message = message; mark = mark }

-- leases given up
abbrev pub give_up_at : ℕ → List AckId → Call
give_up_at t ids = modify_at t (map (λ (i : AckId). (i, 0)) ids)

-- what refusals tell: a broken check, a name that isn't there or is taken, and what doesn't allow the call
abbrev pub broken_by : Reason → Reply
broken_by reason = Refused (InvalidArgument reason)

abbrev pub none_named : List ℕ → Reply
none_named name = Refused (NotFound name)

abbrev pub taken_already : List ℕ → Reply
taken_already name = Refused (AlreadyExists name)

abbrev pub not_allowed : Reason → Reply
not_allowed reason = Refused (FailedPrecondition reason)
