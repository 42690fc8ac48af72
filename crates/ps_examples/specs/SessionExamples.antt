-- Worked examples: one run of calls on a subscription with a filter, ordering, retries and dead letters, from the first call on.
use Rattle.std.specs.Prelude.{ℕ, ◌+◌, ◌≡◌, true, false, List, [], ◌∷◌, Option, Some, None, codes}
use Rattle.ps_base.specs.declared.ack_id.AckId.{AckId}
use Rattle.ps_config.specs.declared.config.TopicConfig.{TopicConfig}
use Rattle.ps_config.specs.declared.config.SubConfig.{SubConfig}
use Rattle.ps_message.specs.declared.message.Message.{Message}
use Rattle.ps_model.specs.declared.command.Command.TheVariants.{CreateTopic, CreateSubscription, Publish, Pull, Acknowledge, ModifyAckDeadline, ListSubscriptions, SeekTime}
use Rattle.ps_model.specs.declared.command.Entry.{Entry}
use Rattle.ps_model.specs.declared.reply.Reply.{Reply}
use Rattle.ps_model.specs.declared.reply.Reply.TheVariants.{Empty, Topic, Subscription, Page, Published, Received, Acked, Modified}
use Rattle.ps_model.specs.declared.reply.PageItems.TheVariants.{Subscriptions}
use Rattle.ps_model.specs.declared.reply.SubShown.{SubShown}
use Rattle.ps_model.specs.declared.reply.ReceivedMessage.{ReceivedMessage}
use Rattle.ps_examples.specs.Samples.{Call, noted, each_told, each_recorded, counted, id}

-- 14 November 2023, 22:13:20
abbrev pub start : ℕ
start = 1700000000000

abbrev pub orders : List ℕ
orders = codes "projects/shop-prod/topics/orders"

abbrev pub orders_dead : List ℕ
orders_dead = codes "projects/shop-prod/topics/orders-dead"

abbrev pub billing : List ℕ
billing = codes "projects/shop-prod/subscriptions/billing"

abbrev pub of_production : TopicConfig
of_production = record { labels = (codes "env", codes "prod") ∷ []; retention = None }

abbrev pub without_settings : TopicConfig
without_settings = record { labels = []; retention = None }

abbrev pub billing_settings : SubConfig
billing_settings = record {
  ack_seconds = 30;
  retain_acked = true;
  retention = 604800000;
  labels = [];
  ordering = true;
  expiration = Some 2678400000;
  filter = codes "attributes.kind = \"paid\"";
  dead_letter = Some (record { topic = orders_dead; attempts = 5 });
  retry = Some (record { least = 10000; most = 60000 });
  exactly_once = false;
}

abbrev pub billing_shown : SubShown
billing_shown = record { name = billing; topic = Some orders; config = billing_settings; detached = false; topic_retention = None }

-- an order of one customer
abbrev pub order : List ℕ → List ℕ → Message
order text kind = record { payload = text; attributes = (codes "kind", kind) ∷ []; key = codes "c1" }

abbrev pub first_order : Message
first_order = order (codes "one") (codes "paid")

abbrev pub third_order : Message
third_order = order (codes "three") (codes "paid")

abbrev pub three_orders : List Message
three_orders = first_order ∷ order (codes "two") (codes "sent") ∷ third_order ∷ []

abbrev pub pull_ten : ℕ → Call
pull_ten t = (t, Pull billing 10 10000000 None)

abbrev pub acknowledge_one : ℕ → AckId → Call
acknowledge_one t i = (t, Acknowledge billing (i ∷ []))

abbrev pub give_seconds : ℕ → AckId → ℕ → Call
give_seconds t i seconds = (t, ModifyAckDeadline billing ((i, seconds) ∷ []))

-- an order as it was received
abbrev pub received : AckId → ℕ → Message → ReceivedMessage
received i attempt m = record { id = i; attempt = Some attempt; publish = start + 1000; message = m }

abbrev pub session : List Call
session =
    (start, CreateTopic orders of_production)
    ∷ (start, CreateTopic orders_dead without_settings)
    ∷ (start, CreateSubscription billing orders billing_settings)
    ∷ (start + 1000, Publish orders three_orders)
    ∷ pull_ten (start + 2000)
    ∷ give_seconds (start + 3000) (id 1 1 1) 60
    ∷ acknowledge_one (start + 4000) (id 1 1 1)
    ∷ give_seconds (start + 5000) (id 1 3 2) 0
    ∷ pull_ten (start + 14999)
    ∷ pull_ten (start + 15000)
    ∷ acknowledge_one (start + 16000) (id 1 3 3)
    ∷ (start + 17000, ListSubscriptions (codes "shop-prod") (record { size = 10; after = [] }))
    ∷ (start + 18000, SeekTime billing (start + 1000))
    ∷ pull_ten (start + 18000) ∷ []

abbrev pub told_in_session : List Reply
told_in_session =
    Topic (record { name = orders; config = of_production })
    ∷ Topic (record { name = orders_dead; config = without_settings })
    ∷ Subscription billing_shown
    ∷ Published 1 3
    ∷ Received false true (received (id 1 1 1) 1 first_order ∷ received (id 1 3 2) 1 third_order ∷ [])
    ∷ Modified false []
    ∷ Acked false [] []
    ∷ Modified false []
    ∷ Received false true []
    ∷ Received false true (received (id 1 3 3) 2 third_order ∷ [])
    ∷ Acked false [] []
    ∷ Page (Subscriptions (billing_shown ∷ [])) None
    ∷ Empty
    ∷ Received false true (received (id 1 1 4) 1 first_order ∷ received (id 1 3 5) 1 third_order ∷ []) ∷ []

-- all but the pull that found nothing and the list
abbrev pub recorded_in_session : List (Option Entry)
recorded_in_session =
    noted (start, CreateTopic orders of_production)
    ∷ noted (start, CreateTopic orders_dead without_settings)
    ∷ noted (start, CreateSubscription billing orders billing_settings)
    ∷ noted (start + 1000, Publish orders three_orders)
    ∷ noted (pull_ten (start + 2000))
    ∷ noted (give_seconds (start + 3000) (id 1 1 1) 60)
    ∷ noted (acknowledge_one (start + 4000) (id 1 1 1))
    ∷ noted (give_seconds (start + 5000) (id 1 3 2) 0)
    ∷ None
    ∷ noted (pull_ten (start + 15000))
    ∷ noted (acknowledge_one (start + 16000) (id 1 3 3))
    ∷ None
    ∷ noted (start + 18000, SeekTime billing (start + 1000))
    ∷ noted (pull_ten (start + 18000)) ∷ []

pub record SessionExamples : Type 0 where
  -- what each call is told, and what is recorded of it
  pub every_answer : each_told [] session ≡ told_in_session
  pub every_entry : each_recorded [] session ≡ recorded_in_session
  -- the order that doesn't meet the filter is wanted by nothing
  pub counts : counted session ≡ record { entries = 12; now = start + 18000; topics = 2; subscriptions = 1; snapshots = 0; messages = 2; backlog = 0; leased = 2; acknowledged = 0; dead_lettered = 0 }
