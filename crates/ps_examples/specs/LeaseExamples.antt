-- Worked examples: leases, their ends, and acknowledgements in both modes.
use Rattle.std.specs.Prelude.{◌≡◌, true, false, List, [], ◌∷◌, ◌++◌, Some, None}
use Rattle.ps_config.specs.declared.config.SubConfig.{SubConfig}
use Rattle.ps_model.specs.declared.command.Command.TheVariants.{Tick, CreateTopic, CreateSubscription, Publish}
use Rattle.ps_model.specs.declared.mark.Mark.TheVariants.{Leased}
use Rattle.ps_model.specs.declared.reply.Reply.TheVariants.{Published, Acked, Received, Topic, Subscription}
use Rattle.ps_config.specs.Masks.{default_topic, default_sub}
use Rattle.ps_examples.specs.Samples.{Call, told, recorded_of, noted, counted, marks_after, standing, base, base_with, hi, publish_at, pull_at, id, ack_at, out, plain_answer, topic_name, sub_name}

-- one message is published and pulled
abbrev pub pulled_with : SubConfig → List Call
pulled_with config = base_with config ++ (publish_at 1000 (hi ∷ []) ∷ pull_at 2000 1 ∷ [])

abbrev pub pulled : List Call
pulled = pulled_with default_sub

abbrev pub exactly_once : SubConfig
exactly_once = record default_sub { exactly_once = true }

-- what is acknowledged stays for the whole retention
abbrev pub retaining : SubConfig
retaining = record default_sub { retain_acked = true }

-- the lease is acknowledged in time, and a second time
abbrev pub acknowledged : List Call
acknowledged = pulled ++ ack_at 3000 (id 1 1 1 ∷ []) ∷ []

abbrev pub acknowledged_twice : List Call
acknowledged_twice = acknowledged ++ ack_at 3000 (id 1 1 1 ∷ []) ∷ []

pub record LeaseExamples : Type 0 where
  -- the topic and the subscription as they are shown, with what absent settings mean
  pub topic_made : told [] (1000, CreateTopic topic_name default_topic) ≡ Topic (record { name = topic_name; config = record { labels = []; retention = None } })
  pub subscription_made : told ((1000, CreateTopic topic_name default_topic) ∷ []) (1000, CreateSubscription sub_name topic_name default_sub) ≡ Subscription (record { name = sub_name; topic = Some topic_name; config = record { ack_seconds = 10; retain_acked = false; retention = 604800000; labels = []; ordering = false; expiration = Some 2678400000; filter = []; dead_letter = None; retry = None; exactly_once = false }; detached = false; topic_retention = None })
  pub published : told base (publish_at 1000 (hi ∷ [])) ≡ Published 1 1
  pub published_is_recorded : recorded_of base (publish_at 1000 (hi ∷ [])) ≡ noted (publish_at 1000 (hi ∷ []))
  pub first_pull : told (base ++ publish_at 1000 (hi ∷ []) ∷ []) (pull_at 2000 1) ≡ plain_answer (out (id 1 1 1) hi ∷ [])
  pub first_pull_is_recorded : recorded_of (base ++ publish_at 1000 (hi ∷ []) ∷ []) (pull_at 2000 1) ≡ Some (record { now = 2000; command = (pull_at 2000 1).1 })
  pub mark_after_a_pull : marks_after pulled ≡ standing 1 1 (Leased 0 1 12000) ∷ []
  -- the lease lives until just before its deadline
  pub just_before_the_deadline : told pulled (pull_at 11999 1) ≡ plain_answer []
  pub nothing_is_recorded_then : recorded_of pulled (pull_at 11999 1) ≡ None
  pub at_the_deadline : told pulled (pull_at 12000 1) ≡ plain_answer (out (id 1 1 2) hi ∷ [])
  pub at_the_deadline_is_recorded : recorded_of pulled (pull_at 12000 1) ≡ noted (pull_at 12000 1)
  pub counts_after_a_pull : counted pulled ≡ record { entries = 4; now = 2000; topics = 1; subscriptions = 1; snapshots = 0; messages = 1; backlog = 0; leased = 1; acknowledged = 0; dead_lettered = 0 }
  -- a late acknowledgement counts outside exactly-once mode, and in it doesn't
  pub late : told pulled (ack_at 12000 (id 1 1 1 ∷ [])) ≡ Acked false [] []
  pub late_is_recorded : recorded_of pulled (ack_at 12000 (id 1 1 1 ∷ [])) ≡ noted (ack_at 12000 (id 1 1 1 ∷ []))
  pub nothing_after_late : told (pulled ++ ack_at 12000 (id 1 1 1 ∷ []) ∷ []) (pull_at 12000 1) ≡ plain_answer []
  pub late_exactly_once : told (pulled_with exactly_once) (ack_at 12000 (id 1 1 1 ∷ [])) ≡ Acked true (id 1 1 1 ∷ []) []
  pub late_exactly_once_is_a_tick : recorded_of (pulled_with exactly_once) (ack_at 12000 (id 1 1 1 ∷ [])) ≡ Some (record { now = 12000; command = Tick })
  pub pulled_again_exactly_once : told (pulled_with exactly_once ++ ack_at 12000 (id 1 1 1 ∷ []) ∷ []) (pull_at 12000 1) ≡ Received true false (out (id 1 1 2) hi ∷ [])
  -- the same acknowledgement twice: the second one changes nothing
  pub in_time : told pulled (ack_at 3000 (id 1 1 1 ∷ [])) ≡ Acked false [] []
  pub entries_after_it : (counted acknowledged).entries ≡ 5
  pub again : told acknowledged (ack_at 3000 (id 1 1 1 ∷ [])) ≡ Acked false [] []
  pub entries_after_both : (counted acknowledged_twice).entries ≡ 5
  pub nothing_after_both : told acknowledged_twice (pull_at 12000 1) ≡ plain_answer []
  pub counts_after_both : counted (pulled_with retaining ++ (ack_at 3000 (id 1 1 1 ∷ []) ∷ ack_at 3000 (id 1 1 1 ∷ []) ∷ [])) ≡ record { entries = 5; now = 3000; topics = 1; subscriptions = 1; snapshots = 0; messages = 1; backlog = 0; leased = 0; acknowledged = 1; dead_lettered = 0 }
  -- a call that is handed an earlier moment than the last entry's comes at that one
  pub no_earlier_moment : recorded_of pulled (publish_at 500 (hi ∷ [])) ≡ Some (record { now = 2000; command = Publish topic_name (hi ∷ []) })
