-- Worked examples: a run of any size by rote. It publishes, and then pulls, acknowledges and gives up until nothing is left.
use Rattle.std.specs.Prelude.{ℕ, zero, suc, ◌+◌, ◌-◌, ◌*◌, ◌/◌, ◌%◌, ◌≡◌, Bool, true, not, nat_eq, List, [], ◌∷◌, ◌++◌, Some, codes, decimal, map, filter, if◌then◌else◌}
use Rattle.ps_base.specs.declared.ack_id.AckId.{AckId}
use Rattle.ps_config.specs.declared.config.SubConfig.{SubConfig}
use Rattle.ps_message.specs.declared.message.Message.{Message}
use Rattle.ps_model.specs.declared.command.Command.TheVariants.{CreateTopic, CreateSubscription, Publish, Acknowledge, ModifyAckDeadline}
use Rattle.ps_model.specs.declared.reply.Reply.{Reply}
use Rattle.ps_model.specs.declared.reply.Reply.TheVariants.{Empty, Topic, Subscription, Snapshot, Page, Published, Received, Acked, Modified, Refused}
use Rattle.ps_model.specs.declared.reply.ReceivedMessage.{ReceivedMessage}
use Rattle.ps_model.specs.declared.world.World.{World}
use Rattle.ps_config.specs.Masks.{default_topic, default_sub}
use Rattle.ps_message.specs.Lists.{is_empty}
use Rattle.ps_model.specs.Counting.{stat}
use Rattle.ps_model.specs.Step.{empty_world, reply}
use Rattle.ps_model.specs.History.{called, after_calls}
use Rattle.ps_examples.specs.Samples.{Call, pull_of, each_told}

abbrev pub load_topic : List ℕ
load_topic = codes "projects/load/topics/load"

abbrev pub load_dead : List ℕ
load_dead = codes "projects/load/topics/dead"

abbrev pub load_sub : List ℕ
load_sub = codes "projects/load/subscriptions/load"

-- in order, and with dead letters after five failures
abbrev pub load_settings : SubConfig
load_settings = record default_sub { ordering = true; dead_letter = Some (record { topic = load_dead; attempts = 5 }) }

-- the message of this number, with one of at most 61 keys
abbrev pub load_message : ℕ → Message
load_message i = record { payload = decimal i; attributes = []; key = codes "k" ++ decimal ((i * i) % 61) }

-- so many of them, from this number on
abbrev pub load_messages : ℕ → ℕ → List Message
load_messages first zero = []
load_messages first (suc n) = load_message first ∷ load_messages (first + 1) n

-- so many requests of 1,000, from this number on
abbrev pub full_requests : ℕ → ℕ → List Call
full_requests first zero = []
full_requests first (suc n) = (1000, Publish load_topic (load_messages first 1000)) ∷ full_requests (first + 1000) n

-- a request of those that are left, where any are
abbrev pub last_request : ℕ → ℕ → List Call
last_request first zero = []
last_request first (suc n) = (1000, Publish load_topic (load_messages first (suc n))) ∷ []

abbrev pub made_before : List Call
made_before =
    (1000, CreateTopic load_dead default_topic) ∷ (1000, CreateTopic load_topic default_topic)
    ∷ (1000, CreateSubscription load_sub load_topic load_settings) ∷ []

abbrev pub published : ℕ → List Call
published n = full_requests 1 (n / 1000) ++ last_request (1000 * (n / 1000) + 1) (n % 1000)

abbrev pub load_pull : Call
load_pull = (2000, pull_of load_sub 1000)

abbrev pub ids_in : Reply → List AckId
ids_in (Received exactly_once ordering items) = map (λ (r : ReceivedMessage). r.id) items
ids_in Empty = []
ids_in (Topic shown) = []
ids_in (Subscription shown) = []
ids_in (Snapshot shown) = []
ids_in (Page items next) = []
ids_in (Published first number) = []
ids_in (Acked exactly_once invalid unordered) = []
ids_in (Modified exactly_once invalid) = []
ids_in (Refused refusal) = []

-- each seventh message is never acknowledged
abbrev pub is_seventh : AckId → Bool
is_seventh i = nat_eq (i.message % 7) 0

-- where there are any
abbrev pub acknowledged : List AckId → List Call
acknowledged [] = []
acknowledged (i ∷ is) = (2000, Acknowledge load_sub (i ∷ is)) ∷ []

abbrev pub given_up : List AckId → List Call
given_up [] = []
given_up (i ∷ is) = (2000, ModifyAckDeadline load_sub (map (λ (x : AckId). (x, 0)) (i ∷ is))) ∷ []

-- what is done with the ids of one pull
abbrev pub dealt_with : List AckId → List Call
dealt_with ids = acknowledged (filter (λ i. not (is_seventh i)) ids) ++ given_up (filter is_seventh ids)

-- at most so many rounds from this world, ending with a pull that gives nothing
abbrev pub rounds : ℕ → World → World
rounds zero w = w
rounds (suc n) w =
    let ids = ids_in (reply w load_pull.0 load_pull.1) in
    let pulled = called w load_pull in
    if is_empty ids then pulled else rounds n (after_calls pulled (dealt_with ids))

-- The world after the run of n messages. In each round but the last one some message is done with, or one fails, and none fails more than five times.
abbrev pub loaded : ℕ → World
loaded n = rounds (6 * n + 1) (after_calls empty_world (made_before ++ published n))

-- what the run tells of its world: the messages past the published ones, what is left, and the entries
pub record Load : Type 0 where
  pub forwarded : ℕ
  pub left : ℕ
  pub entries : ℕ

abbrev pub load_of : ℕ → World → Load
load_of n w = record { forwarded = w.next_message - 1 - n; left = (stat w).backlog + (stat w).leased; entries = w.count }

pub record LoadExamples : Type 0 where
  pub fourteen_published : each_told made_before (published 14) ≡ Published 1 14 ∷ []
  -- all but two are acknowledged at once, and these fail five times in five rounds
  pub fourteen : load_of 14 (loaded 14) ≡ record { forwarded = 2; left = 0; entries = 15 }
  -- nothing at all is published, and one pull finds nothing
  pub none : load_of 0 (loaded 0) ≡ record { forwarded = 0; left = 0; entries = 3 }
  -- one message, pulled and acknowledged
  pub one : load_of 1 (loaded 1) ≡ record { forwarded = 0; left = 0; entries = 6 }
  -- seven, of which the last one dies
  pub seven : load_of 7 (loaded 7) ≡ record { forwarded = 1; left = 0; entries = 15 }
  -- the 33rd has the key of the 28th, is acknowledged ahead of it five times, and in its turn in the sixth round
  pub thirty_three : load_of 33 (loaded 33) ≡ record { forwarded = 4; left = 0; entries = 21 }
