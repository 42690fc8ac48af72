-- Worked examples: ordering keys, with turns, early acknowledgements, and delays that hold back the rest of a key.
use Rattle.std.specs.Prelude.{◌≡◌, true, false, List, [], ◌∷◌, ◌++◌, Some, None, codes}
use Rattle.ps_config.specs.declared.config.SubConfig.{SubConfig}
use Rattle.ps_message.specs.declared.message.Message.{Message}
use Rattle.ps_model.specs.declared.mark.Mark.TheVariants.{Backlog, Leased, Ahead, Done}
use Rattle.ps_model.specs.declared.mark.DoneCause.TheVariants.{Acknowledged}
use Rattle.ps_model.specs.declared.reply.Reply.{Reply}
use Rattle.ps_model.specs.declared.reply.Reply.TheVariants.{Acked, Received}
use Rattle.ps_model.specs.declared.reply.ReceivedMessage.{ReceivedMessage}
use Rattle.ps_config.specs.Masks.{default_sub}
use Rattle.ps_examples.specs.Samples.{Call, told, recorded_of, noted, counted, marks_after, standing, base_with, hi, keyed, publish_at, pull_at, id, ack_at, give_up_at, out}

abbrev pub ordered : SubConfig
ordered = record default_sub { ordering = true }

abbrev pub ordered_once : SubConfig
ordered_once = record ordered { exactly_once = true }

-- what is acknowledged stays for the whole retention
abbrev pub ordered_retaining : SubConfig
ordered_retaining = record ordered { retain_acked = true }

abbrev pub of_k : Message
of_k = keyed (codes "k")

abbrev pub of_j : Message
of_j = keyed (codes "j")

-- these messages are published and pulled
abbrev pub out_with : SubConfig → List Message → List Call
out_with config messages = base_with config ++ (publish_at 1000 messages ∷ pull_at 2000 10 ∷ [])

-- three messages of one key, out under the leases 1, 2 and 3
abbrev pub three_out : SubConfig → List Call
three_out config = out_with config (of_k ∷ of_k ∷ of_k ∷ [])

-- an answer of an ordered subscription without exactly-once mode
abbrev pub ordered_answer : List ReceivedMessage → Reply
ordered_answer = Received false true

-- the third is acknowledged before its turn
abbrev pub third_early : List Call
third_early = three_out ordered ++ ack_at 2500 (id 1 3 3 ∷ []) ∷ []

-- and then the second one is given up
abbrev pub second_failed : List Call
second_failed = third_early ++ give_up_at 3000 (id 1 2 2 ∷ []) ∷ []

-- the first of a key waits out its delay, before another of the key, one of another key and one of none
abbrev pub first_rests : List Call
first_rests =
    base_with (record ordered { retry = Some (record { least = 10000; most = 60000 }) })
    ++ (publish_at 1000 (of_k ∷ of_k ∷ of_j ∷ hi ∷ []) ∷ pull_at 2000 1 ∷ give_up_at 3000 (id 1 1 1 ∷ []) ∷ [])

abbrev pub others_done : List Call
others_done = first_rests ++ (pull_at 3000 10 ∷ ack_at 4000 (id 1 3 2 ∷ id 1 4 3 ∷ []) ∷ [])

pub record OrderingExamples : Type 0 where
  -- in order, and the next one while the first is out
  pub all_out : told (base_with ordered ++ publish_at 1000 (of_k ∷ of_k ∷ of_k ∷ []) ∷ []) (pull_at 2000 3) ≡ ordered_answer (out (id 1 1 1) of_k ∷ out (id 1 2 2) of_k ∷ out (id 1 3 3) of_k ∷ [])
  pub one_by_one : told (base_with ordered ++ (publish_at 1000 (of_k ∷ of_k ∷ of_k ∷ []) ∷ pull_at 2000 1 ∷ [])) (pull_at 2000 1) ≡ ordered_answer (out (id 1 2 2) of_k ∷ [])
  -- an acknowledgement before its turn counts, and the message stands ahead
  pub early : told (three_out ordered) (ack_at 2500 (id 1 3 3 ∷ [])) ≡ Acked false [] []
  pub early_is_recorded : recorded_of (three_out ordered) (ack_at 2500 (id 1 3 3 ∷ [])) ≡ noted (ack_at 2500 (id 1 3 3 ∷ []))
  pub marks_after_early : marks_after third_early ≡ standing 1 1 (Leased 0 1 12000) ∷ standing 1 2 (Leased 0 2 12000) ∷ standing 1 3 (Ahead 0) ∷ []
  pub counts_after_early : counted third_early ≡ record { entries = 5; now = 2500; topics = 1; subscriptions = 1; snapshots = 0; messages = 3; backlog = 0; leased = 2; acknowledged = 1; dead_lettered = 0 }
  -- the one before it fails, and it comes again with that one, in order; the first one stays out
  pub back_in_order : told second_failed (pull_at 3000 10) ≡ ordered_answer (out (id 1 2 4) of_k ∷ out (id 1 3 5) of_k ∷ [])
  pub marks_after_the_failure : marks_after second_failed ≡ standing 1 1 (Leased 0 1 12000) ∷ standing 1 2 (Backlog 1 0 (Some 2)) ∷ standing 1 3 (Backlog 0 0 None) ∷ []
  pub marks_after_the_pull : marks_after (second_failed ++ pull_at 3000 10 ∷ []) ≡ standing 1 1 (Leased 0 1 12000) ∷ standing 1 2 (Leased 1 4 13000) ∷ standing 1 3 (Leased 0 5 13000) ∷ []
  pub counts_after_the_pull : counted (second_failed ++ pull_at 3000 10 ∷ []) ≡ record { entries = 7; now = 3000; topics = 1; subscriptions = 1; snapshots = 0; messages = 3; backlog = 0; leased = 3; acknowledged = 0; dead_lettered = 0 }
  -- what stands ahead is done when those before it are, whatever the order
  pub two_ahead : marks_after (three_out ordered_retaining ++ (ack_at 2500 (id 1 3 3 ∷ []) ∷ ack_at 2600 (id 1 2 2 ∷ []) ∷ [])) ≡ standing 1 1 (Leased 0 1 12000) ∷ standing 1 2 (Ahead 0) ∷ standing 1 3 (Ahead 0) ∷ []
  pub all_done : marks_after (three_out ordered_retaining ++ (ack_at 2500 (id 1 3 3 ∷ []) ∷ ack_at 2600 (id 1 2 2 ∷ []) ∷ ack_at 2700 (id 1 1 1 ∷ []) ∷ [])) ≡ standing 1 1 (Done Acknowledged) ∷ standing 1 2 (Done Acknowledged) ∷ standing 1 3 (Done Acknowledged) ∷ []
  pub still_ahead : marks_after (three_out ordered_retaining ++ (ack_at 2500 (id 1 3 3 ∷ []) ∷ ack_at 2600 (id 1 1 1 ∷ []) ∷ [])) ≡ standing 1 1 (Done Acknowledged) ∷ standing 1 2 (Leased 0 2 12000) ∷ standing 1 3 (Ahead 0) ∷ []
  pub caught_up : marks_after (three_out ordered_retaining ++ (ack_at 2500 (id 1 3 3 ∷ []) ∷ ack_at 2600 (id 1 1 1 ∷ []) ∷ ack_at 2700 (id 1 2 2 ∷ []) ∷ [])) ≡ standing 1 1 (Done Acknowledged) ∷ standing 1 2 (Done Acknowledged) ∷ standing 1 3 (Done Acknowledged) ∷ []
  -- those of one request are taken together, in whatever order they are named
  pub together : marks_after (three_out ordered_retaining ++ ack_at 2500 (id 1 3 3 ∷ id 1 2 2 ∷ id 1 1 1 ∷ []) ∷ []) ≡ standing 1 1 (Done Acknowledged) ∷ standing 1 2 (Done Acknowledged) ∷ standing 1 3 (Done Acknowledged) ∷ []
  -- another key, and no key, are acknowledged in their own turn
  pub own_turns : marks_after (out_with ordered_retaining (of_k ∷ of_j ∷ hi ∷ hi ∷ []) ++ ack_at 2500 (id 1 2 2 ∷ id 1 4 4 ∷ []) ∷ []) ≡ standing 1 1 (Leased 0 1 12000) ∷ standing 1 2 (Done Acknowledged) ∷ standing 1 3 (Leased 0 3 12000) ∷ standing 1 4 (Done Acknowledged) ∷ []
  -- the delay of the first of a key holds back the later ones of the key, and no others
  pub only_others : told first_rests (pull_at 3000 10) ≡ ordered_answer (out (id 1 3 2) of_j ∷ out (id 1 4 3) hi ∷ [])
  pub still_held_back : told others_done (pull_at 12999 10) ≡ ordered_answer []
  pub no_more_held_back : told others_done (pull_at 13000 10) ≡ ordered_answer (out (id 1 1 4) of_k ∷ out (id 1 2 5) of_k ∷ [])
