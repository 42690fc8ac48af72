-- Worked examples: the moment of a call, and calls that bring nothing but their moment.
use Rattle.std.specs.Prelude.{ℕ, ◌≡◌, List, [], ◌∷◌, ◌++◌, None, codes}
use Rattle.ps_model.specs.declared.command.Command.TheVariants.{Tick, GetTopic, UpdateSubscription}
use Rattle.ps_model.specs.declared.reply.Reply.TheVariants.{Empty}
use Rattle.ps_config.specs.Masks.{default_sub}
use Rattle.ps_examples.specs.LeaseExamples.{pulled}
use Rattle.ps_examples.specs.Samples.{Call, told, recorded_of, counted, base, hi, publish_at, pull_at, id, out, plain_answer, topic_name, sub_name, noted}
use Rattle.ps_examples.specs.SnapshotExamples.{out_since}

abbrev pub last : ℕ
last = 253402300799999

-- a message that was published behind the last moment
abbrev pub at_the_end : List Call
at_the_end = base ++ publish_at 253402300800000 (hi ∷ []) ∷ []

pub record MomentExamples : Type 0 where
  -- a call is never before the last entry
  pub goes_back : recorded_of base (publish_at 500 (hi ∷ [])) ≡ noted (publish_at 1000 (hi ∷ []))
  pub published_when_it_counts : told (base ++ publish_at 500 (hi ∷ []) ∷ []) (pull_at 700 1) ≡ plain_answer (out (id 1 1 1) hi ∷ [])
  pub lease_counts_from_there : told (base ++ publish_at 2000 (hi ∷ []) ∷ pull_at 1000 1 ∷ []) (pull_at 11999 1) ≡ plain_answer []
  pub lease_ends_from_there : told (base ++ publish_at 2000 (hi ∷ []) ∷ pull_at 1000 1 ∷ []) (pull_at 12000 1) ≡ plain_answer (out_since 2000 (id 1 1 2) ∷ [])
  pub clock_stays : counted (base ++ publish_at 2000 (hi ∷ []) ∷ publish_at 1500 (hi ∷ []) ∷ []) ≡ record { entries = 4; now = 2000; topics = 1; subscriptions = 1; snapshots = 0; messages = 2; backlog = 2; leased = 0; acknowledged = 0; dead_lettered = 0 }
  -- what isn't recorded doesn't move the clock
  pub unrecorded_moment : recorded_of (base ++ (5000, Tick) ∷ []) (publish_at 2000 (hi ∷ [])) ≡ noted (publish_at 2000 (hi ∷ []))
  -- and never behind the last moment of the year 9999
  pub past_the_end : recorded_of base (publish_at 253402300800000 (hi ∷ [])) ≡ noted (publish_at last (hi ∷ []))
  pub at_the_end_itself : recorded_of base (publish_at last (hi ∷ [])) ≡ noted (publish_at last (hi ∷ []))
  pub published_at_the_end : told at_the_end (pull_at 253402300800001 1) ≡ plain_answer (out_since last (id 1 1 1) ∷ [])
  pub no_lease_ends_there : told (at_the_end ++ pull_at last 1 ∷ []) (pull_at 253402300900000 1) ≡ plain_answer []
  -- a Tick that has nothing to do, and one that ends a lease
  pub tick : told pulled (11999, Tick) ≡ Empty
  pub tick_with_nothing_to_do : recorded_of pulled (11999, Tick) ≡ None
  pub tick_that_ends_a_lease : recorded_of pulled (12000, Tick) ≡ noted (12000, Tick)
  pub tick_behind_it : recorded_of (pulled ++ (12000, Tick) ∷ []) (13000, Tick) ≡ None
  pub counts_behind_it : counted (pulled ++ (12000, Tick) ∷ []) ≡ record { entries = 5; now = 12000; topics = 1; subscriptions = 1; snapshots = 0; messages = 1; backlog = 1; leased = 0; acknowledged = 0; dead_lettered = 0 }
  pub tick_of_nothing : recorded_of [] (1000, Tick) ≡ None
  -- what else is called at the moment at which a lease ends is recorded where it changes something, and else as a Tick
  pub pull_at_an_end : recorded_of pulled (pull_at 12000 1) ≡ noted (pull_at 12000 1)
  pub read_at_an_end : recorded_of pulled (12000, GetTopic topic_name) ≡ noted (12000, Tick)
  pub update_without_change_at_an_end : recorded_of pulled (12000, UpdateSubscription sub_name (record { 0 = 1 }) default_sub) ≡ noted (12000, Tick)
  pub missing_name_at_an_end : recorded_of pulled (12000, GetTopic (codes "projects/p/topics/none")) ≡ noted (12000, Tick)
  pub bad_argument_at_an_end : recorded_of pulled (pull_at 12000 0) ≡ noted (12000, Tick)
