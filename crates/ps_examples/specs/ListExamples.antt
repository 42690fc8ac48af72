-- Worked examples: lists of topics and subscriptions, a page at a time.
use Rattle.std.specs.Prelude.{ℕ, zero, suc, ◌≡◌, true, false, List, [], ◌∷◌, ◌++◌, Option, Some, None, codes, replicate}
use Rattle.ps_model.specs.declared.command.Command.TheVariants.{Tick, CreateTopic, CreateSubscription, DeleteTopic, Detach, ListTopics, ListSubscriptions, ListTopicSubscriptions}
use Rattle.ps_model.specs.declared.command.Paging.{Paging}
use Rattle.ps_model.specs.declared.reply.Reply.{Reply}
use Rattle.ps_model.specs.declared.reply.Reply.TheVariants.{Page}
use Rattle.ps_model.specs.declared.reply.PageItems.TheVariants.{Topics, Subscriptions, SubscriptionNames}
use Rattle.ps_model.specs.declared.reply.TopicShown.{TopicShown}
use Rattle.ps_model.specs.declared.reply.SubShown.{SubShown}
use Rattle.ps_config.specs.Masks.{default_topic, default_sub}
use Rattle.ps_model.specs.Listing.{page_size, page_of}
use Rattle.ps_examples.specs.LeaseExamples.{pulled}
use Rattle.ps_examples.specs.Samples.{Call, told, recorded_of, none_named}

abbrev pub aaa : List ℕ
aaa = codes "projects/p/topics/aaa"

abbrev pub bbb : List ℕ
bbb = codes "projects/p/topics/bbb"

abbrev pub ccc : List ℕ
ccc = codes "projects/p/topics/ccc"

abbrev pub make : List ℕ → Call
make name = (1000, CreateTopic name default_topic)

-- three topics of the project, made out of order, and one of a project whose name begins the same
abbrev pub three_topics : List Call
three_topics = make bbb ∷ make ccc ∷ make (codes "projects/pp/topics/aaa") ∷ make aaa ∷ []

abbrev pub plain : List ℕ → TopicShown
plain name = record { name = name; config = default_topic }

abbrev pub list_topics : List ℕ → ℕ → List ℕ → Call
list_topics project size token = (2000, ListTopics project (record { size = size; after = token }))

abbrev pub one : List ℕ
one = codes "projects/p/subscriptions/one"

abbrev pub two : List ℕ
two = codes "projects/p/subscriptions/two"

abbrev pub third : List ℕ
third = codes "projects/p/subscriptions/third"

abbrev pub attach : List ℕ → List ℕ → Call
attach name topic = (1000, CreateSubscription name topic default_sub)

-- two subscriptions of one topic and one of another
abbrev pub three_subs : List Call
three_subs = three_topics ++ attach two aaa ∷ attach third bbb ∷ attach one aaa ∷ []

abbrev pub shown_sub : List ℕ → Option (List ℕ) → SubShown
shown_sub name topic = record { name = name; topic = topic; config = default_sub; detached = false; topic_retention = None }

abbrev pub attached_to : List ℕ → ℕ → List ℕ → Call
attached_to topic size token = (2000, ListTopicSubscriptions topic (record { size = size; after = token }))

abbrev pub detach_two : List Call
detach_two = three_subs ++ (1500, Detach two) ∷ []

abbrev pub delete_aaa : List Call
delete_aaa = three_subs ++ (1500, DeleteTopic aaa) ∷ []

-- so many names, each a letter longer than the one before
abbrev pub names_from : ℕ → ℕ → List (List ℕ)
names_from length zero = []
names_from length (suc n) = replicate length 97 ∷ names_from (suc length) n

-- a page of so many names
abbrev pub page_of_names : ℕ → Paging → Reply
page_of_names n paging = page_of (λ (name : List ℕ). name) SubscriptionNames paging (names_from 1 n)

pub record ListExamples : Type 0 where
  -- the names come in byte order, and the token is the last name of a page behind which there are more
  pub first_page : told three_topics (list_topics (codes "p") 2 []) ≡ Page (Topics (plain aaa ∷ plain bbb ∷ [])) (Some bbb)
  pub second_page : told three_topics (list_topics (codes "p") 2 bbb) ≡ Page (Topics (plain ccc ∷ [])) None
  pub page_that_just_fits : told three_topics (list_topics (codes "p") 3 []) ≡ Page (Topics (plain aaa ∷ plain bbb ∷ plain ccc ∷ [])) None
  pub page_without_a_size : told three_topics (list_topics (codes "p") 0 []) ≡ Page (Topics (plain aaa ∷ plain bbb ∷ plain ccc ∷ [])) None
  -- a token needs no name to be there
  pub token_of_no_name : told three_topics (list_topics (codes "p") 1 (codes "projects/p/topics/ab")) ≡ Page (Topics (plain bbb ∷ [])) (Some bbb)
  pub token_behind_all : told three_topics (list_topics (codes "p") 1 ccc) ≡ Page (Topics []) None
  -- a list is of one project, and none is no refusal
  pub another_project : told three_topics (list_topics (codes "q") 0 []) ≡ Page (Topics []) None
  pub not_recorded : recorded_of three_topics (list_topics (codes "p") 2 []) ≡ None
  -- without a size 100, and never more than 1,000
  pub size_left_out : page_size 0 ≡ 100
  pub size_of_one : page_size 1 ≡ 1
  pub greatest_size : page_size 1000 ≡ 1000
  pub greater_size : page_size 1001 ≡ 1000
  pub more_than_a_page : page_of_names 101 (record { size = 0; after = [] }) ≡ Page (SubscriptionNames (names_from 1 100)) (Some (replicate 100 97))
  pub just_a_page : page_of_names 100 (record { size = 0; after = [] }) ≡ Page (SubscriptionNames (names_from 1 100)) None
  -- the subscriptions of a project, and the names of those of a topic
  pub subscriptions : told three_subs (2000, ListSubscriptions (codes "p") (record { size = 2; after = [] })) ≡ Page (Subscriptions (shown_sub one (Some aaa) ∷ shown_sub third (Some bbb) ∷ [])) (Some third)
  pub subscriptions_of_a_topic : told three_subs (attached_to aaa 0 []) ≡ Page (SubscriptionNames (one ∷ two ∷ [])) None
  pub first_of_a_topic : told three_subs (attached_to aaa 1 []) ≡ Page (SubscriptionNames (one ∷ [])) (Some one)
  pub subscriptions_of_no_topic : told three_subs (attached_to (codes "projects/p/topics/ddd") 0 []) ≡ none_named (codes "projects/p/topics/ddd")
  -- one that is detached is the project's still and not the topic's
  pub detached_is_left_out : told detach_two (attached_to aaa 0 []) ≡ Page (SubscriptionNames (one ∷ [])) None
  pub detached_is_shown : told detach_two (2000, ListSubscriptions (codes "p") (record { size = 0; after = third })) ≡ Page (Subscriptions (record (shown_sub two (Some aaa)) { detached = true } ∷ [])) None
  pub topic_deleted : told delete_aaa (2000, ListSubscriptions (codes "p") (record { size = 1; after = [] })) ≡ Page (Subscriptions (shown_sub one None ∷ [])) (Some one)
  pub subscriptions_of_a_deleted_topic : told delete_aaa (attached_to aaa 0 []) ≡ none_named aaa
  -- a list at a moment at which a lease ends is recorded as this alone
  pub settles : recorded_of pulled (12000, ListTopics (codes "p") (record { size = 0; after = [] })) ≡ Some (record { now = 12000; command = Tick })
