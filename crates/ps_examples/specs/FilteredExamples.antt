-- Worked examples: subscriptions with filters, and how long a filter may be.
use Rattle.std.specs.Prelude.{ℕ, ◌≡◌, List, [], ◌∷◌, ◌++◌, Some, None, codes, replicate}
use Rattle.ps_base.specs.declared.reason.Reason.TheVariants.{FilterTooLong, FilterMixed, FilterSyntax}
use Rattle.ps_config.specs.declared.config.SubConfig.{SubConfig}
use Rattle.ps_message.specs.declared.message.Message.{Message}
use Rattle.ps_model.specs.declared.command.Command.TheVariants.{CreateSubscription}
use Rattle.ps_config.specs.Masks.{default_sub}
use Rattle.ps_filter.specs.Filters.{filter_fault}
use Rattle.ps_examples.specs.Samples.{Call, told, recorded_of, counted, base, base_with, hi, publish_at, pull_at, pull_of, id, out, plain_answer, topic_name, broken_by, noted}
use Rattle.ps_examples.specs.FilterFaultExamples.{wrong_at}

-- a comparison with a string of so many letters, 17 bytes longer than these
abbrev pub compared_with : ℕ → List ℕ
compared_with n = codes "attributes.a = \"" ++ replicate n 120 ++ codes "\""

abbrev pub filtered : List ℕ → SubConfig
filtered text = record default_sub { filter = text }

abbrev pub other_sub : List ℕ
other_sub = codes "projects/p/subscriptions/all"

-- the subscription asks for the attribute `a`, and another one asks for nothing
abbrev pub both_subs : List Call
both_subs = base_with (filtered (codes "attributes:a")) ++ (1000, CreateSubscription other_sub topic_name default_sub) ∷ []

abbrev pub with_a : Message
with_a = record hi { attributes = (codes "a", codes "1") ∷ [] }

-- a message without the attribute and one with it
abbrev pub two_published : List Call
two_published = both_subs ++ publish_at 1000 (hi ∷ with_a ∷ []) ∷ []

abbrev pub create_with : List ℕ → Call
create_with text = (1000, CreateSubscription (codes "projects/p/subscriptions/new") topic_name (filtered text))

pub record FilteredExamples : Type 0 where
  -- a message enters the subscriptions whose filter it meets, and no other
  pub what_meets_it : told two_published (pull_at 2000 10) ≡ plain_answer (out (id 1 2 1) with_a ∷ [])
  pub what_meets_no_filter : told two_published (2000, pull_of other_sub 10) ≡ plain_answer (out (id 2 1 1) hi ∷ out (id 2 2 2) with_a ∷ [])
  pub counts_of_both : counted two_published ≡ record { entries = 4; now = 1000; topics = 1; subscriptions = 2; snapshots = 0; messages = 2; backlog = 3; leased = 0; acknowledged = 0; dead_lettered = 0 }
  -- what meets no filter of any subscription is recorded and not kept
  pub nobody_asked_for_it : recorded_of (base_with (filtered (codes "attributes:a"))) (publish_at 1000 (hi ∷ [])) ≡ noted (publish_at 1000 (hi ∷ []))
  pub counts_where_nobody_asked : counted (base_with (filtered (codes "attributes:a")) ++ publish_at 1000 (hi ∷ []) ∷ []) ≡ record { entries = 3; now = 1000; topics = 1; subscriptions = 1; snapshots = 0; messages = 0; backlog = 0; leased = 0; acknowledged = 0; dead_lettered = 0 }
  -- a subscription with a text that is no filter isn't made
  pub mixed : told base (create_with (codes "attributes:a AND attributes:b OR attributes:c")) ≡ broken_by (FilterMixed 30)
  pub no_filter : told base (create_with (codes "attributes:")) ≡ broken_by (FilterSyntax 11)
  pub too_long : told base (create_with (compared_with 240)) ≡ broken_by FilterTooLong
  pub blanks_alone : told base (create_with (codes "  ")) ≡ broken_by (FilterSyntax 2)
  pub not_made_is_not_recorded : recorded_of base (create_with (codes "attributes:")) ≡ None
  -- a filter has at most 256 bytes, whatever else is wrong with it
  pub longest : filter_fault (compared_with 239) ≡ None
  pub longer : filter_fault (compared_with 240) ≡ Some FilterTooLong
  pub longer_and_no_filter : filter_fault (replicate 257 40) ≡ Some FilterTooLong
  -- that is room for the deepest ones
  pub most_parentheses : filter_fault (replicate 122 40 ++ codes "attributes:a" ++ replicate 122 41) ≡ None
  pub parentheses_without_end : filter_fault (replicate 256 40) ≡ wrong_at 256
  pub most_negations : filter_fault (replicate 244 45 ++ codes "attributes:a") ≡ None
  pub hyphens_without_end : filter_fault (replicate 256 45) ≡ wrong_at 256
