-- What a list asks, by the names in its path and its query.
use Rattle.std.specs.Prelude.{ℕ, List, [], ℤ, pos, negsuc, min, Option, Some, None, option_and_then, unwrap_or, Result, Ok, Err}
use Rattle.ps_base.specs.declared.reason.Reason.TheVariants.{PageSize}
use Rattle.ps_base.specs.declared.refusal.Refusal.{Refusal}
use Rattle.ps_base.specs.declared.refusal.Refusal.TheVariants.{InvalidArgument}
use Rattle.ps_names.specs.Names.{is_project}
use Rattle.ps_model.specs.declared.command.Command.{Command}
use Rattle.ps_model.specs.declared.command.Command.TheVariants.{ListTopics, ListTopicSubscriptions, ListSubscriptions}
use Rattle.ps_model.specs.declared.command.Paging.{Paging}
use Rattle.ps_fields.specs.Kinds.{whole_text}
use Rattle.ps_json.specs.declared.named.PathNames.{PathNames}
use Rattle.ps_json.specs.declared.named.Query.{Query}
use Rattle.ps_json.specs.Checks.{and_then, name_read}
use Rattle.ps_json.specs.Naming.{topic_in}

-- ---- a page

-- a number that isn't negative, or 1,000 if it is more
abbrev pub size_of : ℤ → Option ℕ
size_of (pos n) = Some (min n 1000)
size_of (negsuc n) = None

-- 0 by default, and None if a text is no whole number or one below 0
abbrev pub page_size : Option (List ℕ) → Option ℕ
page_size None = Some 0
page_size (Some text) = option_and_then size_of (whole_text text)

-- any text is a token, and the empty one the default
abbrev pub page_token : Option (List ℕ) → List ℕ
page_token text = unwrap_or text []

abbrev pub paging_of : Option ℕ → List ℕ → Result Paging Refusal
paging_of None after = Err (InvalidArgument PageSize)
paging_of (Some size) after = Ok (record { size = size; after = after })

abbrev pub paging_in : Query → Result Paging Refusal
paging_in query = paging_of (page_size query.page_size) (page_token query.page_token)

-- ---- the lists

abbrev pub project_in : PathNames → Result (List ℕ) Refusal
project_in path = name_read (is_project path.project) path.project

abbrev pub topics_asked : PathNames → Query → Result Command Refusal
topics_asked path query = and_then (project_in path) (λ project. and_then (paging_in query) (λ paging. Ok (ListTopics project paging)))

abbrev pub subscriptions_asked : PathNames → Query → Result Command Refusal
subscriptions_asked path query = and_then (project_in path) (λ project. and_then (paging_in query) (λ paging. Ok (ListSubscriptions project paging)))

abbrev pub topic_subscriptions_asked : PathNames → Query → Result Command Refusal
topic_subscriptions_asked path query = and_then (topic_in path) (λ topic. and_then (paging_in query) (λ paging. Ok (ListTopicSubscriptions topic paging)))
