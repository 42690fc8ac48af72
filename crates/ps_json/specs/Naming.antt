-- Calls that ask no more than a name.
use Rattle.std.specs.Prelude.{ℕ, List, [], ◌∷◌, not, if◌then◌else◌, Option, Some, None, option_map, Result}
use Rattle.serde_json.specs.Data.{Members, no_members, member}
use Rattle.ps_base.specs.declared.reason.Reason.TheVariants.{Name, UnknownField}
use Rattle.ps_base.specs.declared.refusal.Refusal.{Refusal}
use Rattle.ps_base.specs.declared.refusal.Refusal.TheVariants.{InvalidArgument}
use Rattle.ps_names.specs.Names.{is_topic_name, is_sub_name}
use Rattle.ps_fields.specs.Fields.{is_null}
use Rattle.ps_json.specs.declared.named.PathNames.{PathNames}
use Rattle.ps_json.specs.Checks.{broken, name_read}
use Rattle.ps_json.specs.Names.{topic_name, sub_name}

-- the name of the topic or of the subscription that a path gives, if it fits its grammar
abbrev pub topic_in : PathNames → Result (List ℕ) Refusal
topic_in path = name_read (is_topic_name (topic_name path)) (topic_name path)

abbrev pub sub_in : PathNames → Result (List ℕ) Refusal
sub_in path = name_read (is_sub_name (sub_name path)) (sub_name path)

-- the least name in byte order, in which members stand, whose field isn't null
abbrev pub first_given : Members → Option (List ℕ)
first_given no_members = None
first_given (member k d ms) = if is_null d then first_given ms else Some k

-- no field is known
abbrev pub detach_checks : List ℕ → Members → List (Option Refusal)
detach_checks name ms =
    broken (not (is_sub_name name)) Name
    ∷ option_map (λ field. InvalidArgument (UnknownField field)) (first_given ms)
    ∷ []
