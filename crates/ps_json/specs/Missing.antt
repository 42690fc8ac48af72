-- Settings of resources that aren't built, or that the service leaves out.
use Rattle.std.specs.Prelude.{ℕ, ◌++◌, List, [], ◌∷◌, map, filter, Bool, true, false, ◌&&◌, ◌||◌, codes, if◌then◌else◌}
use Rattle.std.specs.List.{list_any}
use Rattle.std.specs.Str.{bytes_eq}
use Rattle.serde_json.specs.Data.{Data, null, boolean, number, string, array, object, Members}
use Rattle.ps_fields.specs.declared.rows.Object.{Object}
use Rattle.ps_fields.specs.declared.rows.Object.TheVariants.{Topic, Subscription}
use Rattle.ps_fields.specs.Fields.{is_filled, is_one_of, pairs_of}

-- settings that aren't built yet
abbrev pub unbuilt : Object → List (List ℕ)
unbuilt Topic = codes "messageRetentionDuration" ∷ []
unbuilt Subscription =
    codes "messageRetentionDuration"
    ∷ codes "retainAckedMessages"
    ∷ codes "deadLetterPolicy"
    ∷ codes "pushConfig"
    ∷ []
unbuilt _ = []

-- settings that the service leaves out
abbrev pub left_out : Object → List (List ℕ)
left_out Topic = codes "kmsKeyName" ∷ codes "schemaSettings" ∷ codes "messageStoragePolicy" ∷ codes "ingestionDataSourceSettings" ∷ codes "messageTransforms" ∷ codes "tags" ∷ []
left_out Subscription = codes "bigqueryConfig" ∷ codes "cloudStorageConfig" ∷ codes "messageTransforms" ∷ codes "tags" ∷ []
left_out _ = []

abbrev pub is_unbuilt : Object → List ℕ → Bool
is_unbuilt table name = is_one_of (unbuilt table) name

abbrev pub is_left_out : Object → List ℕ → Bool
is_left_out table name = is_one_of (left_out table) name

abbrev pub has_filled : Members → Bool
has_filled ms = list_any (λ field. is_filled field.1) (pairs_of ms)

abbrev pub has_filled_field : Data → Bool
has_filled_field (object ms) = has_filled ms
has_filled_field null = false
has_filled_field (boolean b) = false
has_filled_field (number n) = false
has_filled_field (string s) = false
has_filled_field (array ds) = false

-- Whether a value asks for the setting of this name. Push settings do by a field that is filled.
abbrev pub is_asked : List ℕ → Data → Bool
is_asked name value = if bytes_eq name (codes "pushConfig") then has_filled_field value else is_filled value

abbrev pub is_asked_unbuilt : Object → List ℕ × Data → Bool
is_asked_unbuilt table field = (is_unbuilt table field.0 || is_left_out table field.0) && is_asked field.0 field.1

-- the paths of what a resource's fields ask for that isn't built; the text stands before the names of the fields
abbrev pub asked_unbuilt : Object → List ℕ → Members → List (List ℕ)
asked_unbuilt table at ms = map (λ field. at ++ field.0) (filter (is_asked_unbuilt table) (pairs_of ms))

-- the names of a mask that aren't built
abbrev pub masked_unbuilt : Object → List (List ℕ) → List (List ℕ)
masked_unbuilt table names = filter (is_unbuilt table) names

-- what isn't built of what a mask names and a resource asks for
abbrev pub unbuilt_paths : Object → List ℕ → Members → List (List ℕ) → List (List ℕ)
unbuilt_paths table at ms names = masked_unbuilt table names ++ asked_unbuilt table at ms
