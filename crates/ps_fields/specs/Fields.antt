-- The fields of a JSON object.
use Rattle.std.specs.Prelude.{ℕ, List, [], ◌∷◌, Bool, true, false, ◌&&◌, length, nat_lt, if◌then◌else◌, Option, option_and_then, option_map}
use Rattle.std.specs.List.{list_any}
use Rattle.std.specs.Str.{bytes_eq}
use Rattle.serde_json.specs.Data.{Num, unsigned, negative, float, Data, null, boolean, number, string, array, object, Items, no_items, item, Members, no_members, member}
use Rattle.serde_json.specs.Find.{get_member, as_array, as_number, as_object, as_str, as_u64}

-- the fields as a list of names and values, in the order in which they stand
abbrev pub pairs_of : Members → List (List ℕ × Data)
pairs_of no_members = []
pairs_of (member k d ms) = (k, d) ∷ pairs_of ms

-- the items of a list
abbrev pub values_of : Items → List Data
values_of no_items = []
values_of (item d ds) = d ∷ values_of ds

-- the items of a value, if it is a list
abbrev pub items_in : Data → Option (List Data)
items_in value = option_map values_of (as_array value)

abbrev pub is_null : Data → Bool
is_null null = true
is_null (boolean b) = false
is_null (number n) = false
is_null (string s) = false
is_null (array ds) = false
is_null (object ms) = false

-- each name passes
abbrev pub all_names : (List ℕ → Bool) → Members → Bool
all_names test no_members = true
all_names test (member k d ms) = test k && all_names test ms

-- the fields but the one of that name
abbrev pub without : List ℕ → Members → Members
without name no_members = no_members
without name (member k d ms) = if bytes_eq name k then ms else member k d (without name ms)

-- the field's number, if it is written with digits alone and at most 2 ^ 64 - 1
abbrev pub whole_field : List ℕ → Members → Option ℕ
whole_field name ms = option_and_then as_u64 (option_and_then as_number (get_member name ms))

-- the field's text, if it is one
abbrev pub text_field : List ℕ → Members → Option (List ℕ)
text_field name ms = option_and_then as_str (get_member name ms)

-- the fields of the object in a field, if it is one
abbrev pub object_in : List ℕ → Members → Option Members
object_in name ms = option_and_then as_object (get_member name ms)

-- 0 is written `0` alone: another spelling is a float, and filled
abbrev pub is_nonzero : Num → Bool
is_nonzero (unsigned n) = nat_lt 0 n
is_nonzero (negative z) = true
is_nonzero (float x) = true

-- a list that isn't empty
abbrev pub has_items : Items → Bool
has_items no_items = false
has_items (item d ds) = true

-- an object that isn't empty
abbrev pub has_members : Members → Bool
has_members no_members = false
has_members (member k d ms) = true

-- not null, false, 0, an empty text, an empty list or an empty object
abbrev pub is_filled : Data → Bool
is_filled null = false
is_filled (boolean b) = b
is_filled (number n) = is_nonzero n
is_filled (string s) = nat_lt 0 (length s)
is_filled (array ds) = has_items ds
is_filled (object ms) = has_members ms

abbrev pub is_one_of : List (List ℕ) → List ℕ → Bool
is_one_of names name = list_any (bytes_eq name) names
