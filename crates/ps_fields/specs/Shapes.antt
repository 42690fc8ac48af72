-- The first field of an object whose value is of another kind than its table says.
use Rattle.std.specs.Prelude.{ℕ, zero, suc, ◌++◌, List, map, codes, Bool, true, false, if◌then◌else◌, Option, Some, None, is_none, is_some, option_and_then, option_map}
use Rattle.std.specs.List.{list_all, position}
use Rattle.serde_json.specs.Data.{Data, null, boolean, number, string, array, object, Members}
use Rattle.serde_json.specs.Find.{as_array, as_bool, as_object, as_str, get_member}
use Rattle.ps_message.specs.Lists.{first_of}
use Rattle.ps_fields.specs.declared.rows.Object.{Object}
use Rattle.ps_fields.specs.declared.rows.Kind.{Kind}
use Rattle.ps_fields.specs.declared.rows.Kind.TheVariants.{Text, Flag, Whole, Duration, Bytes, Map, Texts, Listed, Items, Open, Any}
use Rattle.ps_fields.specs.Fields.{is_null, items_in, pairs_of}
use Rattle.ps_fields.specs.Kinds.{duration_value, is_text, whole_value}
use Rattle.ps_fields.specs.Paths.{item_path}
use Rattle.ps_fields.specs.Rows.{Row, rows}

-- an object whose values are all texts
abbrev pub is_map : Data → Bool
is_map (object ms) = list_all is_text (pairs_of ms)
is_map null = false
is_map (boolean b) = false
is_map (number n) = false
is_map (string s) = false
is_map (array ds) = false

abbrev pub is_of : Kind → Data → Bool
is_of Text value = is_some (as_str value)
is_of Flag value = is_some (as_bool value)
is_of Whole value = is_some (whole_value value)
is_of Duration value = is_some (duration_value value)
is_of Bytes value = is_some (as_str value)
is_of Map value = is_map value
is_of Texts value = is_some (as_array value)
is_of (Listed inner) value = is_some (as_object value)
is_of (Items inner) value = is_some (as_array value)
is_of Open value = is_some (as_object value)
is_of Any value = true

abbrev pub is_no_text : Data → Bool
is_no_text item = is_none (as_str item)

-- the first item of a list at this path that is no text
abbrev pub wrong_text : List ℕ → List Data → Option (List ℕ)
wrong_text path items = option_map (item_path path) (position is_no_text items)

-- the first wrong field inside of a value at this path, by what finds it in an object whose fields have paths that begin so
abbrev pub inside : (Object → List ℕ → Members → Option (List ℕ)) → List ℕ → Kind → Data → Option (List ℕ)
inside first path (Listed inner) value = option_and_then (first inner (path ++ codes ".")) (as_object value)
inside first path Texts value = option_and_then (wrong_text path) (items_in value)
inside first path _ value = None

-- a value of another kind, by its path, or the first wrong field in it
abbrev pub wrong_value : (Object → List ℕ → Members → Option (List ℕ)) → List ℕ → Kind → Data → Option (List ℕ)
wrong_value first path kind value = if is_of kind value then inside first path kind value else Some path

abbrev pub wrong_field : (Object → List ℕ → Members → Option (List ℕ)) → List ℕ → Row → Option Data → Option (List ℕ)
wrong_field first at row None = None
wrong_field first at row (Some value) = if is_null value then None else wrong_value first (at ++ row.0) row.1 value

-- The first field of another kind, in the order of the rows and depth first. The number bounds the depth; the text stands before the names of the fields in their paths.
abbrev pub first_wrong : ℕ → Object → List ℕ → Members → Option (List ℕ)
first_wrong zero table at ms = None
first_wrong (suc deep) table at ms = first_of (map (λ row. wrong_field (first_wrong deep) at row (get_member row.0 ms)) (rows table))
