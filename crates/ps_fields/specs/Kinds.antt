-- The kinds of fields: what a field's value stands for, and None if it is of another kind. A field that is absent or null has its default.
use Rattle.std.specs.Prelude.{ℕ, ◌+◌, ◌^◌, ◌&&◌, nat_lt, ℤ, pos, neg_ℤ, List, [], ◌∷◌, length, drop, map, Bool, false, if◌then◌else◌, Option, Some, None, is_some, option_map, option_and_then, unwrap_or}
use Rattle.std.specs.List.{list_all}
use Rattle.std.specs.Str.{all_ascii_digits}
use Rattle.std.specs.Str.Parse.{starts_with_minus, digits_value}
use Rattle.std.specs.Result.{result_ok}
use Rattle.base64.specs.Engines.{standard, standard_no_pad, url_safe, url_safe_no_pad}
use Rattle.base64.specs.GeneralPurpose.{decode_of}
use Rattle.serde_json.specs.Data.{Data, null, boolean, number, string, array, object, Members}
use Rattle.serde_json.specs.Find.{as_bool, as_i64, as_str, as_object}
use Rattle.ps_fields.specs.Durations.{milliseconds}
use Rattle.ps_fields.specs.Fields.{is_null, items_in, pairs_of}
use Rattle.ps_message.specs.Lists.{first_of}

-- what a kind reads of a value that is there
abbrev pub or_default : {A : Type 0} → A → (Data → Option A) → Option Data → Option A
or_default default read None = Some default
or_default default read (Some value) = if is_null value then Some default else read value

-- ---- text

abbrev pub text_of : Option Data → Option (List ℕ)
text_of = or_default [] as_str

-- ---- flag

abbrev pub flag_of : Option Data → Option Bool
flag_of = or_default false as_bool

-- ---- whole: a number that fits 64 bits with a sign, or a text of one

-- one decimal digit or more, and nothing else
abbrev pub are_digits : List ℕ → Bool
are_digits text = nat_lt 0 (length text) && all_ascii_digits text

-- the number that some digits write, if it is below a limit
abbrev pub number_below : ℕ → List ℕ → Option ℕ
number_below limit text = if are_digits text && nat_lt (digits_value 10 text) limit then Some (digits_value 10 text) else None

-- digits, or a minus and digits
abbrev pub whole_text : List ℕ → Option ℤ
whole_text text =
    if starts_with_minus text then option_map (λ n. neg_ℤ (pos n)) (number_below (2 ^ 63 + 1) (drop 1 text))
    else option_map pos (number_below (2 ^ 63) text)

abbrev pub whole_value : Data → Option ℤ
whole_value (number n) = as_i64 n
whole_value (string text) = whole_text text
whole_value null = None
whole_value (boolean b) = None
whole_value (array ds) = None
whole_value (object ms) = None

abbrev pub whole_of : Option Data → Option ℤ
whole_of = or_default (pos 0) whole_value

-- ---- duration: seconds with at most three decimals that aren't 0, in milliseconds

abbrev pub duration_value : Data → Option ℕ
duration_value value = option_and_then milliseconds (as_str value)

-- ---- bytes: canonical base64 (RFC 4648) in the standard or the URL-safe alphabet, with its padding or with none

abbrev pub payload_of : List ℕ → Option (List ℕ)
payload_of text =
    first_of (result_ok (decode_of standard text) ∷ result_ok (decode_of standard_no_pad text)
    ∷ result_ok (decode_of url_safe text) ∷ result_ok (decode_of url_safe_no_pad text) ∷ [])

abbrev pub bytes_of : Option Data → Option (List ℕ)
bytes_of = or_default [] (λ value. option_and_then payload_of (as_str value))

-- ---- map: an object whose values are all texts

abbrev pub is_text : List ℕ × Data → Bool
is_text field = is_some (as_str field.1)

abbrev pub key_and_text : List ℕ × Data → List ℕ × List ℕ
key_and_text field = (field.0, unwrap_or (as_str field.1) [])

abbrev pub texts_in : Members → Option (List (List ℕ × List ℕ))
texts_in ms = if list_all is_text (pairs_of ms) then Some (map key_and_text (pairs_of ms)) else None

abbrev pub map_of : Option Data → Option (List (List ℕ × List ℕ))
map_of = or_default [] (λ value. option_and_then texts_in (as_object value))

-- ---- list

abbrev pub list_of : Option Data → Option (List Data)
list_of = or_default [] items_in
