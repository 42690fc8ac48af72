-- A target: a path, and behind its first `?` a query.
use Rattle.std.specs.Prelude.{ℕ, List, [], ◌∷◌, Bool, eqb, if◌then◌else◌, Option, Some, None, is_none}
use Rattle.std.specs.List.{before_first, after_first, filter_map, list_any}
use Rattle.std.specs.Str.{is_utf8, bytes_eq}
use Rattle.std.specs.Str.Lossy.{utf8_lossy}
use Rattle.percent_encoding.specs.Percent.{percent_decode}
use Rattle.form_urlencoded.specs.Form.{decode, raw_pairs}

abbrev pub is_question_mark : ℕ → Bool
is_question_mark b = eqb b 63

abbrev pub path_of : List ℕ → List ℕ
path_of target = before_first is_question_mark target

-- empty if there is no `?`
abbrev pub query_of : List ℕ → List ℕ
query_of target = after_first is_question_mark target

-- ---- the parts of a path

-- a part with its escapes read, if that is text
abbrev pub decoded_part : List ℕ → Option (List ℕ)
decoded_part part = if is_utf8 (percent_decode part) then Some (percent_decode part) else None

abbrev pub is_no_text : List ℕ → Bool
is_no_text part = is_none (decoded_part part)

-- all parts with their escapes read, if each is text then
abbrev pub decoded : List (List ℕ) → Option (List (List ℕ))
decoded parts = if list_any is_no_text parts then None else Some (filter_map decoded_part parts)

-- ---- the pairs of a query

-- a name or a value of a pair; what is no UTF-8 in it is U+FFFD
abbrev pub form_text : List ℕ → List ℕ
form_text bytes = utf8_lossy (decode bytes)

abbrev pub first_of : List ℕ → List (List ℕ × List ℕ) → Option (List ℕ)
first_of name [] = None
first_of name (pair ∷ pairs) = if bytes_eq (form_text pair.0) name then Some (form_text pair.1) else first_of name pairs

-- the value of the first pair of this name
abbrev pub value_of : List ℕ → List ℕ → Option (List ℕ)
value_of name query = first_of name (raw_pairs query)
