-- What a line of a batch means: one call, as a JSON object of four fields.
use Rattle.std.specs.Prelude.{ℕ, List, Bool, ◌||◌, if◌then◌else◌, Option, Some, None, option_and_then, option_map, codes}
use Rattle.std.specs.Str.{is_utf8, bytes_eq}
use Rattle.serde_json.specs.Data.{Data, null, boolean, number, string, array, object, Members, no_members}
use Rattle.serde_json.specs.Read.{read}
use Rattle.serde_json.specs.Find.{get_member, as_object}
use Rattle.ps_fields.specs.Fields.{all_names, whole_field, text_field}

-- a line's moment, its verb and path as texts, and its body
pub record Line : Type 0 where
  pub at : ℕ
  pub verb : List ℕ
  pub path : List ℕ
  pub body : Data

-- the four fields that a line may have
abbrev pub is_line_field : List ℕ → Bool
is_line_field name = bytes_eq name (codes "at") || bytes_eq name (codes "body") || bytes_eq name (codes "path") || bytes_eq name (codes "verb")

-- a body that is absent or null is the empty object
abbrev pub body_or_empty : Option Data → Data
body_or_empty None = object no_members
body_or_empty (Some null) = object no_members
body_or_empty (Some (boolean b)) = boolean b
body_or_empty (Some (number n)) = number n
body_or_empty (Some (string s)) = string s
body_or_empty (Some (array ds)) = array ds
body_or_empty (Some (object ms)) = object ms

-- a line from its parts
abbrev pub line_with : ℕ → List ℕ → List ℕ → Data → Line
line_with at verb path body = record { at = at; verb = verb; path = path; body = body }

-- an object with a whole number `at`, texts `verb` and `path`, any `body`, and no other field
abbrev pub line_of_members : Members → Option Line
line_of_members ms =
    if all_names is_line_field ms then
    option_and_then (λ at. option_and_then (λ verb. option_map (λ path. line_with at verb path (body_or_empty (get_member (codes "body") ms)))
    (text_field (codes "path") ms)) (text_field (codes "verb") ms)) (whole_field (codes "at") ms)
    else None

-- the line that these bytes are, if they are one: UTF-8, JSON and an object of such fields
abbrev pub line_of : List ℕ → Option Line
line_of bytes = if is_utf8 bytes then option_and_then line_of_members (option_and_then as_object (read bytes)) else None
