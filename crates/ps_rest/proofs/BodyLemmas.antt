-- The bytes of a body, by whether they are JSON.
use Rattle.std.proofs.Common.{◌≡◌, ℕ, List, Bool, true, false, Some, None, if◌then◌else◌, unwrap_or, refl, rules}
use Rattle.std.specs.Str.{IsUtf8, is_utf8}
use Rattle.std.proofs.lemmas.Str.{IsUtf8-from_is_utf8, is_utf8-from_IsUtf8}
use Rattle.serde_json.specs.Data.{Data, null}
use Rattle.serde_json.specs.Read.{read}
use Rattle.serde_json.specs.View.{view}
use Rattle.serde_json.specs.declared.value.Value.{the_lemmas}
use Rattle.serde_json.specs.declared.value.Value as value
use Rattle.ps_rest.specs.Bodies.{json_in}

pub json_is_read : (bytes : List ℕ) (d : Data) → IsUtf8 bytes → read bytes ≡ Some d → json_in bytes ≡ d
json_is_read bytes d utf8 is = rw (is_utf8-from_IsUtf8 bytes utf8, is)

null_by : (b : Bool) (bytes : List ℕ) → is_utf8 bytes ≡ b → (IsUtf8 bytes → read bytes ≡ None) → (if b then unwrap_or (read bytes) null else null) ≡ null
null_by true bytes utf8 none = rw (none (IsUtf8-from_is_utf8 bytes utf8))
null_by false bytes utf8 none = refl

pub no_json_is_null : (bytes : List ℕ) → (IsUtf8 bytes → read bytes ≡ None) → json_in bytes ≡ null
no_json_is_null bytes none = null_by _ bytes refl none

pub view-Null : view value.Null ≡ null
view-Null = search (rules, the_lemmas)
