-- What the bytes of a body stand for.
use Rattle.std.specs.Prelude.{ℕ, List, [], ◌∷◌, if◌then◌else◌, unwrap_or}
use Rattle.std.specs.Str.{is_utf8}
use Rattle.serde_json.specs.Data.{Data, null, object, no_members}
use Rattle.serde_json.specs.Read.{read}

-- the value of bytes that are UTF-8 and JSON; all others are null, which is no object
abbrev pub json_in : List ℕ → Data
json_in bytes = if is_utf8 bytes then unwrap_or (read bytes) null else null

-- the value of a body: no bytes are the empty object
abbrev pub body_in : List ℕ → Data
body_in [] = object no_members
body_in (b ∷ bytes) = json_in (b ∷ bytes)
