-- The grammar of resource names (Pub/Sub documentation, "Guidelines to name a topic or a subscription"; the project part is this project's own).
use Rattle.std.specs.Prelude.{ℕ, List, [], ◌∷◌, ◌++◌, length, Bool, false, ◌&&◌, ◌||◌, not, ◌==◌, nat_eq, nat_le, codes, unwrap_or, slice_get}
use Rattle.std.specs.List.{list_all, starts_with, slice_split}
use Rattle.std.specs.Char.{is_ascii_lowercase, is_ascii_alphabetic, is_ascii_alphanumeric, is_ascii_digit}
use Rattle.std.specs.Str.{bytes_eq}

-- lower-case letters, digits, `-`, `:` and `.`
abbrev pub is_project_byte : ℕ → Bool
is_project_byte b = is_ascii_lowercase b || is_ascii_digit b || b == 45 || b == 58 || b == 46

-- letters, digits, `-`, `_`, `.`, `~`, `+` and `%`
abbrev pub is_id_byte : ℕ → Bool
is_id_byte b = is_ascii_alphanumeric b || b == 45 || b == 95 || b == 46 || b == 126 || b == 43 || b == 37

abbrev pub starts_with_byte : (ℕ → Bool) → List ℕ → Bool
starts_with_byte test [] = false
starts_with_byte test (b ∷ bytes) = test b

-- 1 to 63 bytes, the first a letter
abbrev pub is_project : List ℕ → Bool
is_project part = starts_with_byte is_ascii_lowercase part && nat_le (length part) 63 && list_all is_project_byte part

-- 3 to 255 bytes, the first a letter, and not the reserved front `goog`
abbrev pub is_id : List ℕ → Bool
is_id part = starts_with_byte is_ascii_alphabetic part && nat_le 3 (length part) && nat_le (length part) 255 && list_all is_id_byte part && not (starts_with nat_eq part (codes "goog"))

-- a text that can be cut in two: the front has the one form, and the rest the other
abbrev pub is_joined : (List ℕ → Bool) → (List ℕ → Bool) → List ℕ → Bool
is_joined front rest [] = front [] && rest []
is_joined front rest (b ∷ bytes) = (front [] && rest (b ∷ bytes)) || is_joined (λ more. front (b ∷ more)) rest bytes

-- `projects/{project}/{kind}/{id}`
abbrev pub is_name_of : List ℕ → List ℕ → Bool
is_name_of kind = is_joined (bytes_eq (codes "projects/")) (is_joined is_project (is_joined (bytes_eq (codes "/" ++ (kind ++ codes "/"))) is_id))

abbrev pub is_topic_name : List ℕ → Bool
is_topic_name = is_name_of (codes "topics")

abbrev pub is_sub_name : List ℕ → Bool
is_sub_name = is_name_of (codes "subscriptions")

abbrev pub is_snap_name : List ℕ → Bool
is_snap_name = is_name_of (codes "snapshots")

-- what stands between the slashes of a text
abbrev pub parts_of : List ℕ → List (List ℕ)
parts_of text = slice_split (λ b. b == 47) text

-- one of these parts, from 0; empty if there are fewer
abbrev pub part : ℕ → List ℕ → List ℕ
part place text = unwrap_or (slice_get (parts_of text) place) []

-- the project in the name of a resource
abbrev pub project_part : List ℕ → List ℕ
project_part = part 1

-- the id in the name of a resource
abbrev pub id_part : List ℕ → List ℕ
id_part = part 3
