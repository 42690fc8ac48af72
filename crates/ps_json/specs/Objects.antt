-- The objects of a reply: fields that have nothing to say are left out, the others stand in byte order of their names.
use Rattle.std.specs.Prelude.{ℕ, List, [], ◌∷◌, Bool, true, if◌then◌else◌, Option, Some, None, fold}
use Rattle.serde_json.specs.Data.{Data, number, unsigned, boolean, string, array, object, Members, no_members, put}
use Rattle.serde_json.specs.View.{items_of}

-- a name, and its value if it has one
abbrev pub Field : Type 0
Field = List ℕ × Option Data

-- the members with that one in its place, if it has a value
abbrev pub with_field : List ℕ → Option Data → Members → Members
with_field name None ms = ms
with_field name (Some d) ms = put name d ms

abbrev pub with_fields : List Field → Members → Members
with_fields fields ms = fold (λ rest f. with_field f.0 f.1 rest) ms fields

-- the object of these fields
abbrev pub object_of : List Field → Data
object_of fields = object (with_fields fields no_members)

abbrev pub whole : ℕ → Data
whole n = number (unsigned n)

-- a text that isn't empty
abbrev pub filled_text : List ℕ → Option Data
filled_text [] = None
filled_text (c ∷ cs) = Some (string (c ∷ cs))

-- a flag that is set
abbrev pub flag : Bool → Option Data
flag set = if set then Some (boolean true) else None

-- a list that isn't empty
abbrev pub filled_list : List Data → Option Data
filled_list [] = None
filled_list (d ∷ ds) = Some (array (items_of (d ∷ ds)))

-- texts by key, each put in its place
abbrev pub label_members : List (List ℕ × List ℕ) → Members
label_members pairs = fold (λ ms p. put p.0 (string p.1) ms) no_members pairs

-- texts by key, if there are any
abbrev pub filled_labels : List (List ℕ × List ℕ) → Option Data
filled_labels [] = None
filled_labels (p ∷ ps) = Some (object (label_members (p ∷ ps)))
