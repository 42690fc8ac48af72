-- A name by its parts, as the code reads it.
use Rattle.std.specs.Prelude.{ℕ, List, [], ◌∷◌, Bool, false, ◌&&◌, ◌==◌, codes}
use Rattle.std.specs.List.{list_any}
use Rattle.std.specs.Str.{bytes_eq}
use Rattle.ps_names.specs.Names.{is_project, is_id}

abbrev pub has_slash : List ℕ → Bool
has_slash text = list_any (λ b. b == 47) text

-- the parts are `projects`, a project, a kind of resource and an id
abbrev pub is_parts_of : List ℕ → List (List ℕ) → Bool
is_parts_of kind (projects ∷ project ∷ named ∷ id ∷ []) = bytes_eq projects (codes "projects") && is_project project && bytes_eq named kind && is_id id
is_parts_of kind _ = false
