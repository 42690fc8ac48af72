-- The paths of fields, as refusals name them.
use Rattle.std.specs.Prelude.{ℕ, List, ◌++◌, codes, decimal, fold, if◌then◌else◌, Option, Some, None}
use Rattle.ps_base.specs.Keys.{is_below}

-- an item of a list, by the path of the list and its place from 0
abbrev pub item_path : List ℕ → ℕ → List ℕ
item_path list place = list ++ (codes "[" ++ (decimal place ++ codes "]"))

-- the lesser of two paths in byte order, if there are two
abbrev pub lesser : Option (List ℕ) → List ℕ → Option (List ℕ)
lesser None path = Some path
lesser (Some least) path = Some (if is_below path least then path else least)

-- the least of some paths
abbrev pub least : List (List ℕ) → Option (List ℕ)
least paths = fold lesser None paths
