-- A page of an index: the first names of a range, and where the next page begins.
use Rattle.std.specs.Prelude.{ℕ, Bool, ◌&&◌, nat_eq, nat_lt, List, Option, None, map, filter, length, take, String, string_bytes, if◌then◌else◌}
use Rattle.std.specs.List.{starts_with}
use Rattle.ps_base.specs.Keys.{is_below}
use Rattle.ps_model.specs.Listing.{last_name}
use Rattle.ps_tables.specs.declared.name_index.NameIndex.{NameIndex}

-- names by their bytes with their numbers, in byte order
abbrev pub with_bytes : {Y : Type 0} → List (String Y × ℕ) → List (List ℕ × ℕ)
with_bytes entries = map (λ e. (string_bytes e.0, e.1)) entries

abbrev pub named_numbers : NameIndex → List (List ℕ × ℕ)
named_numbers index = with_bytes index.numbers.entries

-- the later of two names
abbrev pub later : List ℕ → List ℕ → List ℕ
later first second = if is_below first second then second else first

-- the name starts with the front, and comes after both the front and another name
abbrev pub is_in_range : List ℕ → List ℕ → List ℕ → Bool
is_in_range front after name = starts_with nat_eq name front && is_below front name && is_below after name

abbrev pub range_of : List ℕ → List ℕ → NameIndex → List (List ℕ × ℕ)
range_of front after index = filter (λ e. is_in_range front after e.0) (named_numbers index)

-- the numbers of a page
abbrev pub page_numbers : ℕ → List (List ℕ × ℕ) → List ℕ
page_numbers most entries = map (λ e. e.1) (take most entries)

-- the last name of the page, if more remain
abbrev pub page_next : ℕ → List (List ℕ × ℕ) → Option (List ℕ)
page_next most entries = if nat_lt (length (take most entries)) (length entries) then last_name (λ (e : List ℕ × ℕ). e.0) (take most entries) else None
