-- The fields of an object that its table doesn't list, and those of the objects in it.
use Rattle.std.specs.Prelude.{ℕ, zero, suc, ◌++◌, List, [], ◌∷◌, codes, if◌then◌else◌, Option, Some, None, unwrap_or}
use Rattle.std.specs.List.{enumerate_from, flat_map}
use Rattle.serde_json.specs.Data.{Data, null, boolean, number, string, array, object, Members}
use Rattle.ps_fields.specs.declared.rows.Object.{Object}
use Rattle.ps_fields.specs.declared.rows.Kind.{Kind}
use Rattle.ps_fields.specs.declared.rows.Kind.TheVariants.{Items, Listed}
use Rattle.ps_fields.specs.Fields.{is_null, items_in, pairs_of}
use Rattle.ps_fields.specs.Paths.{item_path}
use Rattle.ps_fields.specs.Rows.{kind_in, rows}

-- the unknown fields in a value that has listed ones
abbrev pub unknown_inside : (Members → List (List ℕ)) → Data → List (List ℕ)
unknown_inside paths (object ms) = paths ms
unknown_inside paths null = []
unknown_inside paths (boolean b) = []
unknown_inside paths (number n) = []
unknown_inside paths (string s) = []
unknown_inside paths (array ds) = []

-- the unknown fields in an item of a list at this path, and in all of its items

abbrev pub unknown_in_item : (Object → List ℕ → Members → List (List ℕ)) → Object → List ℕ → ℕ × Data → List (List ℕ)
unknown_in_item paths inner list item = unknown_inside (paths inner (item_path list item.0 ++ codes ".")) item.1

abbrev pub unknown_in_items : (Object → List ℕ → Members → List (List ℕ)) → Object → List ℕ → List Data → List (List ℕ)
unknown_in_items paths inner list items = flat_map (unknown_in_item paths inner list) (enumerate_from 0 items)

-- the paths that a field adds: its own if it isn't listed and isn't null, or those of the unknown fields in it
abbrev pub unknown_at : (Object → List ℕ → Members → List (List ℕ)) → List ℕ → Option Kind → List ℕ × Data → List (List ℕ)
unknown_at paths at None field = if is_null field.1 then [] else (at ++ field.0) ∷ []
unknown_at paths at (Some (Listed inner)) field = unknown_inside (paths inner ((at ++ field.0) ++ codes ".")) field.1
unknown_at paths at (Some (Items inner)) field = unknown_in_items paths inner (at ++ field.0) (unwrap_or (items_in field.1) [])
unknown_at paths at (Some _) field = []

-- The paths of the unknown fields. The number bounds the depth; the text stands before the names of the fields.
abbrev pub unknown_paths : ℕ → Object → List ℕ → Members → List (List ℕ)
unknown_paths zero table at ms = []
unknown_paths (suc deep) table at ms = flat_map (λ field. unknown_at (unknown_paths deep) at (kind_in field.0 (rows table)) field) (pairs_of ms)
