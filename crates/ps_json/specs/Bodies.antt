-- What the bodies of calls have in common: each check gives the refusal, or what is read.
use Rattle.std.specs.Prelude.{ℕ, ⊤, List, [], ◌∷◌, Bool, false, not, codes, Option, Some, None, option_map, unwrap_or, Result, Ok, Err}
use Rattle.std.specs.Str.{bytes_eq}
use Rattle.serde_json.specs.Data.{Data, null, boolean, number, string, array, object, Members, no_members}
use Rattle.serde_json.specs.Find.{get_member}
use Rattle.ps_base.specs.declared.reason.Reason.TheVariants.{Name, Shape, UpdateMask}
use Rattle.ps_base.specs.declared.refusal.Refusal.{Refusal}
use Rattle.ps_base.specs.declared.refusal.Refusal.TheVariants.{InvalidArgument, Unimplemented}
use Rattle.ps_config.specs.declared.mask.Mask.{Mask}
use Rattle.ps_fields.specs.declared.rows.Object.{Object}
use Rattle.ps_fields.specs.Fields.{object_in}
use Rattle.ps_fields.specs.Kinds.{text_of}
use Rattle.ps_fields.specs.Shapes.{first_wrong}
use Rattle.ps_fields.specs.Paths.{least}
use Rattle.ps_fields.specs.Unknown.{unknown_paths}
use Rattle.ps_json.specs.Checks.{broken, checked, unknown}
use Rattle.ps_json.specs.Masks.{mask_of}
use Rattle.ps_json.specs.Missing.{unbuilt_paths}

-- nothing that a resource asks for or a mask names isn't built
abbrev pub built : Object → List ℕ → Members → List (List ℕ) → Result ⊤ Refusal
built table at ms names = checked (option_map Unimplemented (least (unbuilt_paths table at ms names)) ∷ []) tt

-- how deep a body has objects with listed fields: a resource in an update, and a policy in it
abbrev pub deepest : ℕ
deepest = 3

abbrev pub wrong_shape : Object → Members → Option Refusal
wrong_shape table ms = option_map (λ path. InvalidArgument (Shape path)) (first_wrong deepest table [] ms)

abbrev pub unknown_field : Object → Members → Option Refusal
unknown_field table ms = unknown (unknown_paths deepest table [] ms)

-- each field is listed
abbrev pub known : Object → Members → Result ⊤ Refusal
known table ms = checked (unknown_field table ms ∷ []) tt

-- each value is of its kind, and each field is listed
abbrev pub well_formed : Object → Members → Result ⊤ Refusal
well_formed table ms = checked (wrong_shape table ms ∷ unknown_field table ms ∷ []) tt

-- a text that is there, the empty one too, and isn't this name
abbrev pub is_another : List ℕ → Option Data → Bool
is_another name None = false
is_another name (Some null) = false
is_another name (Some (boolean b)) = false
is_another name (Some (number n)) = false
is_another name (Some (string text)) = not (bytes_eq text name)
is_another name (Some (array ds)) = false
is_another name (Some (object ms)) = false

-- the resource's name isn't there, or is the path's
abbrev pub own_name : List ℕ → Members → Result ⊤ Refusal
own_name name ms = checked (broken (is_another name (get_member (codes "name") ms)) Name ∷ []) tt

-- ---- of an update

-- the fields of the resource; none if it isn't there
abbrev pub resource_in : List ℕ → Members → Members
resource_in name ms = unwrap_or (object_in name ms) no_members

-- the mask; the empty text if it isn't there
abbrev pub mask_in : Members → List ℕ
mask_in ms = unwrap_or (text_of (get_member (codes "updateMask") ms)) []

abbrev pub mask_or : Option Mask → Result Mask Refusal
mask_or None = Err (InvalidArgument UpdateMask)
mask_or (Some mask) = Ok mask

-- the mask of these names
abbrev pub mask_read : Object → List (List ℕ) → Result Mask Refusal
mask_read table names = mask_or (mask_of table names)
