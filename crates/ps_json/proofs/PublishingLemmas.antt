-- Messages one after another.
use Rattle.std.proofs.Common.{◌≡◌, ℕ, ◌+◌, ◌<◌, List, [], ◌∷◌, ◌++◌, map, length, get_or, drop, codes, Option, Some, None, Result, Ok, Err, refl, ap, sym, ◌∙◌, add-one, drop-cons, append_assoc}
use Rattle.std.specs.List.{enumerate_from, flat_map}
use Rattle.serde_json.specs.Data.{Data, Members}
use Rattle.serde_json.specs.Find.{as_object}
use Rattle.serde_json.specs.View.{view}
use Rattle.serde_json.specs.declared.value.Value.{Value}
use Rattle.ps_base.specs.declared.reason.Reason.TheVariants.{Shape}
use Rattle.ps_base.specs.declared.refusal.Refusal.{Refusal}
use Rattle.ps_base.specs.declared.refusal.Refusal.TheVariants.{InvalidArgument}
use Rattle.ps_message.specs.declared.message.Message.{Message}
use Rattle.ps_message.specs.Lists.{first_of}
use Rattle.ps_json.specs.declared.read_error.ReadError.{ReadError}
use Rattle.ps_json.specs.declared.read_error.ReadError.TheVariants.{Refused, OutOfMemory}
use Rattle.ps_json.specs.Checks.{checked, unless, Reads}
use Rattle.ps_json.specs.Publishing.{all_shapes, attributes_of, data_of, field_path, key_of, members_in, message_of, message_shapes, messages_read}

-- a message whose fields were all read
pub whole_message : (place : ℕ) (d : Data) (ms : Members) (payload : List ℕ) (attributes : List (List ℕ × List ℕ)) (key : List ℕ)
    → Some ms ≡ as_object d → Some payload ≡ data_of ms → Some attributes ≡ attributes_of ms → Some key ≡ key_of ms
    → checked (message_shapes (place, d)) (message_of (members_in d)) ≡ Ok (record { payload = payload; attributes = attributes; key = key })
whole_message place d ms payload attributes key object has_payload has_attributes has_key = rw (← object, ← has_payload, ← has_attributes, ← has_key)

-- a message whose key is of another kind
pub no_key : {A : Type 0} (place : ℕ) (d : Data) (ms : Members) (payload : List ℕ) (attributes : List (List ℕ × List ℕ)) (value : A)
    → Some ms ≡ as_object d → Some payload ≡ data_of ms → Some attributes ≡ attributes_of ms → None ≡ key_of ms
    → checked (message_shapes (place, d)) value ≡ Err (InvalidArgument (Shape (field_path place (codes "orderingKey"))))
no_key place d ms payload attributes value object has_payload has_attributes none = rw (← object, ← has_payload, ← has_attributes, ← none)

drop_here : {A : Type 0} (xs : List A) (i : ℕ) (x : A) → i < length xs → x ≡ get_or xs i x → drop i xs ≡ x ∷ drop (i + 1) xs
drop_here xs i x lt is = rw (add-one, drop-cons xs i x lt, ← is) refl

-- the shapes of the messages from this place on
abbrev pub shapes_from : ℕ → List Value → List (Option Refusal)
shapes_from place vs = flat_map message_shapes (enumerate_from place (map view vs))

shapes_here : (vs : List Value) (place : ℕ) (v : Value) → place < length vs → v ≡ get_or vs place v
    → shapes_from place (drop place vs) ≡ message_shapes (place, view v) ++ shapes_from (place + 1) (drop (place + 1) vs)
shapes_here vs place v lt is = ap (shapes_from place) (drop_here vs place v lt is)

refused_by : {A : Type 0} (check : Option Refusal) (value : A) (r : Refusal) → unless check value ≡ Err r → check ≡ Some r
refused_by None value r is = cc
refused_by (Some s) value r is = cc

passed : {A : Type 0} (check : Option Refusal) (value given : A) → unless check value ≡ Ok given → (check ≡ None) × (value ≡ given)
passed None value given is = (refl, cc)
passed (Some s) value given is = absurd (cc)

append_some : (xs ys : List (Option Refusal)) (r : Refusal) → first_of xs ≡ Some r → first_of (xs ++ ys) ≡ Some r
append_some [] ys r is = cc
append_some (None ∷ xs) ys r is = append_some xs ys r is
append_some (Some s ∷ xs) ys r is = is

append_none : (xs ys : List (Option Refusal)) → first_of xs ≡ None → first_of (xs ++ ys) ≡ first_of ys
append_none [] ys is = refl
append_none (None ∷ xs) ys is = append_none xs ys is
append_none (Some s ∷ xs) ys is = cc

-- the message here is refused
pub refused_here : {A : Type 0} (vs : List Value) (place : ℕ) (v : Value) (e : ReadError) (m : Message) (value : A) → place < length vs → v ≡ get_or vs place v
    → first_of (all_shapes (map view vs)) ≡ first_of (shapes_from place (drop place vs))
    → Reads {A = Message} (Err e) (checked (message_shapes (place, view v)) m) → Reads {A = A} (Err e) (checked (all_shapes (map view vs)) value)
refused_here vs place v (Refused r) m value lt is so_far refuses =
    let first : first_of (all_shapes (map view vs)) ≡ Some r = so_far ∙ ap first_of (shapes_here vs place v lt is) ∙ append_some (message_shapes (place, view v)) (shapes_from (place + 1) (drop (place + 1) vs)) r (refused_by _ m r refuses) in
    rw first
refused_here vs place v OutOfMemory m value lt is so_far refuses = tt

-- the message here was read, and the others are left
pub read_here : (vs : List Value) (place : ℕ) (v : Value) (m : Message) → place < length vs → v ≡ get_or vs place v
    → first_of (all_shapes (map view vs)) ≡ first_of (shapes_from place (drop place vs)) → checked (message_shapes (place, view v)) (message_of (members_in (view v))) ≡ Ok m
    → first_of (all_shapes (map view vs)) ≡ first_of (shapes_from (place + 1) (drop (place + 1) vs))
read_here vs place v m lt is so_far reads =
    so_far ∙ ap first_of (shapes_here vs place v lt is) ∙ append_none (message_shapes (place, view v)) (shapes_from (place + 1) (drop (place + 1) vs)) (passed _ (message_of (members_in (view v))) m reads).0

abbrev pub message_in : Value → Message
message_in v = message_of (members_in (view v))

pub kept_here : (vs : List Value) (place : ℕ) (v : Value) (m : Message) (ms : List Message) → place < length vs → v ≡ get_or vs place v → checked (message_shapes (place, view v)) (message_in v) ≡ Ok m
    → ms ++ map message_in (drop place vs) ≡ map message_in vs → (ms ++ m ∷ []) ++ map message_in (drop (place + 1) vs) ≡ map message_in vs
kept_here vs place v m ms lt is reads so_far =
    let same : message_in v ≡ m = (passed _ (message_in v) m reads).1 in
    append_assoc ms (m ∷ []) _ ∙ (ap (λ n. ms ++ n ∷ map message_in (drop (place + 1) vs)) (sym same) ∙ (ap (λ l. ms ++ map message_in l) (sym (drop_here vs place v lt is)) ∙ so_far))

-- ---- all messages of a body

map_map : (vs : List Value) → map message_in vs ≡ map (λ item. message_of (members_in item)) (map view vs)
map_map [] = refl
map_map (v ∷ vs) = ap (λ rest. message_in v ∷ rest) (map_map vs)

-- what reading the items answers is what the body's messages are
pub all_read : (r : Result (List Message) ReadError) (vs : List Value) (items : Option (List Data)) → Some (map view vs) ≡ items
    → Reads r (checked (all_shapes (map view vs)) (map message_in vs)) → Reads r (messages_read items)
all_read r vs items is reads = rw (← is, ← map_map vs) reads
