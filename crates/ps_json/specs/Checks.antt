-- The checks on a call, each a refusal if it is broken, and what a reading answers.
use Rattle.std.specs.Prelude.{◌≡◌, ℕ, List, Bool, if◌then◌else◌, Option, Some, None, option_map, Result, Ok, Err, ⊤}
use Rattle.ps_base.specs.declared.reason.Reason.{Reason}
use Rattle.ps_base.specs.declared.reason.Reason.TheVariants.{Name, Shape, UnknownField}
use Rattle.ps_base.specs.declared.refusal.Refusal.{Refusal}
use Rattle.ps_base.specs.declared.refusal.Refusal.TheVariants.{InvalidArgument}
use Rattle.ps_message.specs.Lists.{first_of}
use Rattle.ps_fields.specs.Paths.{least}
use Rattle.ps_json.specs.declared.read_error.ReadError.{ReadError}
use Rattle.ps_json.specs.declared.read_error.ReadError.TheVariants.{Refused, OutOfMemory}

-- refused if the test holds
abbrev pub broken : Bool → Reason → Option Refusal
broken test reason = if test then Some (InvalidArgument reason) else None

-- the name in a path, if it fits its grammar
abbrev pub name_read : Bool → List ℕ → Result (List ℕ) Refusal
name_read fits name = if fits then Ok name else Err (InvalidArgument Name)

-- refused if the value at this path is of another kind
abbrev pub shape : {A : Type 0} → List ℕ → Option A → Option Refusal
shape path None = Some (InvalidArgument (Shape path))
shape path (Some value) = None

-- refused if there are unknown fields, by the least of their paths
abbrev pub unknown : List (List ℕ) → Option Refusal
unknown paths = option_map (λ path. InvalidArgument (UnknownField path)) (least paths)

-- the value, if nothing is refused
abbrev pub unless : {A : Type 0} → Option Refusal → A → Result A Refusal
unless None value = Ok value
unless (Some refusal) value = Err refusal

-- the value, or the first check that is broken
abbrev pub checked : {A : Type 0} → List (Option Refusal) → A → Result A Refusal
checked checks value = unless (first_of checks) value

-- what follows from what was read
abbrev pub and_then : {A B : Type 0} → Result A Refusal → (A → Result B Refusal) → Result B Refusal
and_then (Ok value) next = next value
and_then (Err refusal) next = Err refusal

-- the error is this refusal; out of memory may come at any point
abbrev pub Refuses : {A : Type 0} → ReadError → Result A Refusal → Type 0
Refuses (Refused refusal) reading = reading ≡ Err refusal
Refuses OutOfMemory reading = ⊤

-- what a reading answers is this value or this refusal
abbrev pub Reads : {A : Type 0} → Result A ReadError → Result A Refusal → Type 0
Reads (Ok value) reading = reading ≡ Ok value
Reads (Err error) reading = Refuses error reading
