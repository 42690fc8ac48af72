-- The bytes of an entry: the format's byte 1, the moment, the command, and nothing after it.
use Rattle.std.specs.Prelude.{◌≡◌, ℕ, nat_eq, List, [], ◌∷◌, ◌++◌, Option, Some, None, if◌then◌else◌}
use Rattle.ps_codec.specs.Fields.{IsBytes, u64_field}
use Rattle.ps_model.specs.declared.command.Command.{Command}
use Rattle.ps_model.specs.declared.command.Entry.{Entry}
use Rattle.ps_model.specs.Forms.{Reading, number64_at, pair_at, made_at, IsBelow64}
use Rattle.ps_entry.specs.Commands.{command_form, command_at, CommandFits}

abbrev pub entry_form : Entry → List ℕ
entry_form e = 0x01 ∷ (u64_field e.now ++ command_form e.command)

abbrev pub entry_of : ℕ × Command → Entry
entry_of parts = record { now = parts.0; command = parts.1 }

abbrev pub entry_at : Reading Entry
entry_at [] = None
entry_at (format ∷ bytes) = if nat_eq format 0x01 then made_at entry_of (pair_at number64_at command_at) bytes else None

-- a value with nothing after it
abbrev pub whole : {A : Type 0} → Option (A × List ℕ) → Option A
whole None = None
whole (Some (value, [])) = Some value
whole (Some (value, x ∷ xs)) = None

-- the entry that a row encodes
abbrev pub entry_in : List ℕ → Option Entry
entry_in row = whole (entry_at row)

-- the entries whose lengths and counts can be encoded
abbrev pub EntryFits : Entry → Type 0
EntryFits e = IsBelow64 e.now × CommandFits e.command

-- an entry is read back from its bytes
abbrev pub ReadsBack : Type 0
ReadsBack = (e : Entry) → EntryFits e → entry_in (entry_form e) ≡ Some e

-- bytes that are read as an entry are the bytes of that entry
abbrev pub ReadsNothingElse : Type 0
ReadsNothingElse = (row : List ℕ) (e : Entry) → IsBytes row → entry_in row ≡ Some e → (row ≡ entry_form e) × EntryFits e
