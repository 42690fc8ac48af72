-- The bytes of each kind of field: big-endian numbers, a flag as one byte, and bytes after their count.
use Rattle.std.specs.Prelude.{ℕ, ◌<◌, ◌^◌, Bool, true, false, List, [], ◌∷◌, ◌++◌, length, slice_index}
use Rattle.std.specs.Int.{w32, w64, to_be_bytes}

abbrev pub u8_field : ℕ → List ℕ
u8_field n = n ∷ []

-- four bytes
unfoldable pub u32_field : ℕ → List ℕ
u32_field n = to_be_bytes w32 n

-- eight bytes
unfoldable pub u64_field : ℕ → List ℕ
u64_field n = to_be_bytes w64 n

abbrev pub flag_field : Bool → List ℕ
flag_field false = 0 ∷ []
flag_field true = 1 ∷ []

-- the number of bytes, then the bytes
abbrev pub bytes_field : List ℕ → List ℕ
bytes_field bytes = u32_field (length bytes) ++ bytes

-- each item is a byte
abbrev pub IsBytes : List ℕ → Type 0
IsBytes bytes = (place : ℕ) → slice_index bytes place < 2 ^ 8
