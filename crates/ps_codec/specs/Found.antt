-- What some bytes begin with: a value and the bytes after it, or the reason why there is none.
use Rattle.std.specs.Prelude.{ℕ, zero, suc, Bool, true, false, List, [], ◌∷◌, length, take, drop, Result, Ok, Err, nat_lt, if◌then◌else◌}
use Rattle.std.specs.Int.{Width, w32, w64, byte_len, from_be_bytes}
use Rattle.ps_codec.specs.declared.fault.FieldError.{FieldError}
use Rattle.ps_codec.specs.declared.fault.FieldError.TheVariants.{Short, BadTag}

-- reads the next field from the bytes that one field left, or gives the first fault
infixl 10 ◌>>=◌
abbrev pub ◌>>=◌ : {A B : Type 0} → Result A FieldError → (A → Result B FieldError) → Result B FieldError
(Ok x) >>= f = f x
(Err e) >>= f = Err e

-- a big-endian number of this width
abbrev pub number_at : Width → List ℕ → Result (ℕ × List ℕ) FieldError
number_at w bytes = if nat_lt (length bytes) (byte_len w) then Err Short else Ok (from_be_bytes w (take (byte_len w) bytes), drop (byte_len w) bytes)

unfoldable pub u8_at : List ℕ → Result (ℕ × List ℕ) FieldError
u8_at [] = Err Short
u8_at (byte ∷ rest) = Ok (byte, rest)

unfoldable pub u32_at : List ℕ → Result (ℕ × List ℕ) FieldError
u32_at = number_at w32

unfoldable pub u64_at : List ℕ → Result (ℕ × List ℕ) FieldError
u64_at = number_at w64

-- one byte, which is 0 or 1
unfoldable pub flag_at : List ℕ → Result (Bool × List ℕ) FieldError
flag_at [] = Err Short
flag_at (zero ∷ rest) = Ok (false, rest)
flag_at (suc zero ∷ rest) = Ok (true, rest)
flag_at (suc (suc more) ∷ rest) = Err BadTag

-- a count as a u32, then that many bytes
unfoldable pub bytes_at : List ℕ → Result (List ℕ × List ℕ) FieldError
bytes_at bytes = do
  count ← u32_at bytes
  if nat_lt (length count.1) count.0 then Err Short else Ok (take count.0 count.1, drop count.0 count.1)
