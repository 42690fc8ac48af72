-- A number that is read is the one that was written, and what was written is read again.
use Rattle.std.proofs.Common.{◌≡◌, ℕ, zero, suc, ◌+◌, ◌^◌, ◌<◌, ◌≤◌, Bool, true, false, ltb, nat_lt, [], ◌∷◌, Result, if◌then◌else◌, subst, List, ◌++◌, length, get_or, take, drop, Ok, Err, refl, sym, ap, ◌∙◌, append_assoc, arith, inl, inr}
use Rattle.std.specs.Int.{Width, w32, w64, byte_len, from_be_bytes, to_be_bytes}
use Rattle.std.proofs.lemmas.Bool.{cases_lt, le-ltb, ltb-false}
use Rattle.std.proofs.lemmas.List.{take_at, drop_at, take-append-drop, length-append, length-take, get_or-take, get_or-drop, get_or_past, length-drop}
use Rattle.std.proofs.lemmas.Nat.{be_bytes_4, be_bytes_8, from_be_bytes-to_be_bytes_4, from_be_bytes-to_be_bytes_8}
use Rattle.ps_codec.specs.declared.fault.FieldError.{FieldError}
use Rattle.ps_codec.specs.Fields.{IsBytes, u8_field, u32_field, u64_field, flag_field, bytes_field}
use Rattle.ps_codec.specs.declared.fault.FieldError.TheVariants.{Short, BadTag}
use Rattle.ps_codec.specs.Found.{◌>>=◌, number_at, u8_at, u32_at, u64_at, flag_at, bytes_at}

pub IsBytes-take : (n : ℕ) (bytes : List ℕ) → IsBytes bytes → IsBytes (take n bytes)
IsBytes-take n bytes h i =
    elim (cases_lt i n) [
      | inl lt ↦ rw (get_or-take n bytes i 0 lt) (h i)
      | inr le ↦ rw (get_or_past (take n bytes) i 0 (omega (arith, length-take n bytes))) (omega arith)
    ]

pub IsBytes-drop : (n : ℕ) (bytes : List ℕ) → IsBytes bytes → IsBytes (drop n bytes)
IsBytes-drop n bytes h i = rw (get_or-drop n bytes i 0) (h (n + i))

-- a number of 4 or 8 bytes and its bytes
record IsWide (w : Width) (limit : ℕ) : Type 0 where
  pub len : (n : ℕ) → length (to_be_bytes w n) ≡ byte_len w
  pub back : (bytes : List ℕ) → length bytes ≡ byte_len w → IsBytes bytes → to_be_bytes w (from_be_bytes w bytes) ≡ bytes
  pub again : (n : ℕ) → n < limit → from_be_bytes w (to_be_bytes w n) ≡ n
  pub below : (bytes : List ℕ) → IsBytes bytes → from_be_bytes w bytes < limit

wide32 : IsWide w32 (2 ^ 32)
wide32 = record {
  len = λ n. refl;
  back = λ bytes len fits. be_bytes_4 bytes _ len fits refl;
  again = λ n lt. from_be_bytes-to_be_bytes_4 n lt;
  below = λ bytes h. omega (arith, h 0, h 1, h 2, h 3);
}

wide64 : IsWide w64 (2 ^ 64)
wide64 = record {
  len = λ n. refl;
  back = λ bytes len fits. be_bytes_8 bytes _ len fits refl;
  again = λ n lt. from_be_bytes-to_be_bytes_8 n lt;
  below = λ bytes h. omega (arith, h 0, h 1, h 2, h 3, h 4, h 5, h 6, h 7);
}

number_written : (w : Width) (limit : ℕ) (wide : IsWide w limit) (bytes front rest : List ℕ) (n : ℕ) → IsBytes bytes → front ≡ take (byte_len w) bytes → rest ≡ drop (byte_len w) bytes
    → length rest + byte_len w ≡ length bytes → n ≡ from_be_bytes w front → bytes ≡ to_be_bytes w n ++ rest
number_written w limit wide bytes front rest n fits first second long value =
    rw (value, first, second, wide.back (take (byte_len w) bytes) (omega (arith, length-take (byte_len w) bytes)) (IsBytes-take (byte_len w) bytes fits)) (sym (take-append-drop (byte_len w) bytes))

number_again : (w : Width) (limit : ℕ) (wide : IsWide w limit) (n : ℕ) (rest : List ℕ) → n < limit → number_at w (to_be_bytes w n ++ rest) ≡ Ok (n, rest)
number_again w limit wide n rest lt =
    let len = wide.len n in
    let long : ltb (length (to_be_bytes w n ++ rest)) (byte_len w) ≡ false = le-ltb _ _ (omega (arith, length-append (to_be_bytes w n) rest)) in
    rw (long, take_at (to_be_bytes w n) rest (byte_len w) len, drop_at (to_be_bytes w n) rest (byte_len w) len, wide.again n lt) refl

-- ---- what was read is the field

pub u32_written : (bytes front rest : List ℕ) (n : ℕ) → IsBytes bytes → front ≡ take 4 bytes → rest ≡ drop 4 bytes → length rest + 4 ≡ length bytes → n ≡ from_be_bytes w32 front → bytes ≡ u32_field n ++ rest
unfolding u32_field
u32_written bytes front rest n fits first second long value = number_written w32 (2 ^ 32) wide32 bytes front rest n fits first second long value

pub u64_written : (bytes front rest : List ℕ) (n : ℕ) → IsBytes bytes → front ≡ take 8 bytes → rest ≡ drop 8 bytes → length rest + 8 ≡ length bytes → n ≡ from_be_bytes w64 front → bytes ≡ u64_field n ++ rest
unfolding u64_field
u64_written bytes front rest n fits first second long value = number_written w64 (2 ^ 64) wide64 bytes front rest n fits first second long value

-- ---- what was written is read again

pub u8_again : (value : ℕ) (rest : List ℕ) → u8_at (u8_field value ++ rest) ≡ Ok (value, rest)
unfolding u8_at
u8_again value rest = refl

pub u32_again : (value : ℕ) (rest : List ℕ) → value < 2 ^ 32 → u32_at (u32_field value ++ rest) ≡ Ok (value, rest)
unfolding u32_at u32_field
u32_again value rest lt = number_again w32 (2 ^ 32) wide32 value rest lt

pub u64_again : (value : ℕ) (rest : List ℕ) → value < 2 ^ 64 → u64_at (u64_field value ++ rest) ≡ Ok (value, rest)
unfolding u64_at u64_field
u64_again value rest lt = number_again w64 (2 ^ 64) wide64 value rest lt

pub flag_again : (value : Bool) (rest : List ℕ) → flag_at (flag_field value ++ rest) ≡ Ok (value, rest)
unfolding flag_at
flag_again true rest = refl
flag_again false rest = refl

pub bytes_again : (value rest : List ℕ) → length value < 2 ^ 32 → bytes_at (bytes_field value ++ rest) ≡ Ok (value, rest)
unfolding bytes_at
bytes_again value rest lt =
    let long : ltb (length (value ++ rest)) (length value) ≡ false = le-ltb _ _ (omega (arith, length-append value rest)) in
    rw (append_assoc (u32_field (length value)) value rest, u32_again (length value) (value ++ rest) lt, long, take_at value rest (length value) refl, drop_at value rest (length value) refl) refl

-- where no bytes are found, no field of bytes stands
pub no_bytes : (bytes : List ℕ) (fault : FieldError) → bytes_at bytes ≡ Err fault → (value rest : List ℕ) → length value < 2 ^ 32 → bytes ≡ bytes_field value ++ rest → ⊥
no_bytes bytes fault none value rest lt is = let again = sym none ∙ ap bytes_at is ∙ bytes_again value rest lt in cc again

-- ---- what is read is the field of a value

ok-pair : {A B : Type 0} (a c : A) (b d : B) → ◌≡◌ {A = Result (A × B) FieldError} (Ok (a, b)) (Ok (c, d)) → (a ≡ c) × (b ≡ d)
ok-pair {A = A} {B = B} a c b d same =
    let pair : A × B = (a, b) in
    let other : A × B = (c, d) in
    let e : pair ≡ other = cc in
    (ap (λ (p : A × B). p.0) e, ap (λ (p : A × B). p.1) e)

number_only : (w : Width) (limit : ℕ) (wide : IsWide w limit) (bytes : List ℕ) (value : ℕ) (rest : List ℕ) → IsBytes bytes → number_at w bytes ≡ Ok (value, rest) → (bytes ≡ to_be_bytes w value ++ rest) × (value < limit)
number_only w limit wide bytes value rest fits reads = by (nat_lt (length bytes) (byte_len w)) refl reads
  where
    front : List ℕ
    front = take (byte_len w) bytes

    cut : Bool → Result (ℕ × List ℕ) FieldError
    cut short = if short then Err Short else Ok (from_be_bytes w front, drop (byte_len w) bytes)

    by : (short : Bool) → nat_lt (length bytes) (byte_len w) ≡ short → cut short ≡ Ok (value, rest)
        → (bytes ≡ to_be_bytes w value ++ rest) × (value < limit)
    by true short reads = absurd (cc)
    by false short reads =
        let parts = ok-pair (from_be_bytes w front) value (drop (byte_len w) bytes) rest reads in
        let is : from_be_bytes w front ≡ value = parts.0 in
        let behind : drop (byte_len w) bytes ≡ rest = parts.1 in
        let long : byte_len w ≤ length bytes = ltb-false (length bytes) (byte_len w) short in (
          number_written w limit wide bytes front rest value fits refl (sym behind) (omega (arith, long, length-drop (byte_len w) bytes, ap length behind)) (sym is),
          subst (λ (n : ℕ). n < limit) is (wide.below front (IsBytes-take (byte_len w) bytes fits)),
        )

pub u32_only : (bytes : List ℕ) (value : ℕ) (rest : List ℕ) → IsBytes bytes → u32_at bytes ≡ Ok (value, rest) → (bytes ≡ u32_field value ++ rest) × (value < 2 ^ 32)
unfolding u32_at u32_field
u32_only = number_only w32 (2 ^ 32) wide32

pub u64_only : (bytes : List ℕ) (value : ℕ) (rest : List ℕ) → IsBytes bytes → u64_at bytes ≡ Ok (value, rest) → (bytes ≡ u64_field value ++ rest) × (value < 2 ^ 64)
unfolding u64_at u64_field
u64_only = number_only w64 (2 ^ 64) wide64

pub flag_only : (bytes : List ℕ) (value : Bool) (rest : List ℕ) → flag_at bytes ≡ Ok (value, rest) → bytes ≡ flag_field value ++ rest
unfolding flag_at
flag_only [] value rest reads = absurd (cc)
flag_only (zero ∷ more) value rest reads = let parts = ok-pair false value more rest reads in subst (λ (v : Bool). 0 ∷ more ≡ flag_field v ++ rest) parts.0 (ap (λ (xs : List ℕ). 0 ∷ xs) parts.1)
flag_only (suc zero ∷ more) value rest reads = let parts = ok-pair true value more rest reads in subst (λ (v : Bool). 1 ∷ more ≡ flag_field v ++ rest) parts.0 (ap (λ (xs : List ℕ). 1 ∷ xs) parts.1)
flag_only (suc (suc n) ∷ more) value rest reads = absurd (cc)

pub bytes_only : (bytes value rest : List ℕ) → IsBytes bytes → bytes_at bytes ≡ Ok (value, rest) → (bytes ≡ bytes_field value ++ rest) × (length value < 2 ^ 32)
unfolding bytes_at
bytes_only bytes value rest fits reads = by (u32_at bytes) refl reads
  where
    cut : ℕ → List ℕ → Bool → Result (List ℕ × List ℕ) FieldError
    cut count more short = if short then Err Short else Ok (take count more, drop count more)

    behind : (count : ℕ) (more : List ℕ) → (bytes ≡ u32_field count ++ more) × (count < 2 ^ 32) → (short : Bool) → nat_lt (length more) count ≡ short
        → cut count more short ≡ Ok (value, rest) → (bytes ≡ bytes_field value ++ rest) × (length value < 2 ^ 32)
    behind count more told true short reads = absurd (cc)
    behind count more told false short reads =
        let parts = ok-pair (take count more) value (drop count more) rest reads in
        let is : take count more ≡ value = parts.0 in
        let left : drop count more ≡ rest = parts.1 in
        let long : length value ≡ count = omega (arith, ltb-false (length more) count short, length-take count more, ap length is) in (
          told.0 ∙ ap (λ (xs : List ℕ). u32_field count ++ xs) (sym (take-append-drop count more)) ∙ ap (λ (xs : List ℕ). u32_field count ++ (xs ++ drop count more)) is
              ∙ ap (λ (xs : List ℕ). u32_field count ++ (value ++ xs)) left ∙ ap (λ (n : ℕ). u32_field n ++ (value ++ rest)) (sym long) ∙ sym (append_assoc (u32_field (length value)) value rest),
          omega (arith, told.1, long),
        )

    by : (front : Result (ℕ × List ℕ) FieldError) → u32_at bytes ≡ front
        → (front >>= (λ count. cut count.0 count.1 (nat_lt (length count.1) count.0))) ≡ Ok (value, rest) → (bytes ≡ bytes_field value ++ rest) × (length value < 2 ^ 32)
    by (Err fault) is reads = absurd (cc)
    by (Ok count) is reads = behind count.0 count.1 (u32_only bytes count.0 count.1 fits is) (nat_lt (length count.1) count.0) refl reads

pub u8_only : (bytes : List ℕ) (value : ℕ) (rest : List ℕ) → u8_at bytes ≡ Ok (value, rest) → bytes ≡ u8_field value ++ rest
unfolding u8_at
u8_only [] value rest reads = absurd (cc)
u8_only (byte ∷ more) value rest reads = let parts = ok-pair byte value more rest reads in ap (λ (b : ℕ). b ∷ more) parts.0 ∙ ap (λ (xs : List ℕ). value ∷ xs) parts.1

pub IsBytes-behind : (front rest : List ℕ) → IsBytes (front ++ rest) → IsBytes rest
IsBytes-behind front rest h = subst IsBytes (drop_at front rest (length front) refl) (IsBytes-drop (length front) (front ++ rest) h)
