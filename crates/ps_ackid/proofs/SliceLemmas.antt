-- Decoding into a slice of the length that the text needs.
use Rattle.std.proofs.Common.{◌≡◌, ℕ, ◌<◌, Bool, true, false, List, [], ◌++◌, length, drop, take, nat_lt, if◌then◌else◌, Option, Some, None, Result, Ok, Err, refl, ap, ◌∙◌, arith, lit<, length-append, take-append-drop, suc, zero, ◌∷◌}
use Rattle.std.specs.Int.{w64, to_be_bytes}
use Rattle.ps_ackid.specs.AckTexts.{ack_bytes}
use Rattle.ps_base.specs.declared.ack_id.AckId.{AckId}
use Rattle.base64.specs.declared.decode.DecodeError.{DecodeError}
use Rattle.base64.specs.declared.decode.DecodeSliceError.{DecodeSliceError}
use Rattle.base64.specs.declared.decode.DecodeSliceError.TheVariants.{OutputSliceTooSmall}
use Rattle.base64.specs.Decode.{or_error, or_else, bytes_fit, decode_outcome, groups_before_last}
use Rattle.base64.specs.Engines.{standard}
use Rattle.base64.specs.Rfc4648.{encode_symbols}
use Rattle.base64.specs.GeneralPurpose.{IsBytes, decode_of, decode_slice_of, decoded_bytes_of, encode_of}
use Rattle.base64.proofs.EngineFacts.{decode_of-encode_of, decode_of_strict}
use Rattle.base64.proofs.RoundTrip.{length-encode_symbols}

abbrev slice_result : Option DecodeError → Bool → Option DecodeError → ℕ → ℕ → Result ℕ DecodeSliceError
slice_result lone small err n out = or_error lone (if small then Err OutputSliceTooSmall else or_error err (bytes_fit n out))

fit_ok : (t : Bool) (n m : ℕ) → ◌≡◌ {A = Result ℕ DecodeSliceError} (if t then Err OutputSliceTooSmall else Ok n) (Ok m) → n ≡ m
fit_ok true n m h = cc
fit_ok false n m h = cc

slice_ok : (lone err : Option DecodeError) (small : Bool) (b : List ℕ) (out m : ℕ) → slice_result lone small err (length b) out ≡ Ok m → (decode_outcome (or_else lone err) b ≡ Ok b) × (length b ≡ m)
slice_ok (Some e) err small b out m h = cc
slice_ok None err true b out m h = cc
slice_ok None (Some e) false b out m h = cc
slice_ok None None false b out m h = (refl, fit_ok (nat_lt out (length b)) (length b) m h)

fits_here : (out n : ℕ) → n ≡ out → ◌≡◌ {A = Result ℕ DecodeSliceError} (bytes_fit n out) (Ok out)
fits_here out n is = grind (arith, is)

slice_fits : (lone err : Option DecodeError) (small : Bool) (b d : List ℕ) (out : ℕ) → decode_outcome (or_else lone err) d ≡ Ok b → small ≡ false → length b ≡ out → slice_result lone small err (length d) out ≡ Ok out
slice_fits (Some e) err small b d out h none len = cc
slice_fits None (Some e) small b d out h none len = cc
slice_fits None None true b d out h none len = cc
slice_fits None None false b d out h none len = let same : d ≡ b = cc in fits_here out (length d) (ap length same ∙ len)

-- a text that fills the slice is the encoding of what was written
pub text_of_slice : (text : List ℕ) (n : ℕ) → IsBytes text → decode_slice_of standard text n ≡ Ok n → (text ≡ encode_of standard (decoded_bytes_of standard text)) × (length (decoded_bytes_of standard text) ≡ n)
text_of_slice text n bytes h =
    let both = slice_ok _ _ _ (decoded_bytes_of standard text) n n h in
    (decode_of_strict standard text _ (refl, refl) bytes both.0, both.1)

length-encode_of : (b : List ℕ) → length b ≡ 24 → length (encode_of standard b) ≡ 32
length-encode_of b len =
    let symbols : length (encode_symbols standard.encode_table b) ≡ 32 = length-encode_symbols standard.encode_table b ∙ rw len refl in
    rw len (length-append (encode_symbols standard.encode_table b) [] ∙ omega (arith, symbols))

-- and an encoding of 24 bytes fills a slice of 24
pub slice_of_text : (text b : List ℕ) → IsBytes b → length b ≡ 24 → text ≡ encode_of standard b → decode_slice_of standard text 24 ≡ Ok 24
slice_of_text text b bytes len is =
    let long : length text ≡ 32 = ap length is ∙ length-encode_of b len in
    let room : nat_lt 8 (groups_before_last (length text)) ≡ false = rw long refl in
    slice_fits _ _ _ b (decoded_bytes_of standard text) 24 (ap (decode_of standard) is ∙ decode_of-encode_of standard b refl bytes) room len

-- three parts of a list, joined again
pub joined : (a b c bs : List ℕ) → a ≡ take 8 bs → b ≡ take 8 (drop 8 bs) → c ≡ drop 8 (drop 8 bs) → a ++ (b ++ c) ≡ bs
joined a b c bs first second third = rw (first, second, third) (ap (λ l. take 8 bs ++ l) (take-append-drop 8 (drop 8 bs)) ∙ take-append-drop 8 bs)

abbrev AreBytes : List ℕ → Type 0
AreBytes [] = Unit {0}
AreBytes (b ∷ bs) = (b < 256) × AreBytes bs

IsBytes-AreBytes : (bs : List ℕ) → AreBytes bs → IsBytes bs
IsBytes-AreBytes [] small i = lit< tt
IsBytes-AreBytes (b ∷ bs) small zero = small.0
IsBytes-AreBytes (b ∷ bs) small (suc i) = IsBytes-AreBytes bs small.1 i

AreBytes-be : (n : ℕ) (bs : List ℕ) → AreBytes bs → AreBytes (to_be_bytes w64 n ++ bs)
AreBytes-be n bs rest = (omega arith, (omega arith, (omega arith, (omega arith, (omega arith, (omega arith, (omega arith, (omega arith, rest))))))))

pub IsBytes-ack_bytes : (id : AckId) → IsBytes (ack_bytes id)
IsBytes-ack_bytes id =
    IsBytes-AreBytes (ack_bytes id)
    (AreBytes-be id.sub (to_be_bytes w64 id.message ++ to_be_bytes w64 id.lease) (AreBytes-be id.message (to_be_bytes w64 id.lease) (AreBytes-be id.lease [] tt)))
