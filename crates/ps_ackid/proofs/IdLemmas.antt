-- No two ack ids have one text.
use Rattle.std.proofs.Common.{◌≡◌, ℕ, ◌<◌, ◌^◌, List, drop, take, Result, Ok, ap, ◌∙◌, sym, refl}
use Rattle.std.specs.Int.{w64, to_be_bytes, from_be_bytes}
use Rattle.std.proofs.lemmas.Nat.{from_be_bytes-to_be_bytes_8}
use Rattle.base64.specs.declared.decode.DecodeError.{DecodeError}
use Rattle.base64.specs.Engines.{standard}
use Rattle.base64.specs.GeneralPurpose.{decode_of}
use Rattle.base64.proofs.EngineFacts.{decode_of-encode_of}
use Rattle.ps_base.specs.declared.ack_id.AckId.{AckId}
use Rattle.ps_ackid.specs.AckTexts.{ack_bytes, ack_text, IsAckId}
use Rattle.ps_ackid.proofs.SliceLemmas.{IsBytes-ack_bytes}

number_same : (a b : ℕ) → a < 2 ^ 64 → b < 2 ^ 64 → to_be_bytes w64 a ≡ to_be_bytes w64 b → a ≡ b
number_same a b small_a small_b is = sym (from_be_bytes-to_be_bytes_8 a small_a) ∙ ap (from_be_bytes w64) is ∙ from_be_bytes-to_be_bytes_8 b small_b

id_same : (a b : AckId) → a.sub ≡ b.sub → a.message ≡ b.message → a.lease ≡ b.lease → a ≡ b
id_same a b sub message lease =
    ap (λ (n : ℕ). record a { sub = n }) sub
    ∙ ap (λ (n : ℕ). record { sub = b.sub; message = n; lease = a.lease }) message
    ∙ ap (λ (n : ℕ). record { sub = b.sub; message = b.message; lease = n }) lease

bytes_same : (a b : AckId) → ack_text a ≡ ack_text b → ack_bytes a ≡ ack_bytes b
unfolding ack_text
bytes_same a b is =
    let once = decode_of-encode_of standard (ack_bytes a) refl (IsBytes-ack_bytes a) in
    let twice = decode_of-encode_of standard (ack_bytes b) refl (IsBytes-ack_bytes b) in
    let both : ◌≡◌ {A = Result (List ℕ) DecodeError} (Ok (ack_bytes a)) (Ok (ack_bytes b)) = sym once ∙ ap (decode_of standard) is ∙ twice in
    cc both

pub same_text : (a b : AckId) → IsAckId a → IsAckId b → ack_text a ≡ ack_text b → a ≡ b
same_text a b small_a small_b is =
    let bytes = bytes_same a b is in
    id_same a b
    (number_same a.sub b.sub small_a.0 small_b.0 (ap (take 8) bytes))
    (number_same a.message b.message small_a.1 small_b.1 (ap (λ (l : List ℕ). take 8 (drop 8 l)) bytes))
    (number_same a.lease b.lease small_a.2 small_b.2 (ap (λ (l : List ℕ). drop 16 l) bytes))
