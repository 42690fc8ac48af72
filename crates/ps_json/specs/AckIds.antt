-- The ack id that a text is.
use Rattle.std.specs.Prelude.{ℕ, ◌^◌, Bool, ◌&&◌, nat_lt, List, take, drop, if◌then◌else◌, Option, Some, None, option_and_then}
use Rattle.std.specs.Int.{w64, from_be_bytes}
use Rattle.std.specs.Result.{result_ok}
use Rattle.std.specs.Str.{bytes_eq}
use Rattle.base64.specs.Engines.{standard}
use Rattle.base64.specs.GeneralPurpose.{decode_of}
use Rattle.ps_base.specs.declared.ack_id.AckId.{AckId}
use Rattle.ps_ackid.specs.AckTexts.{ack_text}

-- the number whose 8 bytes begin at this place
abbrev pub number_at : ℕ → List ℕ → ℕ
number_at place bytes = from_be_bytes w64 (take 8 (drop place bytes))

-- the id that begins these bytes
abbrev pub id_at : List ℕ → AckId
id_at bytes = record { sub = number_at 0 bytes; message = number_at 8 bytes; lease = number_at 16 bytes }

-- an id of numbers of 64 bits, and its text
abbrev pub is_text_of : List ℕ → AckId → Bool
is_text_of text id = nat_lt id.sub (2 ^ 64) && nat_lt id.message (2 ^ 64) && nat_lt id.lease (2 ^ 64) && bytes_eq (ack_text id) text

-- the id whose bytes the text spells, if this is its text
abbrev pub ack_id_of : List ℕ → Option AckId
ack_id_of text = option_and_then (λ bytes. if is_text_of text (id_at bytes) then Some (id_at bytes) else None) (result_ok (decode_of standard text))
