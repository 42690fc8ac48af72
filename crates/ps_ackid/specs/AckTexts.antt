-- The text of an ack id: the standard base64 (RFC 4648) of three big-endian numbers of 64 bits.
use Rattle.std.specs.Prelude.{ℕ, ◌<◌, ◌^◌, List, ◌++◌}
use Rattle.std.specs.Int.{w64, to_be_bytes}
use Rattle.base64.specs.Engines.{standard}
use Rattle.base64.specs.GeneralPurpose.{encode_of}
use Rattle.ps_base.specs.declared.ack_id.AckId.{AckId}

-- 24 bytes
abbrev pub ack_bytes : AckId → List ℕ
ack_bytes id = to_be_bytes w64 id.sub ++ (to_be_bytes w64 id.message ++ to_be_bytes w64 id.lease)

-- 32 characters
unfoldable pub ack_text : AckId → List ℕ
ack_text id = encode_of standard (ack_bytes id)

-- each number fits 64 bits
abbrev pub IsAckId : AckId → Type 0
IsAckId id = (id.sub < 2 ^ 64) × (id.message < 2 ^ 64) × (id.lease < 2 ^ 64)
