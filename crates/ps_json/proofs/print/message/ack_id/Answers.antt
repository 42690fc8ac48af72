use Rattle.std.proofs.Common.{◌≡◌, ◌∙◌, ap, string_bytes}
use Rattle.std.specs.Str.{IsUtf8}
use Rattle.std.proofs.lemmas.Str.{IsUtf8-from_ascii}
use Rattle.serde_json.specs.Data.{string}
use Rattle.base64.specs.Engines.{standard}
use Rattle.base64.proofs.EngineFacts.{IsAscii-encode_of}
use Rattle.ps_base.specs.declared.ack_id.AckId.{AckId}
use Rattle.ps_ackid.specs.AckTexts.{ack_bytes, ack_text}
use Rattle.ps_json.proofs.ValueLemmas.{view-String}
use Rattle.ps_json.proofs.print.message.ack_id.Goals as goal

-- an ack id is a text
IsUtf8-ack_text : (id : AckId) → IsUtf8 (ack_text id)
unfolding ack_text
IsUtf8-ack_text id = IsUtf8-from_ascii _ (IsAscii-encode_of standard (ack_bytes id))

pub returns : goal.returns
returns c =
    let text : c.write-text.result ≡ ack_text c.args.id = c.write-text.ensures in
    let bytes : string_bytes c.in_ok-from_utf8_lossy.field-0 ≡ ack_text c.args.id =
    c.in_ok-from_utf8_lossy.ensures.ok (rw text (IsUtf8-ack_text c.args.id)) ∙ text in
    view-String c.in_ok-from_utf8_lossy.field-0 ∙ ap string bytes
