use Rattle.std.proofs.Common.{◌≡◌, Some, string_bytes, ap, sym, ◌∙◌}
use Rattle.std.specs.Str.{IsUtf8}
use Rattle.percent_encoding.specs.Percent.{percent_decode}
use Rattle.percent_encoding.specs.Iter.{decoded_bytes}
use Rattle.ps_rest.proofs.PartLemmas.{part_is_text, part_is_no_text}
use Rattle.ps_rest.proofs.target.decoded_part.Goals as goal

pub returns-in_ok-into_owned-in-Ok : goal.returns-in_ok-into_owned-in-Ok
returns-in_ok-into_owned-in-Ok c =
    let decoded : decoded_bytes c.percent_decode.result ≡ percent_decode c.args.part.now = c.percent_decode.ensures.bytes ∙ ap percent_decode c.as_bytes.ensures.value in
    let bytes : string_bytes c.in_ok-into_owned-in-Ok.field-0 ≡ percent_decode c.args.part.now = c.in_ok-into_owned-in-Ok.ensures.ok ∙ (c.in-Ok.ensures.value ∙ decoded) in
    let utf8 : IsUtf8 (percent_decode c.args.part.now) = rw decoded at c.in-Ok.ensures.ok_only_if_utf8 in
    ap Some (c.from_string.ensures ∙ bytes) ∙ sym (part_is_text c.args.part.now utf8)

pub returns-in-Err-Utf8 : goal.returns-in-Err-Utf8
returns-in-Err-Utf8 c =
    let decoded : decoded_bytes c.percent_decode.result ≡ percent_decode c.args.part.now = c.percent_decode.ensures.bytes ∙ ap percent_decode c.as_bytes.ensures.value in
    sym (part_is_no_text c.args.part.now (λ utf8. let bad = sym c.in-Err-Utf8.field-0-is ∙ c.in-Err-Utf8.ensures.utf8 (rw decoded utf8) in cc bad))
