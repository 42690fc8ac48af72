use Rattle.std.proofs.Common.{◌≡◌, Ok, Some, ap, ◌∙◌, sym, arith, append-nil, rules, refl}
use Rattle.base64.specs.Engines.{standard}
use Rattle.base64.specs.GeneralPurpose.{decode_slice_of, decoded_bytes_of, encode_of}
use Rattle.ps_ackid.specs.AckTexts.{ack_bytes, ack_text}
use Rattle.ps_ackid.proofs.SliceLemmas.{text_of_slice, slice_of_text, IsBytes-ack_bytes}
use Rattle.ps_ackid.proofs.IdLemmas.{same_text}
use Rattle.ps_ackid.proofs.text.read.Goals as goal

pub returns-in-Ok-eq24-clause-some : goal.returns-in-Ok-eq24-clause-some
unfolding ack_text
returns-in-Ok-eq24-clause-some c =
    let value : decode_slice_of standard c.args.text.now 24 ≡ Ok 24 = search rules in
    let read = text_of_slice c.args.text.now 24 (λ i. let small = c.type_inv.text i in omega arith) value in
    let written : c.decode_slice.new.output ≡ decoded_bytes_of standard c.args.text.now = c.in-Ok-eq24.ensures.written ∙ rw read.1 (append-nil _) in
    read.0 ∙ ap (encode_of standard) (sym (c.id_of.ensures.bytes ∙ written))

pub returns-in_default-clause-none : goal.returns-in_default-clause-none
unfolding ack_text
returns-in_default-clause-none c = λ id small is.
    let value = c.in_default.ensures.value ∙ slice_of_text c.args.text.now (ack_bytes id) (IsBytes-ack_bytes id) refl is in
    let same : c.in_default.field-0 ≡ 24 = cc value in
    search rules

pub returns-in_default-2-clause-none : goal.returns-in_default-2-clause-none
unfolding ack_text
returns-in_default-2-clause-none c = λ id small is.
    let value = sym c.in_default.is ∙ (c.decode_slice.ensures.value ∙ slice_of_text c.args.text.now (ack_bytes id) (IsBytes-ack_bytes id) refl is) in
    cc value

pub returns-in-Ok-eq24-clause-again : goal.returns-in-Ok-eq24-clause-again
returns-in-Ok-eq24-clause-again c = λ id small is.
    ap Some (same_text c.id_of.result id c.id_of.ensures.range small (sym (returns-in-Ok-eq24-clause-some c) ∙ is))

pub returns-in_default-clause-again : goal.returns-in_default-clause-again
returns-in_default-clause-again c = λ id small is. absurd (returns-in_default-clause-none c id small is)

pub returns-in_default-2-clause-again : goal.returns-in_default-2-clause-again
returns-in_default-2-clause-again c = λ id small is. absurd (returns-in_default-2-clause-none c id small is)
